-- `numbers::root::square_root` meets its contract. Assumes nothing.
use Rattle.std.proofs.Common.{◌≡◌, true, T, sym, ap, ◌∙◌, subst}
use lib.Ieee.{Float, binary64, fits, of_bits, div}
use lib.Ieee.Bits.{of_bits-to_bits}
use Rattle.numbers.specs.Root.{root}
use Rattle.numbers.proofs.RootCases.{above_no_nan, above_bits, finite_pattern, infinite_stays, below_is_nan, neither_stays}
use Rattle.numbers.proofs.root.square_root.Goals as goal

held : (v : Float) → fits binary64 v ≡ true → T (fits binary64 v)
held v e = subst T (sym e) tt

pub float_to_bits-b : goal.float_to_bits-b
unfolding of_bits
float_to_bits-b c = above_no_nan c.args.v c.if-v.true

pub pattern_root-requires : goal.pattern_root-requires
unfolding of_bits
pattern_root-requires c = (above_bits c.args.v (held _ c.well_formed.0.1) c.if-v.true, c.if-b-lt9218868437227405312.true)

pub float_from_bits-result : goal.float_from_bits-result
float_from_bits-result c = finite_pattern c.pattern_root.result c.pattern_root.ensures.0

pub returns-then-b-lt9218868437227405312 : goal.returns-then-b-lt9218868437227405312
returns-then-b-lt9218868437227405312 c = c.pattern_root.ensures.1 ∙ ap root (of_bits-to_bits binary64 c.args.v (held _ c.well_formed.0.1))

pub returns-then-v : goal.returns-then-v
unfolding of_bits
returns-then-v c = infinite_stays c.args.v (held _ c.well_formed.0.1) c.if-v.true c.if-b-lt9218868437227405312.false

pub returns-then-v-2 : goal.returns-then-v-2
unfolding of_bits div
returns-then-v-2 c = below_is_nan c.args.v c.if-v-2.true

pub returns : goal.returns
unfolding of_bits
returns c = neither_stays c.args.v c.if-v.false c.if-v-2.false

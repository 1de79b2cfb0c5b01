-- `numbers::ceiling::ceiling` meets its contract. Assumes nothing.
use Rattle.std.proofs.Common.{false, true, pos, if◌then◌else◌, ◌≡◌, ℕ, ◌+◌, ◌-◌, ◌/◌, ◌^◌, ◌≤◌, T, sym, ap, ◌∙◌, subst, arith}
use lib.Ieee.{round, fin, lt, Float, binary64, fits, of_bits, add, in_unsigned, to_unsigned}
use lib.Ieee.Positive.{num, den, den_pos}
use Rattle.numbers.proofs.Tests.{holds, past_minus_one}
use Rattle.numbers.proofs.WholeLaws.{Small, small, ceil_small, cast_back, stays_above}
use Rattle.numbers.proofs.CeilingCases.{ceiling_part, ceiling_within, ceiling_stays, ceiling_high, ceiling_low}
use Rattle.numbers.proofs.ceiling.ceiling.Goals as goal

held : (v : Float) → fits binary64 v ≡ true → T (fits binary64 v)
held v e = subst T (sym e) tt

-- the first whole number that is not below v
abbrev above : Float → ℕ
above v = (num v + (den v - 1)) / den v

-- the sum of the whole part and what is added is that number
back : (v part more : Float) → Small v → part ≡ round binary64 false (num v / den v) 1 → more ≡ (if lt part v then fin false 1 (pos 0) else fin false 0 (pos 0))
    → T (in_unsigned binary64 64 (add binary64 part more)) × (to_unsigned 64 (add binary64 part more) ≡ above v)
back v part more s is one =
    let h : above v ≤ 2 ^ 52 = ceil_small (num v) (den v) (den_pos v) s.below in
    cast_back 64 (above v) _ (ap (add binary64 _) one ∙ ceiling_part v _ s is) (omega arith) (omega arith)

pub whole_part-part-requires : goal.whole_part-part-requires
unfolding of_bits
whole_part-part-requires c = record { above_zero = holds _ c.if-v.true; below_limit = holds _ c.if-v-2.true }

pub float_to_int-result : goal.float_to_int-result
unfolding of_bits
float_to_int-result c = (back _ _ _ (small _ (holds _ c.if-v.true) (holds _ c.if-v-2.true)) c.whole_part-part.ensures c.one_if_above.ensures).0

pub returns-then-v-2 : goal.returns-then-v-2
unfolding of_bits
returns-then-v-2 c =
    let v = c.args.v in
    let s = small v (holds _ c.if-v.true) (holds _ c.if-v-2.true) in
    let h : above v ≤ 2 ^ 52 = ceil_small (num v) (den v) (den_pos v) s.below in
    (back _ _ _ s c.whole_part-part.ensures c.one_if_above.ensures).1 ∙ ceiling_within v s.above_zero (omega arith)

pub truncating_f64_to_u64-requires : goal.truncating_f64_to_u64-requires
unfolding of_bits
truncating_f64_to_u64-requires c = record { lower_bound = past_minus_one _ c.if-v.true; upper_bound = holds _ c.if-v-3.true }

pub returns-then-v-3 : goal.returns-then-v-3
unfolding of_bits
returns-then-v-3 c = c.truncating_f64_to_u64.ensures ∙ ceiling_stays (stays_above _ (held _ c.well_formed.0.1) c.if-v.true c.if-v-2.false)

pub returns-then-v : goal.returns-then-v
unfolding of_bits
returns-then-v c = ceiling_high _ c.if-v.true c.if-v-3.false

pub returns : goal.returns
unfolding of_bits
returns c = ceiling_low _ c.if-v.false

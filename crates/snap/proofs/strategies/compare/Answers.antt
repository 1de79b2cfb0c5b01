-- `snap::strategies::compare` meets its contract, by its two tests. Assumes nothing.
use mathlib.Core.Path.{sym, ap, subst}
use lib.Dec.{T}
use lib.Ieee.{binary64, fits, of_bits, neg}
use Rattle.snap.specs.Strategies.{agreed}
use Rattle.snap.proofs.Halves.{above_zero, below_zero, neither, differ_there, agree_elsewhere}
use Rattle.snap.proofs.strategies.compare.Goals as goal

pub returns-then-scaled : goal.returns-then-scaled
unfolding of_bits
returns-then-scaled c =
    let held : T (fits binary64 c.args.size) = subst T (sym c.well_formed.1.0.1) tt in
    ap agreed (sym (differ_there _ _ held c.requires.size_in_range (above_zero _ c.if-scaled.true)))

pub returns-then-scaled-2 : goal.returns-then-scaled-2
unfolding of_bits neg
returns-then-scaled-2 c =
    let held : T (fits binary64 c.args.size) = subst T (sym c.well_formed.1.0.1) tt in
    ap agreed (sym (differ_there _ _ held c.requires.size_in_range (below_zero _ c.if-scaled-2.true)))

pub returns : goal.returns
unfolding of_bits neg
returns c = ap agreed (sym (agree_elsewhere _ _ c.requires.v_in_range c.requires.size_in_range (neither _ c.if-scaled.false c.if-scaled-2.false)))

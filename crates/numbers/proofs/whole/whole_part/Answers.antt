-- `numbers::whole::whole_part` meets its contract. Assumes nothing.
use Rattle.std.proofs.Common.{refl, ap, ◌∙◌}
use lib.Ieee.{binary64, of_bits, sub}
use Rattle.numbers.proofs.WholeLaws.{small}
use Rattle.numbers.proofs.PartCases.{part_of}
use Rattle.numbers.proofs.whole.whole_part.Goals as goal

pub returns : goal.returns
unfolding of_bits
returns c = ap (sub binary64 _) c.one_if_above.ensures ∙ part_of _ _ (small _ c.requires.above_zero c.requires.below_limit) refl

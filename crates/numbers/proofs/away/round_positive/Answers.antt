-- `numbers::away::round_positive` meets its contract. Assumes nothing.
use Rattle.std.proofs.Common.{ap, ◌∙◌}
use lib.Ieee.{binary64, of_bits, sub}
use Rattle.numbers.proofs.WholeLaws.{small}
use Rattle.numbers.proofs.AwayCases.{away_positive}
use Rattle.numbers.proofs.away.round_positive.Goals as goal

pub returns : goal.returns
unfolding of_bits
returns c = ap (sub binary64 _) c.one_if_above.ensures ∙ away_positive _ _ (small _ c.requires.above_zero c.requires.below_limit) c.whole_part-part.ensures

-- `grid::segments::entry` meets its contract. Assumes nothing.
use mathlib.Core.Path.{sym}
use native.Mathlib.Omega.{arith}
use lib.Ieee.{nan, div, of_bits}
use lib.ListN.{get_or-eq_default}
use Rattle.grid.proofs.segments.entry.Goals as goal

pub returns : goal.returns
unfolding div of_bits
returns c = sym (get_or-eq_default c.args.s.now nan (omega arith))

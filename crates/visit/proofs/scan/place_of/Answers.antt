-- `visit::scan::place_of` meets its contract. Assumes nothing.
use mathlib.Core.Path.{refl}
use Rattle.seek.specs.Tests.{place_of}
use Rattle.visit.proofs.scan.place_of.Goals as goal

pub returns : goal.returns
unfolding place_of
returns c = refl

-- What the domain says of floats: a coordinate is finite, and the size of a cell is above zero, within its bounds. Assumes nothing.
use mathlib.Core.Path.{◌≡◌}
use mathlib.Core.Bool.{true, false}
use lib.Dec.{T}
use lib.Ieee.{Float, nan, inf, fin, binary64, round, lt, le, eq}
use lib.Ieee.Scale.{finite}
use lib.Ieee.Positive.{positive, between}
use Rattle.numbers.specs.Order.{magnitude_of}
use Rattle.numbers.proofs.Tests.{holds}
use Rattle.numbers.proofs.FloatOrder.{number, finite_number}
use Rattle.grid.specs.Domain.{coordinate, size_fits}
use Rattle.grid.proofs.Bools.{and_left, and_right}

pub coordinate_finite : (v : Float) → coordinate v ≡ true → T (finite v)
unfolding coordinate magnitude_of le lt eq round
coordinate_finite nan h = holds false h
coordinate_finite (inf s) h = holds false h
coordinate_finite (fin s m e) h = tt

pub coordinate_number : (v : Float) → coordinate v ≡ true → T (number v)
coordinate_number v h = finite_number v (coordinate_finite v h)

-- from a quarter of 1e-6 to 2e9
pub size_bounds : (v : Float) → size_fits v ≡ true → T (le (round binary64 false 1 4000000) v) × T (le v (round binary64 false 2000000000 1))
unfolding size_fits
size_bounds v h =
    let lo = round binary64 false 1 4000000 in
    let hi = round binary64 false 2000000000 1 in
    (holds (le lo v) (and_left (le lo v) (le v hi) h), holds (le v hi) (and_right (le lo v) (le v hi) h))

pub size_positive : (v : Float) → size_fits v ≡ true → T (positive v)
unfolding round
size_positive v h = let k = size_bounds v h in between (round binary64 false 1 4000000) v (round binary64 false 2000000000 1) tt tt k.0 k.1

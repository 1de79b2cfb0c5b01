-- In the square sizing the width and the height of a cell are equal: at first, after each halving, and in the grid of the size. Assumes nothing.
use Rattle.std.proofs.Common.{◌≡◌, ℕ, refl, ap}
use Rattle.sizing.specs.declared.Sizing.TheVariants.{Square}
use Rattle.sizing.specs.declared.Extent.{Extent}
use Rattle.sizing.specs.declared.Size.{Size}
use Rattle.sizing.specs.Size.{first_size, half, half_of}
use Rattle.sizing.specs.Counts.{grid_of}

pub first_square : (e : Extent) (n : ℕ) → (first_size Square e n).cell_width ≡ (first_size Square e n).cell_height
unfolding first_size
first_square e n = refl

module _ (s : Size) (h : s.cell_width ≡ s.cell_height) where
  pub half_square : (half_of s).cell_width ≡ (half_of s).cell_height
  unfolding half_of
  half_square = ap half h

  pub grid_square : (e : Extent) → (grid_of e s).cell_width ≡ (grid_of e s).cell_height
  unfolding grid_of
  grid_square e = h

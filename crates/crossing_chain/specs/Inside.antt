-- What the private functions ask and promise. Definitions only.
use Rattle.std.specs.Prelude.{◌≡◌, ◌≤◌, List, ◌++◌, map, length, drop, ℤ, Float}
use Rattle.crossing_chain.specs.Whole.{whole_of}

-- lines in four slices of one length, for which there is room
pub record LengthsHeld (x₀ y₀ x₁ y₁ : List Float) : Type 0 where
  pub room : length x₀ ≤ 1024
  pub in_y₀ : length y₀ ≡ length x₀
  pub in_x₁ : length x₁ ≡ length x₀
  pub in_y₁ : length y₁ ≡ length x₀

-- floats as whole numbers at the start of a slice, whose other entries are as they were
pub record Wholes (from : List Float) (was now : List ℤ) : Type 0 where
  pub are : now ≡ map whole_of from ++ drop (length from) was

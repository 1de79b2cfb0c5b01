-- What the private function promises. Definitions only.
use Rattle.std.specs.Prelude.{◌≡◌, Bool, true, false}

-- b says whether P holds
pub record Tells (b : Bool) (P : Type 0) : Type 0 where
  pub yes : b ≡ true → P
  pub no : b ≡ false → P → ⊥

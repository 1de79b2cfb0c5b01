-- An answer as a byte. Definitions only.
use Rattle.std.specs.Prelude.{ℕ, Bool, true, false}

unfoldable pub byte_of : Bool → ℕ
byte_of true = 1
byte_of false = 0

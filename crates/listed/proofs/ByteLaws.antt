-- What byte an answer is. Assumes nothing.
use mathlib.Core.Path.{◌≡◌, refl}
use mathlib.Core.Bool.{Bool, true, false}
use Prim.Native.Nat.{◌≤◌}
use native.Mathlib.Omega.{arith}
use Rattle.listed.specs.Bytes.{byte_of}

pub byte_true : byte_of true ≡ 1
unfolding byte_of
byte_true = refl

pub byte_false : byte_of false ≡ 0
unfolding byte_of
byte_false = refl

pub byte_most : (o : Bool) → byte_of o ≤ 1
byte_most true = rw byte_true (omega arith)
byte_most false = rw byte_false (omega arith)

-- What reading the input promises: the bytes read are at the start of the buffer, and are the first that the reader had. Definitions only.
use Rattle.std.specs.Prelude.{◌≡◌, ℕ, ◌<◌, ◌≤◌, List, Option, None, Some, length, take}
use Rattle.std.specs.Io.KnownBytes.{Consumes, IsAtEnd}

-- `&xs[..n]` is in bounds and has n bytes
abbrev pub IsPrefixLen : ℕ → List ℕ → Type 0
IsPrefixLen n xs = (n ≤ length xs) × (n ≡ length (take n xs))

-- so many bytes are within the buffer; a read that failed says nothing of them
abbrev pub Within : Option ℕ → List ℕ → Type 0
Within (Some n) xs = IsPrefixLen n xs
Within None xs = Unit {0}

-- of what the reader had, the bytes read are the first, and with room for more they are all of it
abbrev pub Brings : Option (List ℕ) → Option (List ℕ) → Option ℕ → List ℕ → Type 0
Brings old new (Some n) xs = Consumes old new (take n xs) × (n < length xs → IsAtEnd new)
Brings old new None xs = Unit {0}

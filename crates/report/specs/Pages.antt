-- Bytes that are put into a buffer one after another, as far as it has room. Definitions only.
use Rattle.std.specs.Prelude.{◌≡◌, ℕ, suc, ◌-◌, Bool, true, false, List, [], ◌∷◌, ◌++◌, ltb, length, set, take, replicate}

-- a buffer, and the position at which the next byte goes
pub record Page : Type 0 where
  pub bytes : List ℕ
  pub at : ℕ

abbrev pub page : List ℕ → ℕ → Page
page bytes at = record { bytes = bytes; at = at }

unfoldable pub put_if : Bool → ℕ → Page → Page
put_if true b p = page (set p.bytes p.at b) (suc p.at)
put_if false b p = p

-- one byte; where the buffer is full, nothing changes
unfoldable pub put : ℕ → Page → Page
put b p = put_if (ltb p.at (length p.bytes)) b p

-- bytes, one after another
unfoldable pub put_all : List ℕ → Page → Page
put_all [] p = p
put_all (b ∷ bs) p = put_all bs (put b p)

-- after is the page before with bytes put on it
pub record Puts (bs : List ℕ) (before after : Page) : Type 0 where
  pub is : after ≡ put_all bs before

-- a whole text in a buffer: as much of it as there is room for, its end, and zero beyond
pub record Prints (text out out' : List ℕ) (r : ℕ) : Type 0 where
  pub end : r ≡ length (take (length out) text)
  pub is : out' ≡ take (length out) text ++ replicate (length out - r) 0

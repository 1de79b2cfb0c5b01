-- What private functions ask and promise. Definitions only.
use Rattle.std.specs.Prelude.{Ok, ℕ, ◌+◌, ◌*◌, ◌≤◌, ◌≡◌, List, length, take}
use Rattle.refusals.specs.Refusals.{Answer, zero_beyond}
use Rattle.report.specs.Pages.{page, Puts}
use Rattle.report.specs.Lines.{refused_line}
use Rattle.grid.specs.Domain.{count_check}
use Rattle.wkb.specs.Bytes.{Point, multi_bytes}
use Rattle.wkb.specs.Multi.{starts_of, found_multi}
use Rattle.members.specs.Held.{points_of, chains_of, held_check}
use Rattle.clean_bytes.specs.Printed.{chains_found, text_of, file_of, file_left}
use Rattle.clean_bytes.specs.declared.Ends.{Ends}

-- the first r bytes of the slice hold, as a MultiLineString, what the input holds
pub record Widened (bs : List ℕ) (r : ℕ) (s : List ℕ) : Type 0 where
  pub within : r ≤ length s
  pub few : r ≤ length bs + 9
  pub is : found_multi (take r s) ≡ chains_found bs

-- a refusal: its line, and no file
pub record NoFile (number : ℕ) (t₀ : List ℕ) (r : Ends) (t₁ : List ℕ) : Type 0 where
  pub none : r.bytes ≡ 0
  pub text : Puts (refused_line number) (page t₀ 0) (page t₁ r.text)

-- the file and the text: as the promise has them, save that what stands beyond the text stays
pub record PutsAs (a : Answer (List (List Point))) (f₀ t₀ : List ℕ) (r : Ends) (f₁ t₁ : List ℕ) : Type 0 where
  pub bytes : r.bytes ≡ length (file_of a)
  pub file : f₁ ≡ file_left a f₀
  pub text : Puts (text_of a) (page t₀ 0) (page t₁ r.text)

-- the first points and members are within their slices
pub record Parts (x y lengths : List ℕ) (points members : ℕ) : Type 0 where
  pub in_x : points ≤ length x
  pub in_y : points ≤ length y
  pub in_lengths : members ≤ length lengths

-- points and lengths that go together, few enough for the file, and a slice for it
pub record BytesAsk (x y lengths file : List ℕ) : Type 0 where
  pub held : held_check (length x) (length y) lengths ≡ Ok tt
  pub few : 9 + 9 * length lengths + 16 * length x ≤ 65545
  pub room : 65545 ≤ length file

-- what the writer takes, with room for it
pub record Fits (x y lengths file : List ℕ) : Type 0 where
  pub held : held_check (length x) (length y) lengths ≡ Ok tt
  pub few : count_check (length (starts_of (chains_of lengths (points_of x y)))) ≡ Ok tt
  pub room : length (multi_bytes (chains_of lengths (points_of x y))) ≤ length file

-- members are written
pub record WroteText (pss : List (List Point)) (f₀ : List ℕ) (r : ℕ) (f₁ : List ℕ) : Type 0 where
  pub count : r ≡ length (multi_bytes pss)
  pub is : f₁ ≡ zero_beyond 0 (length f₀) (multi_bytes pss)

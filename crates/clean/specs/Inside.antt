-- What private functions ask and promise. Definitions only.
use Rattle.std.specs.Prelude.{ℕ, ◌+◌, ◌*◌, ◌/◌, ◌≤◌, ◌<◌, ◌≡◌, true, false, cond, List, [], ◌∷◌, map, leb, length, get_or}
use Rattle.std.proofs.Math.Seq.{slice}
use Rattle.refusals.specs.Refusals.{zero_beyond}
use Rattle.wkb.specs.Bytes.{Point}
use Rattle.wkb.specs.Inside.{PutIn}
use Rattle.members.specs.Held.{points_of}
use Rattle.clean.specs.Cleaning.{good, thin, cleaned, reasons_after, reasons, kept, kept_values}

-- the point at a place of two slices
abbrev pub point_in : List ℕ → List ℕ → ℕ → Point
point_in xs ys i = record { x = get_or xs i 0; y = get_or ys i 0 }

-- the points from one place up to another
abbrev pub part : List ℕ → List ℕ → ℕ → ℕ → List Point
part xs ys from to = slice from to (points_of xs ys)

-- each obeys the coordinate rule
pub data AllGood : List Point → Type 0 where
  none : AllGood []
  more : {p : Point} {ps : List Point} → good p ≡ true → AllGood ps → AllGood (p ∷ ps)

-- a part of two slices of one length
pub record Part (xs ys : List ℕ) (from to : ℕ) : Type 0 where
  pub alike : length ys ≡ length xs
  pub up : from ≤ to
  pub within : to ≤ length xs

-- where the piece ends that begins at `from`, in a member that ends at `end`
pub record PieceEnds (xs ys : List ℕ) (from end r : ℕ) : Type 0 where
  pub up : from ≤ r
  pub within : r ≤ end
  pub right : AllGood (part xs ys from r)
  pub bad : r < end → good (point_in xs ys r) ≡ false

-- the points of a piece after its first are marked, and what is left of it counted
pub record ReasonsMarked (xs ys : List ℕ) (from to : ℕ) (s₀ : List ℕ) (r : ℕ) (s₁ : List ℕ) : Type 0 where
  pub marks : PutIn (from + 1) (reasons_after kept (point_in xs ys from) (part xs ys (from + 1) to)) s₀ s₁
  pub count : r ≡ length (thin (part xs ys from to))

-- there is room for what may be kept: the reasons, and the lengths after the first `at`
pub record CleanRoom (xs : List ℕ) (reasons lengths : List ℕ) (from at : ℕ) : Type 0 where
  pub marks : length xs ≤ length reasons
  pub halves : length xs / 2 ≤ length lengths
  pub twice : 2 * at ≤ from

-- the reasons of points, and the lengths of the pieces that are kept of them, are put into their slices
pub record Did (from : ℕ) (why : List ℕ) (pieces : List (List Point)) (rs₀ ls₀ : List ℕ) (at r : ℕ) (rs₁ ls₁ : List ℕ) : Type 0 where
  pub in_reasons : PutIn from why rs₀ rs₁
  pub in_lengths : PutIn at (map length pieces) ls₀ ls₁
  pub count : r ≡ at + length pieces

-- a value of a reason
unfoldable pub value_if : ℕ → ℕ → List ℕ
value_if r v = cond (leb r kept) (v ∷ []) []

-- all members are marked
pub record MarkedAll (pss : List (List Point)) (rs₀ ls₀ : List ℕ) (r : ℕ) (rs₁ ls₁ : List ℕ) : Type 0 where
  pub in_reasons : rs₁ ≡ zero_beyond 0 (length rs₀) (reasons pss)
  pub in_lengths : ls₁ ≡ zero_beyond 0 (length ls₀) (map length (cleaned pss))
  pub count : r ≡ length (cleaned pss)

-- the values that are kept stand at the start
pub record PutKept (rs vs s₀ : List ℕ) (r : ℕ) (s₁ : List ℕ) : Type 0 where
  pub is : s₁ ≡ zero_beyond 0 (length s₀) (kept_values rs vs)
  pub count : r ≡ length (kept_values rs vs)

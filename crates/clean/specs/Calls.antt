-- The call over lent slices: what it checks, answers and leaves. Definitions only.
use Rattle.std.specs.Prelude.{Ok, Err, Result, ℕ, ◌/◌, ◌≡◌, ◌&&◌, leb, eqb, length}
use Rattle.refusals.specs.declared.Refusal.{Refusal}
use Rattle.refusals.specs.Refusals.{Check}
use mathlib.Core.List.{List, map, flatten}
use Rattle.refusals.specs.Refusals.{unless, Answer, gives, ◌then◌, answer_by, left_in, zero_beyond}
use Rattle.wkb.specs.Bytes.{Point}
use Rattle.members.specs.Held.{points_of, chains_of, held_check}
use Rattle.clean.specs.Cleaning.{cleaned, reasons as Cleaning·reasons}
use Rattle.clean.specs.declared.Cleaned.{Cleaned}

-- the four slices that the call is lent to write
pub record Outputs : Type 0 where
  pub x : List ℕ
  pub y : List ℕ
  pub lengths : List ℕ
  pub reasons : List ℕ

abbrev pub outputs : List ℕ → List ℕ → List ℕ → List ℕ → Outputs
outputs x y lengths reasons = record { x = x; y = y; lengths = lengths; reasons = reasons }

-- 3: the kept point slices differ, or one of the four is shorter than n points may ask for: n points, n / 2 pieces, n reasons
unfoldable pub kept_room_check : ℕ → Outputs → Check
kept_room_check n o =
    unless (eqb (length o.x) (length o.y) && (leb n (length o.x) && (leb (n / 2) (length o.lengths) && leb n (length o.reasons)))) 3 0

-- the members that are cleaned
unfoldable pub cleaning : List ℕ → List ℕ → List ℕ → Outputs → Answer (List (List Point))
cleaning x y lengths o = held_check (length x) (length y) lengths then kept_room_check (length x) o then gives (chains_of lengths (points_of x y))

-- the answer: how many points and pieces are kept, or the refusal
unfoldable pub cleaned_of : Answer (List (List Point)) → Result Cleaned Refusal
cleaned_of a = answer_by Err (λ pss. Ok (record { points = (length (flatten (cleaned pss))); members = (length (cleaned pss)) })) a

-- what a slice holds then: what it is to hold of the members, and zero beyond
unfoldable pub holds : (List (List Point) → List ℕ) → Answer (List (List Point)) → List ℕ → List ℕ
holds f a was = left_in 0 was a (λ pss. zero_beyond 0 (length was) (f pss))

-- one coordinate of the kept points
unfoldable pub kept_axis : (Point → ℕ) → List (List Point) → List ℕ
kept_axis f pss = map f (flatten (cleaned pss))

-- the numbers of points of the pieces
unfoldable pub kept_lengths : List (List Point) → List ℕ
kept_lengths pss = map length (cleaned pss)

-- the four slices then
unfoldable pub outputs_left : Answer (List (List Point)) → Outputs → Outputs
outputs_left a o =
    outputs (holds (kept_axis (λ p. p.x)) a o.x) (holds (kept_axis (λ p. p.y)) a o.y) (holds kept_lengths a o.lengths) (holds Cleaning·reasons a o.reasons)

-- The promise: the answer, and what the four slices hold then.
pub record CleanedAs (x y lengths : List ℕ) (o : Outputs) (r : Result Cleaned Refusal) (o' : Outputs) : Type 0 where
  pub answer : r ≡ cleaned_of (cleaning x y lengths o)
  pub left : o' ≡ outputs_left (cleaning x y lengths o) o

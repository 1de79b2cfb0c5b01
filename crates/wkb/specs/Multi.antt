-- What a reader of one MultiLineString finds in bytes, answers and leaves (document 02, 1, with document 01's refusals 3, 11, 2 and 5).
-- Points are bit patterns, so that a NaN keeps all its bits. Definitions only.
use Rattle.std.specs.Prelude.{Ok, Err, Result, ℕ, zero, suc, ◌-◌, ◌≡◌, true, leb, eqb, length, take, drop}
use Rattle.refusals.specs.declared.Refusal.{Refusal}
use Rattle.refusals.specs.Refusals.{Check}
use mathlib.Core.List.{List, [], ◌∷◌, map, flatten, flat_map}
use Rattle.refusals.specs.Refusals.{unless, and_then, Answer, gives, ◌then◌, ◌into◌, answer_by, left_in, zero_beyond}
use Rattle.grid.specs.Domain.{count_check}
use Rattle.wkb.specs.Bytes.{Point, MultiLineString}
use Rattle.wkb.specs.Reading.{field_check, count_at, line_at, end_at, head_check, line_check, end_check}
use Rattle.wkb.specs.declared.MultiRead.{MultiRead}

-- ---- lines

-- consecutive points make lines: all points but the last are starts, and all but the first are ends
abbrev pub starts : {A : Type 0} → List A → List A
starts ps = take (length ps - 1) ps

abbrev pub ends : {A : Type 0} → List A → List A
ends ps = drop 1 ps

-- the lines run member after member, and none joins two
unfoldable pub starts_of : {A : Type 0} → List (List A) → List A
starts_of pss = flat_map starts pss

unfoldable pub ends_of : {A : Type 0} → List (List A) → List A
ends_of pss = flat_map ends pss

-- ---- the fields

-- the members, m of them from a position on; nothing follows the last
unfoldable pub members_check : ℕ → ℕ → List ℕ → Check
members_check zero at bs = end_check at bs
members_check (suc m) at bs = and_then (line_check at bs) (members_check m (end_at at bs) bs)

-- the type 5, the number of members, the members
unfoldable pub multi_check : List ℕ → Check
multi_check bs = and_then (head_check 5 0 bs) (and_then (field_check bs 5 9 true) (members_check (count_at 0 bs) 9 bs))

-- the points of each of m members
unfoldable pub chains_at : ℕ → ℕ → List ℕ → List (List Point)
chains_at zero at bs = []
chains_at (suc m) at bs = line_at at bs ∷ chains_at m (end_at at bs) bs

-- the whole input is one MultiLineString
unfoldable pub found_multi : List ℕ → Answer (List (List Point))
found_multi bs = multi_check bs then gives (chains_at (count_at 0 bs) 9 bs)

-- ---- the call

-- 3: the point slices, of lengths m and n, differ
unfoldable pub pair_check : ℕ → ℕ → Check
pair_check m n = unless (eqb m n) 3 0

-- 5: room for fewer points than the p there are, or for fewer members than the m; the points come first
unfoldable pub members_room_check : ℕ → ℕ → ℕ → ℕ → Check
members_room_check points members p m = and_then (unless (leb p points) 5 p) (unless (leb m members) 5 m)

-- m and n are the lengths of x and y, k that of the lengths
unfoldable pub multi_outcome : ℕ → ℕ → ℕ → List ℕ → Answer (List (List Point))
multi_outcome m n k bs =
    pair_check m n then found_multi bs into (λ pss. count_check (length (starts_of pss)) then members_room_check m k (length (flatten pss)) (length pss) then gives pss)

-- the answer: how many points and members, or the refusal
unfoldable pub multi_read_of : Answer (List (List Point)) → Result MultiRead Refusal
multi_read_of o = answer_by Err (λ pss. Ok (record { points = (length (flatten pss)); members = (length pss) })) o

-- what a point slice holds then, f being its coordinate
unfoldable pub axis_left : (Point → ℕ) → Answer (List (List Point)) → List ℕ → List ℕ
axis_left f o was = left_in 0 was o (λ pss. zero_beyond 0 (length was) (map f (flatten pss)))

-- and what the lengths hold: the number of points of each member
unfoldable pub lengths_left : Answer (List (List Point)) → List ℕ → List ℕ
lengths_left o was = left_in 0 was o (λ pss. zero_beyond 0 (length was) (map length pss))

-- The promise of the reader: its answer, what the slices hold then, and both ways that members are found in the bytes of a MultiLineString, its
-- own members, and in no others.
pub record MultiReadAs (bs x₀ y₀ l₀ : List ℕ) (r : Result MultiRead Refusal) (x₁ y₁ l₁ : List ℕ) : Type 0 where
  pub answer : r ≡ multi_read_of (multi_outcome (length x₀) (length y₀) (length l₀) bs)
  pub in_x : x₁ ≡ axis_left (λ p. p.x) (multi_outcome (length x₀) (length y₀) (length l₀) bs) x₀
  pub in_y : y₁ ≡ axis_left (λ p. p.y) (multi_outcome (length x₀) (length y₀) (length l₀) bs) y₀
  pub in_lengths : l₁ ≡ lengths_left (multi_outcome (length x₀) (length y₀) (length l₀) bs) l₀
  pub only : (pss : List (List Point)) → found_multi bs ≡ gives pss → MultiLineString bs pss
  pub every : (pss : List (List Point)) → MultiLineString bs pss → found_multi bs ≡ gives pss

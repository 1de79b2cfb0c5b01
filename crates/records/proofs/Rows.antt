-- Laws of the records of a file: how long one is, and that they stand one after another. Assumes nothing.
use Prim.Native.Nat.{ℕ, zero, suc, ◌+◌, ◌-◌, ◌≤◌, ◌<◌}
use native.Mathlib.Omega.{arith}
use native.Mathlib.Decide.{dec_le}
use native.Mathlib.Nat.{add-zero}
use mathlib.Core.Path.{◌≡◌, refl, ◌∙◌}
use mathlib.Core.List.{List, [], ◌∷◌}
use borrow.Author.Tests.{le-leb, lt-leb}
use lib.ListN.{length, take, drop, get_or, length-drop}
use lib.Seq.{get_or-drop, drop-drop}
use Rattle.records.specs.Files.{Record, records_from, records_of, size_of}

-- ---- the size of a record

size_short : (w : List ℕ) → length w < 3 → size_of w ≡ 0
unfolding size_of
size_short [] h = refl
size_short (x ∷ []) h = refl
size_short (x ∷ q ∷ []) h = refl
size_short (x ∷ q ∷ a ∷ w) h = absurd (omega (arith, h))

size_cut : (w : List ℕ) → length w < 3 + (get_or w 1 0 + get_or w 2 0) → size_of w ≡ 0
unfolding size_of
size_cut [] h = refl
size_cut (x ∷ []) h = refl
size_cut (x ∷ q ∷ []) h = refl
size_cut (x ∷ q ∷ a ∷ w) h = rw (lt-leb (q + a) (length w) (omega (arith, h)))

size_whole : (w : List ℕ) → 3 + (get_or w 1 0 + get_or w 2 0) ≤ length w → size_of w ≡ 3 + (get_or w 1 0 + get_or w 2 0)
unfolding size_of
size_whole [] h = absurd (omega (arith, h))
size_whole (x ∷ []) h = absurd (omega (arith, h))
size_whole (x ∷ q ∷ []) h = absurd (omega (arith, h))
size_whole (x ∷ q ∷ a ∷ w) h = rw (le-leb (q + a) (length w) (omega (arith, h)))

-- the same at a place of a longer row
pub short_at : (at : ℕ) (w : List ℕ) → length w - at < 3 → size_of (drop at w) ≡ 0
short_at at w h = size_short (drop at w) (rw (length-drop at w) h)

pub cut_at : (at : ℕ) (w : List ℕ) → length w - at < 3 + (get_or w (at + 1) 0 + get_or w (at + 2) 0) → size_of (drop at w) ≡ 0
cut_at at w h = size_cut (drop at w) (rw (length-drop at w, get_or-drop at w 1 0, get_or-drop at w 2 0) h)

pub whole_at : (at : ℕ) (w : List ℕ) → 3 + (get_or w (at + 1) 0 + get_or w (at + 2) 0) ≤ length w - at →
    size_of (drop at w) ≡ 3 + (get_or w (at + 1) 0 + get_or w (at + 2) 0)
whole_at at w h =
    size_whole (drop at w) (rw (length-drop at w, get_or-drop at w 1 0, get_or-drop at w 2 0) h) ∙ rw (get_or-drop at w 1 0, get_or-drop at w 2 0)

-- ---- the next record

-- words that are passed over
skipped : (n : ℕ) (w : List ℕ) → records_from n w ≡ records_from 0 (drop n w)
unfolding records_from
skipped zero w = refl
skipped (suc n) [] = refl
skipped (suc n) (x ∷ w) = skipped n w

-- the record that w begins with
abbrev opening : List ℕ → Record
opening w = record { kind = get_or w 0 0; question = take (get_or w 1 0) (drop 3 w); answer = take (get_or w 2 0) (drop (get_or w 1 0) (drop 3 w)) }

next : (w : List ℕ) → 0 < size_of w → (size_of w ≡ 3 + (get_or w 1 0 + get_or w 2 0)) × (records_of w ≡ opening w ∷ records_of (drop (size_of w) w))
unfolding size_of records_of records_from
next [] h = absurd (omega (arith, h))
next (x ∷ []) h = absurd (omega (arith, h))
next (x ∷ q ∷ []) h = absurd (omega (arith, h))
next (x ∷ q ∷ a ∷ w) h = elim (dec_le (q + a) (length w)) [
  | yes g ↦ (let e : 3 + (q + a) ≡ suc (suc (suc (q + a))) = omega arith in rw (le-leb (q + a) (length w) g, e) (refl, rw (skipped (q + a) w)))
  | no g ↦ absurd (let z = rw (lt-leb (q + a) (length w) (omega (arith, g))) at h in omega (arith, z))
]

last : (w : List ℕ) → size_of w ≡ 0 → records_of w ≡ []
unfolding size_of records_of records_from
last [] h = refl
last (x ∷ []) h = refl
last (x ∷ q ∷ []) h = refl
last (x ∷ q ∷ a ∷ w) h = elim (dec_le (q + a) (length w)) [
  | yes g ↦ absurd (let z = rw (le-leb (q + a) (length w) g) at h in omega (arith, z))
  | no g ↦ (rw (lt-leb (q + a) (length w) (omega (arith, g))))
]

-- the same at a place of a longer row
pub size_parts : (at : ℕ) (w : List ℕ) → 0 < size_of (drop at w) → size_of (drop at w) ≡ 3 + (get_or w (at + 1) 0 + get_or w (at + 2) 0)
size_parts at w h = (next (drop at w) h).0 ∙ rw (get_or-drop at w 1 0, get_or-drop at w 2 0)

pub next_record : (w : List ℕ) (at from mid to : ℕ) → 0 < size_of (drop at w) → from ≡ at + 3 → mid ≡ from + get_or w (at + 1) 0 → to ≡ at + size_of (drop at w) →
    records_of (drop at w) ≡
    record { kind = get_or w at 0; question = take (mid - from) (drop from w); answer = take (to - mid) (drop mid w) } ∷ records_of (drop to w)
next_record w at from mid to h e f g =
    let s = size_parts at w h in
    let i : mid - from ≡ get_or w (at + 1) 0 = omega (arith, f) in
    let j : to - mid ≡ get_or w (at + 2) 0 = omega (arith, e, f, g, s) in
    (next (drop at w) h).1
    ∙ rw (get_or-drop at w 0 0, get_or-drop at w 1 0, get_or-drop at w 2 0, drop-drop (size_of (drop at w)) at w, drop-drop 3 at w, ← e, drop-drop (get_or w (at + 1) 0) from w, ← f, ← g, i, j, add-zero at)

pub last_record : (w : List ℕ) (at : ℕ) → size_of (drop at w) ≡ 0 → records_of (drop at w) ≡ []
last_record w at h = last (drop at w) h

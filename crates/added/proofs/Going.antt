-- The lists that the line goes to, by its walk; and the globals with it. Assumes nothing.
use Rattle.std.specs.Prelude.{Ok, Err, Result}
use mathlib.Core.Path.{◌≡◌, refl, ap, ◌∙◌}
use mathlib.Core.Bool.{Bool, true, false}
use mathlib.Core.List.{List, [], ◌∷◌, ◌++◌, append-nil}
use Prim.Native.Nat.{ℕ, suc, ◌+◌, ◌≤◌, ◌<◌}
use native.Mathlib.Numerals.{add-one}
use native.Mathlib.Omega.{arith}
use borrow.Author.Tests.{le-leb, lt-leb}
use lib.ListN.{length, take, set, replicate, length-append, length-set}
use lib.Seq.{length-take-le, take-suc-set}
use Rattle.slices.specs.Slices.{cleared_from}
use Rattle.refusals.specs.declared.Refusal.{Refusal}
use Rattle.refusals.specs.Refusals.{refusal, refused, gives, answer_by, left_by, zero_beyond}
use Rattle.refusals.proofs.Leaving.{left_zero, numbers_clear}
use Rattle.grid.specs.declared.Grid.{Grid}
use Rattle.grid.specs.declared.Segment.{Segment}
use Rattle.walk.specs.declared.Mode.{Mode}
use Rattle.walk.specs.declared.Reached.{Reached}
use Rattle.walk.specs.declared.Reached.TheVariants as reached
use Rattle.turns.specs.Pushes.{Outcome}
use Rattle.walk.specs.Segment as walk
use Rattle.walk.proofs.Visits.{segment_visits, segment_refused}
use Rattle.walk.proofs.Answer.{reach_is}
use Rattle.tables.specs.Lists.{long}
use Rattle.added.specs.Added.{listing}
use Rattle.added.specs.Inside.{SegmentWalkable, Went, globals_left}

-- ---- what the walk answers

record Found (o : Outcome) (all : Bool) (s : List ℕ) (k : ℕ) : Type 0 where
  cells : List ℕ
  is : o ≡ gives cells
  some : all ≡ false
  size : k ≡ length cells
  at_front : take k s ≡ cells

found_says : (o : Outcome) (all : Bool) (was s : List ℕ) (k : ℕ) → walk.Walked all o was (Ok (reached.Found k)) s → Found o all s k
unfolding walk.reached_of answer_by
found_says (refused why) all was s k h = let z : ◌≡◌ {A = ℕ} 0 1 = cc h.answer in absurd (omega arith)
found_says (gives xs) true was s k h = let z : ◌≡◌ {A = ℕ} 0 1 = cc h.answer in absurd (omega arith)
found_says (gives xs) false was s k h =
    let e : k ≡ length xs = cc h.answer in
    record { cells = xs; is = refl; some = refl; size = e; at_front = rw e h.left }

record All (o : Outcome) (all : Bool) : Type 0 where
  cells : List ℕ
  is : o ≡ gives cells
  every : all ≡ true

all_says : (o : Outcome) (all : Bool) (was s : List ℕ) → walk.Walked all o was (Ok reached.Everywhere) s → All o all
unfolding walk.reached_of answer_by
all_says (refused why) all was s h = let z : ◌≡◌ {A = ℕ} 0 1 = cc h.answer in absurd (omega arith)
all_says (gives xs) true was s h = record { cells = xs; is = refl; every = refl }
all_says (gives xs) false was s h = let z : ◌≡◌ {A = ℕ} 0 1 = cc h.answer in absurd (omega arith)

over_says : (o : Outcome) (all : Bool) (was s : List ℕ) (q : Refusal) → walk.Walked all o was (Err q) s → (o ≡ refused q) × (s ≡ left_by 0 q was)
unfolding walk.reached_of answer_by
over_says (refused why) all was s q h = let e : why ≡ q = cc h.answer in (rw e, rw (← e) h.left)
over_says (gives xs) true was s q h = let z : ◌≡◌ {A = ℕ} 0 1 = cc h.answer in absurd (omega arith)
over_says (gives xs) false was s q h = let z : ◌≡◌ {A = ℕ} 0 1 = cc h.answer in absurd (omega arith)

-- ---- where the line goes

long_is : (xs : List ℕ) → 2048 < length xs → long xs ≡ true
unfolding long
long_is xs h = le-leb 2049 (length xs) h

short_is : (xs : List ℕ) → length xs ≤ 2048 → long xs ≡ false
unfolding long
short_is xs h = lt-leb 2049 (length xs) (omega arith)

-- to the globals
went_global : {o : Outcome} {was s : List ℕ} (xs : List ℕ) → o ≡ gives xs → 2048 < length xs → length s ≡ length was → Went o was s 0 1
unfolding listing
went_global xs e l n =
    let k = long_is xs l in
    record { visited = xs; is = e; size = rw k; few = omega arith; within = omega arith; at_front = rw k; kind = rw k; same = n }

module _ (mode : Mode) (g : Grid) (line : Segment) {s : List ℕ} (w : SegmentWalkable g line s) (r : Result Reached Refusal) {s' : List ℕ}
    (h : walk.Walked (walk.everywhere_in mode g line) (walk.reach_of mode (length s) g line) s r s') where
  abbrev o : Outcome
  o = walk.segment_of mode g line

  inner : walk.Walked (walk.everywhere_in mode g line) o s r s'
  inner = rw (reach_is mode g line (length s) w.space w.obeys w.fits) at h

  pub goes_listed : (k : ℕ) → r ≡ Ok (reached.Found k) → k ≤ 2048 → Went o s s' k 0
  unfolding listing
  goes_listed k e l =
      let f = found_says o _ s s' k (rw e at inner) in
      let b = short_is f.cells (omega (arith, f.size)) in
      record {
        visited = f.cells;
        is = f.is;
        size = rw b f.size;
        few = l;
        within = omega (arith, inner.size, w.space);
        at_front = rw b f.at_front;
        kind = rw b;
        same = inner.size;
      }

  pub goes_global : (k : ℕ) → r ≡ Ok (reached.Found k) → 2048 < k → Went o s s' 0 1
  goes_global k e l =
      let f = found_says o _ s s' k (rw e at inner) in
      went_global f.cells f.is (omega (arith, f.size)) inner.size

  pub goes_everywhere : r ≡ Ok reached.Everywhere → Went o s s' 0 1
  goes_everywhere e =
      let f = all_says o _ s s' (rw e at inner) in
      let v = (segment_visits mode g line w.fits f.cells f.is).all f.every in
      went_global f.cells f.is (omega (arith, v.0, v.1)) inner.size

  pub goes_over : (q : Refusal) → r ≡ Err q → (o ≡ refused (refusal 7 0)) × (s' ≡ replicate (length s) 0)
  goes_over q e =
      let f = over_says o _ s s' q (rw e at inner) in
      let z : q ≡ refusal 7 0 = segment_refused mode g line q f.0 in
      (f.0 ∙ ap refused z, f.1 ∙ rw z (left_zero 0 (refusal 7 0) s (numbers_clear 7 (omega arith) (omega arith))))

-- ---- the globals

module _ (n found : ℕ) (gs : List ℕ) where
  pub global_none : (more : ℕ) {ys : List ℕ} → more ≡ 0 → found + more ≤ length gs → ys ≡ cleared_from found gs → ys ≡ globals_left n more found gs
  unfolding cleared_from globals_left zero_beyond
  global_none more e l h =
      let m : length (take found gs) ≡ found = length-take-le found gs (omega arith) in
      h ∙ rw (e, append-nil, m)

  pub global_one : (more : ℕ) {ys : List ℕ} → (more ≡ 0 → ⊥) → more ≤ 1 → found + more ≤ length gs → ys ≡ cleared_from (found + 1) (set gs found n) → ys ≡ globals_left n more found gs
  unfolding cleared_from globals_left zero_beyond
  global_one more d q l h =
      let e : more ≡ 1 = omega arith in
      let m : length (take found gs) ≡ found = length-take-le found gs (omega arith) in
      let k : length (take found gs ++ (n ∷ [])) ≡ suc found = length-append (take found gs) (n ∷ []) ∙ omega arith in
      h ∙ rw (e, add-one found, take-suc-set gs found n (omega arith), length-set, k)

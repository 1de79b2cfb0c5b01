-- Batches laid end to end hand out exactly what one whole visit hands out, in that order, however large each output was, and their counts
-- add up. The one test at a bookmark is the test that a batch makes there. Assumes nothing.
use Rattle.std.specs.Prelude.{Ok, Some}
use mathlib.Core.Path.{◌≡◌, refl, sym, ap, ◌∙◌}
use mathlib.Core.Bool.{Bool, true, false}
use mathlib.Core.List.{List, [], ◌∷◌, ◌++◌, append_assoc, append-nil}
use Prim.Native.Nat.{ℕ, zero, suc, ◌+◌, ◌≤◌, ◌<◌}
use native.Mathlib.Nat.{add-zero}
use native.Mathlib.Omega.{arith}
use lib.ListN.{length, take, drop, get_or, take-append-drop, length-take, length-append, drop_of_length-le}
use lib.Seq.{drop-drop, drop-cons, get_or-take}
use Rattle.grid.specs.Domain.{Lines}
use Rattle.tables.specs.Tables.{Tables}
use Rattle.seek.specs.Tests.{Pair, tests_of}
use Rattle.visit.specs.Overlap.{overlap}
use Rattle.visit.specs.Batches.{made, overlapping, handed}
use Rattle.visit.specs.Entries.{test_of, next_test}
use Rattle.visit.proofs.Clauses.{made_none, made_full, made_hit, made_miss, over_nil, over_hit, over_miss}
use Rattle.visit.specs.Words.{laid, bookmark_after, tests_sum, overlaps_sum}

-- ---- one batch

module _ (ls : Lines) where
  -- it makes the first of the tests that are left
  pub made_first : (ps : List Pair) (room : ℕ) → made ls ps room ≡ take (length (made ls ps room)) ps
  made_first [] room = rw made_none
  made_first (p ∷ ps) zero = rw made_full
  made_first (p ∷ ps) (suc room) = go (overlap ls p.first p.second) refl (made_first ps room) (made_first ps (suc room))
    where
      go : (b : Bool) → overlap ls p.first p.second ≡ b → made ls ps room ≡ take (length (made ls ps room)) ps → made ls ps (suc room) ≡ take (length (made ls ps (suc room))) ps
          → made ls (p ∷ ps) (suc room) ≡ take (length (made ls (p ∷ ps) (suc room))) (p ∷ ps)
      go true e hit miss = rw (made_hit ls p ps room e) (ap (λ (l : List Pair). p ∷ l) hit)
      go false e hit miss = rw (made_miss ls p ps room e) (ap (λ (l : List Pair). p ∷ l) miss)

  pub over_append : (ps qs : List Pair) → overlapping ls (ps ++ qs) ≡ overlapping ls ps ++ overlapping ls qs
  over_append [] qs = rw over_nil
  over_append (p ∷ ps) qs = go (overlap ls p.first p.second) refl (over_append ps qs)
    where
      go : (b : Bool) → overlap ls p.first p.second ≡ b → overlapping ls (ps ++ qs) ≡ overlapping ls ps ++ overlapping ls qs
          → overlapping ls (p ∷ (ps ++ qs)) ≡ overlapping ls (p ∷ ps) ++ overlapping ls qs
      go true e h = rw (over_hit ls p (ps ++ qs) e, over_hit ls p ps e) (ap (λ (l : List Pair). p ∷ l) h)
      go false e h = rw (over_miss ls p (ps ++ qs) e, over_miss ls p ps e) h

  -- what it hands out, and what is handed out of the rest, is what is handed out of all
  pub handed_rest : (ps : List Pair) (room : ℕ) → handed ls ps room ++ overlapping ls (drop (length (made ls ps room)) ps) ≡ overlapping ls ps
  handed_rest ps room =
      sym (over_append (made ls ps room) (drop (length (made ls ps room)) ps))
      ∙ ap (overlapping ls) (ap (λ (l : List Pair). l ++ drop (length (made ls ps room)) ps) (made_first ps room) ∙ take-append-drop (length (made ls ps room)) ps)

-- ---- laid end to end

module _ (ls : Lines) (t : Tables) where
  pub laid_rest : (b : ℕ) (rooms : List ℕ) → laid ls t b rooms ++ overlapping ls (drop (bookmark_after ls t b rooms) (tests_of t)) ≡ overlapping ls (drop b (tests_of t))
  unfolding laid bookmark_after
  laid_rest b [] = refl
  laid_rest b (room ∷ rooms) =
      let rest = drop b (tests_of t) in
      let n = b + length (made ls rest room) in
      append_assoc (handed ls rest room) (laid ls t n rooms) (overlapping ls (drop (bookmark_after ls t n rooms) (tests_of t)))
      ∙ ap (λ (l : List Pair). handed ls rest room ++ l) (laid_rest n rooms ∙ ap (overlapping ls) (sym (drop-drop (length (made ls rest room)) b (tests_of t))))
      ∙ handed_rest ls rest room

  -- FROM BOOKMARK 0 TO THE END they are one whole visit
  pub laid_whole : (rooms : List ℕ) → bookmark_after ls t 0 rooms ≡ length (tests_of t) → laid ls t 0 rooms ≡ overlapping ls (tests_of t)
  laid_whole rooms e =
      let none : overlapping ls (drop (bookmark_after ls t 0 rooms) (tests_of t)) ≡ [] = rw (e, drop_of_length-le (tests_of t) {i = length (tests_of t)} (omega arith)) (over_nil ls) in
      sym (append-nil (laid ls t 0 rooms)) ∙ ap (λ (l : List Pair). laid ls t 0 rooms ++ l) (sym none) ∙ laid_rest 0 rooms

  -- AND THEIR COUNTS ADD UP: the tests to the bookmark, the overlaps to the pairs handed out
  pub tests_add : (b : ℕ) (rooms : List ℕ) → b + tests_sum ls t b rooms ≡ bookmark_after ls t b rooms
  unfolding tests_sum bookmark_after
  tests_add b [] = add-zero b
  tests_add b (room ∷ rooms) = omega (arith, tests_add (b + length (made ls (drop b (tests_of t)) room)) rooms)

  pub overlaps_add : (b : ℕ) (rooms : List ℕ) → overlaps_sum ls t b rooms ≡ length (laid ls t b rooms)
  unfolding overlaps_sum laid
  overlaps_add b [] = refl
  overlaps_add b (room ∷ rooms) =
      let n = b + length (made ls (drop b (tests_of t)) room) in
      rw (overlaps_add n rooms) (sym (length-append (handed ls (drop b (tests_of t)) room) (laid ls t n rooms)))

  -- THE ONE TEST at a bookmark within a batch is the test that the batch makes there, the k-th of its tests
  pub one_test : (b room k : ℕ) (p : Pair) → k < length (made ls (drop b (tests_of t)) room)
      → next_test ls (drop (b + k) (tests_of t)) ≡ Ok (Some (test_of ls (get_or (made ls (drop b (tests_of t)) room) k p)))
  unfolding next_test
  one_test b room k p h =
      let rest = drop b (tests_of t) in
      let n = length (made ls rest room) in
      let e : made ls rest room ≡ take n rest = made_first ls rest room in
      let l : n ≤ length rest = ap_le n rest (sym (ap length e)) in
      let g : get_or (made ls rest room) k p ≡ get_or rest k p = ap (λ (x : List Pair). get_or x k p) e ∙ get_or-take n rest k p h in
      let d : drop (b + k) (tests_of t) ≡ get_or rest k p ∷ drop (suc k) rest = sym (drop-drop k b (tests_of t)) ∙ drop-cons rest k p (omega arith) in
      rw (d, g)
    where
      ap_le : (n : ℕ) (xs : List Pair) → length (take n xs) ≡ n → n ≤ length xs
      ap_le n xs e = omega (arith, length-take n xs)

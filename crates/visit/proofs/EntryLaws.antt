-- The entries case by case: each refusal in its order, and the result. Assumes nothing.
use Rattle.std.specs.Prelude.{Ok, Err, Some, None, Result, Option}
use mathlib.Core.Path.{◌≡◌, refl, sym, ap, ◌∙◌}
use mathlib.Core.Bool.{false}
use mathlib.Core.List.{List, [], ◌∷◌}
use Prim.Native.Nat.{ℕ, ◌+◌, ◌-◌, ◌<◌, ◌^◌}
use native.Mathlib.Omega.{arith}
use lib.ListN.{length, take, drop, length-drop, length-map}
use borrow.Author.Tests.{eqb-true, eq-eqb, ne_eqb}
use Rattle.slices.specs.Slices.{cleared_from}
use Rattle.refusals.specs.declared.Refusal.{Refusal}
use Rattle.refusals.specs.Refusals.{refusal, unless, Answer, refused, gives, answer_by, clears, left_in, zero_beyond}
use Rattle.refusals.proofs.Checks.{unless_fine}
use Rattle.refusals.proofs.Answers.{then_refused, then_fine, then_passed}
use Rattle.refusals.proofs.Leaving.{left_same, clearing_unless}
use Rattle.grid.specs.declared.Grid.{Grid}
use Rattle.grid.specs.Domain.{Lines, count}
use Rattle.tables.specs.Tables.{Tables, beside}
use Rattle.visit.specs.declared.Test.{Test}
use Rattle.visit.specs.declared.Tally.{Tally}
use Rattle.seek.specs.declared.Cursor.{Cursor}
use Rattle.seek.specs.declared.Place.{Place}
use Rattle.seek.specs.declared.PairAt.{PairAt}
use Rattle.visit.specs.declared.scan.Row.{Row}
use Rattle.visit.specs.declared.scan.Ran.{Ran}
use Rattle.seek.specs.Tests.{Pair, pair, tests_of}
use Rattle.visit.specs.Batches.{made, handed, firsts, seconds, place_numbers}
use Rattle.visit.specs.Places.{number_of}
use Rattle.seek.specs.Bookmarks.{visit_check, bookmark_check, from_check, tests_from, first_of, pair_at}
use Rattle.visit.specs.Entries.{outputs_check, test_of, next_test, test_at, tally_of, batch_tests, batch_of, batch_answer, pairs_left, BatchIs, places_check, placed_tests, PlacedBatchIs}
use Rattle.seek.specs.Cursors.{rest_of, CursorIs}
use Rattle.visit.specs.Inside.{LineAsks, row_of, TestAsks, RunAsks, RanAll, BatchMade}
use Rattle.seek.proofs.Lengths.{total_fits}
use Rattle.seek.proofs.Passed.{here}
use Rattle.seek.proofs.FindLaws.{from_none, from_cursor, from_spares}
use Rattle.seek.proofs.PairLines.{pair_lines}

-- ---- one test

-- the test of a pair
test_by : Lines → (Result (Option PairAt) Refusal) → (Result (Option Test) Refusal)
test_by ls (Ok (Some p)) = Ok (Some (test_of ls (pair p.place p.first p.second)))
test_by ls (Ok None) = Ok None
test_by ls (Err r) = Err r

module _ (ls : Lines) (g : Grid) (t : Tables) (b : ℕ) where
  test_by_lem : test_by ls (pair_at ls g t b) ≡ test_at ls g t b
  unfolding test_by test_at pair_at answer_by first_of next_test
  test_by_lem = go (tests_from ls g t b)
    where
      go : (o : Answer (List Pair)) → test_by ls (answer_by Err first_of o) ≡ answer_by Err (next_test ls) o
      go (refused r) = refl
      go (gives []) = refl
      go (gives (p ∷ ps)) = refl

  pub test_refused : (r : Refusal) → Err r ≡ pair_at ls g t b → Err r ≡ test_at ls g t b
  unfolding test_by
  test_refused r e = ap (test_by ls) e ∙ test_by_lem

  pub test_end : (Ok None) ≡ pair_at ls g t b → (Ok None) ≡ test_at ls g t b
  unfolding test_by
  test_end e = ap (test_by ls) e ∙ test_by_lem

  module _ (pl : Place) (x y : ℕ) (e : Ok (Some (record { place = pl; first = x; second = y })) ≡ pair_at ls g t b) where
    pub first_asks : t.lines ≡ count ls → LineAsks ls x
    first_asks l = let k = pair_lines ls g t b pl x y e in record { fine = k.fine; one = rw l at k.first }

    module _ (row : Row) (er : row ≡ row_of ls pl x) where
      pub second_asks : t.lines ≡ count ls → TestAsks ls row y
      second_asks l =
          let k = pair_lines ls g t b pl x y e in
          record { row_fits = record { fine = k.fine; held = rw er }; one = rw l at k.second }

      pub test_made : (v : Test) → v ≡ test_of ls (pair row.place row.first y) → Ok (Some v) ≡ test_at ls g t b
      unfolding test_by
      test_made v d = ap {B = Result (Option Test) Refusal} (λ (w : Test). Ok (Some w)) (d ∙ rw er) ∙ ap (test_by ls) e ∙ test_by_lem

-- ---- a batch

-- two slices of one length, and of two
module _ (xs ys : List ℕ) where
  pub outputs_alike : length xs ≡ length ys → outputs_check xs ys ≡ Ok tt
  unfolding outputs_check unless
  outputs_alike e = rw (eq-eqb (length xs) (length ys) e)

  pub outputs_unlike : (length xs ≡ length ys → ⊥) → outputs_check xs ys ≡ Err (refusal 3 0)
  unfolding outputs_check unless
  outputs_unlike e = rw (ne_eqb (length xs) (length ys) e)

  pub places_alike : length xs ≡ length ys → places_check xs ys ≡ Ok tt
  unfolding places_check unless
  places_alike e = rw (eq-eqb (length xs) (length ys) e)

  pub places_unlike : (length xs ≡ length ys → ⊥) → places_check xs ys ≡ Err (refusal 3 0)
  unfolding places_check unless
  places_unlike e = rw (ne_eqb (length xs) (length ys) e)

-- a batch that was made: its tests are those from the bookmark on
module _ {ls : Lines} {g : Grid} {t : Tables} {b : ℕ} {fs ss fs' ss' : List ℕ} {a : Tally} (h : BatchIs ls g t b fs ss fs' ss' (Ok a)) where
  rest_is : (ps : List Pair) → batch_tests ls g t b fs ss ≡ gives ps → batch_tests ls g t b fs ss ≡ gives (drop b (tests_of t))
  unfolding batch_tests tests_from
  rest_is ps e =
      let u = then_passed (outputs_check fs ss) _ e in
      let v = then_passed (visit_check ls g t) _ u.1 in
      let w = then_passed (bookmark_check t b) _ v.1 in
      e ∙ sym w.1

  pub batch_given : batch_tests ls g t b fs ss ≡ gives (drop b (tests_of t))
  unfolding batch_answer batch_of answer_by
  batch_given = go (batch_tests ls g t b fs ss) refl h.answers
    where
      go : (o : Answer (List Pair)) → batch_tests ls g t b fs ss ≡ o → Ok a ≡ batch_of ls b (length fs) o → batch_tests ls g t b fs ss ≡ gives (drop b (tests_of t))
      go (refused r) e d = absurd (let z : ◌≡◌ {A = ℕ} 0 1 = cc in omega arith)
      go (gives ps) e d = rest_is ps e

  pub tally_given : a ≡ tally_of ls (drop b (tests_of t)) b (length fs)
  unfolding batch_answer batch_of answer_by
  tally_given = same (h.answers ∙ rw batch_given)
    where
      same : {x y : Tally} → ◌≡◌ {A = Result Tally Refusal} (Ok x) (Ok y) → x ≡ y
      same e = cc

module _ (ls : Lines) (g : Grid) (t : Tables) (b : ℕ) (fs ss ps : List ℕ) where
  none : (r : Refusal) → batch_tests ls g t b fs ss ≡ refused r → clears r.number ≡ false → BatchMade ls g t b fs ss ps fs ss ps (Err r)
  unfolding batch_answer batch_of pairs_left answer_by left_in
  none r e k =
      record {
        is = record { answers = rw e; first_is = rw e (sym (left_same 0 r fs k)); second_is = rw e (sym (left_same 0 r ss k)) };
        places_are = λ l. rw e (sym (left_same 0 r ps k));
      }

  pub batch_unlike : (r : Refusal) → outputs_check fs ss ≡ Err r → BatchMade ls g t b fs ss ps fs ss ps (Err r)
  unfolding batch_tests outputs_check clears
  batch_unlike r e = none r (then_refused _ _ r e) ((clearing_unless _ 3 0 refl).says r e)

  module _ (same : outputs_check fs ss ≡ (Ok tt)) where
    tests : batch_tests ls g t b fs ss ≡ tests_from ls g t b
    unfolding batch_tests
    tests = then_fine _ _ same

    pub batch_refused : (r : Refusal) → from_check ls g t b ≡ Err r → BatchMade ls g t b fs ss ps fs ss ps (Err r)
    batch_refused r e = none r (tests ∙ from_none ls g t b r e) ((from_spares ls g t b).says r e)

    module _ (c : Cursor) (k : CursorIs ls g t b c) (fs₁ ss₁ ps₁ : List ℕ) (r : Ran) (w : RanAll ls t c fs ss ps fs₁ ss₁ ps₁ r) where
      rest : List Pair
      rest = drop b (tests_of t)

      given : batch_tests ls g t b fs ss ≡ gives rest
      unfolding rest
      given = tests ∙ from_cursor ls g t b c k

      tests_is : r.tests ≡ length (made ls rest (length fs))
      unfolding rest
      tests_is = w.tests ∙ rw k.rest

      hits_is : r.hits ≡ length (handed ls rest (length fs))
      unfolding rest
      hits_is = w.hits ∙ rw k.rest

      first_is : take r.hits fs₁ ≡ firsts (handed ls rest (length fs))
      unfolding rest
      first_is = w.first_is ∙ rw k.rest

      second_is : take r.hits ss₁ ≡ seconds (handed ls rest (length fs))
      unfolding rest
      second_is = w.second_is ∙ rw k.rest

      places_is : length ps ≡ length fs → take r.hits ps₁ ≡ place_numbers (number_of t) (handed ls rest (length fs))
      unfolding rest
      places_is l = w.places_are l ∙ rw k.rest

      -- an output that is cleared from the hits on holds what is written, and zero beyond
      cleared : (xs ys out : List ℕ) (n : ℕ) → ys ≡ cleared_from r.hits xs → take r.hits xs ≡ out → length xs ≡ n → length out ≡ r.hits
          → ys ≡ zero_beyond 0 n out
      unfolding cleared_from zero_beyond
      cleared xs ys out n e p l h = e ∙ rw (p, l, h)

      pub batch_done : (fs₂ ss₂ ps₂ : List ℕ) → fs₂ ≡ cleared_from r.hits fs₁ → ss₂ ≡ cleared_from r.hits ss₁ → ps₂ ≡ cleared_from r.hits ps₁
          → BatchMade ls g t b fs ss ps fs₂ ss₂ ps₂ (Ok (record { tests = r.tests; overlaps = r.hits; bookmark = b + r.tests }))
      unfolding batch_answer batch_of pairs_left answer_by left_in rest
      batch_done fs₂ ss₂ ps₂ p q o =
          record {
            is = record {
              answers = rw (given, tests_is, hits_is);
              first_is = rw given (cleared fs₁ fs₂ (firsts (handed ls rest (length fs))) (length fs) p first_is w.first_long (length-map (handed ls rest (length fs)) (λ (x : Pair). x.first) ∙ sym hits_is));
              second_is = rw given (cleared ss₁ ss₂ (seconds (handed ls rest (length fs))) (length ss) q second_is w.second_long (length-map (handed ls rest (length fs)) (λ (x : Pair). x.second) ∙ sym hits_is));
            };
            places_are = λ l. rw given (cleared ps₁ ps₂ (place_numbers (number_of t) (handed ls rest (length fs))) (length ps) o (places_is l) w.place_long (length-map (handed ls rest (length fs)) (λ (x : Pair). number_of t x.place) ∙ sym hits_is));
          }

  -- ---- a batch with places: 3 where their slice has another length, and else the batch that was made

  pub placed_unlike : (r : Refusal) → places_check fs ps ≡ Err r → PlacedBatchIs ls g t b fs ss ps fs ss ps (Err r)
  unfolding placed_tests places_check batch_of pairs_left answer_by left_in clears
  placed_unlike r e =
      let x : placed_tests ls g t b fs ss ps ≡ refused r = then_refused _ _ r e in
      let k : clears r.number ≡ false = (clearing_unless _ 3 0 refl).says r e in
      record { answers = rw x; first_is = rw x (sym (left_same 0 r fs k)); second_is = rw x (sym (left_same 0 r ss k)); places_are = rw x (sym (left_same 0 r ps k)) }

  pub placed_made : places_check fs ps ≡ (Ok tt) → (fs' ss' ps' : List ℕ) (r : (Result Tally Refusal)) → BatchMade ls g t b fs ss ps fs' ss' ps' r → PlacedBatchIs ls g t b fs ss ps fs' ss' ps' r
  unfolding placed_tests places_check batch_answer
  placed_made e fs' ss' ps' r m =
      let x : placed_tests ls g t b fs ss ps ≡ batch_tests ls g t b fs ss = then_fine _ _ e in
      let l : length ps ≡ length fs = sym (eqb-true (length fs) (length ps) (unless_fine _ _ _ e)) in
      record { answers = rw x m.is.answers; first_is = rw x m.is.first_is; second_is = rw x m.is.second_is; places_are = rw x (m.places_are l) }

module _ (ls : Lines) (g : Grid) (offsets items globals : List ℕ) (m : ℕ) (b : ℕ) (c : Cursor)
    (k : CursorIs ls g (beside ls g offsets items globals m) b c) (fs ss ps : List ℕ) where
  total : length (tests_of (beside ls g offsets items globals m)) < 2 ^ 64
  total = total_fits ls g offsets items globals m (here ls g offsets items globals m k.ready.fine)

  left : length (rest_of (beside ls g offsets items globals m) c) ≡ length (tests_of (beside ls g offsets items globals m)) - b
  left = ap length k.rest ∙ length-drop b (tests_of (beside ls g offsets items globals m))

  pub run_asks : outputs_check fs ss ≡ (Ok tt) → RunAsks ls g (beside ls g offsets items globals m) c fs ss
  unfolding outputs_check
  run_asks e = record { ready = k.ready; same = sym (eqb-true (length fs) (length ss) (unless_fine _ _ _ e)); small = omega (arith, left, total) }

  pub bookmark_fits : (fs₁ ss₁ ps₁ : List ℕ) (r : Ran) → RanAll ls (beside ls g offsets items globals m) c fs ss ps fs₁ ss₁ ps₁ r → b + r.tests < 2 ^ 64
  bookmark_fits fs₁ ss₁ ps₁ r w = omega (arith, w.most, left, total, k.at_most)

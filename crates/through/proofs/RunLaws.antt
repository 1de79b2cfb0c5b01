-- What a run is refused for, case by case, and what it comes to. Assumes nothing.
use Rattle.std.specs.Prelude.{Ok, Err, None, Option}
use Rattle.refusals.specs.Refusals.{Check}
use mathlib.Core.Path.{◌≡◌, refl, sym, ap, ◌∙◌}
use mathlib.Core.Bool.{true, false}
use mathlib.Core.List.{List, [], append-nil}
use Prim.Native.Nat.{ℕ, ◌+◌, ◌-◌, ◌≤◌, ◌<◌, min}
use native.Mathlib.Nat.{sub-zero}
use native.Mathlib.Omega.{arith}
use lib.ListN.{length, take, length-map}
use lib.Seq.{length-take-le}
use lib.Ieee.{Float}
use lib.Dec.{eqb, leb}
use borrow.Author.Tests.{eqb-true, leb-true, lt-ltb, le-ltb}
use Rattle.refusals.specs.declared.Refusal.{Refusal}
use Rattle.refusals.specs.Refusals.{unless, zero_beyond}
use Rattle.refusals.proofs.Checks.{unless_fine, and_then_refused, and_then_fine, and_then_left, and_then_right}
use Rattle.slices.specs.Slices.{cleared_from}
use Rattle.grid.specs.Domain.{Lines, count, lengths_check, count_check}
use Rattle.grid.proofs.Fine.{lengths_fine}
use Rattle.seek.specs.Tests.{Pair}
use Rattle.visit.specs.Batches.{made, handed, firsts, seconds}
use Rattle.visit.specs.Entries.{outputs_check}
use Rattle.visit.proofs.Clauses.{made_none, handed_none}
use Rattle.visit.proofs.Moves.{none_made, none_handed}
use Rattle.listed.specs.declared.CellAt.{CellAt}
use Rattle.through.specs.declared.CellsMade.{CellsMade}
use Rattle.through.specs.declared.rows.CellsRan.{CellsRan}
use Rattle.listed.specs.Lists.{list_by, cells_from}
use Rattle.listed.specs.Places.{LeftAt}
use Rattle.through.specs.Runs.{outputs_lines_check, within_fit, also_if, runs, run_tests, CellsMadeIs}
use Rattle.through.specs.Inside.{Goes, CellsAsk, CellsRanIs, GoAsks, GoneIs}
use Rattle.through.proofs.Bounds.{cells_few}

-- ---- the check

module _ (ls : Lines) (first second : List ℕ) where
  pub lent_outputs : (r : Refusal) → unless (eqb (length first) (length second)) 3 0 ≡ Err r → Err r ≡ outputs_lines_check ls first second
  unfolding outputs_lines_check outputs_check
  lent_outputs r e = sym (and_then_refused _ _ r e)

  module _ (a : unless (eqb (length first) (length second)) 3 0 ≡ (Ok tt)) where
    pub lent_lengths : (r : Refusal) → lengths_check ls ≡ Err r → Err r ≡ outputs_lines_check ls first second
    unfolding outputs_lines_check outputs_check
    lent_lengths r e = sym (and_then_fine _ _ a ∙ and_then_refused _ _ r e)

    pub lent_count : lengths_check ls ≡ (Ok tt) → count_check (count ls) ≡ outputs_lines_check ls first second
    unfolding outputs_lines_check outputs_check
    lent_count e = sym (and_then_fine _ _ a ∙ and_then_fine _ _ e)

  pub lent_fine : outputs_lines_check ls first second ≡ (Ok tt) → (m : ℕ) → m ≤ 1002001 → GoAsks ls m first second
  unfolding outputs_lines_check outputs_check count_check
  lent_fine h m most =
      let o = and_then_left _ _ h in
      let b = and_then_right _ _ h in
      record {
        alike = lengths_fine ls (and_then_left _ _ b);
        few = leb-true (count ls) 65536 (unless_fine (leb (count ls) 65536) 2 (count ls) (and_then_right _ _ b));
        same = sym (eqb-true (length first) (length second) (unless_fine (eqb (length first) (length second)) 3 0 o));
        most = most;
      }

-- ---- a run that goes through all of some tests

module _ (ls : Lines) (C C' : List Pair) (t : ℕ) (fs ss fs₁ ss₁ : List ℕ) (h : ℕ) (g : Goes ls C C' t (length fs) fs ss 0 fs₁ ss₁ h) (e : h < length fs → C' ≡ []) where
  all_firsts : take h fs₁ ≡ firsts (handed ls C (length fs))
  all_firsts = sym (rw sub-zero at g.moved.firsts_are ∙ rw (none_handed ls (length fs) C' h e) (append-nil (take h fs₁)))

  all_seconds : take h ss₁ ≡ seconds (handed ls C (length fs))
  all_seconds = sym (rw sub-zero at g.moved.seconds_are ∙ rw (none_handed ls (length fs) C' h e) (append-nil (take h ss₁)))

  all_tests : t ≡ length (made ls C (length fs))
  all_tests =
      let x : length (made ls C (length fs)) ≡ t + length (made ls C' (length fs - h)) = rw sub-zero at g.moved.made_is in
      let y : length (made ls C' (length fs - h)) ≡ 0 = rw (none_made ls (length fs) C' h e) in
      omega arith

  all_hits : h ≡ length (handed ls C (length fs))
  all_hits =
      sym (length-take-le h fs₁ (omega (arith, g.moved.in_room, g.moved.first_long)))
      ∙ ap length all_firsts ∙ length-map (handed ls C (length fs)) (λ (p : Pair). p.first)

pub cleared : (xs ys out : List ℕ) (n hits : ℕ) → ys ≡ cleared_from hits xs → take hits xs ≡ out → length xs ≡ n → length out ≡ hits → ys ≡ zero_beyond 0 n out
unfolding cleared_from zero_beyond
cleared xs ys out n hits e p l h = e ∙ rw (p, l, h)

-- ---- with room for boxes and bytes

module _ (ls : Lines) (cols m : ℕ) (offsets items : List ℕ) (cell i j : ℕ) (fs ss : List ℕ) (a : GoAsks ls m fs ss) where
  pub go_cells : (bs : List Float) (marks : List ℕ) → 2052 ≤ length bs → 512 ≤ length marks → CellsAsk ls cols m offsets items cell i j bs marks fs ss
  go_cells bs marks h k =
      record {
        lent = record { alike = a.alike; same = a.same; in_room = omega arith };
        scratch = record { boxes = record { few = omega arith; long = h }; bytes = k };
        small = omega (arith, cells_few (count ls) a.few offsets items cols m cell i j a.most);
      }

  module _ (fs₁ ss₁ : List ℕ) (r : CellsRan) (w : CellsRanIs ls cols m offsets items cell i j fs ss fs₁ ss₁ r) where
    C : List Pair
    C = cells_from cols (list_by (count ls) offsets items) (m - cell) cell i j

    C' : List Pair
    C' = cells_from cols (list_by (count ls) offsets items) (m - r.cell) r.cell r.i r.j

    goes : Goes ls C C' r.tests (length fs) fs ss 0 fs₁ ss₁ r.hits
    unfolding C C'
    goes = rw (append-nil, append-nil) at (w.goes [])

    ends : r.hits < length fs → C' ≡ []
    unfolding C'
    ends = w.ends

    pub go_first_long : length fs₁ ≡ length fs
    go_first_long = goes.moved.first_long

    pub go_second_long : length ss₁ ≡ length ss
    go_second_long = goes.moved.second_long

    pub go_is : (fs₂ ss₂ : List ℕ) (n : ℕ) (at : (Option CellAt)) → fs₂ ≡ cleared_from r.hits fs₁ → ss₂ ≡ cleared_from r.hits ss₁ → n ≡ count ls
        → ((cs : ℕ) → LeftAt cs n m offsets items (cells_from cs (list_by n offsets items) (m - r.cell) r.cell r.i r.j) at)
        → GoneIs ls cols m offsets items cell i j fs ss fs₂ ss₂ (record { tests = r.tests; overlaps = r.hits; at = at })
    unfolding C C'
    go_is fs₂ ss₂ n at ef es en f =
        let hits : r.hits ≡ length (handed ls C (length fs)) = all_hits ls C C' r.tests fs ss fs₁ ss₁ r.hits goes ends in
        record {
          tests = all_tests ls C C' r.tests fs ss fs₁ ss₁ r.hits goes ends;
          overlaps = hits;
          at = rw (sym goes.left) (rw en at (f cols));
          first_is = cleared fs₁ fs₂ (firsts (handed ls C (length fs))) (length fs) r.hits ef (all_firsts ls C C' r.tests fs ss fs₁ ss₁ r.hits goes ends) go_first_long
              (length-map (handed ls C (length fs)) (λ (p : Pair). p.first) ∙ sym hits);
          second_is = cleared ss₁ ss₂ (seconds (handed ls C (length fs))) (length ss) r.hits es (all_seconds ls C C' r.tests fs ss fs₁ ss₁ r.hits goes ends) go_second_long
              (length-map (handed ls C (length fs)) (λ (p : Pair). p.second) ∙ sym hits);
        }

-- ---- whether it is made

also_none : (k : Check) → also_if k false ≡ false
unfolding also_if
also_none (Ok _) = refl
also_none (Err r) = refl

module _ (ls : Lines) (cols m : ℕ) (offsets items : List ℕ) (cell i j : ℕ) (fs ss : List ℕ) where
  pub runs_beyond : within_fit m ≤ cell → runs ls m cell fs ss ≡ false
  unfolding runs
  runs_beyond h = rw (le-ltb cell (within_fit m) h) (also_none (outputs_lines_check ls fs ss))

  pub runs_refused : (r : Refusal) → outputs_lines_check ls fs ss ≡ Err r → runs ls m cell fs ss ≡ false
  unfolding runs also_if
  runs_refused r e = rw e

  pub runs_fine : outputs_lines_check ls fs ss ≡ (Ok tt) → cell < within_fit m → runs ls m cell fs ss ≡ true
  unfolding runs also_if
  runs_fine e h = rw (e, lt-ltb cell (within_fit m) h)

  none_is : runs ls m cell fs ss ≡ false → CellsMadeIs ls cols m offsets items cell i j fs ss fs ss (record { tests = 0; overlaps = 0; at = None })
  unfolding run_tests
  none_is b =
      record {
        tests = rw (b, made_none);
        overlaps = rw (b, handed_none);
        at = rw b;
        first_is = rw b;
        second_is = rw b;
      }

  pub none_beyond : (most : ℕ) → most ≡ min m 1002001 → most ≤ cell → CellsMadeIs ls cols m offsets items cell i j fs ss fs ss (record { tests = 0; overlaps = 0; at = None })
  none_beyond most e h = none_is (runs_beyond (omega arith))

  pub none_refused : (r : Refusal) → outputs_lines_check ls fs ss ≡ Err r → CellsMadeIs ls cols m offsets items cell i j fs ss fs ss (record { tests = 0; overlaps = 0; at = None })
  none_refused r e = none_is (runs_refused r e)

  pub run_gone : outputs_lines_check ls fs ss ≡ (Ok tt) → (most : ℕ) → most ≡ min m 1002001 → cell < most → (fs' ss' : List ℕ) (r : CellsMade) → GoneIs ls cols most offsets items cell i j fs ss fs' ss' r
      → CellsMadeIs ls cols m offsets items cell i j fs ss fs' ss' r
  unfolding run_tests
  run_gone k most e h fs' ss' r g =
      let b : runs ls m cell fs ss ≡ true = runs_fine k (omega arith) in
      let w : GoneIs ls cols (within_fit m) offsets items cell i j fs ss fs' ss' r = rw e at g in
      record {
        tests = rw b w.tests;
        overlaps = rw b w.overlaps;
        at = rw b w.at;
        first_is = rw b w.first_is;
        second_is = rw b w.second_is;
      }

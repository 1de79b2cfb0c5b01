-- Nobody who visits standing tables, beside lines that pass their checks, is refused: neither by 8 or 10, nor by anything else while the
-- bookmark is within the total. Of any walk. Assumes nothing.
use Rattle.std.specs.Prelude.{Ok, Err, Some, None, Result}
use Rattle.refusals.specs.declared.Refusal.{Refusal}
use Rattle.refusals.specs.Refusals.{Check}
use Rattle.visit.specs.declared.Tally.{Tally}
use mathlib.Core.Path.{◌≡◌, refl, sym, ap, ◌∙◌}
use mathlib.Core.List.{List}
use Prim.Native.Nat.{ℕ, ◌≤◌, ◌<◌}
use native.Mathlib.Omega.{arith}
use borrow.Author.Tests.{le-leb, eq-eqb}
use lib.ListN.{length, get_or, drop, drop_of_length-le}
use lib.Seq.{drop-cons}
use Rattle.refusals.specs.Refusals.{unless, and_then, gives, ◌then◌, answer_by}
use Rattle.refusals.proofs.Answers.{then_fine}
use Rattle.grid.specs.declared.Grid.{Grid}
use Rattle.grid.specs.Domain.{Lines, count, count_check, lines_check, grid_check}
use Rattle.tables.specs.Tables.{Tables, beside}
use Rattle.tables.specs.Fit.{tables_check, standing_check}
use Rattle.tables.specs.Stands.{Stands}
use Rattle.tables.proofs.Facts.{facts_check}
use Rattle.tables.proofs.Standing.{lines_are}
use Rattle.seek.specs.declared.Place.{Place}
use Rattle.seek.specs.Tests.{Pair, tests_of}
use Rattle.seek.specs.Bookmarks.{visit_check, tests_from}
use Rattle.visit.specs.Entries.{outputs_check, test_of, next_test, test_at, batch_tests, batch_of, batch_answer, tally_of, BatchIs}
use Rattle.seek.proofs.FindLaws.{book_in}
use Rattle.seek.specs.Places.{place_check, list_check}

alone : (c : Check) → and_then c (and_then (Ok tt) (Ok tt)) ≡ c
unfolding and_then
alone (Ok _) = refl
alone (Err r) = refl

module _ {W : ℕ → List ℕ} {n : ℕ} {g : Grid} {t : Tables} (s : Stands W n g t) where
  -- NEVER 8
  pub never_unfit : grid_check g ≡ Ok tt
  unfolding grid_check unless
  never_unfit = rw s.grid_fit

  -- NEVER 10
  pub never_misfit : tables_check t ≡ Ok tt
  never_misfit = facts_check t s.tables_fit_lem

  -- beside any lines only the lines themselves can be refused: by 3, 2 or 1
  pub lines_alone : (ls : Lines) → visit_check ls g t ≡ lines_check ls
  unfolding visit_check
  lines_alone ls = rw (never_unfit, never_misfit) (alone (lines_check ls))

  -- the same of a call that is lent the slices, beside as many lines as stand in them
  pub only_lines : (ls : Lines) → count ls ≡ n → visit_check ls g (beside ls g t.offsets t.items t.globals t.global_count) ≡ lines_check ls
  only_lines ls e =
      let k : t ≡ beside ls g t.offsets t.items t.globals t.global_count = rw e s.on_grid in
      ap (visit_check ls g) (sym k) ∙ lines_alone ls

  -- the list of a place within its end is given
  pub list_given : (pl : Place) → place_check g t.global_count pl ≡ (Ok tt) → list_check g t pl ≡ Ok tt
  unfolding list_check standing_check count_check unless and_then
  list_given pl h =
      let k : t.lines ≤ 65536 = omega (arith, lines_are s, s.few) in
      rw (le-leb t.lines 65536 k, never_unfit, never_misfit) h

-- beside lines that pass 3, 2 and 1
module _ {W : ℕ → List ℕ} {n : ℕ} {g : Grid} {t : Tables} (s : Stands W n g t) (ls : Lines) (passed : lines_check ls ≡ (Ok tt)) where
  -- nothing is refused
  pub visit_fine : visit_check ls g t ≡ Ok tt
  visit_fine = lines_alone s ls ∙ passed

  tests_given : (b : ℕ) → b ≤ length (tests_of t) → tests_from ls g t b ≡ gives (drop b (tests_of t))
  unfolding tests_from
  tests_given b l = then_fine _ _ visit_fine ∙ then_fine _ _ (book_in t b l)

  -- `test_at`, with a bookmark within the total, answers the test that stands there, or at the total the end mark
  pub test_given : (b : ℕ) → b ≤ length (tests_of t) → test_at ls g t b ≡ next_test ls (drop b (tests_of t))
  unfolding test_at answer_by
  test_given b l = rw (tests_given b l)

  -- BELOW THE TOTAL that is the test of this number
  pub answered : (b : ℕ) (p : Pair) → b < length (tests_of t) → test_at ls g t b ≡ Ok (Some (test_of ls (get_or (tests_of t) b p)))
  unfolding next_test
  answered b p l = test_given b (omega arith) ∙ rw (drop-cons (tests_of t) b p l)

  -- AT THE TOTAL it is the end mark
  pub ended : test_at ls g t (length (tests_of t)) ≡ Ok None
  unfolding next_test
  ended =
      test_given (length (tests_of t)) (omega arith)
      ∙ rw (drop_of_length-le (tests_of t) {i = length (tests_of t)} (omega arith))

  -- a batch into two outputs of one length, from a bookmark within the total, is made
  pub batch_made : {b : ℕ} {first second first' second' : List ℕ} {r : (Result Tally Refusal)} → BatchIs ls g t b first second first' second' r
      → length first ≡ length second → b ≤ length (tests_of t)
      → r ≡ Ok (tally_of ls (drop b (tests_of t)) b (length first))
  unfolding batch_answer batch_of answer_by batch_tests outputs_check unless ◌then◌
  batch_made {b} {first} {second} h e l = h.answers ∙ rw (eq-eqb (length first) (length second) e, tests_given b l)

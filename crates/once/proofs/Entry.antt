-- The entry: its refusals in their order, and the pairs. Assumes nothing.
use Rattle.std.specs.Prelude.{Ok, Err, Result}
use Rattle.refusals.specs.Refusals.{Check}
use mathlib.Core.Path.{◌≡◌, refl, sym, ap, ◌∙◌}
use mathlib.Core.List.{List}
use Prim.Native.Nat.{ℕ}
use native.Mathlib.Nat.{zero-add}
use lib.ListN.{length}
use Rattle.refusals.specs.declared.Refusal.{Refusal}
use Rattle.refusals.specs.Refusals.{and_then, Answer, gives, ◌then◌}
use Rattle.refusals.proofs.Checks.{and_then_fine, and_then_refused}
use Rattle.refusals.proofs.Answers.{then_fine, then_and_then}
use Rattle.grid.specs.declared.Grid.{Grid}
use Rattle.grid.specs.Domain.{Lines, lines_check}
use Rattle.grid.proofs.Fine.{lines_counted, lines_spare}
use Rattle.tables.specs.Tables.{Tables, beside}
use Rattle.tables.specs.Fit.{standing_check}
use Rattle.seek.specs.Tests.{Pair, tests_of}
use Rattle.visit.specs.Overlap.{overlap}
use Rattle.seek.specs.Bookmarks.{visit_check}
use Rattle.lent.specs.Lent.{begin_check, Begun, pairs_check, EndIs}
use Rattle.lent.proofs.Beginning.{begun_passed}
use Rattle.first_tests.specs.Firsts.{kept_by, keeps, first_tests, PairsAre}
use Rattle.once.specs.Once.{once_of, once_by}
use Rattle.first_tests.specs.InsideScan.{HandedOut}
use Rattle.first_tests.proofs.Ends.{pairs_stopped, pairs_end_lem}

module _ (ls : Lines) (g : Grid) (offsets items globals : List ℕ) (k : ℕ) (first second starts listing counts : List ℕ) where
  abbrev t : Tables
  t = beside ls g offsets items globals k

  abbrev end : Answer (List Pair)
  end = once_by ls g t first second starts listing counts

  -- 2 has passed with the lines: what is left of the tables' check is 8 and 10
  visit_is : (c : Check) → lines_check ls ≡ c → visit_check ls g t ≡ and_then (lines_check ls) (standing_check g t)
  unfolding visit_check standing_check
  visit_is (Ok _) h = ap (and_then (lines_check ls)) (sym (and_then_fine _ _ (lines_counted ls h)))
  visit_is (Err r) h = and_then_refused _ _ r h ∙ sym (and_then_refused _ _ r h)

  -- all checks but 5 come before the first test
  end_is : end ≡ (begin_check (lines_check ls) g t (length first) (length second) (length starts) (length listing) (length counts) then
      (pairs_check (length (once_of ls t)) (length first) then gives (once_of ls t)))
  unfolding once_by begin_check
  end_is = rw (visit_is (lines_check ls) refl) (sym (then_and_then _ _ _ ∙ rw then_and_then))

  module _ {checked r : Check} (h : checked ≡ lines_check ls) {starts₁ listing₁ counts₁ : List ℕ}
      (b : Begun checked g t (length first) (length second) starts listing counts r starts₁ listing₁ counts₁) where
    begun : Begun (lines_check ls) g t (length first) (length second) starts listing counts r starts₁ listing₁ counts₁
    begun = rw h at b

    pub once_stopped : (s : Refusal) → r ≡ Err s → PairsAre end first second starts listing counts (Err s) first second starts₁ listing₁ counts₁
    once_stopped s q = pairs_stopped begun s q (lines_spare ls) _ end_is

    pub once_done : r ≡ Ok tt → {counts₂ first₁ second₁ first₂ second₂ starts₂ listing₂ counts₃ : List ℕ} {hits : ℕ} {a : Result ℕ Refusal}
        → HandedOut (keeps (overlap ls) t) (tests_of t) first second 0 first₁ second₁ hits
        → length starts₁ ≡ length starts → length listing₁ ≡ length listing → length counts₂ ≡ length counts
        → EndIs hits first₁ second₁ starts₁ listing₁ counts₂ a first₂ second₂ starts₂ listing₂ counts₃
        → PairsAre end first second starts listing counts a first₂ second₂ starts₂ listing₂ counts₃
    unfolding once_of first_tests
    once_done e v qs ql qc d =
        pairs_end_lem (kept_by (keeps (overlap ls) t) (tests_of t)) first second starts listing counts (v.hits_are ∙ zero-add _) v.first_is v.second_is (begun_passed begun e).alike qs ql qc d
        (end_is ∙ then_fine _ _ (sym begun.answers ∙ e))

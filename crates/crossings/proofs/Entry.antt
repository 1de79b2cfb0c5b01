-- The entry: its refusals in their order, and the pairs. Assumes nothing.
use Rattle.std.specs.Prelude.{Ok, Err, Result}
use Rattle.refusals.specs.Refusals.{Check}
use mathlib.Core.Path.{◌≡◌, refl, sym, ap, ◌∙◌}
use mathlib.Core.List.{List}
use Prim.Native.Nat.{ℕ}
use native.Mathlib.Nat.{zero-add}
use lib.ListN.{length}
use Rattle.refusals.specs.declared.Refusal.{Refusal}
use Rattle.refusals.specs.Refusals.{and_then, Answer, gives, ◌then◌}
use Rattle.refusals.proofs.Checks.{and_then_fine, and_then_refused}
use Rattle.refusals.proofs.Answers.{then_fine, then_and_then}
use Rattle.grid.specs.declared.Grid.{Grid}
use Rattle.samples.specs.Samples.{Samples, sample_lines_check}
use Rattle.samples.specs.Sharing.{shares}
use Rattle.samples.proofs.Checking.{samples_counted, samples_spare}
use Rattle.tables.specs.Tables.{Tables}
use Rattle.tables.specs.Fit.{standing_check}
use Rattle.seek.specs.Tests.{Pair, tests_of}
use Rattle.lent.specs.Lent.{begin_check, Begun, pairs_check, EndIs}
use Rattle.lent.proofs.Beginning.{begun_passed}
use Rattle.first_tests.specs.Firsts.{kept_by, keeps, first_tests, PairsAre}
use Rattle.first_tests.specs.InsideScan.{HandedOut}
use Rattle.first_tests.proofs.Ends.{pairs_stopped, pairs_end_lem}
use Rattle.crossings.specs.Crossings.{beside_samples, crossings_of, crossings_check, crossings_by}

module _ (ss : Samples) (g : Grid) (offsets items globals : List ℕ) (k : ℕ) (first second starts listing counts : List ℕ) where
  abbrev t : Tables
  t = beside_samples ss g offsets items globals k

  abbrev end : Answer (List Pair)
  end = crossings_by ss g t first second starts listing counts

  -- 2 has passed with the lines: what is left of the tables' check is 8 and 10
  check_is : (c : Check) → sample_lines_check ss ≡ c → crossings_check ss g t ≡ and_then (sample_lines_check ss) (standing_check g t)
  unfolding crossings_check standing_check
  check_is (Ok _) h = ap (and_then (sample_lines_check ss)) (sym (and_then_fine _ _ (samples_counted ss h)))
  check_is (Err r) h = and_then_refused _ _ r h ∙ sym (and_then_refused _ _ r h)

  -- all checks but 5 come before the first test
  end_is : end ≡ (begin_check (sample_lines_check ss) g t (length first) (length second) (length starts) (length listing) (length counts) then
      (pairs_check (length (crossings_of ss t)) (length first) then gives (crossings_of ss t)))
  unfolding crossings_by begin_check
  end_is = rw (check_is (sample_lines_check ss) refl) (sym (then_and_then _ _ _ ∙ rw then_and_then))

  module _ {checked r : Check} (h : checked ≡ sample_lines_check ss) {starts₁ listing₁ counts₁ : List ℕ}
      (b : Begun checked g t (length first) (length second) starts listing counts r starts₁ listing₁ counts₁) where
    begun : Begun (sample_lines_check ss) g t (length first) (length second) starts listing counts r starts₁ listing₁ counts₁
    begun = rw h at b

    pub crossings_stopped : (s : Refusal) → r ≡ Err s → PairsAre end first second starts listing counts (Err s) first second starts₁ listing₁ counts₁
    crossings_stopped s q = pairs_stopped begun s q (samples_spare ss) _ end_is

    pub crossings_done : r ≡ Ok tt → {counts₂ first₁ second₁ first₂ second₂ starts₂ listing₂ counts₃ : List ℕ} {hits : ℕ} {a : Result ℕ Refusal}
        → HandedOut (keeps (shares ss) t) (tests_of t) first second 0 first₁ second₁ hits
        → length starts₁ ≡ length starts → length listing₁ ≡ length listing → length counts₂ ≡ length counts
        → EndIs hits first₁ second₁ starts₁ listing₁ counts₂ a first₂ second₂ starts₂ listing₂ counts₃
        → PairsAre end first second starts listing counts a first₂ second₂ starts₂ listing₂ counts₃
    unfolding crossings_of first_tests
    crossings_done e v qs ql qc d =
        pairs_end_lem (kept_by (keeps (shares ss) t) (tests_of t)) first second starts listing counts (v.hits_are ∙ zero-add _) v.first_is v.second_is (begun_passed begun e).alike qs ql qc d
        (end_is ∙ then_fine _ _ (sym begun.answers ∙ e))

-- WHAT IS LISTED: of any tables, a call lists two lines that share a point once if they are tested, and no others. Assumes nothing.
use Rattle.std.specs.Prelude.{Ok}
use mathlib.Core.Path.{◌≡◌, refl, sym, ◌∙◌}
use mathlib.Core.Bool.{Bool, true, false, ◌&&◌}
use mathlib.Core.List.{List}
use Prim.Native.Nat.{ℕ, ◌<◌}
use native.Mathlib.Omega.{arith}
use borrow.Author.Tests.{lt-ltb}
use lib.Dec.{ltb}
use lib.ListN.{take, length-map}
use Rattle.refusals.specs.Refusals.{Answer, gives}
use Rattle.refusals.proofs.Checks.{and_then_left, and_then_right}
use Rattle.refusals.proofs.Answers.{then_passed}
use Rattle.grid.specs.declared.Grid.{Grid}
use Rattle.grid.specs.Points.{WholeShare}
use Rattle.tables.specs.Tables.{Tables}
use Rattle.tables.specs.Fit.{TablesFit}
use Rattle.tables.proofs.Facts.{check_facts}
use Rattle.seek.specs.Tests.{Pair, tests_of}
use Rattle.visit.specs.Batches.{firsts, seconds}
use Rattle.visit.specs.Words.{one_where, times}
use Rattle.visit.proofs.Often.{one_true, one_false}
use Rattle.once_laws.proofs.Once.{each_once}
use Rattle.samples.specs.Samples.{Samples, sample_count, whole_at, raised_at, all_samples, sample_lines_check}
use Rattle.samples.specs.Sharing.{sharing, shares}
use Rattle.samples.proofs.Checking.{sample_lines_fine}
use Rattle.samples.proofs.Both.{sharing_swap, exact, shared}
use Rattle.crossings.specs.Crossings.{crossings_of, crossings_check, crossings_by}
use Rattle.demands.proofs.Once.{given, front}
use Rattle.demands.proofs.Handed.{pairs_times}
use Rattle.crossings_laws.specs.Words.{Crossing, CrossingsCall, listed_in, ListsCrossings}

shares_swap : (ss : Samples) (a b : ℕ) → shares ss a b ≡ shares ss b a
unfolding shares
shares_swap ss a b = sharing_swap (raised_at ss a) (raised_at ss b)

module _ {ss : Samples} {g : Grid} {t : Tables} (c : CrossingsCall ss g t) where
  record CallSays : Type 0 where
    passed : crossings_check ss g t ≡ Ok tt
    often : (a b : ℕ) → listed_in a b c ≡ times a b (crossings_of ss t)

  call_says : CallSays
  unfolding crossings_by
  call_says =
      given (crossings_by ss g t c.«lent-first» c.«lent-second» c.starts c.listing c.counts) c.number c.says.answers CallSays
      (λ ps e n.
      let u = then_passed _ _ e in
      let v = then_passed _ _ u.1 in
      let w = then_passed _ _ v.1 in
      let s : crossings_of ss t ≡ ps = same w.1 in
      let p : take c.number c.first ≡ firsts ps = front firsts _ ps c.«lent-first» c.first c.number e c.says.first_is (n ∙ sym (length-map ps (λ (p : Pair). p.first))) in
      let q : take c.number c.second ≡ seconds ps = front seconds _ ps c.«lent-second» c.second c.number e c.says.second_is (n ∙ sym (length-map ps (λ (p : Pair). p.second))) in
      record { passed = v.0; often = λ a b. rw (p, q, pairs_times a b ps, s) })
    where
      same : {xs ys : List Pair} → ◌≡◌ {A = Answer (List Pair)} (gives xs) (gives ys) → xs ≡ ys
      same d = cc

  samples_fine : sample_lines_check ss ≡ Ok tt
  unfolding crossings_check
  samples_fine = and_then_left _ _ call_says.passed

  tables_fit_lem : TablesFit t
  unfolding crossings_check
  tables_fit_lem = check_facts t (and_then_right _ _ (and_then_right _ _ call_says.passed))

  -- as often as the definition of the crossings has it
  often_is : (a b : ℕ) → listed_in a b c ≡ one_where (shares ss a b && ltb 0 (times a b (tests_of t)))
  unfolding crossings_of
  often_is a b = call_says.often a b ∙ (each_once t tables_fit_lem (shares ss) (shares_swap ss)).once a b

  fits : (a : ℕ) → a < sample_count ss → all_samples (whole_at ss a) ≡ true
  fits a l = (sample_lines_fine ss samples_fine).each a l

  listed_once : (a b : ℕ) → Crossing ss a b → 0 < times a b (tests_of t) → listed_in a b c ≡ 1
  unfolding shares
  listed_once a b x k =
      let e : sharing (raised_at ss a) (raised_at ss b) ≡ true = shared (whole_at ss a) (whole_at ss b) (fits a x.first) (fits b x.second) x.point in
      often_is a b ∙ rw (e, lt-ltb 0 (times a b (tests_of t)) k) one_true

  listed_shares : (a b : ℕ) → a < sample_count ss → b < sample_count ss → 0 < listed_in a b c → WholeShare (whole_at ss a) (whole_at ss b)
  unfolding shares
  listed_shares a b l m k = go (sharing (raised_at ss a) (raised_at ss b)) refl
    where
      go : (x : Bool) → sharing (raised_at ss a) (raised_at ss b) ≡ x → WholeShare (whole_at ss a) (whole_at ss b)
      go true e = (exact (whole_at ss a) (whole_at ss b) (fits a l) (fits b m)).says_yes e
      go false e = let z : listed_in a b c ≡ 0 = often_is a b ∙ rw e one_false in absurd (omega arith)

pub lists_crossings : (ss : Samples) (g : Grid) (t : Tables) → ListsCrossings ss g t
lists_crossings ss g t = record { once = λ c a b x k. listed_once c a b x k; only = λ c a b l m k. listed_shares c a b l m k }

-- EACH PAIR ONCE: a call of `once::pairs_once` hands out what a full visit hands out, each pair once, of any tables; and after a build in the
-- covering mode, or one followed by lines added in it, any two lines that share an exact point. Assumes nothing.
use Rattle.std.specs.Prelude.{Ok, Err, Result}
use mathlib.Core.Path.{◌≡◌, refl, sym, ◌∙◌}
use mathlib.Core.List.{List}
use Prim.Native.Nat.{ℕ, ◌-◌}
use native.Mathlib.Omega.{arith}
use borrow.Author.Tests.{lt-ltb}
use lib.Dec.{ltb}
use lib.ListN.{length, take, replicate, length-map}
use lib.Seq.{take-append_seam}
use Rattle.refusals.specs.declared.Refusal.{Refusal}
use Rattle.refusals.specs.Refusals.{Answer, refused, gives, answer_by, left_in, zero_beyond}
use Rattle.refusals.proofs.Answers.{then_passed}
use Rattle.grid.specs.declared.Grid.{Grid}
use Rattle.grid.specs.Domain.{Lines}
use Rattle.tables.specs.Tables.{Tables}
use Rattle.walk.specs.declared.Mode.TheVariants.{Covering}
use Rattle.seek.specs.Tests.{Pair, tests_of}
use Rattle.visit.specs.Batches.{overlapping, firsts, seconds}
use Rattle.seek.specs.Bookmarks.{visit_check}
use Rattle.seek.proofs.Standing.{stands}
use Rattle.visit.specs.Words.{one_where, times}
use Rattle.visit.proofs.Often.{one_true, handed_often}
use Rattle.once.specs.Once.{once_of, once_by}
use Rattle.once_laws.proofs.Once.{once_as_visit}
use Rattle.demands.specs.Grown.{Grown}
use Rattle.demands.specs.Once.{OnceCall, once_out, VisitOnce, CrossingsOnce}
use Rattle.demands.proofs.Calls.{visit_firsts, visit_seconds}
use Rattle.demands.proofs.Handed.{pairs_times}
use Rattle.demands.proofs.Points.{nothing_dropped, crossings_overlap}

-- a number of pairs is no refusal
pub given : (end : Answer (List Pair)) (n : ℕ) → Ok n ≡ answer_by Err (λ ps. Ok (length ps)) end
    → (C : Type 0) → ((ps : List Pair) → end ≡ gives ps → n ≡ length ps → C) → C
unfolding answer_by
given (gives ps) n h C go = go ps refl (same h)
  where
    same : {m k : ℕ} → ◌≡◌ {A = Result ℕ Refusal} (Ok m) (Ok k) → m ≡ k
    same d = cc
given (refused r) n h C go = apart h
  where
    apart : ◌≡◌ {A = Result ℕ Refusal} (Ok n) (Err r) → C
    apart d = let z : ◌≡◌ {A = ℕ} 0 1 = cc in absurd (omega arith)

-- the front of an output is what was written
pub front : (side : List Pair → List ℕ) (end : Answer (List Pair)) (ps : List Pair) (was now : List ℕ) (k : ℕ)
    → end ≡ gives ps → now ≡ left_in 0 was end (λ qs. zero_beyond 0 (length was) (side qs)) → k ≡ length (side ps) → take k now ≡ side ps
unfolding left_in zero_beyond
front side end ps was now k e h n = rw (n, h, e) (take-append_seam (side ps) (replicate (length was - length (side ps)) 0))

module _ {ls : Lines} {g : Grid} {t : Tables} (c : OnceCall ls g t) where
  record CallSays : Type 0 where
    passed : visit_check ls g t ≡ Ok tt
    often : (a b : ℕ) → once_out a b c ≡ times a b (once_of ls t)

  call_says : CallSays
  unfolding once_by
  call_says =
      given (once_by ls g t c.«lent-first» c.«lent-second» c.starts c.listing c.counts) c.number c.says.answers CallSays
      (λ ps e n.
      let u = then_passed _ _ e in
      let v = then_passed _ _ u.1 in
      let w = then_passed _ _ v.1 in
      let s : once_of ls t ≡ ps = same w.1 in
      let p : take c.number c.first ≡ firsts ps = front firsts _ ps c.«lent-first» c.first c.number e c.says.first_is (n ∙ sym (length-map ps (λ (p : Pair). p.first))) in
      let q : take c.number c.second ≡ seconds ps = front seconds _ ps c.«lent-second» c.second c.number e c.says.second_is (n ∙ sym (length-map ps (λ (p : Pair). p.second))) in
      record { passed = v.0; often = λ a b. rw (p, q, pairs_times a b ps, s) })
    where
      same : {xs ys : List Pair} → ◌≡◌ {A = Answer (List Pair)} (gives xs) (gives ys) → xs ≡ ys
      same d = cc

  -- as often as the definition of a visit has it
  often_is : (a b : ℕ) → once_out a b c ≡ one_where (ltb 0 (times a b (overlapping ls (tests_of t))))
  often_is a b = call_says.often a b ∙ once_as_visit t (stands ls g t call_says.passed).tables ls a b

-- AS A FULL VISIT DOES, EACH PAIR ONCE
pub visit_once : (ls : Lines) (g : Grid) (t : Tables) → VisitOnce ls g t
visit_once ls g t c cs v a b =
    often_is c a b
    ∙ rw (visit_firsts ls g t cs v, visit_seconds ls g t cs v, pairs_times a b (overlapping ls (tests_of t)))

-- NO CROSSING IS LEFT OUT, AND NONE COMES TWICE, after a build in the covering mode, or one followed by lines added in it
module _ {g : Grid} {ls : Lines} {t : Tables} (k : Grown Covering g ls t) where
  pub crossings_once : CrossingsOnce ls g t
  crossings_once c a b x =
      let tested = (nothing_dropped k).tested a b x in
      let e = handed_often ls a b (tests_of t) (crossings_overlap ls a b x) in
      often_is c a b ∙ rw (e, lt-ltb 0 (times a b (tests_of t)) tested) one_true

-- Laws of answers.
--   then-..          a check before an answer, by what it finds; then-andThen: two checks in a row are one after the other
--   then-passed      where a result comes, the check found nothing; apart: a refusal is no result
--   into-passed      where a result comes of an answer that goes on, the answer had one, and that led to it
--   refused-by, past what an entry makes of a check and an answer: of the refusal, or of the answer
-- Assumes nothing.
use Rattle.std.specs.Prelude.{Ok, Err, Result, IsErrAnd}
use Rattle.std.proofs.lemmas.Result.{err_from_is_err_and}
use Rattle.refusals.specs.Refusals.{Check}
use mathlib.Core.Path.{◌≡◌, refl}
use Prim.Native.Nat.{ℕ}
use native.Mathlib.Omega.{arith}
use Rattle.refusals.specs.declared.Refusal.{Refusal}
use Rattle.refusals.specs.Refusals.{and_then, Answer, refused, gives, ◌then◌, ◌into◌, answer_by}

-- ---- a check, then an answer

module _ {A : Type 0} (check : Check) (answer : Answer A) where
  pub then_refused : (r : Refusal) → check ≡ Err r → (check then answer) ≡ refused r
  unfolding ◌then◌
  then_refused r e = rw e

  pub then_fine : check ≡ (Ok tt) → (check then answer) ≡ answer
  unfolding ◌then◌
  then_fine e = rw e

pub then_and_then : {A : Type 0} (first next : Check) (answer : Answer A) → (and_then first next then answer) ≡ (first then next then answer)
unfolding ◌then◌ and_then
then_and_then (Ok _) next answer = refl
then_and_then (Err r) next answer = refl

pub apart : {A C : Type 0} {answer : Answer A} {r : Refusal} {a : A} → answer ≡ refused r → answer ≡ gives a → C
apart e d = let z : ◌≡◌ {A = ℕ} 0 1 = cc in absurd (omega arith)

pub then_passed : {A : Type 0} (check : Check) (answer : Answer A) {a : A} → (check then answer) ≡ gives a → (check ≡ (Ok tt)) × (answer ≡ gives a)
unfolding ◌then◌
then_passed (Ok _) answer h = (refl, h)
then_passed (Err r) answer h = apart refl h

pub into_passed : {A B C : Type 0} (answer : Answer A) (next : A → Answer B) {b : B} → (answer into next) ≡ gives b
    → ((a : A) → answer ≡ gives a → next a ≡ gives b → C) → C
unfolding ◌into◌
into_passed (gives a) next h go = go a refl h
into_passed (refused r) next h go = apart refl h

-- ---- what an entry makes of them

module _ {A B : Type 0} (ofRefusal : Refusal → B) (ofResult : A → B) (check : Check) (answer : Answer A) where
  -- the first check that refuses gives the answer
  pub refused_by : (r : Refusal) → check ≡ Err r → ofRefusal r ≡ answer_by ofRefusal ofResult (check then answer)
  unfolding ◌then◌ answer_by
  refused_by r e = rw e

  -- past a check that finds nothing
  pub past : check ≡ (Ok tt) → answer_by ofRefusal ofResult answer ≡ answer_by ofRefusal ofResult (check then answer)
  unfolding ◌then◌
  past e = rw e

-- ---- the exit of a `?`

-- it returns the refusal that it met
pub at_exit : {A : Type 0} {r x : Result A Refusal} {d : Refusal} → IsErrAnd r (λ y. y ≡ d) → Err d ≡ x → r ≡ x
at_exit {A} {r} k e = let p = err_from_is_err_and r k in rw (p.1, p.2) e

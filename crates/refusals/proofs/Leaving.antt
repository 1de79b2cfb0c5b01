-- Laws of what a refusal leaves in a slice that held `was`.
--   numbers-..       4, 5, 6 and 7 are the numbers that clear
--   left-..          what is left, by the number
--   left-alike       a refusal that clears asks a slice for its length alone
--   Clearing         what a check can refuse by: numbers that clear, or numbers that do not; by its parts
--   Clears           the like of an answer, for numbers that clear; in-alike: such an answer asks a slice for its length alone
-- Assumes nothing.
use Rattle.std.specs.Prelude.{Ok, Err}
use Rattle.refusals.specs.Refusals.{Check}
use mathlib.Core.Path.{◌≡◌, refl, sym, ap, ◌∙◌}
use mathlib.Core.Bool.{Bool, true, false, cond}
use mathlib.Core.List.{List}
use Prim.Native.Nat.{ℕ, zero, suc, ◌≤◌, ◌<◌}
use native.Mathlib.Omega.{arith}
use borrow.Author.Tests.{le-leb, lt-leb}
use lib.ListN.{length, replicate}
use Rattle.refusals.specs.declared.Refusal.{Refusal}
use Rattle.refusals.specs.Refusals.{unless, and_then, each_from, Answer, refused, gives, ◌then◌, ◌into◌, clears, left_by, left_in}

-- ---- the numbers

pub numbers_clear : (n : ℕ) → 4 ≤ n → n ≤ 7 → clears n ≡ true
unfolding clears
numbers_clear n l m = rw (le-leb 4 n l, le-leb n 7 m)

pub numbers_below : (n : ℕ) → n < 4 → clears n ≡ false
unfolding clears
numbers_below n l = rw (lt-leb 4 n l)

pub numbers_above : (n : ℕ) → 7 < n → clears n ≡ false
unfolding clears
numbers_above n l = let h : 4 ≤ n = omega arith in rw (le-leb 4 n h, lt-leb n 7 l)

-- ---- what is left

module _ {B : Type 0} (nought : B) (r : Refusal) (was : List B) where
  pub left_zero : clears r.number ≡ true → left_by nought r was ≡ replicate (length was) nought
  unfolding left_by
  left_zero e = rw e

  pub left_same : clears r.number ≡ false → left_by nought r was ≡ was
  unfolding left_by
  left_same e = rw e

pub left_alike : {B : Type 0} (nought : B) (r : Refusal) (was was' : List B) → clears r.number ≡ true → length was' ≡ length was
    → left_by nought r was' ≡ left_by nought r was
left_alike {B} nought r was was' e l =
    left_zero nought r was' e ∙ ap (λ (n : ℕ). replicate {A = B} n nought) l ∙ sym (left_zero nought r was e)

-- ---- what a check can refuse by

pub record Clearing (b : Bool) (check : Check) : Type 0 where
  pub says : (r : Refusal) → check ≡ Err r → clears r.number ≡ b

clearing_fine : {b : Bool} → Clearing b (Ok tt)
clearing_fine = record { says = λ r e. let z : ◌≡◌ {A = ℕ} 0 1 = cc in absurd (omega arith) }

clearing_refused : {b : Bool} (s : Refusal) → clears s.number ≡ b → Clearing b (Err s)
clearing_refused s h = record { says = λ r e. rw (same e) h }
  where
    same : {p q : Refusal} → ◌≡◌ {A = Check} (Err p) (Err q) → q ≡ p
    same d = cc

module _ {b : Bool} where
  pub clearing_unless : (ok : Bool) (number value : ℕ) → clears number ≡ b → Clearing b (unless ok number value)
  unfolding unless
  clearing_unless true number value h = clearing_fine
  clearing_unless false number value h = clearing_refused _ h

  pub clearing_then : {first next : Check} → Clearing b first → Clearing b next → Clearing b (and_then first next)
  unfolding and_then
  clearing_then {first} {next} = go first next
    where
      go : (first next : Check) → Clearing b first → Clearing b next → Clearing b (and_then first next)
      go (Ok _) next f g = g
      go (Err s) next f g = f

  pub clearing_each : (ok : ℕ → Bool) (number left i : ℕ) → clears number ≡ b → Clearing b (each_from ok number left i)
  unfolding each_from
  clearing_each ok number zero i h = clearing_fine
  clearing_each ok number (suc left) i h = clearing_then (clearing_unless (ok i) number i h) (clearing_each ok number left (suc i) h)

-- ---- what an answer can refuse by

pub record Clears {A : Type 0} (answer : Answer A) : Type 0 where
  pub says : (r : Refusal) → answer ≡ refused r → clears r.number ≡ true

module _ {A : Type 0} where
  pub clears_gives : {a : A} → Clears (gives a)
  clears_gives = record { says = λ r e. let z : ◌≡◌ {A = ℕ} 0 1 = cc in absurd (omega arith) }

  clears_refused : (s : Refusal) → clears s.number ≡ true → Clears {A = A} (refused s)
  clears_refused s h = record { says = λ r e. rw (same e) h }
    where
      same : {p q : Refusal} → ◌≡◌ {A = Answer A} (refused p) (refused q) → q ≡ p
      same d = cc

  pub clears_then : {check : Check} {answer : Answer A} → Clearing true check → Clears answer → Clears (check then answer)
  unfolding ◌then◌
  clears_then {check} {answer} = go check answer
    where
      go : (check : Check) (answer : Answer A) → Clearing true check → Clears answer → Clears (check then answer)
      go (Ok _) answer f g = g
      go (Err s) answer f g = clears_refused s (f.says s refl)

  pub clears_if : (b : Bool) {x y : Answer A} → Clears x → Clears y → Clears (cond b x y)
  clears_if true f g = f
  clears_if false f g = g

pub clears_into : {A B : Type 0} {answer : Answer A} {next : A → Answer B} → Clears answer → ((a : A) → Clears (next a)) → Clears (answer into next)
unfolding ◌into◌
clears_into {A} {B} {answer} {next} = go answer
  where
    go : (answer : Answer A) → Clears answer → ((a : A) → Clears (next a)) → Clears (answer into next)
    go (refused s) f g = clears_refused s (f.says s refl)
    go (gives a) f g = g a

pub in_alike : {A B : Type 0} (nought : B) (answer : Answer A) (was was' : List B) (puts : ℕ → A → List B) → Clears answer → length was' ≡ length was
    → left_in nought was' answer (puts (length was')) ≡ left_in nought was answer (puts (length was))
unfolding left_in
in_alike nought (refused r) was was' puts c l = left_alike nought r was was' (c.says r refl) l
in_alike nought (gives a) was was' puts c l = ap (λ (n : ℕ). puts n a) l

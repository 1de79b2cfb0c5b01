-- Document 01, "Refusal numbers": what a check finds, what an entry answers, and what is left in a slice that it is lent to write. Every entry's
-- promise is said in these words. Definitions only.
use Rattle.std.specs.Prelude.{Ok, Err, Result, ℕ, zero, suc, ◌-◌, Bool, true, false, cond, ◌&&◌, List, ◌++◌, leb, length, replicate}
use Rattle.refusals.specs.declared.Refusal.{Refusal}

-- ---- checks

-- what a check finds: nothing, or a refusal
abbrev pub Check : Type 0
Check = Result Unit Refusal

-- a refusal by its number, with its value
abbrev pub refusal : ℕ → ℕ → Refusal
refusal number value = record { number = number; value = value }

-- refuses, with a number and a value, where the test fails
unfoldable pub unless : Bool → ℕ → ℕ → Check
unless true number value = Ok tt
unless false number value = Err (refusal number value)

-- the first of two checks that refuses
unfoldable pub and_then : Check → Check → Check
and_then (Ok _) next = next
and_then (Err r) next = Err r

-- the first of the `left` places from i on at which a test fails, refused with a number; the value is the place
unfoldable pub each_from : (ℕ → Bool) → ℕ → ℕ → ℕ → Check
each_from ok number zero i = Ok tt
each_from ok number (suc left) i = and_then (unless (ok i) number i) (each_from ok number left (suc i))

-- ---- answers

-- what a call comes to: a refusal, or its result
pub data Answer (A : Type 0) : Type 0 where
  refused : Refusal → Answer A
  gives : A → Answer A

infixr 20 ◌then◌
-- the first refusal that applies, else the result: checks stand in their order, the answer last
unfoldable pub ◌then◌ : {A : Type 0} → Check → Answer A → Answer A
◌then◌ (Ok _) answer = answer
◌then◌ (Err r) answer = refused r

infixl 15 ◌into◌
-- a result goes on to what it leads to; a refusal stays
unfoldable pub ◌into◌ : {A B : Type 0} → Answer A → (A → Answer B) → Answer B
◌into◌ (refused r) next = refused r
◌into◌ (gives a) next = next a

-- what is made of an answer: one thing of a refusal, another of a result
unfoldable pub answer_by : {A B : Type 0} → (Refusal → B) → (A → B) → Answer A → B
answer_by ofRefusal ofResult (refused r) = ofRefusal r
answer_by ofRefusal ofResult (gives a) = ofResult a

-- ---- what is left in a slice that the call is lent to write

-- "Refusals 4 to 7 leave zero throughout [..] and all others change nothing."
unfoldable pub clears : ℕ → Bool
clears number = leb 4 number && leb number 7

unfoldable pub left_by : {B : Type 0} → B → Refusal → List B → List B
left_by nought r was = cond (clears r.number) (replicate (length was) nought) was

-- what a slice holds that held `was`: what a refusal leaves, or what the result puts there
unfoldable pub left_in : {A B : Type 0} → B → List B → Answer A → (A → List B) → List B
left_in nought was (refused r) puts = left_by nought r was
left_in nought was (gives a) puts = puts a

-- "On success every entry beyond the written ones is zero": n entries that begin with xs
unfoldable pub zero_beyond : {B : Type 0} → B → ℕ → List B → List B
zero_beyond nought n xs = xs ++ replicate (n - length xs) nought

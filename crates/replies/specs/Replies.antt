-- How an exported function answers: by a number, and by values at the start of the words `out` that it is lent. Definitions only.
use Rattle.std.specs.Prelude.{ℕ, ◌≡◌, cond, List, [], ◌∷◌, ◌++◌, leb, length, drop}
use Rattle.refusals.specs.declared.Refusal.{Refusal}

-- an answer by document 01's number, 0 for success, with its values
pub record Reply : Type 0 where
  pub number : ℕ
  pub values : List ℕ

abbrev pub success : List ℕ → Reply
success values = record { number = 0; values = values }

abbrev pub refusing : Refusal → Reply
refusing r = record { number = r.number; values = r.value ∷ [] }

-- what follows where `out` has the n words of a result; where it is short, what was before
unfoldable pub unless_short : {A : Type 0} → ℕ → List ℕ → A → A → A
unless_short n out before then = cond (leb n (length out)) then before

-- The promise of a function whose result has n words: the number r is returned, the values stand at the start of `out`, and the rest of it is as it
-- was; where `out` is short the number is 100, and nothing changes.
pub record Replies (n : ℕ) (a : Reply) (out : List ℕ) (r : ℕ) (out' : List ℕ) : Type 0 where
  pub number : r ≡ unless_short n out 100 a.number
  pub words : out' ≡ unless_short n out out (a.values ++ drop (length a.values) out)

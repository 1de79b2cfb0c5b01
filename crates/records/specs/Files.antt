-- The records of a file. A record is its kind, the number q of words of its question, the number a of words of its answer, then question and
-- answer; the file is one record after another. Definitions only.
use Rattle.std.specs.Prelude.{ℕ, zero, suc, ◌+◌, cond, List, [], ◌∷◌, leb, length, take, drop}

pub record Record : Type 0 where
  pub kind : ℕ
  pub question : List ℕ
  pub answer : List ℕ

-- the records that stand whole in w, the first of them after n words
unfoldable pub records_from : ℕ → List ℕ → List Record
records_from (suc n) [] = []
records_from (suc n) (x ∷ w) = records_from n w
records_from zero [] = []
records_from zero (kind ∷ []) = []
records_from zero (kind ∷ q ∷ []) = []
records_from zero (kind ∷ q ∷ a ∷ w) =
    cond (leb (q + a) (length w)) (record { kind = kind; question = take q w; answer = take a (drop q w) } ∷ records_from (q + a) w) []

-- the records that stand whole in w, from the first on
unfoldable pub records_of : List ℕ → List Record
records_of w = records_from 0 w

-- how many words records have
unfoldable pub word_total : List Record → ℕ
word_total [] = 0
word_total (r ∷ rs) = 3 + (length r.question + length r.answer) + word_total rs

-- how many words the record has that w begins with; 0 where none stands whole there
unfoldable pub size_of : List ℕ → ℕ
size_of [] = 0
size_of (kind ∷ []) = 0
size_of (kind ∷ q ∷ []) = 0
size_of (kind ∷ q ∷ a ∷ w) = cond (leb (q + a) (length w)) (3 + (q + a)) 0

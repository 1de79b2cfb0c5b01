-- Which records of a file agree: those whose recorded words are the words that the exported function answers. Definitions only.
use Rattle.std.specs.Prelude.{ℕ, ◌+◌, ◌≤◌, ◌<◌, ◌≡◌, List, [], ◌∷◌, length}
use Rattle.records.specs.Files.{Record, records_of, word_total}
use Rattle.asked.specs.Asked.{AnswersFor}
use Rattle.agreed.specs.declared.Tally.{Tally}

-- The recorded words are those that are answered: 32,768 at most, and one at least, for where nothing is asked there is none.
pub record Agrees (r : Record) : Type 0 where
  pub answers : AnswersFor r.kind r.question r.answer
  pub some : 0 < length r.answer
  pub most : length r.answer ≤ 32768

-- of records, those of the kind k that agree, and no other
pub data Agreeing (k : ℕ) : List Record → List Record → Type 0 where
  none : Agreeing k [] []
  more : {r : Record} {rs gs : List Record} → (r.kind ≡ k) × Agrees r → Agreeing k rs gs → Agreeing k (r ∷ rs) (r ∷ gs)
  other : {r : Record} {rs gs : List Record} → ((r.kind ≡ k) × Agrees r → ⊥) → Agreeing k rs gs → Agreeing k (r ∷ rs) gs

-- how many records that stand whole in w are of the kind k and agree, and how many words these have
pub record Tallied (k : ℕ) (w : List ℕ) (t : Tally) : Type 0 where
  pub agreeing : List Record
  pub are : Agreeing k (records_of w) agreeing
  pub records : t.records ≡ length agreeing
  pub words : t.words ≡ word_total agreeing

-- so many words have the records before the first that does not agree
pub data AgreeTo : List Record → ℕ → Type 0 where
  end : AgreeTo [] 0
  apart : {r : Record} {rs : List Record} → (Agrees r → ⊥) → AgreeTo (r ∷ rs) 0
  past : {r : Record} {rs : List Record} {n : ℕ} → Agrees r → AgreeTo rs n → AgreeTo (r ∷ rs) (word_total (r ∷ []) + n)

-- What stands in the words q of a question: numbers first, and then slices, each by the number of its entries and the entries. What a question does
-- not have is 0, and a slice ends at the latest where the question does. Definitions only.
use Rattle.std.specs.Prelude.{ℕ, zero, suc, ◌+◌, ◌%◌, ◌^◌, min, List, [], ◌∷◌, map, Float, length, get_or, take, drop}
use Rattle.std.specs.Float.{binary64}
use Rattle.std.specs.Float.Ieee.{of_bits}
use Rattle.std.proofs.Math.Seq.{slice}

-- ---- numbers

-- a number of 32 bits by its word
unfoldable pub short_by : ℕ → ℕ
short_by w = w % 2 ^ 32

-- a float by its word
unfoldable pub float_by : ℕ → Float
float_by w = of_bits binary64 w

-- ---- in order: the first of what is left of a question, and what is left after it, handed on

unfoldable pub read_word {ℓ} : {A : Type ℓ} → List ℕ → (ℕ → List ℕ → A) → A
read_word [] f = f 0 []
read_word (w ∷ q) f = f w q

unfoldable pub read_short {ℓ} : {A : Type ℓ} → List ℕ → (ℕ → List ℕ → A) → A
read_short q f = read_word q (λ w. f (short_by w))

unfoldable pub read_float {ℓ} : {A : Type ℓ} → List ℕ → (Float → List ℕ → A) → A
read_float q f = read_word q (λ w. f (float_by w))

-- a slice: the number of its entries, and as many words as there are of them
unfoldable pub read_words {ℓ} : {A : Type ℓ} → List ℕ → (List ℕ → List ℕ → A) → A
read_words q f = read_word q (λ n left. f (take n left) (drop n left))

unfoldable pub read_shorts {ℓ} : {A : Type ℓ} → List ℕ → (List ℕ → List ℕ → A) → A
read_shorts q f = read_words q (λ s. f (map short_by s))

unfoldable pub read_floats {ℓ} : {A : Type ℓ} → List ℕ → (List Float → List ℕ → A) → A
read_floats q f = read_words q (λ s. f (map float_by s))

-- ---- by place

unfoldable pub short_at : List ℕ → ℕ → ℕ
short_at q at = short_by (get_or q at 0)

unfoldable pub float_at : List ℕ → ℕ → Float
float_at q at = float_by (get_or q at 0)

-- where the slice ends whose number of entries stands at a place
unfoldable pub slice_end : List ℕ → ℕ → ℕ
slice_end q at = min (at + 1 + get_or q at 0) (length q)

-- where slice k is, from 0 on, in a question with so many numbers
unfoldable pub slice_place : List ℕ → ℕ → ℕ → ℕ
slice_place q numbers zero = numbers
slice_place q numbers (suc k) = slice_end q (slice_place q numbers k)

-- of entries that stand beside the words of a question, one to a word: those beside the entries of slice k
unfoldable pub beside_slice : {A : Type 0} → List ℕ → ℕ → ℕ → List A → List A
beside_slice q numbers k all = slice (suc (slice_place q numbers k)) (slice_end q (slice_place q numbers k)) all

-- the entries of slice k: words, floats, numbers of 32 bits
unfoldable pub words_in : List ℕ → ℕ → ℕ → List ℕ
words_in q numbers k = beside_slice q numbers k q

unfoldable pub floats_in : List ℕ → ℕ → ℕ → List Float
floats_in q numbers k = map float_by (words_in q numbers k)

unfoldable pub shorts_in : List ℕ → ℕ → ℕ → List ℕ
shorts_in q numbers k = map short_by (words_in q numbers k)

-- the first n words, and 0 beyond the last
unfoldable pub first_words : ℕ → List ℕ → List ℕ
first_words zero q = []
first_words (suc n) [] = 0 ∷ first_words n []
first_words (suc n) (w ∷ q) = w ∷ first_words n q

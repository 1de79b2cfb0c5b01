-- Laws of words in bytes: a number by its halves, and one word more. Assumes nothing.
use Prim.Native.Nat.{ℕ, zero, suc, ◌+◌, ◌*◌, ◌<◌}
use native.Mathlib.Omega.{arith}
use native.Mathlib.Numerals.{add-one}
use mathlib.Core.Path.{◌≡◌, refl, sym, ap, ◌∙◌}
use mathlib.Core.List.{List, [], ◌∷◌, ◌++◌}
use lib.ListN.{length, get_or, drop, set}
use lib.Seq.{drop-cons, set_at, append_snoc}
use Rattle.records.specs.Words.{little_at, words_from, words_of}

-- ---- a number by its halves

pub little_two : (at : ℕ) (bs : List ℕ) → little_at 2 at bs ≡ get_or bs at 0 + 256 * get_or bs (at + 1) 0
unfolding little_at
little_two at bs = rw (add-one at) (omega arith)

pub little_four : (at : ℕ) (bs : List ℕ) → little_at 4 at bs ≡ little_at 2 at bs + 65536 * little_at 2 (at + 2) bs
unfolding little_at
little_four at bs =
    let e : at + 2 ≡ suc (suc at) = omega arith in
    rw e (omega arith)

pub little_eight : (at : ℕ) (bs : List ℕ) → little_at 8 at bs ≡ little_at 4 at bs + 4294967296 * little_at 4 (at + 4) bs
unfolding little_at
little_eight at bs =
    let e : at + 4 ≡ suc (suc (suc (suc at))) = omega arith in
    rw e (omega arith)

-- ---- the words

length_words : (n at : ℕ) (bs : List ℕ) → length (words_from n at bs) ≡ n
unfolding words_from
length_words zero at bs = refl
length_words (suc n) at bs = ap suc (length_words n (at + 8) bs)

last_word : (n at : ℕ) (bs : List ℕ) → words_from (suc n) at bs ≡ words_from n at bs ++ (little_at 8 (at + 8 * n) bs ∷ [])
unfolding words_from
last_word zero at bs = let e : at ≡ at + 8 * 0 = omega arith in ap (λ (m : ℕ). little_at 8 m bs ∷ []) e
last_word (suc n) at bs =
    let e : at + 8 + 8 * n ≡ at + 8 * suc n = omega arith in
    ap (λ (ws : List ℕ). little_at 8 at bs ∷ ws) (last_word n (at + 8) bs ∙ ap (λ (m : ℕ). words_from n (at + 8) bs ++ (little_at 8 m bs ∷ [])) e)

-- one word more, over what stands there
pub words_more : (i v : ℕ) (bs out : List ℕ) → i < length out → v ≡ little_at 8 (8 * i) bs → set (words_of i bs ++ drop i out) i v ≡ words_of (i + 1) bs ++ drop (i + 1) out
unfolding words_of
words_more i v bs out h e =
    let f : 8 * i ≡ 0 + 8 * i = omega arith in
    ap (λ (r : List ℕ). set (words_from i 0 bs ++ r) i v) (drop-cons out i 0 h)
    ∙ set_at (words_from i 0 bs) (get_or out i 0) (drop (suc i) out) v i (length_words i 0 bs)
    ∙ sym (append_snoc (words_from i 0 bs) v (drop (suc i) out))
    ∙ ap (λ (x : ℕ). (words_from i 0 bs ++ (x ∷ [])) ++ drop (suc i) out) (e ∙ ap (λ (m : ℕ). little_at 8 m bs) f)
    ∙ ap (λ (ws : List ℕ). ws ++ drop (suc i) out) (sym (last_word i 0 bs))
    ∙ ap (λ (m : ℕ). words_from m 0 bs ++ drop m out) (sym (add-one i))

pub words_none : (bs out : List ℕ) → out ≡ words_of 0 bs ++ drop 0 out
unfolding words_of words_from
words_none bs out = refl

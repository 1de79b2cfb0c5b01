-- Laws of words written as far as there is room, and of the entries that a slice lists. Assumes nothing.
use Prim.Native.Nat.{ℕ, zero, suc, ◌+◌, ◌-◌, ◌^◌, ◌≤◌, ◌<◌, min}
use native.Mathlib.Nat.{add-suc, suc-add, add-zero}
use native.Mathlib.Numerals.{add-one}
use native.Mathlib.Omega.{arith}
use mathlib.Core.Path.{◌≡◌, refl, sym, ap, ◌∙◌}
use mathlib.Core.Logic.{◌≢◌, ◌⊎◌, inl, inr}
use mathlib.Core.List.{List, [], ◌∷◌, ◌++◌, append_assoc}
use lib.ListN.{length, get_or, take, set, length-append}
use lib.Seq.{sets, length-sets, set_out, take-suc, length-take-le}
use Rattle.slices.proofs.Laws.{le_or}
use Rattle.records.specs.Answers.{PutWords, unless_zero, listed_of, lent_words}

-- ---- words after words

sets_append : (a : List ℕ) (at : ℕ) (xs ys : List ℕ) → sets a at (xs ++ ys) ≡ sets (sets a at xs) (at + length xs) ys
sets_append a at [] ys = ap (λ (n : ℕ). sets a n ys) (sym (add-zero at))
sets_append a at (x ∷ xs) ys =
    sets_append (set a at x) (suc at) xs ys
    ∙ ap (λ (n : ℕ). sets (sets (set a at x) (suc at) xs) n ys) (suc-add at (length xs) ∙ sym (add-suc at (length xs)))

sets_out : (a : List ℕ) (at : ℕ) (ws : List ℕ) → length a ≤ at → sets a at ws ≡ a
sets_out a at [] h = refl
sets_out a at (w ∷ ws) h =
    ap (λ (b : List ℕ). sets b (suc at) ws) (set_out a at w h) ∙ sets_out a (suc at) ws (omega arith)

-- a place cut to m, where there is no room at m, is as good as the place
sets_cut : (a : List ℕ) (at m : ℕ) (ws : List ℕ) → length a ≤ m → sets a (min at m) ws ≡ sets a at ws
sets_cut a at m ws h = go (le_or at m)
  where
    go : (at ≤ m) ⊎ (m < at) → sets a (min at m) ws ≡ sets a at ws
    go (inl l) = let e : min at m ≡ at = omega arith in ap (λ (n : ℕ). sets a n ws) e
    go (inr l) = sets_out a (min at m) ws (omega arith) ∙ sym (sets_out a at ws (omega arith))

pub put_none : (at : ℕ) (a : List ℕ) → at ≤ 2 ^ 64 - 1 → PutWords at [] a at a
put_none at a h = record { count = omega arith; words = refl }

-- a word with no room
pub put_beyond : (at v r : ℕ) (a : List ℕ) → length a ≤ at → r ≡ min (at + 1) (2 ^ 64 - 1) → PutWords at (v ∷ []) a r a
put_beyond at v r a h e = record { count = e; words = sym (set_out a at v h) }

pub put_then : {at r s : ℕ} {xs ys a b c : List ℕ} → PutWords at xs a r b → PutWords r ys b s c → length a ≤ 2 ^ 64 - 1 → PutWords at (xs ++ ys) a s c
put_then {at} {r} {s} {xs} {ys} {a} {b} {c} f g h =
    let l : length b ≤ 2 ^ 64 - 1 = omega (arith, ap length f.words ∙ length-sets a at xs) in
    record {
      count = omega (arith, f.count, g.count, length-append xs ys);
      words =
          g.words
          ∙ ap (λ (n : ℕ). sets b n ys) f.count
          ∙ sets_cut b (at + length xs) (2 ^ 64 - 1) ys l
          ∙ ap (λ (x : List ℕ). sets x (at + length xs) ys) f.words
          ∙ sym (sets_append a at xs ys);
    }

pub put_length : {at r : ℕ} {ws a b : List ℕ} → PutWords at ws a r b → length b ≡ length a
put_length {at} {r} {ws} {a} {b} f = ap length f.words ∙ length-sets a at ws

-- the words that are put are the first i of s, after others: one more
pub put_more : {at r t i v : ℕ} (xs s : List ℕ) {a b c : List ℕ} → PutWords at (xs ++ take i s) a r b → PutWords r (v ∷ []) b t c → v ≡ get_or s i 0 → i < length s → length a ≤ 2 ^ 64 - 1
    → PutWords at (xs ++ take (i + 1) s) a t c
put_more {at} {r} {t} {i} {v} xs s {a} {b} {c} f g e h l =
    let p : (xs ++ take i s) ++ (v ∷ []) ≡ xs ++ take (i + 1) s = rw (add-one i, take-suc s i 0, append_assoc, e) in
    rw p at (put_then f g l)

-- ---- the entries that a slice lists

pub listed_none : listed_of [] ≡ []
unfolding listed_of
listed_none = refl

listed_zero : (xs : List ℕ) → listed_of (xs ++ (0 ∷ [])) ≡ listed_of xs
unfolding listed_of unless_zero
listed_zero [] = refl
listed_zero (x ∷ xs) = ap (unless_zero x) (listed_zero xs)

-- what is not empty keeps what is before it
unless_more : (x y : ℕ) (xs ys : List ℕ) → unless_zero x (xs ++ (y ∷ ys)) ≡ x ∷ (xs ++ (y ∷ ys))
unfolding unless_zero
unless_more x y [] ys = refl
unless_more x y (z ∷ xs) ys = refl

listed_kept : (xs : List ℕ) (v : ℕ) → listed_of (xs ++ (suc v ∷ [])) ≡ xs ++ (suc v ∷ [])
unfolding listed_of unless_zero
listed_kept [] v = refl
listed_kept (x ∷ xs) v = ap (unless_zero x) (listed_kept xs v) ∙ unless_more x (suc v) xs []

-- the last of the first n is zero: it is not listed
pub listed_less : (s : List ℕ) (n m : ℕ) → n ≡ suc m → m < length s → get_or s m 0 ≡ 0 → listed_of (take n s) ≡ listed_of (take m s)
listed_less s n m e h z = rw (e, take-suc s m 0, z, listed_zero)

-- it is not zero: all are listed
pub listed_all : (s : List ℕ) (n m : ℕ) → n ≡ suc m → m < length s → get_or s m 0 ≢ 0 → listed_of (take n s) ≡ take n s
listed_all s n m e h z = go (get_or s m 0) refl
  where
    go : (v : ℕ) → get_or s m 0 ≡ v → listed_of (take n s) ≡ take n s
    go zero f = absurd (z f)
    go (suc v) f = rw (e, take-suc s m 0, f, listed_kept)

pub lent_words_lem : (s : List ℕ) (n : ℕ) → take n s ≡ listed_of s → n ≤ length s → n ∷ take n s ≡ lent_words s
unfolding lent_words
lent_words_lem s n e h = cc (length-take-le n s h)

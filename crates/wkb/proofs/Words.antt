-- Laws of numbers in bytes: a number and its bytes give each other, in either order and at any width; and how 4 and 8 bytes at a
-- position are read. Assumes nothing.
use mathlib.Core.Path.{◌≡◌, refl, sym, ap, ◌∙◌, subst}
use Prim.Native.Nat.{ℕ, zero, suc, ◌+◌, ◌*◌, ◌/◌, ◌%◌, ◌^◌, ◌≤◌, ◌<◌}
use native.Mathlib.Nat.{pow-succ'}
use native.Mathlib.Omega.{arith}
use mathlib.Core.List.{List, [], ◌∷◌, ◌++◌, reverse, reverse-cons, reverse-reverse}
use lib.ListN.{length, take, drop, get_or, length-reverse, length-drop}
use lib.Seq.{take-nil, drop-nil, drop-cons, take-add, drop-drop, length-take-le}
use Rattle.wkb.specs.Bytes.{little_bytes, word_bytes, little_number, number, number_at}
use Rattle.wkb.specs.declared.Order.{Order}
use Rattle.wkb.specs.declared.Order.TheVariants.{Big, Little}

-- ---- lists of bytes

-- each entry is a byte
abbrev pub Small : List ℕ → Type 0
Small [] = Unit {0}
Small (b ∷ bs) = (b < 256) × Small bs

pub small_of : (bs : List ℕ) → ((i : ℕ) → get_or bs i 0 < 256) → Small bs
small_of [] h = tt
small_of (b ∷ bs) h = (h zero, small_of bs (λ i. h (suc i)))

small_append : (xs ys : List ℕ) → Small xs → Small ys → Small (xs ++ ys)
small_append [] ys s t = t
small_append (x ∷ xs) ys s t = (s.0, small_append xs ys s.1 t)

small_reverse : (bs : List ℕ) → Small bs → Small (reverse bs)
small_reverse [] s = tt
small_reverse (b ∷ bs) s = rw (reverse-cons b bs) (small_append (reverse bs) (b ∷ []) (small_reverse bs s.1) (s.0, tt))

pub small_take : (k : ℕ) (bs : List ℕ) → Small bs → Small (take k bs)
small_take k [] s = subst Small (sym (take-nil k)) tt
small_take zero (b ∷ bs) s = tt
small_take (suc k) (b ∷ bs) s = (s.0, small_take k bs s.1)

pub small_drop : (k : ℕ) (bs : List ℕ) → Small bs → Small (drop k bs)
small_drop k [] s = subst Small (sym (drop-nil k)) tt
small_drop zero (b ∷ bs) s = s
small_drop (suc k) (b ∷ bs) s = small_drop k bs s.1

-- ---- the least significant byte first

pub length_little : (k v : ℕ) → length (little_bytes k v) ≡ k
unfolding little_bytes
length_little zero v = refl
length_little (suc k) v = ap suc (length_little k (v / 256))

little_number_lem : (k v : ℕ) → v < 256 ^ k → little_number (little_bytes k v) ≡ v
unfolding little_bytes little_number
little_number_lem zero v h = omega arith
little_number_lem (suc k) v h =
    let p : 256 ^ suc k ≡ 256 * 256 ^ k = pow-succ' 256 k in
    let ih : little_number (little_bytes k (v / 256)) ≡ v / 256 = little_number_lem k (v / 256) (omega arith) in
    rw ih (omega arith)

little_bytes_lem : (bs : List ℕ) → Small bs → little_bytes (length bs) (little_number bs) ≡ bs
unfolding little_bytes little_number
little_bytes_lem [] s = refl
little_bytes_lem (b ∷ bs) s =
    let n = little_number bs in
    let low : (b + 256 * n) % 256 ≡ b = omega (arith, s.0) in
    let high : (b + 256 * n) / 256 ≡ n = omega (arith, s.0) in
    rw (low, high) (ap (λ (l : List ℕ). b ∷ l) (little_bytes_lem bs s.1))

little_below : (bs : List ℕ) → Small bs → little_number bs < 256 ^ length bs
unfolding little_number
little_below [] s = omega arith
little_below (b ∷ bs) s =
    let p : 256 ^ suc (length bs) ≡ 256 * 256 ^ length bs = pow-succ' 256 (length bs) in
    let ih : little_number bs < 256 ^ length bs = little_below bs s.1 in
    rw p (omega (arith, s.0))

-- ---- either order

pub length_word : (o : Order) (k v : ℕ) → length (word_bytes o k v) ≡ k
unfolding word_bytes
length_word Big k v = length-reverse (little_bytes k v) ∙ length_little k v
length_word Little k v = length_little k v

-- a number's bytes stand for it
pub number_word : (o : Order) (k v : ℕ) → v < 256 ^ k → number o (word_bytes o k v) ≡ v
unfolding word_bytes number
number_word Big k v h = rw (reverse-reverse (little_bytes k v)) (little_number_lem k v h)
number_word Little k v h = little_number_lem k v h

-- bytes are those of the number that they stand for
pub word_number : (o : Order) (k : ℕ) (bs : List ℕ) → Small bs → length bs ≡ k → word_bytes o k (number o bs) ≡ bs
unfolding word_bytes number
word_number Big k bs s e =
    let n : k ≡ length (reverse bs) = sym (length-reverse bs ∙ e) in
    rw n (ap reverse (little_bytes_lem (reverse bs) (small_reverse bs s)) ∙ reverse-reverse bs)
word_number Little k bs s e = rw (← e) (little_bytes_lem bs s)

pub number_below : (o : Order) (bs : List ℕ) → Small bs → number o bs < 256 ^ length bs
unfolding number
number_below Big bs s = rw (← length-reverse bs) (little_below (reverse bs) (small_reverse bs s))
number_below Little bs s = little_below bs s

-- ---- at a position

module _ (o : Order) (bs : List ℕ) (at : ℕ) where
  four : at + 4 ≤ length bs → take 4 (drop at bs) ≡ get_or bs at 0 ∷ get_or bs (at + 1) 0 ∷ get_or bs (at + 2) 0 ∷ get_or bs (at + 3) 0 ∷ []
  four h =
      let e1 : at + 1 ≡ suc at = omega arith in
      let e2 : at + 2 ≡ suc (suc at) = omega arith in
      let e3 : at + 3 ≡ suc (suc (suc at)) = omega arith in
      rw (e1, e2, e3, drop-cons bs at 0 (omega arith), drop-cons bs (suc at) 0 (omega arith), drop-cons bs (suc (suc at)) 0 (omega arith), drop-cons bs (suc (suc (suc at))) 0 (omega arith))

  -- 4 bytes at a position, taken in the order that their number asks for
  pub little_4 : {r : ℕ} → o ≡ Little → at + 4 ≤ length bs → r ≡ little_number (get_or bs at 0 ∷ get_or bs (at + 1) 0 ∷ get_or bs (at + 2) 0 ∷ get_or bs (at + 3) 0 ∷ []) → r ≡ number_at o 4 at bs
  unfolding number_at number
  little_4 e h i = rw e (i ∙ sym (ap little_number (four h)))

  pub big_4 : {r : ℕ} → o ≡ Big → at + 4 ≤ length bs → r ≡ little_number (get_or bs (at + 3) 0 ∷ get_or bs (at + 2) 0 ∷ get_or bs (at + 1) 0 ∷ get_or bs at 0 ∷ []) → r ≡ number_at o 4 at bs
  unfolding number_at number
  big_4 e h i = rw e (i ∙ sym (ap (λ (l : List ℕ). little_number (reverse l)) (four h)))

join : (a b c d e f g h : ℕ) → little_number (a ∷ b ∷ c ∷ d ∷ e ∷ f ∷ g ∷ h ∷ []) ≡ little_number (a ∷ b ∷ c ∷ d ∷ []) + 4294967296 * little_number (e ∷ f ∷ g ∷ h ∷ [])
unfolding little_number
join a b c d e f g h = omega arith

-- a number of 8 bytes is made of its two halves: the first 4 bytes are the low half in the little order, and the high half in the big one
module _ (o : Order) (bs : List ℕ) (at : ℕ) (fits : at + 8 ≤ length bs) where
  eight : take 8 (drop at bs) ≡ take 4 (drop at bs) ++ take 4 (drop (at + 4) bs)
  eight = take-add 4 4 (drop at bs) ∙ ap (λ (l : List ℕ). take 4 (drop at bs) ++ take 4 l) (drop-drop 4 at bs)

  pub little_8 : {a b : ℕ} → o ≡ Little → a ≡ number_at o 4 at bs → b ≡ number_at o 4 (at + 4) bs → a + 4294967296 * b ≡ number_at o 8 at bs
  unfolding number_at number
  little_8 e i j = rw (i, j, e, eight, four o bs at (omega arith), four o bs (at + 4) (omega arith)) (sym (join _ _ _ _ _ _ _ _))

  pub big_8 : {a b : ℕ} → o ≡ Big → a ≡ number_at o 4 at bs → b ≡ number_at o 4 (at + 4) bs → b + 4294967296 * a ≡ number_at o 8 at bs
  unfolding number_at number
  big_8 e i j = rw (i, j, e, eight, four o bs at (omega arith), four o bs (at + 4) (omega arith)) (sym (join _ _ _ _ _ _ _ _))

-- a number of k bytes is below 256 ^ k
pub at_below : (o : Order) (k at : ℕ) (bs : List ℕ) → Small bs → at + k ≤ length bs → number_at o k at bs < 256 ^ k
unfolding number_at
at_below o k at bs s h =
    let e : length (take k (drop at bs)) ≡ k = length-take-le k (drop at bs) (rw (length-drop at bs) (omega arith)) in
    subst (λ (n : ℕ). number o (take k (drop at bs)) < 256 ^ n) e (number_below o (take k (drop at bs)) (small_take k (drop at bs) (small_drop at bs s)))

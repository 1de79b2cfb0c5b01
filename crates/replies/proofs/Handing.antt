-- From values that are stored, and from an `out` that is short, to the promise of a reply. Assumes nothing.
use Prim.Native.Nat.{ℕ, ◌≤◌, ◌<◌}
use mathlib.Core.Path.{◌≡◌, refl, sym, subst, ◌∙◌}
use mathlib.Core.Bool.{Bool, true, false}
use mathlib.Core.List.{List, [], ◌∷◌, ◌++◌}
use native.Mathlib.Omega.{arith}
use lib.ListN.{length, drop, set}
use lib.Dec.{leb}
use borrow.Author.Tests.{le-leb, lt-leb, leb-true, leb-false}
use Rattle.replies.specs.Replies.{Reply, unless_short, Replies}
use Rattle.replies.specs.Inside.{Handed}

-- ---- stores at the start of `out`

pub stored_one : (out : List ℕ) (a : ℕ) → 1 ≤ length out → set out 0 a ≡ (a ∷ []) ++ drop 1 out
stored_one [] a h = absurd (omega arith)
stored_one (x ∷ xs) a h = refl

pub stored_two : (out : List ℕ) (a b : ℕ) → 2 ≤ length out → set (set out 0 a) 1 b ≡ (a ∷ b ∷ []) ++ drop 2 out
stored_two [] a b h = absurd (omega arith)
stored_two (x ∷ []) a b h = absurd (omega arith)
stored_two (x ∷ y ∷ xs) a b h = refl

pub stored_three : (out : List ℕ) (a b c : ℕ) → 3 ≤ length out →
    set (set (set out 0 a) 1 b) 2 c ≡ (a ∷ b ∷ c ∷ []) ++ drop 3 out
stored_three [] a b c h = absurd (omega arith)
stored_three (x ∷ []) a b c h = absurd (omega arith)
stored_three (x ∷ y ∷ []) a b c h = absurd (omega arith)
stored_three (x ∷ y ∷ z ∷ xs) a b c h = refl

pub stored_six : (out : List ℕ) (a b c d e f : ℕ) → 6 ≤ length out →
    set (set (set (set (set (set out 0 a) 1 b) 2 c) 3 d) 4 e) 5 f ≡ (a ∷ b ∷ c ∷ d ∷ e ∷ f ∷ []) ++ drop 6 out
stored_six [] a b c d e f h = absurd (omega arith)
stored_six (x ∷ []) a b c d e f h = absurd (omega arith)
stored_six (x ∷ y ∷ []) a b c d e f h = absurd (omega arith)
stored_six (x ∷ y ∷ z ∷ []) a b c d e f h = absurd (omega arith)
stored_six (x ∷ y ∷ z ∷ u ∷ []) a b c d e f h = absurd (omega arith)
stored_six (x ∷ y ∷ z ∷ u ∷ v ∷ []) a b c d e f h = absurd (omega arith)
stored_six (x ∷ y ∷ z ∷ u ∷ v ∷ w ∷ xs) a b c d e f h = refl

pub stored_eight : (out : List ℕ) (a b c d e f g h : ℕ) → 8 ≤ length out →
    set (set (set (set (set (set (set (set out 0 a) 1 b) 2 c) 3 d) 4 e) 5 f) 6 g) 7 h ≡ (a ∷ b ∷ c ∷ d ∷ e ∷ f ∷ g ∷ h ∷ []) ++ drop 8 out
stored_eight [] a b c d e f g h l = absurd (omega arith)
stored_eight (x ∷ []) a b c d e f g h l = absurd (omega arith)
stored_eight (x ∷ y ∷ []) a b c d e f g h l = absurd (omega arith)
stored_eight (x ∷ y ∷ z ∷ []) a b c d e f g h l = absurd (omega arith)
stored_eight (x ∷ y ∷ z ∷ u ∷ []) a b c d e f g h l = absurd (omega arith)
stored_eight (x ∷ y ∷ z ∷ u ∷ v ∷ []) a b c d e f g h l = absurd (omega arith)
stored_eight (x ∷ y ∷ z ∷ u ∷ v ∷ w ∷ []) a b c d e f g h l = absurd (omega arith)
stored_eight (x ∷ y ∷ z ∷ u ∷ v ∷ w ∷ t ∷ []) a b c d e f g h l = absurd (omega arith)
stored_eight (x ∷ y ∷ z ∷ u ∷ v ∷ w ∷ t ∷ s ∷ xs) a b c d e f g h l = refl

-- ---- promises

-- a number is at most another, or above it
pub by_size : (n m : ℕ) {P : Type 0} → (n ≤ m → P) → (m < n → P) → P
by_size n m {P} f g = go (leb n m) refl
  where
    go : (b : Bool) → leb n m ≡ b → P
    go true e = f (leb-true n m e)
    go false e = g (leb-false n m e)

-- `out` has the words of a result, or is short
pub enough : {A : Type 0} (n : ℕ) (out : List ℕ) (before then : A) → n ≤ length out → then ≡ unless_short n out before then
unfolding unless_short
enough n out before then h = rw (le-leb n (length out) h)

pub short : {A : Type 0} (n : ℕ) (out : List ℕ) (before then : A) → length out < n → before ≡ unless_short n out before then
unfolding unless_short
short n out before then h = rw (lt-leb n (length out) h)

-- nothing is stored
pub short_replies : (n : ℕ) (a : Reply) (out : List ℕ) → length out < n → Replies n a out 100 out
short_replies n a out h = record { number = short n out _ _ h; words = short n out _ _ h }

-- the values are stored
pub handed_replies : (n : ℕ) {a : Reply} {out : List ℕ} {r : ℕ} {out' : List ℕ} → n ≤ length out → Handed a out r out' → Replies n a out r out'
handed_replies n {out = out} h d = record { number = d.number ∙ enough n out _ _ h; words = d.words ∙ enough n out _ _ h }

-- the same answer by another name
pub answered : {a b : Reply} {out : List ℕ} {r : ℕ} {out' : List ℕ} → b ≡ a → Handed b out r out' → Handed a out r out'
answered {a} {b} {out} {r} {out'} e d = subst (λ (a : Reply). Handed a out r out') e d

pub handed : (n : ℕ) {a b : Reply} {out : List ℕ} {r : ℕ} {out' : List ℕ} → n ≤ length out → b ≡ a → Handed b out r out' → Replies n a out r out'
handed n h e d = handed_replies n h (answered e d)

-- there are none
pub bare_replies : (n number : ℕ) (out : List ℕ) → n ≤ length out → Replies n (record { number = number; values = [] }) out number out
bare_replies n number out h = handed_replies n h (record { number = refl; words = refl })

-- the same answer by another name, where all is said of it
pub replied : (n : ℕ) {a b : Reply} {out : List ℕ} {r : ℕ} {out' : List ℕ} → b ≡ a → Replies n b out r out' → Replies n a out r out'
replied n {a} {b} {out} {r} {out'} e d = subst (λ (a : Reply). Replies n a out r out') e d

-- handed over for a result of fewer words, the promise for one of more
pub wider : (m n : ℕ) {a : Reply} {out : List ℕ} {r : ℕ} {out' : List ℕ} → m ≤ length out → n ≤ length out → Replies m a out r out' → Replies n a out r out'
wider m n {out = out} h k d = record {
  number = d.number ∙ sym (enough m out _ _ h) ∙ enough n out _ _ k;
  words = d.words ∙ sym (enough m out _ _ h) ∙ enough n out _ _ k;
}

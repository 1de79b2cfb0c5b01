-- What an exported function answers and leaves in an `out` of zeros, as words of an answer. Assumes nothing.
use Prim.Native.Nat.{ℕ}
use native.Mathlib.Nat.{le_refl}
use mathlib.Core.Path.{◌≡◌, ap, ◌∙◌}
use mathlib.Core.Bool.{true}
use mathlib.Core.List.{List, ◌∷◌}
use lib.Dec.{leb}
use lib.ListN.{length, replicate, length-replicate}
use borrow.Author.Tests.{le-leb}
use Rattle.replies.specs.Replies.{Reply, Replies, unless_short}
use Rattle.asked_points.specs.Replying.{reply_words}

enough : {A : Type 0} (n : ℕ) (x y : A) → unless_short n (replicate {A = ℕ} n 0) x y ≡ y
unfolding unless_short
enough n x y =
    let e : leb n (length (replicate {A = ℕ} n 0)) ≡ true = ap (leb n) (length-replicate {A = ℕ} n 0) ∙ le-leb n n (le_refl n) in
    rw e

pub reply_words_lem : {n r : ℕ} {a : Reply} {out : List ℕ} → Replies n a (replicate {A = ℕ} n 0) r out → r ∷ out ≡ reply_words n a
unfolding reply_words
reply_words_lem {n} {a = a} h = rw (h.number, h.words, enough n 100 a.number, enough n)

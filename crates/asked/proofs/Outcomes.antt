-- Any two outcomes that the promise of `ask` admits are identical: how many words there are, and every entry that is lent. Assumes nothing.
use Prim.Native.Nat.{ℕ}
use mathlib.Core.Path.{◌≡◌, refl, sym, ◌∙◌}
use mathlib.Core.Bool.{Bool, true, false}
use mathlib.Core.Logic.{◌≢◌}
use mathlib.Core.List.{List, [], ◌∷◌, map}
use lib.Dec.{eqb}
use lib.Ieee.{Float}
use lib.ListN.{length, take, drop}
use borrow.Author.Tests.{eqb-true, eqb-false}
use Rattle.replies.proofs.Handing.{by_size}
use Rattle.capi.proofs.Outcomes.{walk_one_outcome, owners_one_outcome, build_one_outcome, batch_one_outcome}
use Rattle.records.specs.Questions.{short_by, float_by, read_word, read_short, read_float, read_words, read_shorts, read_floats}
use Rattle.asked.specs.Asked.{WordsAnswered, AnswersFor, zeros, read_lent, read_tables, WalkAnswer, BuildAnswer, BatchAnswer, OwnersAnswer}

-- of the words of which P holds there is one row at most
abbrev Once : (List ℕ → Type 0) → Type 0
Once P = (ws vs : List ℕ) → P ws → P vs → ws ≡ vs

-- ---- where the readings go on so, whatever is read

module _ (q : List ℕ) where
  word_once : {f : ℕ → List ℕ → List ℕ → Type 0} → ((w : ℕ) (left : List ℕ) → Once (f w left)) → Once (read_word q f)
  unfolding read_word
  word_once h = go q h
    where
      go : (p : List ℕ) {g : ℕ → List ℕ → List ℕ → Type 0} → ((w : ℕ) (left : List ℕ) → Once (g w left)) → Once (read_word p g)
      go [] k = k 0 []
      go (w ∷ p) k = k w p

  short_once : {f : ℕ → List ℕ → List ℕ → Type 0} → ((x : ℕ) (left : List ℕ) → Once (f x left)) → Once (read_short q f)
  unfolding read_short
  short_once h = word_once (λ w. h (short_by w))

  float_once : {f : Float → List ℕ → List ℕ → Type 0} → ((x : Float) (left : List ℕ) → Once (f x left)) → Once (read_float q f)
  unfolding read_float
  float_once h = word_once (λ w. h (float_by w))

  words_once : {f : List ℕ → List ℕ → List ℕ → Type 0} → ((s left : List ℕ) → Once (f s left)) → Once (read_words q f)
  unfolding read_words
  words_once h = word_once (λ n left. h (take n left) (drop n left))

  shorts_once : {f : List ℕ → List ℕ → List ℕ → Type 0} → ((s left : List ℕ) → Once (f s left)) → Once (read_shorts q f)
  unfolding read_shorts
  shorts_once h = words_once (λ s. h (map short_by s))

  floats_once : {f : List Float → List ℕ → List ℕ → Type 0} → ((s : List Float) (left : List ℕ) → Once (f s left)) → Once (read_floats q f)
  unfolding read_floats
  floats_once h = words_once (λ s. h (map float_by s))

  lent_once : (most : ℕ) {f : List ℕ → List ℕ → List ℕ → Type 0} → ((s left : List ℕ) → Once (f s left)) → Once (read_lent most q f)
  unfolding read_lent
  lent_once most h =
      word_once (λ n left ws vs a b. by_size n most (λ l. h (zeros n) left ws vs (a.room l) (b.room l)) (λ l. a.none l ∙ sym (b.none l)))

-- ---- each kind

walk_once : (q : List ℕ) → Once (WalkAnswer q)
unfolding WalkAnswer
walk_once q =
    float_once q λ sx q.
    float_once q λ sy q.
    float_once q λ ex q.
    float_once q λ ey q.
    lent_once q 16384 λ s q.
    words_once q λ w _ ws vs a b. let o = walk_one_outcome a.replies b.replies in cc

owners_once : (q : List ℕ) → Once (OwnersAnswer q)
unfolding OwnersAnswer
owners_once q =
    lent_once q 4096 λ s q.
    words_once q λ w q.
    floats_once q λ xs q.
    floats_once q λ ys _ ws vs a b. let o = owners_one_outcome a.replies b.replies in cc

batch_once : (q : List ℕ) → Once (BatchAnswer q)
unfolding BatchAnswer read_tables
batch_once q =
    word_once q λ count q.
    word_once q λ bookmark q.
    lent_once q 4096 λ f q.
    lent_once q 4096 λ s q.
    words_once q λ w q.
    floats_once q λ sx q.
    floats_once q λ sy q.
    floats_once q λ ex q.
    floats_once q λ ey q.
    shorts_once q λ o q.
    shorts_once q λ t q.
    shorts_once q λ gs _ ws vs a b. let o = batch_one_outcome a.replies b.replies in cc

build_once : (q : List ℕ) → Once (BuildAnswer q)
unfolding BuildAnswer
build_once q =
    short_once q λ sizing q.
    lent_once q 4096 λ o q.
    lent_once q 8192 λ t q.
    lent_once q 64 λ gs q.
    lent_once q 16384 λ s q.
    floats_once q λ sx q.
    floats_once q λ sy q.
    floats_once q λ ex q.
    floats_once q λ ey _ ws vs a b. let o = build_one_outcome a.replies b.replies in cc

-- ---- by kind

by_kind : (k n : ℕ) {P : Type 0} → (k ≡ n → P) → (k ≢ n → P) → P
by_kind k n {P} same other = go (eqb k n) refl
  where
    go : (b : Bool) → eqb k n ≡ b → P
    go true e = same (eqb-true k n e)
    go false e = other (eqb-false k n e)

pub answers_once : {kind : ℕ} {q ws vs : List ℕ} → AnswersFor kind q ws → AnswersFor kind q vs → ws ≡ vs
answers_once {kind} {q} h k =
    by_size (length q) 16384
    (λ l. by_kind kind 2 (λ e. walk_once q _ _ (h.walk l e) (k.walk l e))
    (λ a. by_kind kind 3 (λ e. build_once q _ _ (h.build l e) (k.build l e))
    (λ b. by_kind kind 4 (λ e. batch_once q _ _ (h.batch l e) (k.batch l e))
    (λ c. by_kind kind 5 (λ e. h.test l e ∙ sym (k.test l e))
    (λ d. by_kind kind 11 (λ e. owners_once q _ _ (h.owners l e) (k.owners l e))
    (λ f. h.other l a b c d f ∙ sym (k.other l a b c d f)))))))
    (λ l. h.long l ∙ sym (k.long l))

pub one_outcome : {kind r s : ℕ} {q a b c : List ℕ} → WordsAnswered (AnswersFor kind q) a r b → WordsAnswered (AnswersFor kind q) a s c → (r ≡ s) × (b ≡ c)
one_outcome h k = let e : h.words ≡ k.words = answers_once h.is k.is in (rw (h.put.count, k.put.count, e), rw (h.put.words, k.put.words, e))

-- Laws of a question that is read in order: what is read at each place, and what is left. Assumes nothing.
use Prim.Native.Nat.{ℕ, zero, suc, ◌+◌, ◌-◌, ◌≤◌, ◌<◌, min}
use native.Mathlib.Omega.{arith}
use mathlib.Core.Path.{◌≡◌, refl, sym, ap, ◌∙◌}
use mathlib.Core.Logic.{◌⊎◌, inl, inr}
use mathlib.Core.List.{List, [], ◌∷◌, map}
use lib.Ieee.{Float}
use lib.ListN.{length, get_or, take, drop, drop_of_length-le}
use lib.Seq.{slice, drop-drop}
use Rattle.slices.proofs.Laws.{le_or}
use Rattle.records.specs.Questions.{short_by, float_by, short_at, float_at, read_word, read_short, read_float, read_words, read_shorts, read_floats, slice_end, slice_place, beside_slice, words_in, floats_in, shorts_in}
use Rattle.records.proofs.Parts.{part_slice, slice_cut}

-- what is left where a slice is cut off, too
left_cut : (n : ℕ) (q : List ℕ) → drop (min n (length q)) q ≡ drop n q
left_cut n q = go (le_or n (length q))
  where
    go : (n ≤ length q) ⊎ (length q < n) → drop (min n (length q)) q ≡ drop n q
    go (inl h) = let e : min n (length q) ≡ n = omega arith in ap (λ (m : ℕ). drop m q) e
    go (inr h) = drop_of_length-le q {i = min n (length q)} (omega arith) ∙ sym (drop_of_length-le q {i = n} (omega arith))

module _ {ℓ} {A : Type ℓ} where
  pub word_read : (q : List ℕ) (at : ℕ) (f : ℕ → List ℕ → A) → read_word (drop at q) f ≡ f (get_or q at 0) (drop (suc at) q)
  unfolding read_word
  word_read [] zero f = refl
  word_read [] (suc at) f = refl
  word_read (w ∷ q) zero f = refl
  word_read (w ∷ q) (suc at) f = word_read q at f

  pub short_read : (q : List ℕ) (at : ℕ) (f : ℕ → List ℕ → A) → read_short (drop at q) f ≡ f (short_at q at) (drop (suc at) q)
  unfolding read_short short_at
  short_read q at f = word_read q at (λ w. f (short_by w))

  pub float_read : (q : List ℕ) (at : ℕ) (f : Float → List ℕ → A) → read_float (drop at q) f ≡ f (float_at q at) (drop (suc at) q)
  unfolding read_float float_at
  float_read q at f = word_read q at (λ w. f (float_by w))

  -- slice k
  pub words_read : (q : List ℕ) (numbers k : ℕ) (f : List ℕ → List ℕ → A)
      → read_words (drop (slice_place q numbers k) q) f ≡ f (words_in q numbers k) (drop (slice_place q numbers (suc k)) q)
  unfolding read_words words_in beside_slice slice_place slice_end
  words_read q numbers k f =
      let at : ℕ = slice_place q numbers k in
      let n : ℕ = get_or q at 0 in
      let e : at + 1 + n - suc at ≡ n = omega arith in
      let p : at + 1 + n ≡ suc at + n = omega arith in
      word_read q at (λ m left. f (take m left) (drop m left))
      ∙ ap (λ (s : List ℕ). f s (drop n (drop (suc at) q)))
      (sym (ap (λ (m : ℕ). take m (drop (suc at) q)) e) ∙ part_slice (suc at) (at + 1 + n) q ∙ sym (slice_cut (suc at) (at + 1 + n) q))
      ∙ ap (f (slice (suc at) (min (at + 1 + n) (length q)) q)) (drop-drop n (suc at) q ∙ sym (left_cut (at + 1 + n) q ∙ ap (λ (m : ℕ). drop m q) p))

  pub shorts_read : (q : List ℕ) (numbers k : ℕ) (f : List ℕ → List ℕ → A)
      → read_shorts (drop (slice_place q numbers k) q) f ≡ f (shorts_in q numbers k) (drop (slice_place q numbers (suc k)) q)
  unfolding read_shorts shorts_in
  shorts_read q numbers k f = words_read q numbers k (λ s. f (map short_by s))

  pub floats_read : (q : List ℕ) (numbers k : ℕ) (f : List Float → List ℕ → A)
      → read_floats (drop (slice_place q numbers k) q) f ≡ f (floats_in q numbers k) (drop (slice_place q numbers (suc k)) q)
  unfolding read_floats floats_in
  floats_read q numbers k f = words_read q numbers k (λ s. f (map float_by s))

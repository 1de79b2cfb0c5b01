-- Laws of what stands in the words of a question: where its slices are, and parts of what stands beside its words. Assumes nothing.
use Prim.Native.Nat.{ℕ, zero, suc, ◌+◌, ◌-◌, ◌≤◌, ◌<◌, min}
use native.Mathlib.Nat.{sub-zero, zero-sub, suc-sub-suc}
use native.Mathlib.Numerals.{add-one}
use native.Mathlib.Omega.{arith}
use mathlib.Core.Path.{◌≡◌, refl, sym, ap, ◌∙◌}
use mathlib.Core.Logic.{◌⊎◌, inl, inr}
use mathlib.Core.List.{List, [], ◌∷◌, map}
use lib.ListN.{length, get_or, take, drop, set, length-take, length-set, length-map, get_or-map, get_or-eq_default, drop_of_length-le}
use lib.Seq.{slice, take-nil, drop-nil, take_all, get_or-set_same, get_or-set_other, ext_get_or}
use Rattle.slices.proofs.Laws.{le_or}
use Rattle.records.specs.Questions.{slice_end, slice_place, beside_slice, words_in, first_words}

-- ---- numbers and places

pub number_beyond : (q : List ℕ) (at : ℕ) → length q ≤ at → 0 ≡ get_or q at 0
number_beyond q at h = sym (get_or-eq_default q 0 {n = at} h)

pub place_first : (q : List ℕ) (numbers : ℕ) → numbers ≡ slice_place q numbers 0
unfolding slice_place
place_first q numbers = refl

pub place_next : (q : List ℕ) (numbers i at to : ℕ) → at ≡ slice_place q numbers i → to ≡ slice_end q at → to ≡ slice_place q numbers (i + 1)
unfolding slice_place
place_next q numbers i at to e f = rw (add-one i) (f ∙ ap (slice_end q) e)

end_within : (q : List ℕ) (at : ℕ) → slice_end q at ≤ length q
unfolding slice_end
end_within q at = omega arith

-- ---- parts

module _ {A : Type 0} where
  pub part_slice : (f t : ℕ) (l : List A) → take (t - f) (drop f l) ≡ slice f t l
  part_slice zero t l = rw sub-zero
  part_slice (suc f) zero l = rw (zero-sub, drop-nil)
  part_slice (suc f) (suc t) [] = take-nil (suc t - suc f)
  part_slice (suc f) (suc t) (x ∷ l) = rw suc-sub-suc (part_slice f t l)

  -- a part that ends before it begins
  slice_none : (f t : ℕ) (l : List A) → t ≤ f → slice f t l ≡ []
  slice_none f t l h = drop_of_length-le (take t l) {i = f} (omega (arith, length-take t l))

  -- a part that ends beyond the end
  pub slice_cut : (f t : ℕ) (l : List A) → slice f (min t (length l)) l ≡ slice f t l
  slice_cut f t l = go (le_or t (length l))
    where
      go : (t ≤ length l) ⊎ (length l < t) → slice f (min t (length l)) l ≡ slice f t l
      go (inl h) = let e : min t (length l) ≡ t = omega arith in ap (λ (n : ℕ). slice f n l) e
      go (inr h) = ap (drop f) (take_all (min t (length l)) l (omega arith) ∙ sym (take_all t l (omega arith)))

  -- what is handed out beside slice k, where it has entries, and where it has none
  pub beside_some : (q : List ℕ) (numbers k at end to : ℕ) (all : List A) → at ≡ slice_place q numbers k → end ≡ slice_end q at → to ≡ min end (length all)
      → take (to - (at + 1)) (drop (at + 1) all) ≡ beside_slice q numbers k all
  unfolding beside_slice
  beside_some q numbers k at end to all e f g =
      part_slice (at + 1) to all
      ∙ ap (λ (n : ℕ). slice (at + 1) n all) g
      ∙ slice_cut (at + 1) end all
      ∙ rw (add-one at, f, e)

  pub beside_none : (q : List ℕ) (numbers k at end to : ℕ) (all : List A) → at ≡ slice_place q numbers k → end ≡ slice_end q at → to ≡ min end (length all) → to ≤ at
      → [] ≡ beside_slice q numbers k all
  unfolding beside_slice
  beside_none q numbers k at end to all e f g h =
      sym (slice_none (suc at) to all (omega arith))
      ∙ ap (λ (n : ℕ). slice (suc at) n all) g
      ∙ slice_cut (suc at) end all
      ∙ rw (f, e)

-- the same of the question's own words
pub words_some : (q : List ℕ) (numbers k at to : ℕ) → at ≡ slice_place q numbers k → to ≡ slice_end q at → take (to - (at + 1)) (drop (at + 1) q) ≡ words_in q numbers k
unfolding words_in
words_some q numbers k at to e f = beside_some q numbers k at to to q e f (omega (arith, f, end_within q at))

pub words_none : (q : List ℕ) (numbers k at to : ℕ) → at ≡ slice_place q numbers k → to ≡ slice_end q at → to ≤ at → [] ≡ words_in q numbers k
unfolding words_in
words_none q numbers k at to e f h = beside_none q numbers k at to to q e f (omega (arith, f, end_within q at)) h

-- ---- all words, as entries of another kind

first_length : (n : ℕ) (q : List ℕ) → length (first_words n q) ≡ n
unfolding first_words
first_length zero q = refl
first_length (suc n) [] = ap suc (first_length n [])
first_length (suc n) (w ∷ q) = ap suc (first_length n q)

first_at : (n : ℕ) (q : List ℕ) (i : ℕ) → i < n → get_or (first_words n q) i 0 ≡ get_or q i 0
unfolding first_words
first_at zero q i h = absurd (omega arith)
first_at (suc n) [] zero h = refl
first_at (suc n) [] (suc i) h = first_at n [] i (omega arith)
first_at (suc n) (w ∷ q) zero h = refl
first_at (suc n) (w ∷ q) (suc i) h = first_at n q i (omega arith)

take_first : (t n : ℕ) (q : List ℕ) → t ≤ n → t ≤ length q → take t (first_words n q) ≡ take t q
unfolding first_words
take_first zero n q h l = refl
take_first (suc t) zero q h l = absurd (omega arith)
take_first (suc t) (suc n) [] h l = absurd (omega arith)
take_first (suc t) (suc n) (w ∷ q) h l = ap (λ (r : List ℕ). w ∷ r) (take_first t n q (omega arith) (omega arith))

module _ {A : Type 0} (f : ℕ → A) where
  -- the first i of n entries are those of the words, and the others are any
  pub record Filled (q : List ℕ) (n i : ℕ) (out : List A) : Type 0 where
    pub len : length out ≡ n
    pub within : i ≤ n
    pub each : (j : ℕ) → j < i → get_or out j (f 0) ≡ f (get_or q j 0)

  pub filled_none : (q : List ℕ) (n : ℕ) (out : List A) → length out ≡ n → Filled q n 0 out
  filled_none q n out e = record { len = e; within = omega arith; each = λ j h. absurd (omega arith) }

  pub filled_more : {q : List ℕ} {n i : ℕ} {out : List A} {v : A} → Filled q n i out → i < n → v ≡ f (get_or q i 0) → Filled q n (i + 1) (set out i v)
  filled_more {q} {n} {i} {out} {v} d h e = record {
    len = length-set out i v ∙ d.len;
    within = omega arith;
    each = λ j l. go j (le_or i j) l;
  }
    where
      go : (j : ℕ) → (i ≤ j) ⊎ (j < i) → j < i + 1 → get_or (set out i v) j (f 0) ≡ f (get_or q j 0)
      go j (inl a) l = let k : j ≡ i = omega arith in rw k (get_or-set_same out i v (f 0) (omega (arith, d.len)) ∙ e)
      go j (inr a) l = get_or-set_other out i j v (f 0) (λ k. omega (arith, k)) ∙ d.each j a

  pub filled_all : {q : List ℕ} {n i : ℕ} {out : List A} → Filled q n i out → n ≤ i → out ≡ map f (first_words n q)
  filled_all {q} {n} {i} {out} d h =
      ext_get_or (f 0) out (map f (first_words n q)) (d.len ∙ sym (length-map (first_words n q) f ∙ first_length n q))
      (λ j l. d.each j (omega (arith, d.len)) ∙ sym (get_or-map f (first_words n q) j 0 ∙ ap f (first_at n q j (omega (arith, d.len)))))

  map_take : (n : ℕ) (l : List ℕ) → take n (map f l) ≡ map f (take n l)
  map_take zero l = refl
  map_take (suc n) [] = refl
  map_take (suc n) (x ∷ l) = ap (λ (r : List A). f x ∷ r) (map_take n l)

  map_drop : (n : ℕ) (l : List ℕ) → drop n (map f l) ≡ map f (drop n l)
  map_drop zero l = refl
  map_drop (suc n) [] = refl
  map_drop (suc n) (x ∷ l) = map_drop n l

  -- beside a slice stand its entries, each by f
  pub beside_all : (n : ℕ) (q : List ℕ) (numbers k : ℕ) → length q ≤ n → beside_slice q numbers k (map f (first_words n q)) ≡ map f (words_in q numbers k)
  unfolding beside_slice words_in
  beside_all n q numbers k h =
      let at : ℕ = slice_place q numbers k in
      let to : ℕ = slice_end q at in
      let l : to ≤ length q = end_within q at in
      ap (drop (suc at)) (map_take to (first_words n q) ∙ ap (map f) (take_first to n q (omega arith) l))
      ∙ map_drop (suc at) (take to q)

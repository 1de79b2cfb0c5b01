-- What the search for a common cell finds. Of the lists by line of tables, with the cells below c counted for each line, it finds whether some
-- cell below c lists both lines (`met_is`). Assumes nothing.
use mathlib.Core.Path.{◌≡◌, refl, sym, ap, ◌∙◌}
use mathlib.Core.Bool.{Bool, true, false, ◌&&◌, ◌||◌, or-false, or-true}
use mathlib.Core.List.{List, [], ◌∷◌, ◌++◌, append-nil, append_assoc}
use Prim.Native.Nat.{ℕ, zero, suc, ◌+◌, ◌-◌, ◌≤◌, ◌<◌}
use native.Mathlib.Decide.{le_ind}
use native.Mathlib.Omega.{arith}
use lib.ListN.{length, get_or, take, drop, length-append, get_or-append}
use lib.Seq.{get_or_at, take_at, take-take}
use Rattle.slices.specs.Lists.{elem, Below}
use Rattle.slices.proofs.Members.{below_at}
use Rattle.tables.specs.Lists.{only, lines_at, start}
use Rattle.tables.specs.InsidePasses.{Table, Counted}
use Rattle.tables.proofs.Lists.{lines_below}
use Rattle.tables.proofs.Laws.{sum_below, table_offset, table_list}
use Rattle.by_line.specs.First.{meets, front_of, meet_before, some_below, met_below}
use Rattle.by_line.proofs.Fronts.{meets_none, meets_empty, meets_same, meets_right, meets_left, front_is}

-- ---- the search asks the first entries alone

pub meets_alike : (xs ys xs' ys' : List ℕ) (i j : ℕ) → ((k : ℕ) → k < i → get_or xs k 0 ≡ get_or xs' k 0) → ((k : ℕ) → k < j → get_or ys k 0 ≡ get_or ys' k 0)
    → meets xs ys i j ≡ meets xs' ys' i j
unfolding meets
meets_alike xs ys xs' ys' zero j f g = refl
meets_alike xs ys xs' ys' (suc i) zero f g = refl
meets_alike xs ys xs' ys' (suc i) (suc j) f g =
    rw (
      f i (omega arith),
      g j (omega arith),
      meets_alike xs ys xs' ys' (suc i) j f (λ k l. g k (omega arith)),
      meets_alike xs ys xs' ys' i (suc j) (λ k l. f k (omega arith)) g,
    )

-- ---- one cell more

found : List ℕ → List ℕ → Bool
found xs ys = meets xs ys (length xs) (length ys)

module _ (c : ℕ) (xs ys : List ℕ) (bx : Below c xs) (by : Below c ys) where
  long : (zs : List ℕ) → length (zs ++ (c ∷ [])) ≡ length zs + 1
  long zs = length-append zs (c ∷ [])

  last : (zs : List ℕ) → get_or (zs ++ (c ∷ [])) ((length zs + 1) - 1) 0 ≡ c
  last zs = let e : (length zs + 1) - 1 ≡ length zs = omega arith in rw e (get_or_at zs c [] 0 (length zs) refl)

  -- both lines: found at once
  more_both : found (xs ++ (c ∷ [])) (ys ++ (c ∷ [])) ≡ true
  unfolding found
  more_both =
      rw (long xs, long ys)
      (meets_same (xs ++ (c ∷ [])) (ys ++ (c ∷ [])) (length xs + 1) (length ys + 1) (omega arith) (omega arith) (last xs ∙ sym (last ys)))

  -- the first line alone
  more_left : found (xs ++ (c ∷ [])) ys ≡ found xs ys
  unfolding found
  more_left = rw (long xs) (go (length ys) refl)
    where
      go : (n : ℕ) → length ys ≡ n → meets (xs ++ (c ∷ [])) ys (length xs + 1) n ≡ meets xs ys (length xs) n
      go zero e = meets_empty (xs ++ (c ∷ [])) ys (length xs + 1) 0 refl ∙ sym (meets_empty xs ys (length xs) 0 refl)
      go (suc n) e =
          let z : (length xs + 1) - 1 ≡ length xs = omega arith in
          let z' : suc n - 1 ≡ n = omega arith in
          let b : get_or ys (suc n - 1) 0 < c = rw z' (below_at c ys n by (omega arith)) in
          meets_right (xs ++ (c ∷ [])) ys (length xs + 1) (suc n) (omega arith) (omega arith) (λ q. omega (arith, last xs)) (omega (arith, last xs))
          ∙ rw z (meets_alike (xs ++ (c ∷ [])) ys xs ys (length xs) (suc n) (λ k l. get_or-append xs (c ∷ []) 0 k l) (λ k l. refl))

  -- the second line alone
  more_right : found xs (ys ++ (c ∷ [])) ≡ found xs ys
  unfolding found
  more_right = rw (long ys) (go (length xs) refl)
    where
      go : (n : ℕ) → length xs ≡ n → meets xs (ys ++ (c ∷ [])) n (length ys + 1) ≡ meets xs ys n (length ys)
      go zero e = meets_none xs (ys ++ (c ∷ [])) (length ys + 1) ∙ sym (meets_none xs ys (length ys))
      go (suc n) e =
          let z : (length ys + 1) - 1 ≡ length ys = omega arith in
          let z' : suc n - 1 ≡ n = omega arith in
          let b : get_or xs (suc n - 1) 0 < c = rw z' (below_at c xs n bx (omega arith)) in
          meets_left xs (ys ++ (c ∷ [])) (suc n) (length ys + 1) (omega arith) (omega arith) (λ q. omega (arith, last ys)) (omega (arith, last ys))
          ∙ rw z (meets_alike xs (ys ++ (c ∷ [])) xs ys (suc n) (length ys) (λ k l. refl) (λ k l. get_or-append ys (c ∷ []) 0 k l))

-- ---- of the cells that list two lines

found_is : (W : ℕ → List ℕ) (a b c : ℕ) → found (lines_at W c a) (lines_at W c b) ≡ some_below c (λ k. elem a (W k) && elem b (W k))
unfolding lines_at some_below found
found_is W a b zero = meets_none [] [] 0
found_is W a b (suc c) = go (elem a (W c)) (elem b (W c)) (some_below c (λ k. elem a (W k) && elem b (W k))) (found_is W a b c)
  where
    xs : List ℕ
    xs = lines_at W c a

    ys : List ℕ
    ys = lines_at W c b

    go : (p q s : Bool) → found (lines_at W c a) (lines_at W c b) ≡ s → found (lines_at W c a ++ only p c) (lines_at W c b ++ only q c) ≡ (s || (p && q))
    go true true s ih = more_both c xs ys (lines_below W c a) (lines_below W c b) ∙ sym (or-true s)
    go true false s ih = rw append-nil (more_left c xs ys (lines_below W c a) (lines_below W c b) ∙ ih ∙ sym (or-false s))
    go false true s ih = rw append-nil (more_right c xs ys (lines_below W c a) (lines_below W c b) ∙ ih ∙ sym (or-false s))
    go false false s ih = simp append-nil (ih ∙ sym (or-false s))

-- ---- the first cells of a line, of lists by line

-- the cells below c come first
pub lines_front : (W : ℕ → List ℕ) (i c m : ℕ) → c ≤ m → (r : List ℕ) × (lines_at W m i ≡ lines_at W c i ++ r)
unfolding lines_at
lines_front W i c m h =
    le_ind (λ k. (r : List ℕ) × (lines_at W k i ≡ lines_at W c i ++ r)) ([], sym (append-nil (lines_at W c i)))
    (λ k _ ih. (ih.0 ++ only (elem i (W k)) k, ap (λ (l : List ℕ). l ++ only (elem i (W k)) k) ih.1 ∙ append_assoc (lines_at W c i) ih.0 (only (elem i (W k)) k))) m h

-- lists by line, with the cells below c counted
pub record Standing (W : ℕ → List ℕ) (m n : ℕ) (starts listing : List ℕ) (c : ℕ) (counts : List ℕ) : Type 0 where
  pub table : Table (lines_at W m) n starts listing
  pub starts_long : n < length starts
  pub listing_long : start (lines_at W m) n ≤ length listing
  pub at_most : c ≤ m
  pub counts_long : n ≤ length counts
  pub counted : Counted (lines_at W c) counts

module _ {W : ℕ → List ℕ} {m n : ℕ} {starts listing : List ℕ} {c : ℕ} {counts : List ℕ} (s : Standing W m n starts listing c counts) where
  pub front_lines : (i : ℕ) → i < n → front_of i starts listing counts ≡ lines_at W c i
  front_lines i h =
      let f = lines_front W i c m s.at_most in
      let l : length (lines_at W m i) ≡ length (lines_at W c i) + length f.0 = ap length f.1 ∙ length-append (lines_at W c i) f.0 in
      let o : get_or starts i 0 ≡ start (lines_at W m) i = table_offset s.table i (omega arith) in
      let k : get_or counts i 0 ≡ length (lines_at W c i) = s.counted.count_is i in
      let b : get_or starts i 0 + get_or counts i 0 ≤ length listing = omega (arith, s.listing_long, sum_below (λ x. length (lines_at W m x)) i n h) in
      let d : (get_or starts i 0 + get_or counts i 0) - get_or starts i 0 ≡ length (lines_at W c i) = omega arith in
      let w : take (length (lines_at W m i)) (drop (start (lines_at W m) i) listing) ≡ lines_at W m i = table_list s.table i h in
      sym (front_is i starts listing counts (omega (arith, s.starts_long)) (omega (arith, s.counts_long)) (get_or starts i 0) (get_or starts i 0 + get_or counts i 0) refl refl b)
      ∙ rw (d, o)
      (sym (take-take (length (lines_at W c i)) (length (lines_at W m i)) (drop (start (lines_at W m) i) listing) (omega arith))
      ∙ ap (take (length (lines_at W c i))) (w ∙ f.1)
      ∙ take_at (lines_at W c i) f.0 (length (lines_at W c i)) refl)

  -- THE SEARCH finds whether some cell below c lists both lines
  pub met_is : (a b : ℕ) → a < n → b < n → meet_before a b starts listing counts ≡ met_below W c a b
  unfolding meet_before met_below found
  met_is a b ha hb = rw (front_lines a ha, front_lines b hb) (found_is W a b c)

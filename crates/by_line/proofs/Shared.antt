-- The marks of lines. Each bit but the lowest stands for one of the first cells of its line, so two lines whose marks have such a bit in common met
-- before (`shared_met`). Each of those cells has a bit, so two lines whose marks have none in common did not (`apart_first`). Assumes nothing.
use mathlib.Core.Path.{◌≡◌, refl, sym, ap, ◌∙◌}
use mathlib.Core.Logic.{◌⊎◌, inl, inr}
use mathlib.Core.Bool.{Bool, true, false, cond, ◌&&◌, ◌||◌, true≢false, or-true}
use mathlib.Core.List.{List, [], ◌∷◌, ◌++◌, append-nil}
use Prim.Native.Nat.{ℕ, zero, suc, ◌+◌, ◌-◌, ◌^◌, ◌≤◌, ◌<◌}
use native.Mathlib.Decide.{dec_lt, dec_le, ℕ_discrete}
use native.Mathlib.Omega.{arith}
use borrow.Author.Tests.{eq-eqb, ne_eqb, eqb-true, lt-ltb, le-ltb, le-leb, lt-leb}
use lib.Dec.{eqb}
use lib.Bits.{bit_and, bit_or}
use lib.ListN.{length, get_or, set, length-set, length-append, get_or-append}
use lib.Seq.{get_or_at, get_or-set_same, get_or-set_other}
use Rattle.slices.specs.Lists.{elem}
use Rattle.slices.proofs.Members.{any_append, elem_at}
use Rattle.grid.proofs.Bools.{or_says, and_says}
use Rattle.tables.specs.Lists.{only, lines_at}
use Rattle.by_line.specs.First.{front_of, some_below, met_below}
use Rattle.by_line.specs.Marks.{bit_place, bit_of, bits_back, mark_of, MarksAre}
use Rattle.by_line.proofs.Bits.{bit_at, common_high, common_none, or_bit, or_left, or_right, zero_bit, power_bit, bit_power}
use Rattle.by_line.proofs.Common.{Standing, front_lines}

-- ---- the bit of a cell

module _ (before low cell : ℕ) where
  place_low : cell ≤ low → bit_place before low cell ≡ 0
  unfolding bit_place
  place_low l = rw (le-leb cell low l)

  module _ (l : low < cell) where
    place_before : cell ≡ before → bit_place before low cell ≡ 31
    unfolding bit_place
    place_before e = rw (lt-leb cell low l, eq-eqb cell before e)

    module _ (n : cell ≡ before → ⊥) where
      place_near : cell - low < 31 → bit_place before low cell ≡ cell - low
      unfolding bit_place
      place_near s = rw (lt-leb cell low l, ne_eqb cell before n, lt-ltb (cell - low) 31 s)

      place_far : 31 ≤ cell - low → bit_place before low cell ≡ 0
      unfolding bit_place
      place_far s = rw (lt-leb cell low l, ne_eqb cell before n, le-ltb (cell - low) 31 s)

      pub bit_near : cell - low < 31 → 2 ^ (cell - low) ≡ bit_of before low cell
      unfolding bit_of
      bit_near s = rw (place_near s)

      pub bit_far : 31 ≤ cell - low → 1 ≡ bit_of before low cell
      unfolding bit_of
      bit_far s = rw (place_far s)

    pub bit_before : cell ≡ before → 2147483648 ≡ bit_of before low cell
    unfolding bit_of
    bit_before e = rw (place_before e)

  pub bit_low : cell ≤ low → 1 ≡ bit_of before low cell
  unfolding bit_of
  bit_low l = rw (place_low l)

-- the cell that a bit stands for
cell_at : ℕ → ℕ → ℕ → ℕ
cell_at before low k = cond (eqb k 31) before (low + k)

place_says : (before low cell k : ℕ) → suc k ≡ bit_place before low cell → cell_at before low (suc k) ≡ cell
unfolding cell_at
place_says before low cell k e = go (dec_le cell low)
  where
    near : (l : low < cell) (n : cell ≡ before → ⊥) → Dec (cell - low < 31) → cell_at before low (suc k) ≡ cell
    near l n (yes s) =
        let q : suc k ≡ cell - low = e ∙ place_near before low cell l n s in
        rw (ne_eqb (suc k) 31 (λ z. omega (arith, z, q, s))) (omega (arith, q, l))
    near l n (no s) = absurd (omega (arith, e ∙ place_far before low cell l n (omega (arith, s))))

    above : (l : low < cell) → Dec (cell ≡ before) → cell_at before low (suc k) ≡ cell
    above l (yes q) = rw (eq-eqb (suc k) 31 (e ∙ place_before before low cell l q)) (sym q)
    above l (no n) = near l n (dec_lt (cell - low) 31)

    go : Dec (cell ≤ low) → cell_at before low (suc k) ≡ cell
    go (yes l) = absurd (omega (arith, e ∙ place_low before low cell l))
    go (no n) = above (omega (arith, n)) (ℕ_discrete cell before)

bit_says : (before low cell k : ℕ) → bit_at (suc k) (bit_of before low cell) ≡ 1 → cell_at before low (suc k) ≡ cell
unfolding bit_of
bit_says before low cell k h = place_says before low cell k (power_bit (suc k) (bit_place before low cell) h)

bit_stands : (before low cell : ℕ) → bit_at (bit_place before low cell) (bit_of before low cell) ≡ 1
unfolding bit_of
bit_stands before low cell = bit_power (bit_place before low cell)

-- ---- the bits of a list's first entries

module _ (cells : List ℕ) (before low : ℕ) where
  pub back_none : (m : ℕ) → m ≡ bits_back cells before low 0 m
  unfolding bits_back
  back_none m = refl

  pub back_stop : (i m : ℕ) → get_or cells i 0 ≤ low → bit_or m (bit_of before low (get_or cells i 0)) ≡ bits_back cells before low (suc i) m
  unfolding bits_back
  back_stop i m l = rw (le-leb (get_or cells i 0) low l)

  pub back_more : (i m : ℕ) → low < get_or cells i 0 → bits_back cells before low i (bit_or m (bit_of before low (get_or cells i 0))) ≡ bits_back cells before low (suc i) m
  unfolding bits_back
  back_more i m l = rw (lt-leb (get_or cells i 0) low l)

  back_says : (i m k : ℕ) → i ≤ length cells → bit_at (suc k) (bits_back cells before low i m) ≡ 1
      → (bit_at (suc k) m ≡ 1) ⊎ (elem (cell_at before low (suc k)) cells ≡ true)
  back_says zero m k g h = inl (rw (← back_none m) at h)
  back_says (suc i) m k g h = go (dec_lt low (get_or cells i 0)) (λ q. back_says i (bit_or m (bit_of before low (get_or cells i 0))) k (omega (arith, g)) q)
    where
      one : (bit_at (suc k) m ≡ 1) ⊎ (bit_at (suc k) (bit_of before low (get_or cells i 0)) ≡ 1) → (bit_at (suc k) m ≡ 1) ⊎ (elem (cell_at before low (suc k)) cells ≡ true)
      one (inl e) = inl e
      one (inr e) = inr (rw (bit_says before low (get_or cells i 0) k e) (elem_at cells i (omega (arith, g))))

      some : (bit_at (suc k) (bit_or m (bit_of before low (get_or cells i 0))) ≡ 1) ⊎ (elem (cell_at before low (suc k)) cells ≡ true)
          → (bit_at (suc k) m ≡ 1) ⊎ (elem (cell_at before low (suc k)) cells ≡ true)
      some (inl e) = one (or_bit (suc k) m (bit_of before low (get_or cells i 0)) e)
      some (inr e) = inr e

      go : Dec (low < get_or cells i 0)
          → (bit_at (suc k) (bits_back cells before low i (bit_or m (bit_of before low (get_or cells i 0)))) ≡ 1
          → (bit_at (suc k) (bit_or m (bit_of before low (get_or cells i 0))) ≡ 1) ⊎ (elem (cell_at before low (suc k)) cells ≡ true))
          → (bit_at (suc k) m ≡ 1) ⊎ (elem (cell_at before low (suc k)) cells ≡ true)
      go (yes l) ih = some (ih (rw (← back_more i m l) at h))
      go (no n) ih = let z : get_or cells i 0 ≤ low = omega (arith, n) in some (inl (rw (← back_stop i m z) at h))

  -- a bit that is there stays
  back_keeps : (i m k : ℕ) → bit_at k m ≡ 1 → bit_at k (bits_back cells before low i m) ≡ 1
  back_keeps zero m k h = rw (← back_none m) h
  back_keeps (suc i) m k h = go (dec_lt low (get_or cells i 0)) (back_keeps i (bit_or m (bit_of before low (get_or cells i 0))) k (or_left k m _ h))
    where
      go : Dec (low < get_or cells i 0) → bit_at k (bits_back cells before low i (bit_or m (bit_of before low (get_or cells i 0)))) ≡ 1
          → bit_at k (bits_back cells before low (suc i) m) ≡ 1
      go (yes l) ih = rw (← back_more i m l) ih
      go (no n) ih = let z : get_or cells i 0 ≤ low = omega (arith, n) in rw (← back_stop i m z) (or_left k m _ h)

-- the first entries alone are asked
back_alike : (xs ys : List ℕ) (before low i m : ℕ) → ((k : ℕ) → k < i → get_or xs k 0 ≡ get_or ys k 0) → bits_back xs before low i m ≡ bits_back ys before low i m
unfolding bits_back
back_alike xs ys before low zero m f = refl
back_alike xs ys before low (suc i) m f =
    rw (f i (omega arith), back_alike xs ys before low i (bit_or m (bit_of before low (get_or ys i 0))) (λ k l. f k (omega arith)))

pub mark_is : {cells : List ℕ} (line before low : ℕ) (starts listing counts : List ℕ) → cells ≡ front_of line starts listing counts
    → {m : ℕ} → m ≡ bits_back cells before low (length cells) 0 → m ≡ mark_of line before low starts listing counts
unfolding mark_of
mark_is line before low starts listing counts e q = q ∙ rw e

mark_says : (line before low : ℕ) (starts listing counts : List ℕ) (k : ℕ) → bit_at (suc k) (mark_of line before low starts listing counts) ≡ 1
    → elem (cell_at before low (suc k)) (front_of line starts listing counts) ≡ true
unfolding mark_of
mark_says line before low starts listing counts k h =
    go (back_says (front_of line starts listing counts) before low (length (front_of line starts listing counts)) 0 k (omega arith) h)
  where
    go : (bit_at (suc k) 0 ≡ 1) ⊎ (elem (cell_at before low (suc k)) (front_of line starts listing counts) ≡ true)
        → elem (cell_at before low (suc k)) (front_of line starts listing counts) ≡ true
    go (inl e) = absurd (zero_bit (suc k) e)
    go (inr e) = e

-- ---- the loop

pub record Marking (cells : List ℕ) (before low m i : ℕ) : Type 0 where
  pub in_cells : i ≤ length cells
  pub same : bits_back cells before low (length cells) 0 ≡ bits_back cells before low i m

pub marking_begin : (cells : List ℕ) (before low : ℕ) → Marking cells before low 0 (length cells)
marking_begin cells before low = record { in_cells = omega arith; same = refl }

module _ {cells : List ℕ} {before low m i : ℕ} (s : Marking cells before low m i) where
  pub marking_over : i ≤ 0 → m ≡ bits_back cells before low (length cells) 0
  marking_over h = let e : i ≡ 0 = omega arith in back_none cells before low m ∙ sym (rw e at s.same)

  module _ (a : 0 < i) where
    top : i ≡ suc (i - 1)
    top = omega arith

    pub marking_stop : {b : ℕ} → b ≡ bit_of before low (get_or cells (i - 1) 0) → get_or cells (i - 1) 0 ≤ low → bit_or m b ≡ bits_back cells before low (length cells) 0
    marking_stop e l = ap (bit_or m) e ∙ back_stop cells before low (i - 1) m l ∙ ap (λ (z : ℕ). bits_back cells before low z m) (sym top) ∙ sym s.same

    pub marking_more : low < get_or cells (i - 1) 0 → {b : ℕ} → b ≡ bit_of before low (get_or cells (i - 1) 0) → Marking cells before low (bit_or m b) (i - 1)
    marking_more l {b} e =
        record {
          in_cells = omega (arith, s.in_cells);
          same = s.same ∙ ap (λ (z : ℕ). bits_back cells before low z m) top ∙ sym (back_more cells before low (i - 1) m l) ∙ rw (← e);
        }

-- ---- the cells that list a line

only_says : (p : Bool) (v c : ℕ) → elem v (only p c) ≡ true → (p ≡ true) × (v ≡ c)
only_says true v c h = go (or_says (eqb v c) false h)
  where
    go : (eqb v c ≡ true) ⊎ (false ≡ true) → (true ≡ true) × (v ≡ c)
    go (inl e) = (refl, eqb-true v c e)
    go (inr e) = absurd (true≢false (sym e))
only_says false v c h = absurd (true≢false (sym h))

lines_say : (W : ℕ → List ℕ) (c i v : ℕ) → elem v (lines_at W c i) ≡ true → (v < c) × (elem i (W v) ≡ true)
unfolding lines_at
lines_say W zero i v h = absurd (true≢false (sym h))
lines_say W (suc c) i v h = go (lines_say W c i v) (or_says _ _ (sym (any_append (eqb v) (lines_at W c i) (only (elem i (W c)) c)) ∙ h))
  where
    go : (elem v (lines_at W c i) ≡ true → (v < c) × (elem i (W v) ≡ true))
        → (elem v (lines_at W c i) ≡ true) ⊎ (elem v (only (elem i (W c)) c) ≡ true) → (v < suc c) × (elem i (W v) ≡ true)
    go ih (inl e) = let r = ih e in (omega (arith, r.0), r.1)
    go ih (inr e) = let r = only_says (elem i (W c)) v c e in (omega (arith, r.1), rw r.1 r.0)

some_says : (c : ℕ) (f : ℕ → Bool) (v : ℕ) → v < c → f v ≡ true → some_below c f ≡ true
unfolding some_below
some_says zero f v l h = absurd (omega (arith, l))
some_says (suc c) f v l h = go (ℕ_discrete v c) (λ k. some_says c f v k h)
  where
    go : Dec (v ≡ c) → (v < c → some_below c f ≡ true) → (some_below c f || f c) ≡ true
    go (yes e) ih = rw (← e, h) (or-true (some_below v f))
    go (no n) ih = rw (ih (omega (arith, l, n)))

some_none : (c : ℕ) (f : ℕ → Bool) → ((v : ℕ) → v < c → f v ≡ true → ⊥) → some_below c f ≡ false
unfolding some_below
some_none zero f h = refl
some_none (suc c) f h = rw (some_none c f (λ v l e. h v (omega arith) e)) (go (f c) refl)
  where
    go : (b : Bool) → f c ≡ b → (false || f c) ≡ false
    go true e = absurd (h c (omega arith) e)
    go false e = e

-- a cell below c that lists a line has its bit in the line's mark
module _ (before low : ℕ) where
  lines_marked : (W : ℕ → List ℕ) (i v c : ℕ) → v < c → elem i (W v) ≡ true → (m : ℕ)
      → bit_at (bit_place before low v) (bits_back (lines_at W c i) before low (length (lines_at W c i)) m) ≡ 1
  unfolding lines_at
  lines_marked W i v zero l e m = absurd (omega (arith, l))
  lines_marked W i v (suc c) l e m = go (elem i (W c)) refl (λ k m'. lines_marked W i v c k e m')
    where
      xs : List ℕ
      xs = lines_at W c i

      last : get_or (xs ++ (c ∷ [])) (length xs) 0 ≡ c
      last = get_or_at xs c [] 0 (length xs) refl

      long : length (xs ++ (c ∷ [])) ≡ suc (length xs)
      long = length-append xs (c ∷ []) ∙ omega arith

      -- the cell c is the last
      stop : c ≤ low → bit_at (bit_place before low v) (bits_back (xs ++ (c ∷ [])) before low (suc (length xs)) m) ≡ 1
      stop k =
          let z : get_or (xs ++ (c ∷ [])) (length xs) 0 ≤ low = rw last k in
          let same : bit_place before low v ≡ bit_place before low c = place_low before low v (omega (arith, l, k)) ∙ sym (place_low before low c k) in
          rw (← back_stop (xs ++ (c ∷ [])) before low (length xs) m z, last, same) (or_right (bit_place before low c) m (bit_of before low c) (bit_stands before low c))

      further : low < c → ((k : v < c) → (m' : ℕ) → bit_at (bit_place before low v) (bits_back xs before low (length xs) m') ≡ 1)
          → bit_at (bit_place before low v) (bits_back (xs ++ (c ∷ [])) before low (suc (length xs)) m) ≡ 1
      further k ih =
          let z : low < get_or (xs ++ (c ∷ [])) (length xs) 0 = rw last k in
          rw (← back_more (xs ++ (c ∷ [])) before low (length xs) m z, last, back_alike (xs ++ (c ∷ [])) xs before low (length xs) (bit_or m (bit_of before low c)) (λ q r. get_or-append xs (c ∷ []) 0 q r))
          (here (ℕ_discrete v c))
        where
          here : Dec (v ≡ c) → bit_at (bit_place before low v) (bits_back xs before low (length xs) (bit_or m (bit_of before low c))) ≡ 1
          here (yes q) = back_keeps xs before low (length xs) (bit_or m (bit_of before low c)) (bit_place before low v) (rw q (or_right (bit_place before low c) m (bit_of before low c) (bit_stands before low c)))
          here (no n) = ih (omega (arith, l, n)) (bit_or m (bit_of before low c))

      go : (p : Bool) → elem i (W c) ≡ p → ((k : v < c) → (m' : ℕ) → bit_at (bit_place before low v) (bits_back xs before low (length xs) m') ≡ 1)
          → bit_at (bit_place before low v) (bits_back (xs ++ only p c) before low (length (xs ++ only p c)) m) ≡ 1
      go true q ih = rw long (at_c (dec_le c low))
        where
          at_c : Dec (c ≤ low) → bit_at (bit_place before low v) (bits_back (xs ++ (c ∷ [])) before low (suc (length xs)) m) ≡ 1
          at_c (yes k) = stop k
          at_c (no k) = further (omega (arith, k)) ih
      go false q ih = rw append-nil (ih (below (ℕ_discrete v c)) m)
        where
          below : Dec (v ≡ c) → v < c
          below (yes z) = absurd (true≢false (sym e ∙ rw z q))
          below (no n) = omega (arith, l, n)

module _ {W : ℕ → List ℕ} {m n : ℕ} {starts listing : List ℕ} {c : ℕ} {counts : List ℕ} (s : Standing W m n starts listing c counts) where
  -- TWO LINES WHOSE MARKS HAVE THE BIT OF A CELL IN COMMON met in a cell below c
  pub shared_met : (before low a b : ℕ) → a < n → b < n
      → 1 < bit_and (mark_of a before low starts listing counts) (mark_of b before low starts listing counts) → met_below W c a b ≡ true
  unfolding met_below
  shared_met before low a b ha hb d =
      let q = common_high (mark_of a before low starts listing counts) (mark_of b before low starts listing counts) d in
      let x = lines_say W c a (cell_at before low (suc q.k)) (rw (front_lines s a ha) at (mark_says a before low starts listing counts q.k q.left)) in
      let y = lines_say W c b (cell_at before low (suc q.k)) (rw (front_lines s b hb) at (mark_says b before low starts listing counts q.k q.right)) in
      some_says c (λ k. elem a (W k) && elem b (W k)) (cell_at before low (suc q.k)) x.0 (rw (x.1, y.1))

  cell_marked : (before low a v : ℕ) → a < n → v < c → elem a (W v) ≡ true → bit_at (bit_place before low v) (mark_of a before low starts listing counts) ≡ 1
  unfolding mark_of
  cell_marked before low a v ha l e = rw (front_lines s a ha) (lines_marked before low W a v c l e 0)

  -- TWO LINES WHOSE MARKS HAVE NO BIT IN COMMON met in no cell below c
  pub apart_first : (before low a b : ℕ) → a < n → b < n
      → bit_and (mark_of a before low starts listing counts) (mark_of b before low starts listing counts) ≡ 0 → met_below W c a b ≡ false
  unfolding met_below
  apart_first before low a b ha hb d =
      some_none c (λ k. elem a (W k) && elem b (W k))
      (λ v l e.
      let q = and_says (elem a (W v)) (elem b (W v)) e in
      common_none (bit_place before low v) (mark_of a before low starts listing counts) (mark_of b before low starts listing counts)
      (cell_marked before low a v ha l q.0) (cell_marked before low b v hb l q.1) d)

-- ---- the marks of a list

pub record Listing (list : List ℕ) (before low : ℕ) (starts listing counts marks₀ marks : List ℕ) (j : ℕ) : Type 0 where
  pub room : length list ≤ length marks₀
  pub at : j ≤ length list
  pub long : length marks ≡ length marks₀
  pub done : (i : ℕ) → i < j → get_or marks i 0 ≡ mark_of (get_or list i 0) before low starts listing counts
  pub rest : (i : ℕ) → j ≤ i → get_or marks i 0 ≡ get_or marks₀ i 0

pub listing_begin : {list : List ℕ} {before low : ℕ} {starts listing counts marks : List ℕ} → length list ≤ length marks
    → Listing list before low starts listing counts marks marks 0
listing_begin h = record { room = h; at = omega arith; long = refl; done = λ i l. absurd (omega (arith, l)); rest = λ i l. refl }

-- no room
pub listing_none : {list : List ℕ} {before low : ℕ} {starts listing counts marks : List ℕ} → length marks < length list
    → MarksAre list before low starts listing counts marks 0 marks
listing_none {list} {marks = marks} h =
    record {
      answers = rw (lt-leb (length list) (length marks) h);
      long = refl;
      marked = λ z. absurd (omega (arith, z));
      rest = λ i l. refl;
    }

module _ {list : List ℕ} {before low : ℕ} {starts listing counts marks₀ marks : List ℕ} {j : ℕ} (s : Listing list before low starts listing counts marks₀ marks j) where
  pub listing_over : length list ≤ j → {b l : ℕ} → before ≡ b → low ≡ l → MarksAre list b l starts listing counts marks₀ 1 marks
  listing_over h e f =
      rw (← e, ← f)
      (record {
        answers = rw (le-leb (length list) (length marks₀) s.room);
        long = s.long;
        marked = λ z i l. s.done i (omega (arith, l, h));
        rest = λ i l. s.rest i (omega (arith, l refl, s.at));
      })

  pub listing_more : j < length list → {m : ℕ} → m ≡ mark_of (get_or list j 0) before low starts listing counts
      → Listing list before low starts listing counts marks₀ (set marks j m) (j + 1)
  listing_more l {m} e =
      record {
        room = s.room;
        at = omega arith;
        long = length-set marks j m ∙ s.long;
        done = λ i h. go i (ℕ_discrete i j) h;
        rest = λ i h. get_or-set_other marks j i m 0 (λ z. omega (arith, z, h)) ∙ s.rest i (omega (arith, h));
      }
    where
      go : (i : ℕ) → Dec (i ≡ j) → i < j + 1 → get_or (set marks j m) i 0 ≡ mark_of (get_or list i 0) before low starts listing counts
      go i (yes z) h = rw z (get_or-set_same marks j m 0 (omega (arith, l, s.long, s.room)) ∙ e)
      go i (no z) h = get_or-set_other marks j i m 0 z ∙ s.done i (omega (arith, z, h))

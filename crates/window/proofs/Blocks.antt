-- The lists of the block: those of a row stand side by side in the items, so a line is in a row's part exactly if a cell of the row lists it, and in
-- some row's part exactly if a cell of the block lists it. Assumes nothing.
use mathlib.Core.Path.{◌≡◌, refl, sym, ap, ◌∙◌}
use mathlib.Core.Logic.{⊎_elim}
use mathlib.Core.Bool.{Bool, true, false, ◌&&◌, ◌||◌, true≢false}
use mathlib.Core.List.{List, [], ◌∷◌, ◌++◌}
use Prim.Native.Nat.{ℕ, zero, suc, ◌+◌, ◌-◌, ◌*◌, ◌/◌, ◌%◌, ◌≤◌, ◌<◌}
use native.Mathlib.Nat.{div-add-mod', mul-le-mul_right}
use native.Mathlib.Omega.{arith}
use borrow.Author.Tests.{le-leb, leb-true, eqb-true, eqb-false}
use lib.Dec.{leb, eqb}
use lib.ListN.{get_or}
use lib.Seq.{slice, slice_empty}
use Rattle.slices.specs.Lists.{elem}
use Rattle.slices.proofs.Members.{any_append}
use Rattle.grid.proofs.Bools.{and_left, and_right, and_both, or_says, both_ways, or_left, or_right}
use Rattle.grid.proofs.Shapes.{col_of, row_of_lem}
use Rattle.tables.specs.Tables.{list_in}
use Rattle.tables.specs.Fit.{ListsFit}
use Rattle.window.specs.Window.{within, some}
use Rattle.window.specs.Inside.{row_part}
use Rattle.window.proofs.Marking.{any_from}

-- ---- a number that passes

pub record Passing (test : ℕ → Bool) (from below : ℕ) : Type 0 where
  pub k : ℕ
  pub at_least : from ≤ k
  pub under : k < below
  pub passes : test k ≡ true

pub some_says : (test : ℕ → Bool) (n : ℕ) → some test n ≡ true → Passing test 0 n
unfolding some
some_says test zero h = absurd (true≢false (sym h))
some_says test (suc n) h =
    ⊎_elim
    (λ (e : some test n ≡ true). let p = some_says test n e in record { k = p.k; at_least = omega arith; under = omega (arith, p.under); passes = p.passes })
    (λ (e : test n ≡ true). record { k = n; at_least = omega arith; under = omega arith; passes = e })
    (or_says (some test n) (test n) h)

pub some_has : (test : ℕ → Bool) (n k : ℕ) → k < n → test k ≡ true → some test n ≡ true
unfolding some
some_has test zero k l h = absurd (omega arith)
some_has test (suc n) k l h = go (eqb k n) refl (λ m. some_has test n k m h)
  where
    go : (b : Bool) → eqb k n ≡ b → (k < n → some test n ≡ true) → (some test n || test n) ≡ true
    go true e rest = or_right (some test n) (test n) (rw (← eqb-true k n e) h)
    go false e rest = let d = eqb-false k n e in or_left (some test n) (test n) (rest (omega arith))

any_says : (test : ℕ → Bool) (left k : ℕ) → any_from test left k ≡ true → Passing test k (k + left)
unfolding any_from
any_says test zero k h = absurd (true≢false (sym h))
any_says test (suc left) k h =
    ⊎_elim
    (λ (e : test k ≡ true). record { k = k; at_least = omega arith; under = omega arith; passes = e })
    (λ (e : any_from test left (suc k) ≡ true).
    let p = any_says test left (suc k) e in
    record { k = p.k; at_least = omega (arith, p.at_least); under = omega (arith, p.under); passes = p.passes })
    (or_says (test k) (any_from test left (suc k)) h)

any_has : (test : ℕ → Bool) (left k j : ℕ) → k ≤ j → j < k + left → test j ≡ true → any_from test left k ≡ true
unfolding any_from
any_has test zero k j l m h = absurd (omega arith)
any_has test (suc left) k j l m h = go (eqb j k) refl (λ a b. any_has test left (suc k) j a b h)
  where
    go : (b : Bool) → eqb j k ≡ b → (suc k ≤ j → j < suc k + left → any_from test left (suc k) ≡ true) → (test k || any_from test left (suc k)) ≡ true
    go true e rest = or_left (test k) (any_from test left (suc k)) (rw (← eqb-true j k e) h)
    go false e rest = let d = eqb-false j k e in or_right (test k) (any_from test left (suc k)) (rest (omega arith) (omega arith))

-- ---- lists side by side

slice_split : (f m t : ℕ) (l : List ℕ) → f ≤ m → m ≤ t → slice f t l ≡ slice f m l ++ slice m t l
slice_split zero zero t l a b = refl
slice_split zero (suc m) zero l a b = absurd (omega arith)
slice_split zero (suc m) (suc t) [] a b = refl
slice_split zero (suc m) (suc t) (x ∷ l) a b = ap (λ (xs : List ℕ). x ∷ xs) (slice_split zero m t l (omega arith) (omega arith))
slice_split (suc f) zero t l a b = absurd (omega arith)
slice_split (suc f) (suc m) zero l a b = absurd (omega arith)
slice_split (suc f) (suc m) (suc t) [] a b = refl
slice_split (suc f) (suc m) (suc t) (x ∷ l) a b = slice_split f m t l (omega arith) (omega arith)

module _ (offsets items : List ℕ) where
  abbrev offset : ℕ → ℕ
  offset c = get_or offsets c 0

  -- offsets never fall over n lists from s on
  abbrev Rise : ℕ → ℕ → Type 0
  Rise s n = (c : ℕ) → s ≤ c → c < s + n → offset c ≤ offset (suc c)

  pub rise : (s n : ℕ) → Rise s n → offset s ≤ offset (s + n)
  rise s zero h = let e : s + 0 ≡ s = omega arith in rw e (omega arith)
  rise s (suc n) h =
      let e : s + suc n ≡ suc (s + n) = omega arith in
      rw e (let u = rise s n (λ c a b. h c a (omega arith)) in let v = h (s + n) (omega arith) (omega arith) in omega arith)

  -- v is in the part that n lists from s on make, exactly if it is in one of them
  pub side_by_side : (v s n : ℕ) → Rise s n → elem v (slice (offset s) (offset (s + n)) items) ≡ some (λ k. elem v (list_in offsets items (s + k))) n
  unfolding some
  side_by_side v s zero h =
      let e : s + 0 ≡ s = omega arith in
      rw e (ap (elem v) (slice_empty (offset s) items))
  side_by_side v s (suc n) h =
      let e : s + suc n ≡ suc (s + n) = omega arith in
      let below : Rise s n = λ c a b. h c a (omega arith) in
      rw e
      (ap (elem v) (slice_split (offset s) (offset (s + n)) (offset (suc (s + n))) items (rise s n below) (h (s + n) (omega arith) (omega arith)))
      ∙ any_append (eqb v) (slice (offset s) (offset (s + n)) items) (list_in offsets items (s + n))
      ∙ ap (λ (b : Bool). b || elem v (list_in offsets items (s + n))) (side_by_side v s n below))

-- ---- cells by row and column

pub row_fits : (rows cols r : ℕ) → r < rows → r * cols + cols ≤ rows * cols
row_fits rows cols r h = let m : suc r * cols ≤ rows * cols = mul-le-mul_right cols h in omega arith

pub within_says : (low high n : ℕ) → within low high n ≡ true → (low ≤ n) × (n ≤ high)
within_says low high n h = (leb-true low n (and_left (leb low n) (leb n high) h), leb-true n high (and_right (leb low n) (leb n high) h))

pub within_has : (low high n : ℕ) → low ≤ n → n ≤ high → within low high n ≡ true
within_has low high n a b = and_both (leb low n) (leb n high) (le-leb low n a) (le-leb n high b)

-- ---- the block: columns from `first` to `last`, rows from `from` to `to`

module _ (cols rows lines : ℕ) (offsets items : List ℕ) (first last from to : ℕ) where
  abbrev inside : ℕ → Bool
  inside c = within first last (c % cols) && within from to (c / cols)

  abbrev lists : ℕ → ℕ → Bool
  lists v c = inside c && elem v (list_in offsets items c)

  abbrev part : ℕ → List ℕ
  part = row_part cols offsets items first last

  module _ (fits : ListsFit (rows * cols) lines offsets items) (order : first ≤ last) (wide : last < cols) (high : to < rows) (v : ℕ) where
    -- the cells of a row's part
    unfoldable pub across : ℕ → ℕ → Bool
    across r k = elem v (list_in offsets items (r * cols + first + k))

    pub row_lists : (r : ℕ) → r ≤ to → elem v (part r) ≡ some (across r) (last + 1 - first)
    unfolding row_part across
    row_lists r h =
        let m = row_fits rows cols r (omega arith) in
        let e : r * cols + last + 1 ≡ r * cols + first + (last + 1 - first) = omega arith in
        ap (λ (n : ℕ). elem v (slice (get_or offsets (r * cols + first) 0) (get_or offsets n 0) items)) e
        ∙ side_by_side offsets items v (r * cols + first) (last + 1 - first) (λ c a b. fits.rises c (omega arith))

    found_below : any_from (λ r. elem v (part r)) (to + 1 - from) from ≡ true → some (lists v) (rows * cols) ≡ true
    unfolding across
    found_below h =
        let p = any_says (λ r. elem v (part r)) (to + 1 - from) from h in
        let up : p.k ≤ to = omega (arith, p.at_least, p.under) in
        let q = some_says (across p.k) (last + 1 - first) (sym (row_lists p.k up) ∙ p.passes) in
        let narrow : first + q.k < cols = omega (arith, q.under) in
        let m = row_fits rows cols p.k (omega (arith, up)) in
        let e : p.k * cols + first + q.k ≡ p.k * cols + (first + q.k) = omega arith in
        let cell : ℕ = p.k * cols + first + q.k in
        let col : cell % cols ≡ first + q.k = rw e (col_of cols p.k (first + q.k) narrow) in
        let row : cell / cols ≡ p.k = rw e (row_of_lem cols p.k (first + q.k) narrow) in
        some_has (lists v) (rows * cols) cell (omega arith)
        (and_both (inside cell) (elem v (list_in offsets items cell))
        (and_both (within first last (cell % cols)) (within from to (cell / cols))
        (ap (within first last) col ∙ within_has first last (first + q.k) (omega arith) (omega (arith, q.under)))
        (ap (within from to) row ∙ within_has from to p.k p.at_least up))
        q.passes)

    found_above : some (lists v) (rows * cols) ≡ true → any_from (λ r. elem v (part r)) (to + 1 - from) from ≡ true
    unfolding across
    found_above h =
        let p = some_says (lists v) (rows * cols) h in
        let c = p.k in
        let b = and_left (inside c) (elem v (list_in offsets items c)) p.passes in
        let x = within_says first last (c % cols) (and_left (within first last (c % cols)) (within from to (c / cols)) b) in
        let y = within_says from to (c / cols) (and_right (within first last (c % cols)) (within from to (c / cols)) b) in
        let e : c / cols * cols + c % cols ≡ c = div-add-mod' c cols in
        let k = c % cols - first in
        let low : first ≤ c % cols = x.0 in
        let far : c % cols ≤ last = x.1 in
        let d : c / cols * cols + first + k ≡ c = omega arith in
        any_has (λ r. elem v (part r)) (to + 1 - from) from (c / cols) y.0 (let a = y.0 in let b = y.1 in omega arith)
        (row_lists (c / cols) y.1
        ∙ some_has (across (c / cols)) (last + 1 - first) k (omega arith)
        (rw d (and_right (inside c) (elem v (list_in offsets items c)) p.passes)))

    pub block_lists : any_from (λ r. elem v (part r)) (to + 1 - from) from ≡ some (lists v) (rows * cols)
    block_lists = both_ways _ _ found_below found_above

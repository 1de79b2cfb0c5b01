-- Members of the lists: of a walk's indices, of what a cell adds, of the list that the sentence describes. Assumes nothing.
use mathlib.Core.Path.{◌≡◌, refl, sym, ap, ◌∙◌, subst}
use mathlib.Core.Logic.{inl, inr}
use Prim.Native.Nat.{ℕ, zero, suc, ◌+◌, ◌-◌, ◌*◌, ◌/◌, ◌%◌, ◌≤◌, ◌<◌}
use native.Mathlib.Nat.{add_comm, suc-mul, mul-le-mul_right, div-add-mod', div-lt_iff_lt-mul, mod-lt, mod-eq_of_lt, div-eq_of_lt, add-mul-mod_self_right, mul-add-div_right}
use native.Mathlib.Omega.{arith}
use native.Mathlib.Decide.{ℕ_discrete}
use mathlib.Core.Bool.{Bool, true, false, not, cond, ◌&&◌, ◌||◌, true≢false, beq, or-false}
use mathlib.Core.List.{List, [], ◌∷◌, ◌++◌, map, flat_map, append-nil}
use lib.Dec.{leb, ltb, eqb}
use borrow.Author.Tests.{ltb-true, ltb-false, leb-true, eqb-true, lt-ltb, le-ltb, le-leb, eq-eqb, ne_eqb}
use Rattle.slices.specs.Lists.{any, elem, Below, Rising}
use Rattle.slices.proofs.Members.{any_append, elem_head, below_append}
use Rattle.slices.proofs.Laws.{le_or}
use Rattle.grid.proofs.Bools.{and_left, and_right, and_both, or_says, both_ways, or_left, or_right}
use Rattle.tables.proofs.Lists.{rising_end}
use Rattle.turns.specs.Pushes.{kept_if}
use lib.Ieee.{Float}
use Rattle.grid.specs.declared.Axis.{Axis}
use Rattle.grid.specs.declared.Grid.{Grid}
use Rattle.grid.specs.declared.Segment.{Segment}
use Rattle.grid.specs.Axes.{x_axis, y_axis, index_on, boundary_on}
use Rattle.walk.specs.declared.Mode.TheVariants.{Rust}
use Rattle.walk.specs.declared.Neighbour.{Neighbour}
use Rattle.walk.specs.declared.Neighbour.TheVariants.{None, Lower, Upper}
use Rattle.walk.specs.Neighbours.{low_col_of, up_col_of, low_row_of, up_row_of, column_of, row_of, beside_of}
use Rattle.walk.proofs.Flat.{any_flat}
use Rattle.walk.proofs.Modes.{rust_neighbour}
use Rattle.straight.specs.Sentence.{between, lower_on, next_to, beside_on, sentence, those, vertical_by, horizontal_by, vertical_cells, horizontal_cells, vertical_in, horizontal_in}
use Rattle.straight.proofs.Walking.{cell_by, Inside, Ahead, path, stops}

-- ---- truth by cases

-- a formula of n truths that every choice makes true is a law: tried one by one
abbrev Formula : ℕ → Type 0
Formula zero = Bool
Formula (suc n) = Bool → Formula n

abbrev every : (n : ℕ) → Formula n → Bool
every zero f = f
every (suc n) f = every n (f true) && every n (f false)

abbrev Law : (n : ℕ) → Formula n → Type 0
Law zero f = f ≡ true
Law (suc n) f = (b : Bool) → Law n (f b)

tried : (n : ℕ) (f : Formula n) → every n f ≡ true → Law n f
tried zero f h = h
tried (suc n) f h =
    go (tried n (f true) (and_left (every n (f true)) (every n (f false)) h)) (tried n (f false) (and_right (every n (f true)) (every n (f false)) h))
  where
    go : Law n (f true) → Law n (f false) → (b : Bool) → Law n (f b)
    go p q true = p
    go p q false = q

pub beq_same : (p q : Bool) → beq p q ≡ true → p ≡ q
beq_same true true h = refl
beq_same true false h = absurd (true≢false (sym h))
beq_same false true h = absurd (true≢false (sym h))
beq_same false false h = refl

-- ---- the indices that a walk comes to are those between its ends

-- from j to e, in the direction of the walk
abbrev Range : Bool → ℕ → ℕ → ℕ → Type 0
Range true j e k = (j ≤ k) × (k ≤ e)
Range false j e k = (e ≤ k) × (k ≤ j)

range_between : (up : Bool) (j e k : ℕ) → Range up j e k → between j e k ≡ true
range_between true j e k r = or_left (leb j k && leb k e) (leb e k && leb k j) (and_both (leb j k) (leb k e) (le-leb j k r.0) (le-leb k e r.1))
range_between false j e k r = or_right (leb j k && leb k e) (leb e k && leb k j) (and_both (leb e k) (leb k j) (le-leb e k r.0) (le-leb k j r.1))

between_range : (up : Bool) (n j e k : ℕ) → Ahead up n j e → between j e k ≡ true → Range up j e k
between_range up n j e k a h = elim (or_says (leb j k && leb k e) (leb e k && leb k j) h) [
  | inl p ↦ go up a (leb-true j k (and_left (leb j k) (leb k e) p)) (leb-true k e (and_right (leb j k) (leb k e) p))
  | inr p ↦ back up a (leb-true e k (and_left (leb e k) (leb k j) p)) (leb-true k j (and_right (leb e k) (leb k j) p))
]
  where
    go : (up : Bool) → Ahead up n j e → j ≤ k → k ≤ e → Range up j e k
    go true a x y = (x, y)
    go false a x y = (omega arith, omega arith)

    back : (up : Bool) → Ahead up n j e → e ≤ k → k ≤ j → Range up j e k
    back true a x y = (omega arith, omega arith)
    back false a x y = (x, y)

path_within : (up : Bool) (n j e k : ℕ) → Ahead up n j e → elem k (path up n j) ≡ true → Range up j e k
unfolding path
path_within up zero j e k a h = absurd (true≢false (sym h))
path_within true (suc n) j e k a h = elim (or_says (eqb k (suc j)) (elem k (path true n (suc j))) h) [
  | inl p ↦ let q = eqb-true k (suc j) p in (omega arith, omega arith)
  | inr p ↦ let q = path_within true n (suc j) e k (omega arith) p in (omega arith, q.1)
]
path_within false (suc n) j e k a h = elim (or_says (eqb k (j - 1)) (elem k (path false n (j - 1))) h) [
  | inl p ↦ let q = eqb-true k (j - 1) p in (omega arith, omega arith)
  | inr p ↦ let q = path_within false n (j - 1) e k (omega arith) p in (q.0, omega arith)
]

path_meets : (up : Bool) (n j e k : ℕ) → Ahead up n j e → Range up j e k → (eqb k j || elem k (path up n j)) ≡ true
unfolding path
path_meets true zero j e k a r = or_left (eqb k j) false (eq-eqb k j (omega arith))
path_meets false zero j e k a r = or_left (eqb k j) false (eq-eqb k j (omega arith))
path_meets true (suc n) j e k a r = elim (ℕ_discrete k j) [
  | yes q ↦ or_left (eqb k j) _ (eq-eqb k j q)
  | no q ↦ or_right (eqb k j) _ (path_meets true n (suc j) e k (omega arith) (omega (arith, q), r.1))
]
path_meets false (suc n) j e k a r = elim (ℕ_discrete k j) [
  | yes q ↦ or_left (eqb k j) _ (eq-eqb k j q)
  | no q ↦ or_right (eqb k j) _ (path_meets false n (j - 1) e k (omega arith) (r.0, omega (arith, q)))
]

pub stops_are : (up : Bool) (n j e k : ℕ) → Ahead up n j e → elem k (stops up n j e) ≡ between j e k
stops_are up n j e k a = both_ways (elem k (stops up n j e)) (between j e k) to of
  where
    ends : Range up j e j × Range up j e e
    ends = go up a
      where
        go : (up : Bool) → Ahead up n j e → Range up j e j × Range up j e e
        go true a = ((omega arith, omega arith), (omega arith, omega arith))
        go false a = ((omega arith, omega arith), (omega arith, omega arith))

    to : elem k (stops up n j e) ≡ true → between j e k ≡ true
    to h = elim (or_says (eqb k j) (elem k (path up n j ++ (e ∷ []))) h) [
      | inl p ↦ range_between up j e k (subst (Range up j e) (sym (eqb-true k j p)) ends.0)
      | inr p ↦ elim (or_says (elem k (path up n j)) (eqb k e || false) (sym (any_append (eqb k) (path up n j) (e ∷ [])) ∙ p)) [
        | inl q ↦ range_between up j e k (path_within up n j e k a q)
        | inr q ↦ elim (or_says (eqb k e) false q) [
          | inl r ↦ range_between up j e k (subst (Range up j e) (sym (eqb-true k e r)) ends.1)
          | inr r ↦ absurd (true≢false (sym r))
        ]
      ]
    ]

    of : between j e k ≡ true → elem k (stops up n j e) ≡ true
    of h = elim (or_says (eqb k j) (elem k (path up n j)) (path_meets up n j e k a (between_range up n j e k a h))) [
      | inl p ↦ or_left (eqb k j) _ p
      | inr p ↦ or_right (eqb k j) _ (any_append (eqb k) (path up n j) (e ∷ []) ∙ or_left (elem k (path up n j)) _ p)
    ]

-- ---- over a list of indices

and_false : (p : Bool) → false ≡ (p && false)
and_false true = refl
and_false false = refl

pub any_map : (f : ℕ → Bool) (g : ℕ → ℕ) (xs : List ℕ) → any f (map g xs) ≡ any (λ x. f (g x)) xs
any_map f g [] = refl
any_map f g (x ∷ xs) = ap (λ (b : Bool). f (g x) || b) (any_map f g xs)

pub any_same : (f g : ℕ → Bool) (xs : List ℕ) → ((x : ℕ) → elem x xs ≡ true → f x ≡ g x) → any f xs ≡ any g xs
any_same f g [] h = refl
any_same f g (x ∷ xs) h =
    ap (λ (b : Bool). b || any f xs) (h x (elem_head x xs))
    ∙ ap (λ (b : Bool). g x || b) (any_same f g xs (λ y e. h y (or_right (eqb y x) (elem y xs) e)))

pub any_and : (p : Bool) (k : ℕ) (xs : List ℕ) → any (λ j. p && eqb k j) xs ≡ (p && elem k xs)
any_and p k [] = and_false p
any_and p k (x ∷ xs) = ap (λ (b : Bool). (p && eqb k x) || b) (any_and p k xs) ∙ law p (eqb k x) (elem k xs)
  where
    law : (p q r : Bool) → ((p && q) || (p && r)) ≡ (p && (q || r))
    law p q r = beq_same _ _ (tried 3 (λ p q r. beq ((p && q) || (p && r)) (p && (q || r))) refl p q r)

and_swap : (p q : Bool) → (p && q) ≡ (q && p)
and_swap p q = beq_same _ _ (tried 2 (λ p q. beq (p && q) (q && p)) refl p q)

-- ---- a cell by its column and row

suc_eqb : (m n : ℕ) → eqb (suc m) (suc n) ≡ eqb m n
suc_eqb m n = both_ways (eqb (suc m) (suc n)) (eqb m n)
    (λ h. eq-eqb m n (let p : suc m ≡ suc n = eqb-true (suc m) (suc n) h in omega arith))
    (λ h. eq-eqb (suc m) (suc n) (ap suc (eqb-true m n h)))

suc_zero : (m : ℕ) → eqb (suc m) 0 ≡ false
suc_zero m = ne_eqb (suc m) 0 (λ h. omega arith)

or_assoc : (p q r : Bool) → ((p || q) || r) ≡ (p || (q || r))
or_assoc true q r = refl
or_assoc false q r = refl

module _ (cols : ℕ) (some : 0 < cols) where
  column : (col row : ℕ) → col < cols → (row * cols + col) % cols ≡ col
  column col row h = ap (λ (z : ℕ). z % cols) (add_comm (row * cols) col) ∙ add-mul-mod_self_right col row cols ∙ mod-eq_of_lt h

  row_of_lem : (col row : ℕ) → col < cols → (row * cols + col) / cols ≡ row
  row_of_lem col row h = mul-add-div_right some row col ∙ ap (λ (z : ℕ). row + z) (div-eq_of_lt h) ∙ omega arith

  module _ (u : ℕ) where
    cell_is : (col row : ℕ) → col < cols → eqb u (row * cols + col) ≡ (eqb (u % cols) col && eqb (u / cols) row)
    cell_is col row h = both_ways (eqb u (row * cols + col)) (eqb (u % cols) col && eqb (u / cols) row)
        (λ p. let e = eqb-true u (row * cols + col) p in
        and_both (eqb (u % cols) col) (eqb (u / cols) row) (eq-eqb (u % cols) col (ap (λ (z : ℕ). z % cols) e ∙ column col row h))
        (eq-eqb (u / cols) row (ap (λ (z : ℕ). z / cols) e ∙ row_of_lem col row h)))
        (λ p. eq-eqb u (row * cols + col)
        (sym (div-add-mod' u cols)
        ∙ ap (λ (z : ℕ). z * cols + u % cols) (eqb-true (u / cols) row (and_right (eqb (u % cols) col) (eqb (u / cols) row) p))
        ∙ ap (λ (z : ℕ). row * cols + z) (eqb-true (u % cols) col (and_left (eqb (u % cols) col) (eqb (u / cols) row) p))))

-- the neighbour of an index, where there is one below n
abbrev nexts : Neighbour → ℕ → ℕ → List ℕ
nexts None n i = []
nexts Lower n zero = []
nexts Lower n (suc i) = i ∷ []
nexts Upper n i = cond (ltb (suc i) n) (suc i ∷ []) []

nexts_below : (x : Neighbour) (n i k : ℕ) → i < n → elem k (nexts x n i) ≡ true → k < n
nexts_below None n i k h e = absurd (true≢false (sym e))
nexts_below Lower n zero k h e = absurd (true≢false (sym e))
nexts_below Lower n (suc i) k h e = let q = eqb-true k i (sym (or-false (eqb k i)) ∙ e) in omega arith
nexts_below Upper n i k h e = go (ltb (suc i) n) refl e
  where
    go : (b : Bool) → ltb (suc i) n ≡ b → elem k (cond b (suc i ∷ []) []) ≡ true → k < n
    go true l d = let q = eqb-true k (suc i) (sym (or-false (eqb k (suc i))) ∙ d) in let r = ltb-true (suc i) n l in omega arith
    go false l d = absurd (true≢false (sym d))

nexts_are : (x : Neighbour) (n i k : ℕ) → k < n → elem k (nexts x n i) ≡ next_to x i k
nexts_are None n i k h = refl
nexts_are Lower n zero k h = sym (suc_zero k)
nexts_are Lower n (suc i) k h = or-false (eqb k i) ∙ sym (suc_eqb k i)
nexts_are Upper n i k h = go (ltb (suc i) n) refl
  where
    go : (b : Bool) → ltb (suc i) n ≡ b → elem k (cond b (suc i ∷ []) []) ≡ eqb k (suc i)
    go true l = or-false (eqb k (suc i))
    go false l = let q = ltb-false (suc i) n l in sym (ne_eqb k (suc i) (λ e. omega arith))

-- ---- what a cell adds

-- p and q are the tests of its own column and row, p₁ and q₁ those of the ones beside them
abbrev pub adds : Bool → Bool → Bool → Bool → Bool
adds p p₁ q q₁ = (p₁ && q) || ((p && q₁) || (p₁ && q₁))

module _ (cols rows : ℕ) (some : 0 < cols) where
  cells : ℕ
  cells = rows * cols

  -- its neighbours, by their columns and rows
  columns_are : (x : Neighbour) (col row : ℕ) → col < cols → column_of x cols (row * cols + col) ≡ map (λ k. row * cols + k) (nexts x cols col)
  unfolding column_of low_col_of up_col_of
  columns_are None col row h = refl
  columns_are Lower zero row h = rw (column cols some 0 row h)
  columns_are Lower (suc c) row h =
      let p : row * cols + suc c - 1 ≡ row * cols + c = omega arith in
      rw (column cols some (suc c) row h, suc_zero c, p)
  columns_are Upper col row h =
      let p : row * cols + col + 1 ≡ row * cols + suc col = omega arith in
      let q : col + 1 ≡ suc col = omega arith in
      rw (column cols some col row h, p, q) (go (ltb (suc col) cols))
    where
      go : (b : Bool) → cond b ((row * cols + suc col) ∷ []) [] ≡ map (λ k. row * cols + k) (cond b (suc col ∷ []) [])
      go true = refl
      go false = refl

  rows_are : (y : Neighbour) (col row : ℕ) → col < cols → row < rows → row_of y cols cells (row * cols + col) ≡ map (λ k. k * cols + col) (nexts y rows row)
  unfolding row_of low_row_of up_row_of cells
  rows_are None col row h k = refl
  rows_are Lower col zero h k = let p : 0 * cols + col < cols = omega arith in rw (lt-ltb (0 * cols + col) cols p)
  rows_are Lower col (suc r) h k =
      let q : suc r * cols ≡ r * cols + cols = suc-mul r cols in
      let p : suc r * cols + col - cols ≡ r * cols + col = omega arith in
      rw (le-ltb (suc r * cols + col) cols (omega arith), p)
  rows_are Upper col row h k =
      let q : suc row * cols ≡ row * cols + cols = suc-mul row cols in
      let p : row * cols + col + cols ≡ suc row * cols + col = omega arith in
      rw (p, inside) (go (ltb (suc row) rows))
    where
      inside : ltb (suc row * cols + col) (rows * cols) ≡ ltb (suc row) rows
      inside = both_ways (ltb (suc row * cols + col) (rows * cols)) (ltb (suc row) rows)
          (λ e. let l = ltb-true (suc row * cols + col) (rows * cols) e in
          elim (le_or rows (suc row)) [
            | inl d ↦ absurd (omega (arith, mul-le-mul_right cols d))
            | inr d ↦ lt-ltb (suc row) rows d
          ])
          (λ e. let l = ltb-true (suc row) rows e in
          lt-ltb (suc row * cols + col) (rows * cols) (omega (arith, mul-le-mul_right cols l, suc-mul (suc row) cols)))

      go : (b : Bool) → cond b ((suc row * cols + col) ∷ []) [] ≡ map (λ k. k * cols + col) (cond b (suc row ∷ []) [])
      go true = refl
      go false = refl

  module _ (u : ℕ) (within : u < rows * cols) where
    row_in : u / cols < rows
    row_in = (div-lt_iff_lt-mul {k = cols} {x = u} {y = rows} some).1 within

    any_columns : (f : ℕ → Bool) (q : Bool) (x : Neighbour) (col row : ℕ) → col < cols → ((k : ℕ) → k < cols → f (row * cols + k) ≡ (q && eqb (u % cols) k))
        → any f (column_of x cols (row * cols + col)) ≡ (next_to x col (u % cols) && q)
    any_columns f q x col row h t =
        ap (any f) (columns_are x col row h)
        ∙ any_map f (λ k. row * cols + k) (nexts x cols col)
        ∙ any_same (λ k. f (row * cols + k)) (λ k. q && eqb (u % cols) k) (nexts x cols col) (λ k e. t k (nexts_below x cols col k h e))
        ∙ any_and q (u % cols) (nexts x cols col)
        ∙ ap (λ (b : Bool). q && b) (nexts_are x cols col (u % cols) (mod-lt u some))
        ∙ and_swap q (next_to x col (u % cols))

    column_in : (x : Neighbour) (col row : ℕ) → col < cols → elem u (column_of x cols (row * cols + col)) ≡ (next_to x col (u % cols) && eqb (u / cols) row)
    column_in x col row h =
        any_columns (eqb u) (eqb (u / cols) row) x col row h (λ k l. cell_is cols some u k row l ∙ and_swap (eqb (u % cols) k) (eqb (u / cols) row))

    rows_in : (y : Neighbour) (col row : ℕ) → col < cols → row < rows → elem u (row_of y cols cells (row * cols + col)) ≡ (eqb (u % cols) col && next_to y row (u / cols))
    rows_in y col row h k =
        ap (elem u) (rows_are y col row h k)
        ∙ any_map (eqb u) (λ r. r * cols + col) (nexts y rows row)
        ∙ any_same (λ r. eqb u (r * cols + col)) (λ r. eqb (u % cols) col && eqb (u / cols) r) (nexts y rows row) (λ r e. cell_is cols some u col r h)
        ∙ any_and (eqb (u % cols) col) (u / cols) (nexts y rows row)
        ∙ ap (λ (b : Bool). eqb (u % cols) col && b) (nexts_are y rows row (u / cols) row_in)

    corner_in : (x y : Neighbour) (col row : ℕ) → col < cols → row < rows
        → elem u (flat_map (row_of y cols cells) (column_of x cols (row * cols + col))) ≡ (next_to x col (u % cols) && next_to y row (u / cols))
    corner_in x y col row h k =
        any_flat (eqb u) (row_of y cols cells) (column_of x cols (row * cols + col))
        ∙ any_columns (λ c. elem u (row_of y cols cells c)) (next_to y row (u / cols)) x col row h
        (λ c l. rows_in y c row l k ∙ and_swap (eqb (u % cols) c) (next_to y row (u / cols)))

    beside_is : (x y : Neighbour) (col row : ℕ) → col < cols → row < rows → elem u (beside_of x y cols cells (row * cols + col))
        ≡ adds (eqb (u % cols) col) (next_to x col (u % cols)) (eqb (u / cols) row) (next_to y row (u / cols))
    unfolding beside_of
    beside_is x y col row h k =
        let c = row * cols + col in
        any_append (eqb u) (column_of x cols c ++ row_of y cols cells c) (flat_map (row_of y cols cells) (column_of x cols c))
        ∙ rw (any_append (eqb u) (column_of x cols c) (row_of y cols cells c), column_in x col row h, rows_in y col row h k, corner_in x y col row h k)
        (or_assoc (next_to x col (u % cols) && eqb (u / cols) row) (eqb (u % cols) col && next_to y row (u / cols)) (next_to x col (u % cols) && next_to y row (u / cols)))

-- ---- the same by the axis that the line keeps to

abbrev pub held_index : Bool → ℕ → ℕ → ℕ
held_index true cols u = u % cols
held_index false cols u = u / cols

abbrev pub run_index : Bool → ℕ → ℕ → ℕ
run_index true cols u = u / cols
run_index false cols u = u % cols

abbrev pub beside_by : Bool → Neighbour → Neighbour → ℕ → ℕ → ℕ → List ℕ
beside_by true held run cols cells c = beside_of held run cols cells c
beside_by false held run cols cells c = beside_of run held cols cells c

turned_round : (p p₁ q q₁ : Bool) → adds q q₁ p p₁ ≡ adds p p₁ q q₁
turned_round p p₁ q q₁ = beq_same _ _ (tried 4 (λ p p₁ q q₁. beq (adds q q₁ p p₁) (adds p p₁ q q₁)) refl p p₁ q q₁)

module _ (cols : ℕ) (some : 0 < cols) (u : ℕ) where
  pub cell_by_lem : (v : Bool) (rows i j : ℕ) → Inside v cols rows i j → eqb u (cell_by v cols i j) ≡ (eqb (held_index v cols u) i && eqb (run_index v cols u) j)
  cell_by_lem true rows i j h = cell_is cols some u i j h.0
  cell_by_lem false rows i j h = cell_is cols some u j i h.0 ∙ and_swap (eqb (u % cols) j) (eqb (u / cols) i)

  pub beside_by_lem : (v : Bool) (held run : Neighbour) (rows i j : ℕ) → u < rows * cols → Inside v cols rows i j
      → elem u (beside_by v held run cols (rows * cols) (cell_by v cols i j))
      ≡ adds (eqb (held_index v cols u) i) (next_to held i (held_index v cols u)) (eqb (run_index v cols u) j) (next_to run j (run_index v cols u))
  unfolding cells
  beside_by_lem true held run rows i j w h = beside_is cols rows some u w held run i j h.0 h.1
  beside_by_lem false held run rows i j w h =
      beside_is cols rows some u w run held j i h.0 h.1
      ∙ turned_round (eqb (u / cols) i) (next_to held i (u / cols)) (eqb (u % cols) j) (next_to run j (u % cols))

pub any_adds : (p p₁ : Bool) (f g : ℕ → Bool) (xs : List ℕ) → any (λ j. adds p p₁ (f j) (g j)) xs ≡ adds p p₁ (any f xs) (any g xs)
any_adds p p₁ f g [] = law p p₁
  where
    law : (p p₁ : Bool) → false ≡ adds p p₁ false false
    law p p₁ = beq_same _ _ (tried 2 (λ p p₁. beq false (adds p p₁ false false)) refl p p₁)
any_adds p p₁ f g (x ∷ xs) = ap (λ (b : Bool). adds p p₁ (f x) (g x) || b) (any_adds p p₁ f g xs) ∙ law p p₁ (f x) (g x) (any f xs) (any g xs)
  where
    law : (p p₁ q q₁ r r₁ : Bool) → (adds p p₁ q q₁ || adds p p₁ r r₁) ≡ adds p p₁ (q || r) (q₁ || r₁)
    law p p₁ q q₁ r r₁ =
        beq_same _ _ (tried 6 (λ p p₁ q q₁ r r₁. beq (adds p p₁ q q₁ || adds p p₁ r r₁) (adds p p₁ (q || r) (q₁ || r₁))) refl p p₁ q q₁ r r₁)

-- all entries are j
pub any_one : (f : ℕ → Bool) (j : ℕ) (xs : List ℕ) → ((x : ℕ) → elem x xs ≡ true → x ≡ j) → any f xs ≡ true → f j ≡ true
any_one f j [] h e = absurd (true≢false (sym e))
any_one f j (x ∷ xs) h e = elim (or_says (f x) (any f xs) e) [
  | inl p ↦ subst (λ (y : ℕ). f y ≡ true) (h x (elem_head x xs)) p
  | inr p ↦ any_one f j xs (λ y d. h y (or_right (eqb y x) (elem y xs) d)) p
]

pub any_none : (f : ℕ → Bool) (xs : List ℕ) → ((x : ℕ) → f x ≡ false) → any f xs ≡ true → ⊥
any_none f [] h e = true≢false (sym e)
any_none f (x ∷ xs) h e = elim (or_says (f x) (any f xs) e) [
  | inl p ↦ true≢false (sym p ∙ h x)
  | inr p ↦ any_none f xs h p
]

-- ---- all that is pushed, and the sentence

-- p, w, qs and qe: the cell's index is the line's own, a walked one, the start's, the end's. p₁, s₁ and e₁: it is beside the line's, the start's, the
-- end's; w₁: it is beside a walked one, and the line adds it there.
abbrev pushed : Bool → Bool → Bool → Bool → Bool → Bool → Bool → Bool → Bool
pushed p p₁ w w₁ qs s₁ qe e₁ = (p && w) || ((adds p p₁ w w₁ || adds p p₁ qs s₁) || adds p p₁ qe e₁)

abbrev said : Bool → Bool → Bool → Bool → Bool → Bool
said p p₁ w s₁ e₁ = (p && w) || ((p₁ && w) || ((s₁ && (p || p₁)) || (e₁ && (p || p₁))))

abbrev implies : Bool → Bool → Bool
implies p q = not p || q

implied : (p q : Bool) → (p ≡ true → q ≡ true) → implies p q ≡ true
implied true q h = h refl
implied false q h = refl

meets : (p q : Bool) → implies p q ≡ true → p ≡ true → q ≡ true
meets p q h e = rw e at h

-- the start and the end are walked; what the line adds beside a walked cell, its start adds too
abbrev given : Bool → Bool → Bool → Bool → Bool → Bool
given w w₁ qs s₁ qe = implies qs w && (implies qe w && implies w₁ s₁)

pub pushed_said : (p p₁ w w₁ qs s₁ qe e₁ : Bool) → (qs ≡ true → w ≡ true) → (qe ≡ true → w ≡ true) → (w₁ ≡ true → s₁ ≡ true)
    → pushed p p₁ w w₁ qs s₁ qe e₁ ≡ said p p₁ w s₁ e₁
pushed_said p p₁ w w₁ qs s₁ qe e₁ f g h =
    beq_same _ _
    (meets (given w w₁ qs s₁ qe) (beq (pushed p p₁ w w₁ qs s₁ qe e₁) (said p p₁ w s₁ e₁))
    (tried 8 (λ p p₁ w w₁ qs s₁ qe e₁. implies (given w w₁ qs s₁ qe) (beq (pushed p p₁ w w₁ qs s₁ qe e₁) (said p p₁ w s₁ e₁)))
    refl p p₁ w w₁ qs s₁ qe e₁)
    (and_both (implies qs w) (implies qe w && implies w₁ s₁) (implied qs w f) (and_both (implies qe w) (implies w₁ s₁) (implied qe w g) (implied w₁ s₁ h))))

-- ---- the list

those_below : (f : ℕ → Bool) (n : ℕ) → Below n (those f n)
unfolding those
those_below f zero = tt
those_below f (suc n) = below_append (suc n) (those f n) (kept_if (f n) n) (wider n (those f n) (those_below f n)) (last (f n))
  where
    wider : (n : ℕ) (xs : List ℕ) → Below n xs → Below (suc n) xs
    wider n [] h = tt
    wider n (x ∷ xs) h = (omega (arith, h.0), wider n xs h.1)

    last : (b : Bool) → Below (suc n) (kept_if b n)
    last true = unfold kept_if in (omega arith, tt)
    last false = unfold kept_if in tt

pub those_rising : (f : ℕ → Bool) (n : ℕ) → Rising 0 (those f n)
unfolding those
those_rising f zero = tt
those_rising f (suc n) = go (f n) (those_rising f n)
  where
    none : (xs : List ℕ) → Rising 0 xs → Rising 0 (xs ++ [])
    none xs h = rw append-nil h

    go : (b : Bool) → Rising 0 (those f n) → Rising 0 (those f n ++ kept_if b n)
    go true ih = unfold kept_if in rising_end 0 n (those f n) ih (those_below f n) (omega arith)
    go false ih = unfold kept_if in none (those f n) ih

pub those_are : (f : ℕ → Bool) (n u : ℕ) → elem u (those f n) ≡ (ltb u n && f u)
unfolding those
those_are f zero u = rw (le-ltb u 0 (omega arith))
those_are f (suc n) u = any_append (eqb u) (those f n) (kept_if (f n) n) ∙ rw (those_are f n u) (elim (ℕ_discrete u n) [
  | yes e ↦ rw (le-ltb u n (omega arith), lt-ltb u (suc n) (omega arith)) (at e (f n) refl)
  | no e ↦ other (f n) e (ltb u n) refl
])
  where
    at : u ≡ n → (b : Bool) → f n ≡ b → elem u (kept_if b n) ≡ f u
    at e true h = unfold kept_if in rw (eq-eqb u n e) (sym (ap f e ∙ h))
    at e false h = unfold kept_if in sym (ap f e ∙ h)

    after : (c : Bool) → ltb u n ≡ c → (u ≡ n → ⊥) → ((c && f u) || false) ≡ (ltb u (suc n) && f u)
    after true h e = rw (lt-ltb u (suc n) (omega (arith, ltb-true u n h))) (or-false (f u))
    after false h e = rw (le-ltb u (suc n) (omega (arith, ltb-false u n h, e)))

    other : (b : Bool) → (u ≡ n → ⊥) → (c : Bool) → ltb u n ≡ c → ((c && f u) || elem u (kept_if b n)) ≡ (ltb u (suc n) && f u)
    other true e c h = unfold kept_if in rw (ne_eqb u n e) (after c h e)
    other false e c h = unfold kept_if in after c h e

-- ---- the Rust's mode is document 01's boundary rule

rust_beside : (a : Axis) (v : Float) (i : ℕ) → beside_on Rust a v i ≡ lower_on a v i
rust_beside a v i = ap (λ (x : Neighbour). next_to x (index_on a v) i) (rust_neighbour a v) ∙ go (boundary_on a v)
  where
    go : (b : Bool) → next_to (cond b Lower None) (index_on a v) i ≡ (b && eqb (suc i) (index_on a v))
    go true = refl
    go false = refl

those_same : (f h : ℕ → Bool) → ((c : ℕ) → f c ≡ h c) → (n : ℕ) → those f n ≡ those h n
unfolding those
those_same f h e zero = refl
those_same f h e (suc n) = rw (those_same f h e n, e n)

rust_sentence : (held : Axis) (v : Float) (run : Axis) (start end : Float) (i j : ℕ)
    → sentence (beside_on Rust) held v run start end i j ≡ sentence lower_on held v run start end i j
unfolding sentence
rust_sentence held v run start end i j = rw (rust_beside held v i, rust_beside run start j, rust_beside run end j)

pub rust_vertical : (g : Grid) (line : Segment) → vertical_in Rust g line ≡ vertical_cells g line
unfolding vertical_by
rust_vertical g line = those_same _ _ (λ c. rust_sentence (x_axis g) line.start_x (y_axis g) line.start_y line.end_y (c % g.cols) (c / g.cols)) (g.rows * g.cols)

pub rust_horizontal : (g : Grid) (line : Segment) → horizontal_in Rust g line ≡ horizontal_cells g line
unfolding horizontal_by
rust_horizontal g line = those_same _ _ (λ c. rust_sentence (y_axis g) line.start_y (x_axis g) line.start_x line.end_x (c / g.cols) (c % g.cols)) (g.rows * g.cols)

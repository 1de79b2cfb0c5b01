-- What is added beside the walked cells. Assumes nothing.
use mathlib.Core.Path.{◌≡◌, refl, sym, ap, ◌∙◌, subst}
use Prim.Native.Nat.{ℕ, zero, suc, ◌+◌, ◌-◌, ◌*◌, ◌%◌, ◌≤◌, ◌<◌}
use native.Mathlib.Nat.{zero-mod, suc-mul, zero-lt-suc, mul-le-mul_right}
use native.Mathlib.Numerals.{add-one}
use native.Mathlib.Omega.{arith}
use mathlib.Core.Bool.{Bool, true, false, cond}
use mathlib.Core.List.{List, [], ◌∷◌, ◌++◌, flat_map, append-nil}
use lib.ListN.{length, take, get_or, length-append, get_or-append}
use lib.Seq.{take-suc, get_or-take, length-take-le}
use lib.Dec.{ltb, eqb}
use borrow.Author.Tests.{lt-ltb, le-ltb, eq-eqb, ne_eqb}
use lib.Ieee.{Float}
use Rattle.slices.specs.Lists.{Below}
use Rattle.slices.proofs.Members.{below_at}
use Rattle.grid.specs.declared.Grid.{Grid}
use Rattle.grid.specs.Axes.{x_axis, y_axis, index_on}
use Rattle.grid.proofs.Shapes.{Shape, cell_inside}
use Rattle.walk.specs.declared.Mode.{Mode}
use Rattle.walk.specs.declared.Neighbour.{Neighbour}
use Rattle.walk.specs.declared.Neighbour.TheVariants.{None, Lower, Upper}
use Rattle.walk.specs.Neighbours.{neighbour_on, low_col_of, up_col_of, low_row_of, up_row_of, column_of, row_of, beside_of, cell_of, endpoint_of}
use Rattle.cover.specs.Inside.{Appended}
use Rattle.walk.specs.Inside.{Within, AllWithin, many_of, share}
use Rattle.turns.proofs.Floats.{index_le}
use Rattle.cover.proofs.Growing.{none, then, same}
use Rattle.walk.proofs.Flat.{flat_append, flat_le, cond_below}

-- ---- the cell beside a cell

pub positive : (c cols : ℕ) → (c % cols ≡ 0 → ⊥) → 0 < c
positive zero cols n = absurd (n (zero-mod cols))
positive (suc c) cols n = zero-lt-suc c

module _ (cols c : ℕ) where
  pub col_none : c % cols ≡ 0 → low_col_of cols c ≡ []
  unfolding low_col_of
  col_none e = rw (eq-eqb (c % cols) 0 e)

  pub col_one : (c % cols ≡ 0 → ⊥) → low_col_of cols c ≡ (c - 1) ∷ []
  unfolding low_col_of
  col_one e = rw (ne_eqb (c % cols) 0 e)

  pub up_col_none : cols ≤ c % cols + 1 → up_col_of cols c ≡ []
  unfolding up_col_of
  up_col_none e = rw (le-ltb (c % cols + 1) cols e)

  pub up_col_one : c % cols + 1 < cols → up_col_of cols c ≡ (c + 1) ∷ []
  unfolding up_col_of
  up_col_one e = rw (lt-ltb (c % cols + 1) cols e)

  pub row_none : c < cols → low_row_of cols c ≡ []
  unfolding low_row_of
  row_none e = rw (lt-ltb c cols e)

  pub row_one : cols ≤ c → low_row_of cols c ≡ (c - cols) ∷ []
  unfolding low_row_of
  row_one e = rw (le-ltb c cols e)

  pub up_row_none : (cells : ℕ) → cells ≤ c + cols → up_row_of cols cells c ≡ []
  unfolding up_row_of
  up_row_none cells e = rw (le-ltb (c + cols) cells e)

  pub up_row_one : (cells : ℕ) → c + cols < cells → up_row_of cols cells c ≡ (c + cols) ∷ []
  unfolding up_row_of
  up_row_one cells e = rw (lt-ltb (c + cols) cells e)

-- ---- how many there are

many_le : (x : Neighbour) → many_of x ≤ 1
unfolding many_of
many_le None = omega arith
many_le Lower = omega arith
many_le Upper = omega arith

pub share_le : (x y : Neighbour) → share x y ≤ 3
unfolding share
share_le x y = let p : many_of x * many_of y ≤ 1 * many_of y = mul-le-mul_right (many_of y) (many_le x) in omega (arith, many_le x, many_le y)

pub one_lower : {x : Neighbour} → x ≡ Lower → many_of x ≡ 1
unfolding many_of
one_lower e = rw e

pub one_upper : {x : Neighbour} → x ≡ Upper → many_of x ≡ 1
unfolding many_of
one_upper e = rw e

cond_le : (b : Bool) (a d : List ℕ) → length a ≤ 1 → length d ≤ 1 → length (cond b a d) ≤ 1
cond_le true a d h k = h
cond_le false a d h k = k

pub column_le : (x : Neighbour) (cols c : ℕ) → length (column_of x cols c) ≤ many_of x
unfolding column_of many_of
column_le None cols c = omega arith
column_le Lower cols c = unfold low_col_of in cond_le (eqb (c % cols) 0) [] ((c - 1) ∷ []) (omega arith) (omega arith)
column_le Upper cols c = unfold up_col_of in cond_le (ltb (c % cols + 1) cols) ((c + 1) ∷ []) [] (omega arith) (omega arith)

pub row_le : (y : Neighbour) (cols cells c : ℕ) → length (row_of y cols cells c) ≤ many_of y
unfolding row_of many_of
row_le None cols cells c = omega arith
row_le Lower cols cells c = unfold low_row_of in cond_le (ltb c cols) [] ((c - cols) ∷ []) (omega arith) (omega arith)
row_le Upper cols cells c = unfold up_row_of in cond_le (ltb (c + cols) cells) ((c + cols) ∷ []) [] (omega arith) (omega arith)

pub beside_le : (x y : Neighbour) (cols cells c : ℕ) → length (beside_of x y cols cells c) ≤ share x y
unfolding beside_of share
beside_le x y cols cells c =
    let p = flat_le (row_of y cols cells) (many_of y) (row_le y cols cells) (column_of x cols c) in
    let q : length (column_of x cols c) * many_of y ≤ many_of x * many_of y = mul-le-mul_right (many_of y) (column_le x cols c) in
    rw (length-append, length-append) (omega (arith, column_le x cols c, row_le y cols cells c))

pub end_le : (mode : Mode) (g : Grid) (x y : Float) → length (endpoint_of mode g x y) ≤ 3
unfolding endpoint_of
end_le mode g x y =
    let v = neighbour_on mode (x_axis g) x in
    let h = neighbour_on mode (y_axis g) y in
    omega (arith, beside_le v h g.cols (g.rows * g.cols) (cell_of g x y), share_le v h)

pub cell_below : (g : Grid) (x y : Float) → Shape g.cols g.rows → 0 < g.cols → cell_of g x y < g.rows * g.cols
unfolding cell_of
cell_below g x y s h =
    let k = s.alike h in
    cell_inside g.rows g.cols (index_on (y_axis g) y) (index_on (x_axis g) x) (omega (arith, index_le (y_axis g) y)) (omega (arith, index_le (x_axis g) x))

-- ---- of one cell

at_end : (xs ys : List ℕ) → get_or (xs ++ ys) (length xs) 0 ≡ get_or ys 0 0
at_end [] ys = refl
at_end (x ∷ xs) ys = at_end xs ys

pub within_less : {cols c : ℕ} → Within cols (c + 1) → Within cols c
within_less w = record { some = w.some; wide = w.wide; low = omega (arith, w.low) }

-- no neighbour on either axis
pub nothing_shared : (x y : Neighbour) → x ≡ None → y ≡ None → true ≡ eqb (share x y) 0
unfolding share many_of
nothing_shared x y p q = rw (p, q)

pub x_shared : (x y : Neighbour) → many_of x ≡ 1 → false ≡ eqb (share x y) 0
unfolding share
x_shared x y h = sym (ne_eqb (share x y) 0 (λ e. omega arith))

pub y_shared : (x y : Neighbour) → many_of y ≡ 1 → false ≡ eqb (share x y) 0
unfolding share
y_shared x y h = sym (ne_eqb (share x y) 0 (λ e. omega arith))

pub nothing_beside : (x y : Neighbour) (cols cells : ℕ) → share x y ≡ 0 → (c : ℕ) → beside_of x y cols cells c ≡ []
nothing_beside x y cols cells e c = empty (beside_of x y cols cells c) (omega (arith, beside_le x y cols cells c))
  where
    empty : (l : List ℕ) → length l ≤ 0 → l ≡ []
    empty [] h = refl
    empty (v ∷ l) h = absurd (omega arith)

pub shape_within : {cols rows : ℕ} → Shape cols rows → 0 < cols → Within cols (rows * cols)
shape_within s h = record { some = h; wide = s.wide; low = s.cells }

pub cell_within : (g : Grid) (x y : Float) (c : ℕ) → c ≡ cell_of g x y → Shape g.cols g.rows → 0 < g.cols → Within g.cols (c + 1)
cell_within g x y c e s h = record { some = h; wide = s.wide; low = omega (arith, cell_below g x y s h, s.cells) }

pub column_room : (x y : Neighbour) (n l : ℕ) → n + share x y ≤ l → n + many_of x ≤ l
unfolding share
column_room x y n l h = omega arith

pub row_room : (x y : Neighbour) (cols c : ℕ) {xs ys : List ℕ} {n a : ℕ} → Appended xs ys n a (column_of x cols c) → n + share x y ≤ length xs → a + many_of y ≤ length ys
unfolding share
row_room x y cols c p r = omega (arith, column_le x cols c, p.count, p.len)

pub row_alone : (x y : Neighbour) (n l : ℕ) → n + share x y ≤ l → n + many_of y ≤ l
unfolding share
row_alone x y n l h = omega arith

-- no neighbour in x: that in y, and no corner
pub row_only : (x y : Neighbour) (cols cells c : ℕ) → x ≡ None → row_of y cols cells c ≡ beside_of x y cols cells c
unfolding beside_of column_of flat_map
row_only x y cols cells c e = rw e (sym (append-nil (row_of y cols cells c)))

-- the cell in the next column is hardly beyond c
near : (x : Neighbour) (cols c : ℕ) → Below (c + 2) (column_of x cols c)
unfolding column_of
near None cols c = tt
near Lower cols c = unfold low_col_of in cond_below (c + 2) (eqb (c % cols) 0) [] ((c - 1) ∷ []) (λ e. tt) (λ e. (omega arith, tt))
near Upper cols c = unfold up_col_of in cond_below (c + 2) (ltb (c % cols + 1) cols) ((c + 1) ∷ []) [] (λ e. (omega arith, tt)) (λ e. tt)

-- what is pushed in x, then in y; the corner is what the cell pushed in x has in y
module _ {xs ys zs : List ℕ} {n a b : ℕ} (more : n ≤ length xs) where
  one_in_x : (in_x : List ℕ) {in_y : List ℕ} → length in_x ≤ 1 → Appended xs ys n a in_x → Appended ys zs a b in_y → n < a → in_x ≡ get_or zs n 0 ∷ []
  one_in_x [] one p q h = absurd (omega (arith, p.count))
  one_in_x (v ∷ []) {in_y} one p q h =
      let l : length (take n xs) ≡ n = length-take-le n xs more in
      let e : get_or zs n 0 ≡ v =
      sym (get_or-take b zs n 0 (omega (arith, q.count)))
      ∙ ap (λ (z : List ℕ). get_or z n 0) (then p q).is
      ∙ ap (λ (i : ℕ). get_or (take n xs ++ (v ∷ in_y)) i 0) (sym l)
      ∙ at_end (take n xs) (v ∷ in_y) in
      ap (λ (u : ℕ). u ∷ []) (sym e)
  one_in_x (v ∷ w ∷ l) one p q h = absurd (omega arith)

  module _ (x y : Neighbour) (cols cells c : ℕ) (p : Appended xs ys n a (column_of x cols c)) (q : Appended ys zs a b (row_of y cols cells c)) where
    pub corner_room : n < a → n + share x y ≤ length xs → b + many_of y ≤ length zs
    unfolding share
    corner_room h r =
        let one : many_of x ≡ 1 = omega (arith, column_le x cols c, many_le x, p.count) in
        let e : many_of x * many_of y ≡ many_of y = ap (λ (k : ℕ). k * many_of y) one ∙ omega arith in
        omega (arith, column_le x cols c, row_le y cols cells c, p.count, q.count, p.len, q.len)

    pub corner_within : n < a → Within cols (c + 1) → Within cols (get_or zs n 0)
    corner_within h w =
        let e = one_in_x (column_of x cols c) (omega (arith, column_le x cols c, many_le x)) p q h in
        let l = subst (λ (z : List ℕ). Below (c + 2) z) e (near x cols c) in
        record { some = w.some; wide = w.wide; low = omega (arith, l.0, w.low) }

    pub with_corner : {ws : List ℕ} {r : ℕ} → n < a → Appended zs ws b r (row_of y cols cells (get_or zs n 0)) → Appended xs ws n r (beside_of x y cols cells c)
    unfolding beside_of flat_map
    with_corner {ws} {r} h k =
        let e = one_in_x (column_of x cols c) (omega (arith, column_le x cols c, many_le x)) p q h in
        let f : flat_map (row_of y cols cells) (column_of x cols c) ≡ row_of y cols cells (get_or zs n 0) =
        ap (flat_map (row_of y cols cells)) e ∙ append-nil (row_of y cols cells (get_or zs n 0)) in
        same (ap (λ (z : List ℕ). (column_of x cols c ++ row_of y cols cells c) ++ z) (sym f)) (then (then p q) k)

    pub without_corner : a ≤ n → Appended xs zs n b (beside_of x y cols cells c)
    unfolding beside_of
    without_corner h = go (column_of x cols c) p
      where
        go : (in_x : List ℕ) → Appended xs ys n a in_x → Appended xs zs n b ((in_x ++ row_of y cols cells c) ++ flat_map (row_of y cols cells) in_x)
        go [] k = unfold flat_map in same (sym (append-nil (row_of y cols cells c))) (then k q)
        go (v ∷ l) k = absurd (omega (arith, k.count))

-- ---- of each cell

front_kept : {xs ys : List ℕ} {n m : ℕ} {a : List ℕ} → Appended xs ys n m a → n ≤ length xs → (i : ℕ) → i < n → get_or ys i 0 ≡ get_or xs i 0
front_kept {xs} {ys} {n} {m} {a} g h i l =
    let k : n ≡ length (take n xs) = sym (length-take-le n xs h) in
    sym (get_or-take m ys i 0 (omega (arith, g.count)))
    ∙ ap (λ (z : List ℕ). get_or z i 0) g.is
    ∙ get_or-append (take n xs) a 0 i (omega arith)
    ∙ get_or-take n xs i 0 l

-- Each walked cell c adds f c, at most k cells. The first i of the n have added theirs.
pub record Adding (f : ℕ → List ℕ) (k n : ℕ) (xs : List ℕ) (i m : ℕ) (ys : List ℕ) : Type 0 where
  pub at : i ≤ n
  pub room : m + (n - i) * k ≤ length xs
  pub grown : Appended xs ys n m (flat_map f (take i xs))

pub added_start : (f : ℕ → List ℕ) (k n : ℕ) (xs : List ℕ) → n + n * k ≤ length xs → Adding f k n xs 0 n xs
unfolding flat_map
added_start f k n xs l = record { at = omega arith; room = let e : n - 0 ≡ n = omega arith in rw e l; grown = none (omega arith) }

module _ {f : ℕ → List ℕ} {k n : ℕ} {xs : List ℕ} {i m : ℕ} {ys : List ℕ} (g : Adding f k n xs i m ys) where
  left : i < n → (n - i) * k ≡ (n - (i + 1)) * k + k
  left b = let e : n - i ≡ suc (n - (i + 1)) = omega arith in ap (λ (j : ℕ). j * k) e ∙ suc-mul (n - (i + 1)) k

  pub added_room : i < n → m + k ≤ length ys
  added_room b = omega (arith, left b, g.room, g.grown.len)

  -- the cell at i, which is as it was
  pub added_within : (cols cells : ℕ) → n ≤ length xs → AllWithin cols cells (take n xs) → i < n → Within cols (get_or ys i 0 + 1)
  added_within cols cells l h b =
      let c : get_or ys i 0 < cells = subst (λ (c : ℕ). c < cells) (get_or-take n xs i 0 b ∙ sym (front_kept g.grown l i b)) (below_at cells (take n xs) i h.inside (omega (arith, length-take-le n xs l))) in
      record { some = h.most.some; wide = h.most.wide; low = omega (arith, h.most.low) }

  pub added_more : {m' : ℕ} {zs : List ℕ} → ((c : ℕ) → length (f c) ≤ k) → n ≤ length xs → i < n → Appended ys zs m m' (f (get_or ys i 0)) → Adding f k n xs (i + 1) m' zs
  added_more {m'} {zs} h l b p = record {
    at = omega arith;
    room = omega (arith, g.room, p.count, h (get_or ys i 0), left b);
    grown = same whole (then g.grown p);
  }
    where
      whole : flat_map f (take i xs) ++ f (get_or ys i 0) ≡ flat_map f (take (i + 1) xs)
      whole =
          ap (λ (c : ℕ). flat_map f (take i xs) ++ f c) (front_kept g.grown l i b)
          ∙ sym (flat_append f (take i xs) (get_or xs i 0))
          ∙ ap (flat_map f) (sym (take-suc xs i 0 (omega arith)) ∙ ap (λ (j : ℕ). take j xs) (sym (add-one i)))

  pub added_done : n ≤ i → Appended xs ys n m (flat_map f (take n xs))
  added_done l = let e : i ≡ n = omega (arith, g.at) in subst (λ (j : ℕ). Appended xs ys n m (flat_map f (take j xs))) e g.grown

-- how many were added
pub added_bound : (f : ℕ → List ℕ) (k : ℕ) → ((c : ℕ) → length (f c) ≤ k) → {xs ys : List ℕ} {n m : ℕ} → n ≤ length xs → Appended xs ys n m (flat_map f (take n xs)) → m ≤ n + n * k
added_bound f k h {xs} {ys} {n} {m} l g =
    let a : length (flat_map f (take n xs)) ≤ n * k = subst (λ (j : ℕ). length (flat_map f (take n xs)) ≤ j * k) (length-take-le n xs l) (flat_le f k h (take n xs)) in
    omega (arith, g.count)

-- the room that a walk with its neighbours takes
pub share_room : (x y : Neighbour) (m : ℕ) → m ≤ 15002 → (0 < many_of x → m ≤ 5002) → (0 < many_of y → m ≤ 5002) → (0 < many_of x → 0 < many_of y → m ≤ 2)
    → m + m * share x y + 6 ≤ 15008
unfolding share
share_room x y m a p q r = go (many_of x) (many_of y) (many_le x) (many_le y) p q r
  where
    go : (i j : ℕ) → i ≤ 1 → j ≤ 1 → (0 < i → m ≤ 5002) → (0 < j → m ≤ 5002) → (0 < i → 0 < j → m ≤ 2) → m + m * (i + j + i * j) + 6 ≤ 15008
    go zero zero h k p q r = omega arith
    go zero (suc zero) h k p q r = let b = q (omega arith) in omega arith
    go zero (suc (suc j)) h k p q r = absurd (omega arith)
    go (suc zero) zero h k p q r = let b = p (omega arith) in omega arith
    go (suc zero) (suc zero) h k p q r = let b = r (omega arith) (omega arith) in omega arith
    go (suc zero) (suc (suc j)) h k p q r = absurd (omega arith)
    go (suc (suc i)) j h k p q r = absurd (omega arith)

-- What the functions of `rows` need: a line's slope and its sideways way by the code, the columns of a row, and the loop over the rows. Assumes nothing.
use mathlib.Core.Path.{◌≡◌, refl, sym, ap, ap₂, ◌∙◌, subst}
use mathlib.Core.Logic.{inl, inr}
use mathlib.Core.List.{List, ◌++◌, append-nil, append_assoc}
use Prim.Native.Nat.{ℕ, suc, ◌+◌, ◌-◌, ◌*◌, ◌/◌, ◌≤◌, ◌<◌, min, max}
use native.Mathlib.Nat.{mul-le-mul_right, div-mul-le_self, div-zero, zero-mul, zero-div}
use native.Mathlib.Omega.{arith}
use lib.Dec.{lit<}
use lib.ListN.{length, take, length-append}
use lib.Seq.{length-take-le}
use Rattle.slices.proofs.Laws.{le_or}
use Rattle.cover.specs.declared.Ends.{Ends}
use Rattle.cover.specs.Rule.{fine_cell, bottom_of, top_of, span_of, slope_of, aside_of, left_of, right_of, first_row, last_row, run, row_cells, rows_from, cells_between}
use Rattle.cover.specs.Inside.{Appended, Front, Across, Level, Rises, CoveredRow, ColumnsAre, RowRoom}
use Rattle.cover.proofs.Slope.{aside_under, aside_over}
use Rattle.cover.proofs.Sides.{top_before, top_last, left_at_start, right_at_start, left_at_end, right_at_end, left_by_bottom, right_by_bottom, first_level, last_level, first_rising, last_rising, first_in, last_in}
use Rattle.cover.proofs.Growing.{length_run}
use Rattle.cover.proofs.Few.{cells_few}

-- ---- the slope and the sideways way

pub slope_none : (e : Ends) → e.to_y ≤ e.from_y → 0 ≡ slope_of e
unfolding slope_of
slope_none e h = let k : e.to_y - e.from_y ≡ 0 = omega arith in rw (k, div-zero)

fits_product : (y dy dx s : ℕ) → y ≤ dy → s * dy ≤ dx * 4294967296 → dx < 4294967296 → y * s < 18446744073709551616
fits_product y dy dx s h k l = let p : y * s ≤ dy * s = mul-le-mul_right s h in omega arith

module _ (e : Ends) (s y : ℕ) (p : Across e s y) where
  abbrev dy : ℕ
  dy = e.to_y - e.from_y

  span_small : span_of e < 4294967296
  span_small = let a = p.small in omega arith

  pub aside_fits : (y - e.from_y) * s < 18446744073709551616
  unfolding slope_of
  aside_fits =
      let k : s * dy ≤ span_of e * 4294967296 = rw p.slope_is (div-mul-le_self (span_of e * 4294967296) dy) in
      let t = p.to in
      fits_product (y - e.from_y) dy (span_of e) s (omega arith) k span_small

  pub aside_is : (y - e.from_y) * s / 4294967296 ≡ aside_of e y
  unfolding aside_of
  aside_is = rw p.slope_is

  pub aside_small : aside_of e y < 4294967296
  unfolding aside_of slope_of
  aside_small =
      let k : aside_of e y * 1 ≤ 1 * span_of e = aside_under 4294967296 (span_of e) dy (y - e.from_y) 1 1 (omega (arith, p.steep)) (lit< tt) (omega (arith, p.to)) in
      under (aside_of e y) (span_of e) k span_small
    where
      under : (x d : ℕ) → x * 1 ≤ 1 * d → d < 4294967296 → x < 4294967296
      under x d h k = omega arith

-- ---- a row of a line that crosses rows

module _ {cols rows : ℕ} {e : Ends} {s last r : ℕ} (p : CoveredRow cols rows e s last r) where
  steep : e.from_y < e.to_y
  steep = omega (arith, p.rises)

  pub last_few : last < 4096
  last_few = omega (arith, p.last_is, p.some_rows, p.few_rows)

  -- the first row is not the last
  pub starts : r ≡ first_row rows e → r < last
  starts h = omega (arith, p.rises, p.last_is)

  pub across_bottom : (y : ℕ) → y ≡ bottom_of e r → Across e s y
  unfolding bottom_of
  across_bottom y k =
      rw k
      (record { small = p.small; steep = steep; slope_is = p.slope_is; from = omega arith; to = omega (arith, p.to, p.up) })

  top_in : (e.from_y ≤ top_of e last r) × (top_of e last r ≤ e.to_y)
  top_in = elim (le_or last r) [
    | inl h ↦ rw (top_last e last r h) (p.up, omega arith)
    | inr h ↦ rw (top_before e last r h) (omega (arith, p.from, p.up), omega arith)
  ]

  pub across_top : (y : ℕ) → y ≡ top_of e last r → Across e s y
  across_top y k = rw k (record { small = p.small; steep = steep; slope_is = p.slope_is; from = top_in.0; to = top_in.1 })

  pub columns_rising : {bottom top near far left right first to : ℕ} → bottom ≡ bottom_of e r → near ≡ aside_of e bottom → top ≡ top_of e last r → far ≡ aside_of e top
      → left ≡ left_of e near far → first ≡ fine_cell cols left → right ≡ right_of e near far → to ≡ fine_cell cols right → ColumnsAre cols rows e r first to
  columns_rising a b c d f g h k =
      record {
        first_is = g ∙ ap (fine_cell cols) (rw (f, b, d, a, c, p.last_is)) ∙ sym (first_rising cols rows e r p.rises);
        last_is = k ∙ ap (fine_cell cols) (rw (h, b, d, a, c, p.last_is)) ∙ sym (last_rising cols rows e r p.rises);
      }

  -- the line begins in the first row, and has come no way there
  pub start_near : r ≡ first_row rows e → aside_of e (bottom_of e r) ≡ 0
  unfolding aside_of bottom_of
  start_near k =
      let d = div-mul-le_self e.from_y 1048576 in
      let l : r * 1048576 ≤ e.from_y / 1048576 * 1048576 = mul-le-mul_right 1048576 (omega arith) in
      let z : max (r * 1048576 - 3) e.from_y - e.from_y ≡ 0 = omega arith in
      rw (z, zero-mul, zero-div)

  pub columns_start_right : {top far right first to : ℕ} → r ≡ first_row rows e → top ≡ top_of e last r → far ≡ aside_of e top → e.from_x ≤ e.to_x
      → first ≡ fine_cell cols e.from_x → right ≡ right_of e 0 far → to ≡ fine_cell cols right → ColumnsAre cols rows e r first to
  columns_start_right {far} k a b h f g i =
      let z = start_near k in
      columns_rising refl (sym z) a b (sym (left_at_start e far h)) f g i

  pub columns_start_left : {top far left first to : ℕ} → r ≡ first_row rows e → top ≡ top_of e last r → far ≡ aside_of e top → e.to_x < e.from_x
      → left ≡ left_of e 0 far → first ≡ fine_cell cols left → to ≡ fine_cell cols e.from_x → ColumnsAre cols rows e r first to
  columns_start_left {far} k a b h f g i =
      let z = start_near k in
      columns_rising refl (sym z) a b f g (sym (right_at_start e far h)) i

-- the last row of such a line
module _ {cols rows : ℕ} {e : Ends} {s r : ℕ} (p : CoveredRow cols rows e s r r) where
  -- it ends there, and has come all the way but for less than 2
  all_far : span_of e ≤ aside_of e (top_of e r r) + 5
  unfolding aside_of slope_of
  all_far =
      let a = p.small in
      let dy = e.to_y - e.from_y in
      let k : 1 * span_of e ≤ (dy * (span_of e * 4294967296 / dy) / 4294967296 + 2) * 1 =
      aside_over 4294967296 (span_of e) dy dy 1 1 (omega (arith, p.rises)) (lit< tt) (omega arith) (omega arith) in
      rw (top_last e r r (omega arith)) (omega arith)

  pub columns_end_right : {bottom near left first to : ℕ} → bottom ≡ bottom_of e r → near ≡ aside_of e bottom → e.from_x ≤ e.to_x
      → left ≡ left_of e near 0 → first ≡ fine_cell cols left → to ≡ fine_cell cols e.to_x → ColumnsAre cols rows e r first to
  columns_end_right {near} a b h f g i =
      columns_rising p a b refl refl (f ∙ left_by_bottom e near 0 _ h) g (sym (right_at_end e near _ all_far h)) i

  pub columns_end_left : {bottom near right first to : ℕ} → bottom ≡ bottom_of e r → near ≡ aside_of e bottom → e.to_x < e.from_x
      → first ≡ fine_cell cols e.to_x → right ≡ right_of e near 0 → to ≡ fine_cell cols right → ColumnsAre cols rows e r first to
  columns_end_left {near} a b h f g i =
      columns_rising p a b refl refl (sym (left_at_end e near _ all_far h)) f (g ∙ right_by_bottom e near 0 _ h) i

-- ---- a row, written

pub grown_by : {xs ys : List ℕ} {n m k j : ℕ} (first : ℕ) → k ≡ j → Appended xs ys n m (run k first) → Appended xs ys n m (run j first)
grown_by first e g = rw (← e) g

module _ (cols rows : ℕ) (e : Ends) (r : ℕ) where
  -- what is written for it, and the number of its cells
  module _ {first last : ℕ} (c : ColumnsAre cols rows e r first last) where
    row_is : run (last + 1 - first) (r * cols + first) ≡ row_cells cols rows e r
    unfolding row_cells
    row_is = rw (c.first_is, c.last_is)

    row_length : length (row_cells cols rows e r) ≡ last + 1 - first
    row_length = ap length (sym row_is) ∙ length_run (last + 1 - first) (r * cols + first)

    row_room : {n room : ℕ} → r < 4096 → 0 < cols → cols < 4096 → n + 8 ≤ room → n + (last + 1 - first) ≤ room → RowRoom cols r first last n room
    row_room h C F a b =
        let u : first < cols = rw c.first_is (first_in cols rows e C r) in
        let v : last < cols = rw c.last_is (last_in cols rows e C r) in
        let w : r * cols ≤ 4095 * cols = mul-le-mul_right cols (omega arith) in
        record { eight = a; all = b; few = omega arith; narrow = omega arith }

-- ---- the loop over the rows, from the row r on with n cells written

pub record Climbing (cols rows : ℕ) (e : Ends) (first last s : ℕ) (xs ys : List ℕ) (r n : ℕ) : Type 0 where
  pub base : Rises cols rows e first last (length xs)
  pub slope_is : s ≡ slope_of e
  pub len : length ys ≡ length xs
  pub count : n ≡ length (take n ys)
  pub from : first ≤ r
  pub to : r ≤ last + 1
  pub left : cells_between cols rows e ≡ take n ys ++ rows_from (last + 1 - r) cols rows e r

rows_step : (cols rows : ℕ) (e : Ends) (last r : ℕ) → r ≤ last → rows_from (last + 1 - r) cols rows e r ≡ row_cells cols rows e r ++ rows_from (last + 1 - (r + 1)) cols rows e (r + 1)
unfolding rows_from
rows_step cols rows e last r h = let k : last + 1 - r ≡ suc (last + 1 - (r + 1)) = omega arith in ap (λ (z : ℕ). rows_from z cols rows e r) k

module _ {cols rows : ℕ} {e : Ends} {first last s : ℕ} where
  pub climbing_start : (xs : List ℕ) → Rises cols rows e first last (length xs) → s ≡ slope_of e → Climbing cols rows e first last s xs xs first 0
  unfolding cells_between
  climbing_start xs p k =
      record {
        base = p;
        slope_is = k;
        len = refl;
        count = refl;
        from = omega arith;
        to = let u = p.rises in omega arith;
        left = ap₂ (λ (x y : ℕ). rows_from (x + 1 - y) cols rows e y) (sym p.last_is) (sym p.first_is);
      }

  module _ {xs ys : List ℕ} {r n : ℕ} (p : Climbing cols rows e first last s xs ys r n) where
    pub climbing_row : r ≤ last → CoveredRow cols rows e s last r
    climbing_row h =
        let b = p.base in
        let f = b.frame in
        record {
          small = f.small;
          up = f.up;
          some_rows = f.some_rows;
          few_rows = f.few_rows;
          some_cols = f.some_cols;
          few_cols = f.few_cols;
          slope_is = p.slope_is;
          last_is = b.last_is;
          rises = omega (arith, b.rises);
          from = omega (arith, p.from);
          to = omega (arith, b.last_is);
        }

    module _ (h : r ≤ last) {a b : ℕ} (c : ColumnsAre cols rows e r a b) where
      abbrev rest : List ℕ
      rest = rows_from (last + 1 - (r + 1)) cols rows e (r + 1)

      -- the cells of a line are few, so there is room for those of the row
      pub climbing_room : RowRoom cols r a b n (length ys)
      climbing_room =
          let f = p.base.frame in
          let l : last < 4096 = omega (arith, p.base.last_is, f.some_rows, f.few_rows) in
          let m = cells_few cols rows e f.small f.some_cols f.some_rows in
          let c1 : length (cells_between cols rows e) ≡ length (take n ys) + length (rows_from (last + 1 - r) cols rows e r) = ap length p.left ∙ length-append (take n ys) (rows_from (last + 1 - r) cols rows e r) in
          let c2 : length (rows_from (last + 1 - r) cols rows e r) ≡ length (row_cells cols rows e r) + length rest = ap length (rows_step cols rows e last r h) ∙ length-append (row_cells cols rows e r) rest in
          let c3 = row_length cols rows e r c in
          row_room cols rows e r c (omega arith) f.some_cols f.few_cols (omega (arith, f.holds, p.len, p.count)) (omega (arith, f.holds, p.len, p.count))

      pub climbing_more : {zs : List ℕ} {m : ℕ} → Appended ys zs n m (run (b + 1 - a) (r * cols + a)) → Climbing cols rows e first last s xs zs (r + 1) m
      climbing_more {zs} {m} g =
          record {
            base = p.base;
            slope_is = p.slope_is;
            len = g.len ∙ p.len;
            count = sym (length-take-le m zs g.within);
            from = omega (arith, p.from);
            to = omega arith;
            left =
                p.left ∙ ap (λ (l : List ℕ). take n ys ++ l) (rows_step cols rows e last r h)
                ∙ sym (append_assoc (take n ys) (row_cells cols rows e r) rest)
                ∙ ap (λ (l : List ℕ). l ++ rest) (ap (λ (l : List ℕ). take n ys ++ l) (sym (row_is cols rows e r c)) ∙ sym g.is);
          }

    -- the rows before the last are written
    pub climbing_last : r ≤ last → last ≤ r → Climbing cols rows e first last s xs ys last n
    climbing_last h k = let q : r ≡ last = omega arith in subst (λ (z : ℕ). Climbing cols rows e first last s xs ys z n) q p

    -- the loop begins with what is written by then
    pub climbing_on : Climbing cols rows e first last s ys ys r n
    climbing_on =
        record {
          base = rw p.len p.base;
          slope_is = p.slope_is;
          len = refl;
          count = p.count;
          from = p.from;
          to = p.to;
          left = p.left;
        }

    pub climbing_done : last < r → Front (cells_between cols rows e) ys n
    unfolding rows_from
    climbing_done h =
        let z : last + 1 - r ≡ 0 = omega arith in
        let t : take n ys ≡ cells_between cols rows e = sym (p.left ∙ ap (λ (k : ℕ). take n ys ++ rows_from k cols rows e r) z ∙ append-nil (take n ys)) in
        record { count = p.count ∙ ap length t; is = t }

-- ---- a line in one row

module _ {cols rows : ℕ} {e : Ends} {r room : ℕ} (p : Level cols rows e r room) {least most a b : ℕ}
    (f : least ≡ min e.from_x e.to_x) (g : a ≡ fine_cell cols least) (h : most ≡ max e.from_x e.to_x) (i : b ≡ fine_cell cols most) where
  one_row : last_row rows e ≤ first_row rows e
  one_row = rw (← p.first_is) p.one_row

  columns_level : ColumnsAre cols rows e r a b
  columns_level =
      record {
        first_is = g ∙ ap (fine_cell cols) f ∙ sym (first_level cols rows e r one_row);
        last_is = i ∙ ap (fine_cell cols) h ∙ sym (last_level cols rows e r one_row);
      }

  -- the cells of the row are those of the line
  line_is : cells_between cols rows e ≡ row_cells cols rows e r
  unfolding cells_between rows_from
  line_is =
      let u = p.frame.up in
      let o : last_row rows e + 1 - first_row rows e ≡ 1 = omega (arith, one_row) in
      ap (λ (m : ℕ). rows_from m cols rows e (first_row rows e)) o ∙ append-nil (row_cells cols rows e (first_row rows e)) ∙ ap (row_cells cols rows e) (sym p.first_is)

  pub level_room : RowRoom cols r a b 0 room
  level_room =
      let q = p.frame in
      let t : r < 4096 = omega (arith, p.first_is, q.some_rows, q.few_rows) in
      let m = cells_few cols rows e q.small q.some_cols q.some_rows in
      let l : length (cells_between cols rows e) ≡ b + 1 - a = ap length line_is ∙ row_length cols rows e r columns_level in
      row_room cols rows e r columns_level t q.some_cols q.few_cols
      (beyond (2 * cols + 2 * rows) 8 room q.holds) (within (b + 1 - a) (2 * cols + 2 * rows) room (rw (← l) m) q.holds)
    where
      beyond : (m k n : ℕ) → m + k ≤ n → 0 + k ≤ n
      beyond m k n h = omega arith

      within : (k m n : ℕ) → k ≤ m → m + 8 ≤ n → 0 + k ≤ n
      within k m n h l = omega arith

  pub level_done : {xs ys : List ℕ} {m : ℕ} → Appended xs ys 0 m (run (b + 1 - a) (r * cols + a)) → Front (cells_between cols rows e) ys m
  level_done w =
      let t : run (b + 1 - a) (r * cols + a) ≡ cells_between cols rows e = row_is cols rows e r columns_level ∙ sym line_is in
      let n = w.count in
      let k = ap length t in
      record { count = omega arith; is = w.is ∙ t }

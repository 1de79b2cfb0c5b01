-- The block of a window on fit tables: its rows are parts of the items, and what is marked of them is what a cell of the block lists. Assumes
-- nothing.
use mathlib.Core.Path.{◌≡◌, refl, sym, ap, ap₂, subst, ◌∙◌}
use mathlib.Core.Bool.{Bool, true, false, cond, ◌&&◌}
use mathlib.Core.List.{List}
use Prim.Native.Nat.{ℕ, ◌+◌, ◌-◌, ◌*◌, ◌/◌, ◌%◌, ◌≤◌, ◌<◌}
use native.Mathlib.Nat.{mul-zero}
use native.Mathlib.Omega.{arith}
use lib.ListN.{length, get_or, take, drop}
use lib.Seq.{slice}
use Rattle.slices.specs.Lists.{elem, Below}
use Rattle.slices.proofs.Members.{below_elem, below_of}
use Rattle.numbers.proofs.FloorLaws.{clamped_below}
use Rattle.grid.specs.declared.Grid.{Grid}
use Rattle.grid.specs.declared.Axis.{Axis}
use Rattle.grid.specs.declared.Box.{Box}
use Rattle.grid.specs.Axes.{x_axis, y_axis, scaled_on, index_on}
use Rattle.grid.specs.Domain.{fit}
use Rattle.grid.proofs.Bools.{and_left}
use Rattle.grid.proofs.Shapes.{fit_says}
use Rattle.tables.specs.Tables.{Tables, tables, cells, list_in, list_of}
use Rattle.tables.specs.Fit.{TablesFit}
use Rattle.tables.proofs.Facts.{not_true, all_within, part_slice}
use Rattle.window.specs.Window.{within, in_block, some, listed}
use Rattle.window.specs.Inside.{row_part, marked_rows, Block, LinesMarked}
use Rattle.window.proofs.Marking.{rows_length, rows_at}
use Rattle.window.proofs.Blocks.{some_says, within_says, rise, row_fits, row_lists, across, block_lists}

-- ---- a row

pub record RowIn (cols : ℕ) (offsets items : List ℕ) (first last row : ℕ) (marks : List ℕ) : Type 0 where
  pub order : first ≤ last
  pub end : row * cols + last + 1 < length offsets
  pub small : row * cols + last + 1 ≤ 1002001
  pub rise : get_or offsets (row * cols + first) 0 ≤ get_or offsets (row * cols + last + 1) 0
  pub within : get_or offsets (row * cols + last + 1) 0 ≤ length items
  pub below : Below (length marks) (row_part cols offsets items first last row)

pub row_in : (cols : ℕ) (offsets items : List ℕ) (first last below : ℕ) (marks : List ℕ) → Block cols offsets items first last below marks → (row : ℕ) → row < below
    → RowIn cols offsets items first last row marks
unfolding across
row_in cols offsets items first last below marks b row l =
    record {
      order = b.order;
      end = omega (arith, m, b.inside, b.long);
      small = omega (arith, m, b.inside, b.few);
      rise = rw e (rise offsets items (row * cols + first) (last + 1 - first) (λ c s t. b.lists.rises c (omega (arith, m, b.inside, b.order))));
      within = all_within (b.all_rows * cols) b.all_lines offsets items b.lists (row * cols + last + 1) (omega (arith, m, b.inside));
      below = below_of (length marks) (row_part cols offsets items first last row) each;
    }
  where
    m : row * cols + cols ≤ b.all_rows * cols
    m = row_fits b.all_rows cols row (omega (arith, b.rows_there))

    e : row * cols + last + 1 ≡ row * cols + first + (last + 1 - first)
    e = omega (arith, b.order)

    each : (v : ℕ) → elem v (row_part cols offsets items first last row) ≡ true → v < length marks
    each v h =
        let p = some_says (across cols b.all_rows b.all_lines offsets items first last 0 row b.lists b.order b.inside (omega (arith, b.rows_there)) v row) (last + 1 - first)
        (sym (row_lists cols b.all_rows b.all_lines offsets items first last 0 row b.lists b.order b.inside (omega (arith, b.rows_there)) v row (omega arith)) ∙ h) in
        let c : ℕ = row * cols + first + p.k in
        let u = below_elem b.all_lines v (list_in offsets items c) (b.lists.lists c (omega (arith, m, b.inside, p.under, b.order))).below p.passes in
        omega (arith, u, b.room)

module _ (cols : ℕ) (offsets items : List ℕ) (first last row : ℕ) (low high : ℕ) (e : low ≡ get_or offsets (row * cols + first) 0) (f : high ≡ get_or offsets (row * cols + last + 1) 0) where
  pub part_is : take (high - low) (drop low items) ≡ row_part cols offsets items first last row
  unfolding row_part
  part_is = part_slice low high items ∙ ap₂ (λ (a b : ℕ). slice a b items) e f

pub row_below : {cols : ℕ} {offsets items : List ℕ} {first last row : ℕ} {was : List ℕ} → RowIn cols offsets items first last row was → (low high : ℕ) (marks : List ℕ)
    → low ≡ get_or offsets (row * cols + first) 0 → high ≡ get_or offsets (row * cols + last + 1) 0 → length marks ≡ length was → Below (length marks) (take (high - low) (drop low items))
row_below {cols} {offsets} {items} {first} {last} {row} {was} r low high marks e f l =
    rw (l, part_is cols offsets items first last row low high e f) r.below

-- ---- the block

pub index_below : (a : Axis) (v : _) → 0 < a.count → index_on a v < a.count
unfolding index_on
index_below a v h = clamped_below (scaled_on a v) a.count h

marked_same : (test : ℕ → Bool) (was : List ℕ) → ((i : ℕ) → test i ≡ false) → LinesMarked test was was
marked_same test was h = record { len = refl; at = λ i l. sym (ap (λ (b : Bool). cond b 1 (get_or was i 0)) (h i)) }

module _ (g : Grid) (n : ℕ) (offsets items globals : List ℕ) (count : ℕ) (w : Box) where
  abbrev t : Tables
  t = tables g n offsets items globals count

  pub no_columns : g.cols ≡ 0 → (was : List ℕ) → LinesMarked (listed g t w) was was
  unfolding listed some
  no_columns e was = marked_same (listed g t w) was (λ i. ap (some (λ c. in_block g w c && elem i (list_of t c))) (ap (λ (k : ℕ). g.rows * k) e ∙ mul-zero g.rows))

  pub crossed : (first last : ℕ) → first ≡ index_on (x_axis g) w.min_x → last ≡ index_on (x_axis g) w.max_x → last < first → (was : List ℕ)
      → LinesMarked (listed g t w) was was
  unfolding listed in_block
  crossed first last e f l was = marked_same (listed g t w) was (λ i. not_true (listed g t w i) (none i))
    where
      none : (i : ℕ) → listed g t w i ≡ true → ⊥
      none i h =
          let p = some_says (λ c. in_block g w c && elem i (list_of t c)) (cells t) h in
          let b = and_left (in_block g w p.k) (elem i (list_of t p.k)) p.passes in
          let x = within_says (index_on (x_axis g) w.min_x) (index_on (x_axis g) w.max_x) (p.k % g.cols) (and_left (within (index_on (x_axis g) w.min_x) (index_on (x_axis g) w.max_x) (p.k % g.cols)) (within (index_on (y_axis g) w.min_y) (index_on (y_axis g) w.max_y) (p.k / g.cols)) b) in
          let low = x.0 in
          let high = x.1 in
          omega (arith, e, f)

  module _ (fits : fit g ≡ true) (tf : TablesFit t) (columns : 0 < g.cols) (first last from to : ℕ) (ef : first ≡ index_on (x_axis g) w.min_x) (el : last ≡ index_on (x_axis g) w.max_x)
      (er : from ≡ index_on (y_axis g) w.min_y) (et : to ≡ index_on (y_axis g) w.max_y) (order : first ≤ last) where
    wide : last < g.cols
    wide = let u = index_below (x_axis g) w.max_x columns in omega (arith, u, el)

    high : to < g.rows
    high = let u = index_below (y_axis g) w.max_y ((fit_says g fits).counts.alike columns) in omega (arith, u, et)

    pub block : (cols below : ℕ) (marks : List ℕ) → cols ≡ g.cols → below ≡ to + 1 → n ≤ length marks → Block cols offsets items first last below marks
    block cols below marks ec eb l =
        subst (λ (k : ℕ). Block k offsets items first last below marks) (sym ec)
        (record {
          all_rows = g.rows;
          all_lines = n;
          lists = tf.lists;
          long = tf.long;
          few = (fit_says g fits).counts.cells;
          order = order;
          inside = wide;
          rows_there = omega (arith, eb, high);
          room = l;
        })

    pub marked : (cols below : ℕ) (was now : List ℕ) → cols ≡ g.cols → below ≡ to + 1 → now ≡ marked_rows cols offsets items first last (below - from) from was
        → LinesMarked (listed g t w) was now
    unfolding listed in_block
    marked cols below was now ec eb e = record { len = ap (λ (xs : List ℕ). length xs) same ∙ rows_length g.cols offsets items first last (to + 1 - from) from was; at = each }
      where
        same : now ≡ marked_rows g.cols offsets items first last (to + 1 - from) from was
        same = e ∙ ap₂ (λ (c b : ℕ). marked_rows c offsets items first last (b - from) from was) ec eb

        lists_are : (i : ℕ) → some (λ c. (within first last (c % g.cols) && within from to (c / g.cols)) && elem i (list_in offsets items c)) (g.rows * g.cols) ≡ listed g t w i
        lists_are i = rw (ef, el, er, et)

        each : (i : ℕ) → i < length was → get_or now i 0 ≡ cond (listed g t w i) 1 (get_or was i 0)
        each i l =
            ap (λ (xs : List ℕ). get_or xs i 0) same
            ∙ rows_at g.cols offsets items first last (to + 1 - from) from was i l
            ∙ ap (λ (b : Bool). cond b 1 (get_or was i 0)) (block_lists g.cols g.rows n offsets items first last from to tf.lists order wide high i ∙ lists_are i)

-- Tables that stand, for any walk.
--     laid-stands               what the two passes leave stands
--     list-rises, listed        what a cell lists
--     globals-rise, global      what the global list holds
--     few-lists                 in how many lists a line is
-- Assumes nothing.
use mathlib.Core.Path.{◌≡◌, refl, sym, ap, ◌∙◌}
use mathlib.Core.Bool.{true, not, ◌&&◌}
use mathlib.Core.List.{List, ◌++◌}
use Prim.Native.Nat.{ℕ, suc, ◌+◌, ◌-◌, ◌*◌, ◌≤◌, ◌<◌}
use native.Mathlib.Omega.{arith}
use lib.Dec.{ltb}
use lib.ListN.{length, get_or, take, replicate, length-append}
use lib.Seq.{take-append_seam}
use Rattle.slices.specs.Lists.{elem, Rising}
use Rattle.grid.specs.declared.Grid.{Grid}
use Rattle.grid.specs.Domain.{fit}
use Rattle.tables.specs.Tables.{Tables, tables, cells, list_in, list_of, globals_of}
use Rattle.tables.specs.Fit.{TablesFit}
use Rattle.tables.specs.Lists.{Walks, long, only, local, local_lines, global_lines, sum, start}
use Rattle.tables.specs.InsidePasses.{Table}
use Rattle.tables.specs.Stands.{Stands}
use Rattle.tables.proofs.Facts.{part_slice}
use Rattle.tables.proofs.Laws.{sum_mono, sum_same, table_offset, table_list}
use Rattle.tables.proofs.Lists as lists

-- ---- what the passes leave

-- the lists of n lines laid out in three slices, on a grid that is fit, with the number of global lines
pub record Laid (W : ℕ → List ℕ) (n : ℕ) (g : Grid) (offsets items globals : List ℕ) (found : ℕ) : Type 0 where
  pub grid_fit : fit g ≡ true
  pub few : n ≤ 65536
  pub walks : Walks W n (g.rows * g.cols)
  pub room : g.rows * g.cols + 1 ≤ length offsets
  pub space : start (local_lines W n) (g.rows * g.cols) ≤ length items
  pub table : Table (local_lines W n) (g.rows * g.cols) offsets items
  pub found_is : found ≡ length (global_lines W n)
  pub globe : globals ≡ global_lines W n ++ replicate (length globals - length (global_lines W n)) 0

module _ {W : ℕ → List ℕ} {n : ℕ} {g : Grid} {o t gs : List ℕ} {k : ℕ} (h : Laid W n g o t gs k) where
  -- the part of the items is the list of the cell
  list_is : (c : ℕ) → c < g.rows * g.cols → list_in o t c ≡ local_lines W n c
  unfolding sum
  list_is c l =
      let F = local_lines W n in
      let a : get_or o c 0 ≡ start F c = table_offset h.table c (omega arith) in
      let b : get_or o (suc c) 0 ≡ start F (suc c) = table_offset h.table (suc c) l in
      let d : get_or o (suc c) 0 - get_or o c 0 ≡ length (F c) = omega arith in
      sym (part_slice (get_or o c 0) (get_or o (suc c) 0) t) ∙ rw (d, a) (table_list h.table c l)

  globe_is : take k gs ≡ global_lines W n
  globe_is =
      ap (λ (x : List ℕ). take k x) h.globe
      ∙ rw h.found_is (take-append_seam (global_lines W n) (replicate (length gs - length (global_lines W n)) 0))

  globe_within : k ≤ length gs
  globe_within = omega (arith, h.found_is, simp length-append at (ap length h.globe))

  laid_fit : TablesFit (tables g n o t gs k)
  unfolding sum
  laid_fit =
      let F = local_lines W n in
      record {
        long = h.room;
        lists =
            record {
              first = table_offset h.table 0 (omega arith);
              rises = λ c l. omega (arith, table_offset h.table c (omega arith), table_offset h.table (suc c) l, sum_mono (λ c. length (F c)) c (suc c) (omega arith));
              within = omega (arith, table_offset h.table (g.rows * g.cols) (omega arith), h.space);
              lists = λ c l. rw (list_is c l) (record { rises = lists.lines_rising (local W) n c; below = lists.lines_below (local W) n c });
            };
        globals = rw globe_is (record { rises = lists.globals_rising W n; below = lists.globals_below W n });
        counted = globe_within;
      }

  -- WHAT THE PASSES LEAVE STANDS
  pub laid_stands : Stands W n g (tables g n o t gs k)
  laid_stands =
      record {
        on_grid = refl;
        grid_fit = h.grid_fit;
        few = h.few;
        walks = h.walks;
        tables_fit_lem = laid_fit;
        lists = list_is;
        globals = globe_is;
      }

-- ---- what stands

module _ {W : ℕ → List ℕ} {n : ℕ} {g : Grid} {t : Tables} (s : Stands W n g t) where
  pub lines_are : t.lines ≡ n
  lines_are = ap (λ (x : Tables). x.lines) s.on_grid

  -- a cell lists, increasing, exactly the lines that are not global and visit it
  pub list_rises : (c : ℕ) → c < cells t → Rising 0 (list_of t c)
  list_rises c l = rw (s.lists c l) (lists.lines_rising (local W) n c)

  pub listed : (c : ℕ) → c < cells t → (k : ℕ) → elem k (list_of t c) ≡ (ltb k n && (not (long (W k)) && elem c (W k)))
  listed c l k = rw (s.lists c l) (lists.list_holds W n k c)

  -- the global list holds, increasing, exactly the global lines
  pub globals_rise : Rising 0 (globals_of t)
  globals_rise = rw s.globals (lists.globals_rising W n)

  pub global : (k : ℕ) → elem k (globals_of t) ≡ (ltb k n && long (W k))
  global k = rw s.globals (lists.globals_hold W n k)

  -- at most 2,048 cells list a line: each such cell counts one
  pub few_lists : (k : ℕ) → sum (λ c. length (only (elem k (list_of t c)) k)) (cells t) ≤ 2048
  few_lists k =
      let e = sum_same (λ c. length (only (elem k (list_of t c)) k)) (λ c. length (only (elem k (local_lines W n c)) k)) (cells t) (λ c l. rw (s.lists c l)) in
      omega (arith, lists.lists_few W n k (cells t))

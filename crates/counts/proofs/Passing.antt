-- What passes the checks of a count, and the entries of the table that it leaves. Assumes nothing.
use Rattle.std.specs.Prelude.{Ok}
use mathlib.Core.Path.{◌≡◌, refl, ap, ◌∙◌}
use mathlib.Core.Bool.{true}
use mathlib.Core.List.{List, ◌++◌}
use Prim.Native.Nat.{ℕ, ◌+◌, ◌-◌, ◌≤◌, ◌<◌}
use native.Mathlib.Omega.{arith}
use borrow.Author.Tests.{leb-true, le-leb, eq-eqb}
use lib.Dec.{leb}
use lib.ListN.{length, get_or, replicate, length-append, length-replicate, get_or-append}
use lib.Seq.{get_or-append-add}
use Rattle.slices.proofs.Clearing.{zeros_at}
use Rattle.refusals.specs.Refusals.{unless, and_then}
use Rattle.refusals.proofs.Checks.{unless_fine, and_then_left, and_then_right, each_says, each_fine}
use Rattle.grid.specs.declared.Grid.{Grid}
use Rattle.grid.specs.Domain.{Lines, count, Alike, line_fits, fit, lengths_check, count_check, coordinates_check, scratch_check, lines_check, grid_check}
use Rattle.grid.proofs.Fine.{LinesFit, lines_fine}
use Rattle.walk.specs.declared.Mode.{Mode}
use Rattle.tables.specs.Lists.{tabulate}
use Rattle.tables.proofs.Laws.{length_tabulate, get_d_tabulate}
use Rattle.fill.specs.OnGrid.{grid_cells, walk_on, completes, list_on, counts_on}
use Rattle.fill.specs.Checks.{on_grid_check, room_check, turns_check, tried_check, counting_check}

-- ---- what passes 3, 2, 1, 8, 4 and 7

pub record Passes (mode : Mode) (g : Grid) (ls : Lines) (room scratch : ℕ) : Type 0 where
  pub space : 16384 ≤ scratch
  pub same : Alike ls
  pub few : count ls ≤ 65536
  pub each : (i : ℕ) → i < count ls → line_fits ls i ≡ true
  pub fits : fit g ≡ true
  pub roomy : grid_cells g + 1 ≤ room
  pub ended : (i : ℕ) → i < count ls → completes (walk_on mode g ls i) ≡ true

module _ (mode : Mode) (g : Grid) (ls : Lines) (room scratch : ℕ) where
  pub fine_passes : counting_check mode g ls room scratch ≡ Ok tt → Passes mode g ls room scratch
  unfolding counting_check on_grid_check tried_check scratch_check grid_check room_check turns_check
  fine_passes h =
      let lent = and_then_left (on_grid_check g ls scratch) (tried_check mode g ls room) h in
      let tried = and_then_right (on_grid_check g ls scratch) (tried_check mode g ls room) h in
      let rest = and_then_right (scratch_check scratch) (and_then (lines_check ls) (grid_check g)) lent in
      let f : LinesFit ls = lines_fine ls (and_then_left (lines_check ls) (grid_check g) rest) in
      record {
        space = leb-true 16384 scratch (unless_fine (leb 16384 scratch) 3 0 (and_then_left (scratch_check scratch) (and_then (lines_check ls) (grid_check g)) lent));
        same = f.same;
        few = f.few;
        each = f.each;
        fits = unless_fine (fit g) 8 0 (and_then_right (lines_check ls) (grid_check g) rest);
        roomy = leb-true (grid_cells g + 1) room (unless_fine (leb (grid_cells g + 1) room) 4 (grid_cells g + 1) (and_then_left (room_check g room) (turns_check mode g ls) tried));
        ended = λ i l. each_says (λ i. completes (walk_on mode g ls i)) 7 (count ls) 0 i (and_then_right (room_check g room) (turns_check mode g ls) tried) (omega arith) (omega arith);
      }

  pub passes_fine : Passes mode g ls room scratch → counting_check mode g ls room scratch ≡ Ok tt
  unfolding counting_check on_grid_check tried_check scratch_check grid_check room_check turns_check lines_check lengths_check count_check coordinates_check unless and_then
  passes_fine h =
      rw (
        le-leb 16384 scratch h.space,
        eq-eqb _ _ h.same.«start_y»,
        eq-eqb _ _ h.same.«end_x»,
        eq-eqb _ _ h.same.«end_y»,
        le-leb (count ls) 65536 h.few,
        each_fine (line_fits ls) 1 (count ls) 0 (λ k _ l. h.each k (omega arith)),
        h.fits,
        le-leb (grid_cells g + 1) room h.roomy,
        each_fine (λ i. completes (walk_on mode g ls i)) 7 (count ls) 0 (λ k _ l. h.ended k (omega arith)),
      )

-- ---- the table of a function of the cells, in a slice of a length, and zero beyond

abbrev pub table_with : (ℕ → ℕ) → Grid → ℕ → List ℕ
table_with f g room = tabulate f (grid_cells g) ++ replicate (room - grid_cells g) 0

module _ (f : ℕ → ℕ) (g : Grid) (room : ℕ) where
  pub length_table : grid_cells g + 1 ≤ room → length (table_with f g room) ≡ room
  length_table l = rw (length-append, length_tabulate f (grid_cells g), length-replicate) (omega arith)

  pub table_in : (c : ℕ) → c < grid_cells g → get_or (table_with f g room) c 0 ≡ f c
  table_in c l = get_or-append (tabulate f (grid_cells g)) (replicate (room - grid_cells g) 0) 0 c (omega (arith, length_tabulate f (grid_cells g))) ∙ get_d_tabulate f (grid_cells g) c l

  pub table_out : (c : ℕ) → grid_cells g ≤ c → get_or (table_with f g room) c 0 ≡ 0
  table_out c l =
      let e : c ≡ length (tabulate f (grid_cells g)) + (c - grid_cells g) = omega (arith, length_tabulate f (grid_cells g)) in
      ap (λ (k : ℕ). get_or (table_with f g room) k 0) e
      ∙ get_or-append-add (tabulate f (grid_cells g)) (replicate (room - grid_cells g) 0) (c - grid_cells g) 0
      ∙ zeros_at (room - grid_cells g) (c - grid_cells g)

pub counts_with : (mode : Mode) (g : Grid) (ls : Lines) (room : ℕ) → counts_on mode g ls room ≡ table_with (λ c. length (list_on mode g ls c)) g room
unfolding counts_on
counts_with mode g ls room = refl

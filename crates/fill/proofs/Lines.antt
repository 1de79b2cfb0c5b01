-- One line more, in either pass. Assumes nothing.
use mathlib.Core.Path.{◌≡◌}
use mathlib.Core.Bool.{true}
use mathlib.Core.List.{List}
use mathlib.Core.Logic.{⊎_elim}
use Prim.Native.Nat.{ℕ, ◌+◌, ◌*◌, ◌≤◌, ◌<◌, ◌^◌}
use native.Mathlib.Nat.{mul-le-mul_right}
use native.Mathlib.Omega.{arith}
use lib.ListN.{length}
use Rattle.slices.proofs.Laws.{le_or}
use Rattle.grid.specs.declared.Grid.{Grid}
use Rattle.grid.specs.Domain.{Lines, count, fit}
use Rattle.walk.specs.declared.Mode.{Mode}
use Rattle.tables.specs.Lists.{long, lines_at, start}
use Rattle.tables.specs.InsidePasses.{Counted, Placed, CanCount, CanPlace}
use Rattle.tables.proofs.Laws.{total_few}
use Rattle.tables.proofs.Lists.{local_long, local_few, list_none}
use Rattle.fill.specs.OnGrid.{grid_cells, cells_on, list_on, total}
use Rattle.fill.specs.Inside.{LineFront, local_on, VisitsCounted, CountAsks, LineCounted, VisitsPlaced, LineAsks, LinePlaced}
use Rattle.fill.proofs.Walks.{is_long, is_short, all_walks, line_at}

-- a global line is in no list
long_none : (mode : Mode) (g : Grid) (ls : Lines) (i : ℕ) → long (cells_on mode g ls i) ≡ true → lines_at (local_on mode g ls) i ≡ lines_at (local_on mode g ls) (i + 1)
long_none mode g ls i h = list_none (local_on mode g ls) i (local_long (cells_on mode g ls) i h)

-- the total fits in 32 bits
pub total_small : (mode : Mode) (g : Grid) (ls : Lines) → count ls ≤ 65536 → fit g ≡ true → total mode g ls < 2 ^ 32
unfolding total list_on
total_small mode g ls few h =
    let t : start (lines_at (local_on mode g ls) (count ls)) (grid_cells g) ≤ count ls * 2048 = total_few (local_on mode g ls) (count ls) (grid_cells g) 2048 (all_walks mode g ls h) (λ i _. local_few (cells_on mode g ls) i) in
    let u : count ls * 2048 ≤ 65536 * 2048 = mul-le-mul_right 2048 few in
    omega arith

-- ---- the first pass

module _ {mode : Mode} {g : Grid} {ls : Lines} {i : ℕ} {o s₀ s : List ℕ} {n : ℕ} (a : CountAsks mode g ls i o s₀) (k : LineFront mode g ls i s n) where
  count_global : 2048 < n → LineCounted mode g ls i o 1
  count_global b =
      let h = is_long mode g ls i k b in
      record { kind = rw h; next = record { room = a.counted.room; counts = rw (long_none mode g ls i h) at a.counted.counts } }

  pub can_count : n ≤ 2048 → CanCount o s n
  can_count b =
      record {
        W = local_on mode g ls;
        lines = count ls;
        cells = grid_cells g;
        i = i;
        line = line_at a.walkable a.at k b;
        room = omega (arith, a.counted.room);
        counted = a.counted.counts;
      }

  count_next : {o' : List ℕ} (b : n ≤ 2048) → ((p : CanCount o s n) → Counted (lines_at p.W (p.i + 1)) o') → length o' ≡ length o → LineCounted mode g ls i o' 0
  unfolding can_count
  count_next b after e =
      record { kind = rw (is_short mode g ls i k b); next = record { room = omega (arith, a.counted.room); counts = after (can_count b) } }

  -- either way
  pub line_counted : {o' : List ℕ} {more : ℕ} → VisitsCounted o s n o' more → length o' ≡ length o → LineCounted mode g ls i o' more
  line_counted {o'} {more} v e = ⊎_elim few many (le_or n 2048)
    where
      many : 2048 < n → LineCounted mode g ls i o' more
      many b = let w = v.many b in rw (w.0, w.1) (count_global b)

      few : n ≤ 2048 → LineCounted mode g ls i o' more
      few b = let w = v.few b in rw w.0 (count_next b w.1 e)

-- ---- the second pass

module _ {mode : Mode} {g : Grid} {ls : Lines} {i : ℕ} {o t s₀ s : List ℕ} {n : ℕ} (a : LineAsks mode g ls i o t s₀) (k : LineFront mode g ls i s n) where
  place_global : 2048 < n → LinePlaced mode g ls i o t 1
  place_global b =
      let h = is_long mode g ls i k b in
      record { kind = rw h; next = record { room = a.placed.room; space = a.placed.space; placed = rw (long_none mode g ls i h) at a.placed.placed } }

  pub can_place : n ≤ 2048 → CanPlace i o t s n
  unfolding total list_on
  can_place b =
      record {
        W = local_on mode g ls;
        lines = count ls;
        cells = grid_cells g;
        line = line_at a.walkable a.at k b;
        room = a.placed.room;
        space = a.placed.space;
        small = total_small mode g ls a.walkable.few a.walkable.fits;
        placed = a.placed.placed;
      }

  place_next : {o' t' : List ℕ} (b : n ≤ 2048) → ((p : CanPlace i o t s n) → Placed (lines_at p.W p.lines) p.cells (lines_at p.W (i + 1)) o' t')
      → length o' ≡ length o → length t' ≡ length t → LinePlaced mode g ls i o' t' 0
  unfolding can_place total list_on
  place_next b after e d =
      record {
        kind = rw (is_short mode g ls i k b);
        next = record { room = omega (arith, a.placed.room); space = omega (arith, a.placed.space); placed = after (can_place b) };
      }

  -- either way
  pub line_placed : {o' t' : List ℕ} {more : ℕ} → VisitsPlaced i o t s n o' t' more → length o' ≡ length o → length t' ≡ length t → LinePlaced mode g ls i o' t' more
  line_placed {o'} {t'} {more} v e d = ⊎_elim few many (le_or n 2048)
    where
      many : 2048 < n → LinePlaced mode g ls i o' t' more
      many b = let w = v.many b in rw (w.0, w.1.0, w.1.1) (place_global b)

      few : n ≤ 2048 → LinePlaced mode g ls i o' t' more
      few b = let w = v.few b in rw w.0 (place_next b w.1 e d)

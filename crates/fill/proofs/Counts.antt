-- The first pass over all lines: no walk so far was refused, and so many lines are global. Assumes nothing.
use Rattle.std.specs.Prelude.{Ok, Err}
use mathlib.Core.Path.{◌≡◌, refl, ap, ◌∙◌}
use mathlib.Core.Bool.{Bool, true, false}
use mathlib.Core.List.{List}
use Prim.Native.Nat.{ℕ, ◌+◌, ◌-◌, ◌≤◌, ◌<◌}
use native.Mathlib.Numerals.{add-one}
use native.Mathlib.Omega.{arith}
use borrow.Author.Tests.{le-leb, lt-leb, leb-true}
use lib.ListN.{length, replicate, length-append}
use mir.Val.{Fits}
use mir.Syntax.{w64}
use Rattle.slices.proofs.Clearing.{zeros_at}
use Rattle.refusals.specs.Refusals.{refusal, unless, each_from}
use Rattle.refusals.proofs.Checks.{unless_fine, each_good, each_bad, each_over, each_says}
use Rattle.grid.specs.declared.Grid.{Grid}
use Rattle.grid.specs.Domain.{Lines, count}
use Rattle.walk.specs.declared.Mode.{Mode}
use Rattle.tables.specs.Lists.{long, only, global_lines}
use Rattle.tables.specs.InsidePasses.{CanCount}
use Rattle.tables.proofs.Laws.{counted_none}
use Rattle.fill.specs.declared.passes.Walked.{Walked}
use Rattle.fill.specs.OnGrid.{grid_cells, walk_on, completes, cells_on, globals_on, one_if}
use Rattle.fill.specs.Checks.{room_check, turns_check}
use Rattle.fill.specs.Inside.{CountAs, Walkable, WalkAsks, WalkedIs, local_on, VisitsCounted, CountedTo, CountAsks, LineCounted, PassAsks, AllCounted}
use Rattle.fill.proofs.Walks.{walk_ends}
use Rattle.fill.proofs.Lines.{can_count, line_counted}

-- the number of global lines grows by one where a line is global
pub globals_count : (W : ℕ → List ℕ) (i : ℕ) → length (global_lines W (i + 1)) ≡ length (global_lines W i) + one_if (long (W i))
unfolding global_lines
globals_count W i = rw (add-one, length-append) (ap (λ (n : ℕ). length (global_lines W i) + n) (go (long (W i))))
  where
    go : (b : Bool) → length (only b i) ≡ one_if b
    go true = refl
    go false = refl

pub one_if_lem : (b : Bool) → one_if b ≤ 1
one_if_lem true = omega arith
one_if_lem false = omega arith

pub record CountingAll (mode : Mode) (g : Grid) (ls : Lines) (o₀ s₀ o s : List ℕ) (globals i : ℕ) : Type 0 where
  pub walkable : Walkable g ls s
  pub at : i ≤ count ls
  pub len : length o ≡ length o₀
  pub len_scratch : length s ≡ length s₀
  pub turns : turns_check mode g ls ≡ each_from (λ i. completes (walk_on mode g ls i)) 7 (count ls - i) i
  pub found : globals ≡ length (global_lines (cells_on mode g ls) i)
  pub most : globals ≤ i
  pub counted : CountedTo mode g ls i o

pub counting_all : {mode : Mode} {g : Grid} {ls : Lines} {o s : List ℕ} → PassAsks mode g ls o s → CountingAll mode g ls o s o s 0 0
unfolding turns_check global_lines
counting_all {mode} {g} {ls} h =
    let e : count ls - 0 ≡ count ls = omega arith in
    record { walkable = h.walkable; at = omega arith; len = refl; len_scratch = refl; turns = rw e; found = refl; most = omega arith; counted = h.counted }

pub walkable_again : {g : Grid} {ls : Lines} {s s' : List ℕ} → Walkable g ls s → length s' ≡ length s → Walkable g ls s'
walkable_again w e = record { same = w.same; few = w.few; each = w.each; fits = w.fits; space = omega (arith, w.space) }

module _ {mode : Mode} {g : Grid} {ls : Lines} {o₀ s₀ o s : List ℕ} {globals i : ℕ} (k : CountingAll mode g ls o₀ s₀ o s globals i) (l : i < count ls) where
  pub counting_walk : WalkAsks g ls i s
  counting_walk = record { at = l; walkable = k.walkable }

  counting_asks : CountAsks mode g ls i o s
  counting_asks = record { at = l; walkable = k.walkable; counted = k.counted }

  module _ {s' : List ℕ} {w : Walked} (v : WalkedIs mode g ls i s' w) where
    pub counting_over : w.over ≡ true → turns_check mode g ls ≡ Err (refusal 7 i)
    counting_over e = k.turns ∙ each_bad (λ i. completes (walk_on mode g ls i)) 7 (count ls) i l (walk_ends mode g ls i w.over false v.over_is e)

    module _ (e : w.over ≡ false) where
      pub counting_can : w.cells ≤ 2048 → CanCount o s' w.cells
      counting_can b = can_count counting_asks (v.cells_are e) b

      module _ {o' : List ℕ} {more : ℕ} (q : VisitsCounted o s' w.cells o' more) (a : length o' ≡ length o) where
        counting_line : LineCounted mode g ls i o' more
        counting_line = line_counted counting_asks (v.cells_are e) q a

        pub counting_most : Fits w64 (globals + more)
        counting_most = record { fits = omega (arith, k.most, counting_line.kind, one_if_lem (long (cells_on mode g ls i)), k.walkable.few) }

        pub counting_next : length s' ≡ length s → CountingAll mode g ls o₀ s₀ o' s' (globals + more) (i + 1)
        counting_next b =
            let h = counting_line in
            record {
              walkable = walkable_again k.walkable b;
              at = omega arith;
              len = a ∙ k.len;
              len_scratch = b ∙ k.len_scratch;
              turns = k.turns ∙ each_good (λ i. completes (walk_on mode g ls i)) 7 (count ls) i l (walk_ends mode g ls i w.over true v.over_is e);
              found = omega (arith, k.found, h.kind, globals_count (cells_on mode g ls) i);
              most = omega (arith, k.most, h.kind, one_if_lem (long (cells_on mode g ls i)));
              counted = h.next;
            }

pub counting_end : {mode : Mode} {g : Grid} {ls : Lines} {o₀ s₀ o s : List ℕ} {globals i : ℕ} → CountingAll mode g ls o₀ s₀ o s globals i → count ls ≤ i → CountAs (turns_check mode g ls) (AllCounted mode g ls o) (Ok globals)
unfolding globals_on
counting_end {mode} {g} {ls} {i = i} k l =
    let e : i ≡ count ls = omega (arith, k.at) in
    (k.turns ∙ each_over (λ i. completes (walk_on mode g ls i)) 7 (count ls) i l, record { found = rw e at k.found; counted = rw e at k.counted })

-- where no walk is refused, each ends
pub turns_all : (mode : Mode) (g : Grid) (ls : Lines) → turns_check mode g ls ≡ Ok tt → (i : ℕ) → i < count ls → completes (walk_on mode g ls i) ≡ true
unfolding turns_check
turns_all mode g ls h i l = each_says (λ i. completes (walk_on mode g ls i)) 7 (count ls) 0 i h (omega arith) (omega arith)

-- ---- from the start

-- 4: the offsets hold a grid's cells and one more
module _ (g : Grid) (room n : ℕ) (e : n ≡ grid_cells g) where
  pub room_short : room < n + 1 → Err (refusal 4 (n + 1)) ≡ room_check g room
  unfolding room_check unless
  room_short l = let k : room < grid_cells g + 1 = omega arith in rw (lt-leb (grid_cells g + 1) room k, e)

  pub room_fine : n + 1 ≤ room → Ok tt ≡ room_check g room
  unfolding room_check unless
  room_fine l = let k : grid_cells g + 1 ≤ room = omega arith in rw (le-leb (grid_cells g + 1) room k)

-- cleared offsets count no line
pub counted_clear : (mode : Mode) (g : Grid) (ls : Lines) (o o' : List ℕ) → o' ≡ replicate (length o) 0 → length o' ≡ length o → room_check g (length o) ≡ Ok tt → CountedTo mode g ls 0 o'
unfolding room_check
counted_clear mode g ls o o' e s f =
    let l : grid_cells g + 1 ≤ length o = leb-true (grid_cells g + 1) (length o) (unless_fine _ 4 _ f) in
    record { room = omega arith; counts = counted_none (local_on mode g ls) o' (λ k. rw e (zeros_at (length o) k)) }

-- From the counts on a grid to its tables, or to refusal 5 or 6. Assumes nothing.
use Rattle.std.specs.Prelude.{Ok, Err}
use mathlib.Core.Path.{◌≡◌, refl, sym, ap, ◌∙◌, fun_ext}
use mathlib.Core.List.{List, [], ◌∷◌, ◌++◌}
use Prim.Native.Nat.{ℕ, zero, suc, ◌-◌, ◌≤◌, ◌<◌, ◌^◌}
use native.Mathlib.Omega.{arith}
use borrow.Author.Tests.{le-leb, lt-leb}
use lib.ListN.{length, get_or, replicate}
use Rattle.slices.specs.Slices.{cleared_from}
use Rattle.slices.proofs.Clearing.{zeros_at}
use Rattle.refusals.specs.Refusals.{refusal, unless, and_then, gives, answer_by, left_in, zero_beyond}
use Rattle.grid.specs.declared.Grid.{Grid}
use Rattle.grid.specs.Domain.{Lines, count}
use Rattle.walk.specs.declared.Mode.{Mode}
use Rattle.tables.specs.Lists.{Walks, lines_at, sum, start, items_of, offsets_of}
use Rattle.tables.specs.InsidePasses.{Counted, Placed, Table}
use Rattle.tables.proofs.Laws.{counts_sum, placed_none, table_of}
use Rattle.fill.specs.declared.Filled.TheVariants as filled
use Rattle.fill.specs.OnGrid.{grid_cells, list_on, globals_on, total}
use Rattle.fill.specs.Checks.{space_check}
use Rattle.fill.specs.Fill.{more_than, made, filled_of, written_in, FillIs}
use Rattle.fill.specs.Inside.{local_on, PlaceAsks, AllPlaced, Summed, ShiftedBack, FillAsks, LayAsks}
use Rattle.fill.proofs.Walks.{all_walks}
use Rattle.fill.proofs.Lines.{total_small}

-- ---- where the second pass begins

-- beyond where it is cleared from, a list is zero
cleared_at : (n : ℕ) (xs : List ℕ) (p : ℕ) → n ≤ p → get_or (cleared_from n xs) p 0 ≡ 0
unfolding cleared_from
cleared_at zero xs p l = zeros_at (length xs - 0) p
cleared_at (suc n) [] p l = zeros_at (0 - suc n) p
cleared_at (suc n) (x ∷ xs) zero l = absurd (omega arith)
cleared_at (suc n) (x ∷ xs) (suc p) l =
    let e : suc (length xs) - suc n ≡ length xs - n = omega arith in
    rw e (cleared_at n xs p (omega arith))

-- as `placed_none`, where the items are zero beyond the lists
placed_cleared : {W : ℕ → List ℕ} {n cells : ℕ} {o₀ o t : List ℕ} → Walks W n cells → Counted (lines_at W n) o₀
    → ((k : ℕ) → k ≤ cells → get_or o k 0 ≡ sum (λ k. get_or o₀ k 0) k) → ((k : ℕ) → cells < k → get_or o k 0 ≡ get_or o₀ k 0)
    → ((p : ℕ) → start (lines_at W n) cells ≤ p → get_or t p 0 ≡ 0) → Placed (lines_at W n) cells (lines_at W 0) o t
unfolding lines_at
placed_cleared {W} {n} {cells} {o₀} {o} w h low high rest =
    let z : Placed (lines_at W n) cells (lines_at W 0) o [] = placed_none w h low high (λ p. refl) in
    record { ptr = z.ptr; put = λ c k l. absurd (omega arith); rest = rest }

-- ---- 5, then 6

module _ (mode : Mode) (g : Grid) (ls : Lines) (items globals all found : ℕ) (e : all ≡ total mode g ls) (d : found ≡ length (globals_on mode g ls)) where
  pub space_short : items < all → space_check mode g ls items globals ≡ Err (refusal 5 all)
  unfolding space_check unless and_then
  space_short l = rw (← e, lt-leb all items l)

  pub space_globals : all ≤ items → globals < found → space_check mode g ls items globals ≡ Err (refusal 6 found)
  unfolding space_check unless and_then
  space_globals l m = rw (← e, ← d, le-leb all items l, lt-leb found globals m)

  pub space_fine : all ≤ items → found ≤ globals → space_check mode g ls items globals ≡ Ok tt
  unfolding space_check unless and_then
  space_fine l m = rw (← e, ← d, le-leb all items l, le-leb found globals m)

-- ---- the counts, once all lines are counted

module _ {mode : Mode} {g : Grid} {ls : Lines} {found : ℕ} {o s : List ℕ} (a : FillAsks mode g ls found o s) where
  sums_to : sum (λ k. get_or o k 0) (grid_cells g) ≡ total mode g ls
  unfolding total list_on
  sums_to = counts_sum a.all.counted.counts (grid_cells g)

  pub sum_total : {o₁ : List ℕ} {all : ℕ} → Summed o o₁ (grid_cells g) all → all ≡ total mode g ls
  sum_total k = k.total ∙ sums_to

  pub sum_asks : (n : ℕ) → n ≡ grid_cells g → (n < length o) × (sum (λ k. get_or o k 0) n < 2 ^ 32)
  sum_asks n e = rw e (a.all.counted.room, rw sums_to (total_small mode g ls a.walkable.few a.walkable.fits))

  pub counts_above : (most n : ℕ) → n ≡ grid_cells g → more_than most (λ c. get_or o c 0) n ≡ more_than most (λ c. length (list_on mode g ls c)) (grid_cells g)
  unfolding list_on
  counts_above most n e = rw e (ap (λ (f : ℕ → ℕ). more_than most f (grid_cells g)) (fun_ext a.all.counted.counts.count_is))

-- ---- the tables

module _ {mode : Mode} {g : Grid} {ls : Lines} {all found items globals : ℕ} {o s : List ℕ} (p : LayAsks mode g ls all found items globals o s) where
  lay_start : all ≡ start (lines_at (local_on mode g ls) (count ls)) (grid_cells g)
  unfolding total list_on
  lay_start = sum_total p.asks p.summed

  pub lay_place : (t₀ : List ℕ) {t gs : List ℕ} → t ≡ cleared_from all t₀ → length t ≡ items → gs ≡ replicate globals 0 → length gs ≡ globals → PlaceAsks mode g ls o t gs s
  unfolding list_on
  lay_place t₀ z x y w =
      let a = p.asks in
      record {
        walkable = a.walkable;
        turns = a.turns;
        first = record {
          room = omega (arith, a.all.counted.room, p.same);
          space = omega (arith, sum_total a p.summed, p.space);
          placed =
              placed_cleared (all_walks mode g ls a.walkable.fits) a.all.counted.counts p.summed.sums p.summed.beyond
              (λ q h. rw z (cleared_at all t₀ q (omega (arith, lay_start))));
        };
        clear = y ∙ ap (λ (n : ℕ). replicate {A = ℕ} n 0) (sym w);
        fits = omega (arith, a.all.found, p.listing);
      }

  pub lay_made : {t gs o₂ o₃ t₂ gs₂ s₃ : List ℕ} {n room long : ℕ} → n ≡ grid_cells g → AllPlaced mode g ls o₂ t₂ room gs₂ → ShiftedBack o₂ o₃ n → s₃ ≡ replicate long 0
      → length o₃ ≡ length o → length t₂ ≡ length t → room ≡ length gs → long ≡ length s → FillIs mode g ls o t gs s (Ok (filled.Tables all found)) o₃ t₂ gs₂ s₃ (gives made)
  unfolding answer_by left_in filled_of written_in zero_beyond list_on total
  lay_made {o₂ = o₂} {o₃} {t₂} e q k z b d f h =
      let a = p.asks in
      let w = all_walks mode g ls a.walkable.fits in
      let tab : Table (lines_at (local_on mode g ls) (count ls)) (grid_cells g) o₃ t₂ =
      table_of w (omega (arith, a.all.counted.room, p.same)) q.last.space q.last.placed k.first (rw e at k.moved) (rw e at k.beyond) in
      record {
        answer = rw (sum_total a p.summed, a.all.found);
        offsets_are = tab.offsets_are ∙ ap (λ (n : ℕ). offsets_of (lines_at (local_on mode g ls) (count ls)) (grid_cells g) n) b;
        items_are = tab.items_are ∙ ap (λ (n : ℕ). items_of (lines_at (local_on mode g ls) (count ls)) (grid_cells g) n) d;
        globals_are = q.globals ∙ ap (λ (n : ℕ). globals_on mode g ls ++ replicate (n - length (globals_on mode g ls)) 0) f;
        scratch_is = z ∙ ap (λ (n : ℕ). replicate {A = ℕ} n 0) h;
      }

-- The walks of lines on a fit grid. Assumes nothing.
use Rattle.std.specs.Prelude.{Ok, Err, Result}
use mathlib.Core.Path.{◌≡◌, refl, sym, ap, ◌∙◌}
use mathlib.Core.Bool.{Bool, true, false, not, true≢false}
use mathlib.Core.List.{List}
use Prim.Native.Nat.{ℕ, ◌≤◌, ◌<◌}
use native.Mathlib.Omega.{arith}
use borrow.Author.Tests.{le-leb, lt-leb}
use lib.ListN.{length, take}
use Rattle.slices.specs.Lists.{Rising, Below}
use Rattle.refusals.specs.declared.Refusal.{Refusal}
use Rattle.refusals.specs.Refusals.{refused, gives, answer_by}
use Rattle.grid.specs.declared.Grid.{Grid}
use Rattle.grid.specs.Domain.{Lines, count, segment_at, fit}
use Rattle.grid.proofs.Shapes.{shape_says, fit_shape}
use Rattle.walk.specs.declared.Mode.{Mode}
use Rattle.walk.specs.declared.Reached.{Reached}
use Rattle.walk.specs.declared.Reached.TheVariants as reached
use Rattle.turns.specs.Pushes.{Outcome}
use Rattle.walk.specs.Segment as walk
use Rattle.walk.proofs.Visits.{Cells, segment_visits}
use Rattle.walk.proofs.Checked.{as_is}
use Rattle.tables.specs.Lists.{Walks, long}
use Rattle.tables.specs.InsidePasses.{Line}
use Rattle.tables.proofs.Lists.{local_walks, local_short}
use Rattle.fill.specs.OnGrid.{grid_cells, walk_on, completes, visited, cells_on}
use Rattle.fill.specs.Inside.{Walkable, WalkAsks, LineFront, WalkedIs, local_on}

-- ---- what the walk answers, as a count

-- the answer names the cells, and they stand at the front; or they are all; or the answer is a refusal
walked_found : (o : Outcome) (all : Bool) (was : List ℕ) (n : ℕ) (s : List ℕ) → walk.Walked all o was (Ok (reached.Found n)) s
    → (completes o ≡ true) × (all ≡ false) × (n ≡ length (visited o)) × (take n s ≡ visited o)
unfolding walk.reached_of answer_by
walked_found (refused why) all was n s h = let z : ◌≡◌ {A = ℕ} 0 1 = cc h.answer in absurd (omega arith)
walked_found (gives xs) true was n s h = let z : ◌≡◌ {A = ℕ} 0 1 = cc h.answer in absurd (omega arith)
walked_found (gives xs) false was n s h =
    let k : n ≡ length xs = cc h.answer in
    (refl, refl, k, rw k h.left)

walked_everywhere : (o : Outcome) (all : Bool) (was s : List ℕ) → walk.Walked all o was (Ok reached.Everywhere) s → (completes o ≡ true) × (all ≡ true)
unfolding walk.reached_of answer_by
walked_everywhere (refused why) all was s h = let z : ◌≡◌ {A = ℕ} 0 1 = cc h.answer in absurd (omega arith)
walked_everywhere (gives xs) true was s h = (refl, refl)
walked_everywhere (gives xs) false was s h = let z : ◌≡◌ {A = ℕ} 0 1 = cc h.answer in absurd (omega arith)

walked_refused : (o : Outcome) (all : Bool) (was : List ℕ) (r : Refusal) (s : List ℕ) → walk.Walked all o was (Err r) s → completes o ≡ false
unfolding walk.reached_of answer_by
walked_refused (refused why) all was r s h = refl
walked_refused (gives xs) true was r s h = let z : ◌≡◌ {A = ℕ} 0 1 = cc h.answer in absurd (omega arith)
walked_refused (gives xs) false was r s h = let z : ◌≡◌ {A = ℕ} 0 1 = cc h.answer in absurd (omega arith)

module _ (mode : Mode) (g : Grid) (ls : Lines) (i : ℕ) where
  -- the cells of a line increase and are inside the grid
  visits : fit g ≡ true → Rising 0 (cells_on mode g ls i) × Below (grid_cells g) (cells_on mode g ls i)
  unfolding cells_on walk_on
  visits h = go (walk_on mode g ls i) refl
    where
      go : (o : Outcome) → walk_on mode g ls i ≡ o → Rising 0 (visited o) × Below (grid_cells g) (visited o)
      go (refused why) e = (tt, tt)
      go (gives xs) e = let v = segment_visits mode g _ h xs e in (v.rising, v.inside)

  -- of a walk that ends: they fit the scratch, or they are all
  line_cells : fit g ≡ true → completes (walk_on mode g ls i) ≡ true → Cells mode g (segment_at ls i) (cells_on mode g ls i)
  unfolding cells_on walk_on
  line_cells h = go (walk_on mode g ls i) refl
    where
      go : (o : Outcome) → walk_on mode g ls i ≡ o → completes o ≡ true → Cells mode g (segment_at ls i) (visited o)
      go (refused why) e k = absurd (true≢false (sym k))
      go (gives xs) e k = segment_visits mode g (segment_at ls i) h xs e

  -- the scratch and the grid pass, so the walk can be refused by 7 alone
  module _ {s : List ℕ} (a : WalkAsks g ls i s) (r : Result Reached Refusal) {s' : List ℕ}
      (h : walk.Walked (walk.everywhere_in mode g (segment_at ls i)) (walk.as_is_of mode (length s) g (segment_at ls i)) s r s') where
    abbrev all : Bool
    all = walk.everywhere_in mode g (segment_at ls i)

    inner : walk.Walked all (walk_on mode g ls i) s r s'
    unfolding walk_on
    inner = let w = a.walkable in rw (as_is (length s) g mode _ w.space w.fits) at h

    pub walk_found : (n : ℕ) → r ≡ Ok (reached.Found n) → WalkedIs mode g ls i s' (record { over = false; cells = n })
    unfolding cells_on
    walk_found n e =
        let k = walked_found (walk_on mode g ls i) all s n s' (rw e at inner) in
        let few : n ≤ length s' = omega (arith, (line_cells a.walkable.fits k.0).few k.1, a.walkable.space, inner.size, k.2) in
        record { over_is = sym (ap not k.0); cells_are = λ _. record { size = k.2; front = λ _. (few, k.3) } }

    pub walk_everywhere : (n : ℕ) → r ≡ (Ok reached.Everywhere) → n ≡ grid_cells g → WalkedIs mode g ls i s' (record { over = false; cells = n })
    walk_everywhere n e d =
        let k = walked_everywhere (walk_on mode g ls i) all s s' (rw e at inner) in
        let v = (line_cells a.walkable.fits k.0).all k.1 in
        record { over_is = sym (ap not k.0); cells_are = λ _. record { size = d ∙ sym v.0; front = λ l. absurd (omega (arith, v.1)) } }

    pub walk_over : (q : Refusal) → r ≡ Err q → WalkedIs mode g ls i s' (record { over = true; cells = 0 })
    walk_over q e =
        record { over_is = sym (ap not (walked_refused (walk_on mode g ls i) all s q s' (rw e at inner))); cells_are = λ z. absurd (true≢false z) }

-- ---- what a pass learns of a line

module _ (mode : Mode) (g : Grid) (ls : Lines) (i : ℕ) where
  -- whether it ends, by what it answers
  pub walk_ends : (b c : Bool) → b ≡ not (completes (walk_on mode g ls i)) → b ≡ not c → completes (walk_on mode g ls i) ≡ c
  walk_ends b c h k = go (completes (walk_on mode g ls i)) c (sym h ∙ k)
    where
      go : (x y : Bool) → not x ≡ not y → x ≡ y
      go true true e = refl
      go true false e = absurd (true≢false (sym e))
      go false true e = absurd (true≢false e)
      go false false e = refl

  module _ {n : ℕ} {s : List ℕ} (k : LineFront mode g ls i s n) where
    pub is_long : 2048 < n → long (cells_on mode g ls i) ≡ true
    unfolding long
    is_long l = le-leb 2049 (length (cells_on mode g ls i)) (omega (arith, k.size))

    pub is_short : n ≤ 2048 → long (cells_on mode g ls i) ≡ false
    unfolding long
    is_short l = lt-leb 2049 (length (cells_on mode g ls i)) (omega (arith, k.size))

-- the walks of all lines, and of those that are counted
pub cells_walk : (mode : Mode) (g : Grid) (ls : Lines) → fit g ≡ true → Walks (cells_on mode g ls) (count ls) (grid_cells g)
cells_walk mode g ls h = record { rises = λ i _. (visits mode g ls i h).0; below = λ i _. (visits mode g ls i h).1 }

pub all_walks : (mode : Mode) (g : Grid) (ls : Lines) → fit g ≡ true → Walks (local_on mode g ls) (count ls) (grid_cells g)
all_walks mode g ls h = local_walks (cells_on mode g ls) (count ls) (grid_cells g) (cells_walk mode g ls h)

-- the cells of a line that is not global stand at the front of the scratch
pub line_at : {mode : Mode} {g : Grid} {ls : Lines} {s₀ s : List ℕ} {i n : ℕ} → Walkable g ls s₀ → i < count ls → LineFront mode g ls i s n → n ≤ 2048 → Line (local_on mode g ls) (count ls) (grid_cells g) i s n
line_at {mode} {g} {ls} {i = i} w l k b =
    let e : local_on mode g ls i ≡ cells_on mode g ls i = local_short (cells_on mode g ls) i (is_short mode g ls i k b) in
    record {
      walks = all_walks mode g ls w.fits;
      in_lines = l;
      lines_small = omega (arith, w.few);
      cells_small = omega (arith, (shape_says g.cols g.rows (fit_shape g w.fits)).cells);
      few = omega arith;
      fits = (k.front b).0;
      size = rw e k.size;
      cells_are = rw e (k.front b).1;
    }

-- NOTHING IS DROPPED: after a build in the covering mode, or one followed by lines added in it, straight from what the calls ensure. Lines that share an
-- exact point share a cell, or one of them is global, so that they are due at least once; and their boxes overlap. Assumes nothing.
use mathlib.Core.Path.{◌≡◌, refl, sym, ap, ◌∙◌, subst}
use mathlib.Core.Bool.{Bool, true, false, cond, ◌&&◌, ◌||◌}
use mathlib.Core.List.{List}
use Prim.Native.Nat.{ℕ, zero, suc, ◌+◌, ◌*◌, ◌≤◌, ◌<◌}
use native.Mathlib.Omega.{arith}
use native.Mathlib.Decide.{ℕ_discrete}
use lib.ListN.{length}
use Rattle.slices.specs.Lists.{elem, Below}
use Rattle.slices.proofs.Members.{below_elem}
use Rattle.refusals.specs.Refusals.{gives}
use Rattle.grid.specs.declared.Grid.{Grid}
use Rattle.grid.specs.Domain.{Lines, count, segment_at, fit}
use Rattle.cover.specs.Covering.{covering_of, Common}
use Rattle.cover.proofs.Laws.{common, covering_rises}
use Rattle.cover.proofs.Boxes.{share_overlap}
use Rattle.walk.specs.declared.Mode.TheVariants.{Covering}
use Rattle.walk.proofs.Reaching.{covering_given}
use Rattle.tables.specs.Tables.{Tables}
use Rattle.fill.specs.OnGrid.{walk_on, visited, cells_on}
use Rattle.visit.specs.Overlap.{overlap}
use Rattle.visit.specs.Words.{one_where, count_below}
use Rattle.visit.proofs.Number.{sum_suc}
use Rattle.demands.specs.Words.{is_global, visits, shared_cells, due}
use Rattle.demands.specs.Points.{Cross, NothingDropped}
use Rattle.demands.specs.Grown.{Grown}
use Rattle.demands.proofs.Grown.{grown_says, after_grown}

-- ---- a shared cell is counted

count_some : (m : ℕ) (f : ℕ → Bool) (c : ℕ) → c < m → f c ≡ true → 0 < count_below m f
unfolding count_below one_where
count_some zero f c l h = absurd (omega arith)
count_some (suc m) f c l h = elim (ℕ_discrete c m) [
  | yes e ↦ let k : one_where (f m) ≡ 1 = ap one_where (subst (λ (x : ℕ). f x ≡ true) e h) in omega (arith, sum_suc m (λ c. one_where (f c)))
  | no n ↦ let k = count_some m f c (omega (arith, n)) h in omega (arith, sum_suc m (λ c. one_where (f c)))
]

-- two lines that share a cell of the grid are due
due_some : (g : Grid) (W : ℕ → List ℕ) (a b : ℕ) → (c : ℕ) → c < g.rows * g.cols → elem c (W a) ≡ true → elem c (W b) ≡ true → 0 < due g W a b
unfolding due shared_cells
due_some g W a b c l p q = go (is_global W a || is_global W b)
  where
    go : (x : Bool) → 0 < cond x 1 (count_below (g.rows * g.cols) (λ c. visits W a c && visits W b c))
    go true = omega arith
    go false = count_some (g.rows * g.cols) (λ c. visits W a c && visits W b c) c l (rw (p, q))

-- ---- the cells of a line in the covering mode

covers : (g : Grid) (ls : Lines) (i : ℕ) → cells_on Covering g ls i ≡ covering_of g (segment_at ls i)
unfolding cells_on walk_on
covers g ls i = ap visited (covering_given g (segment_at ls i))

module _ (g : Grid) (ls : Lines) (ok : fit g ≡ true) (a b : ℕ) (x : Cross ls a b) where
  -- a grid that lists a line has a column
  crossing_due : 0 < g.cols → 0 < due g (cells_on Covering g ls) a b
  crossing_due C =
      let k = common g ok C (segment_at ls a) (segment_at ls b) x.point in
      due_some g (cells_on Covering g ls) a b k.cell (below_elem (g.rows * g.cols) k.cell (covering_of g (segment_at ls a)) (covering_rises g ok (segment_at ls a)).1 k.in_first)
      (ap (elem k.cell) (covers g ls a) ∙ k.in_first) (ap (elem k.cell) (covers g ls b) ∙ k.in_second)

-- boxes of lines that share a point overlap
pub crossings_overlap : (ls : Lines) (a b : ℕ) → Cross ls a b → overlap ls a b ≡ true
unfolding overlap
crossings_overlap ls a b x = share_overlap (segment_at ls a) (segment_at ls b) x.point

-- ---- THE THEOREM

module _ {g : Grid} {ls : Lines} {t : Tables} (k : Grown Covering g ls t) where
  is_due : (a b : ℕ) → Cross ls a b → 0 < due g (cells_on Covering g ls) a b
  is_due a b x = let s = grown_says k in crossing_due g ls s.stands.grid_fit a b x (let n : 1 ≤ count ls = omega (arith, x.first) in let m = s.some n in omega arith)

  pub nothing_dropped : NothingDropped ls g t
  nothing_dropped =
      let d = (after_grown k).demand in
      record {
        tested = λ a b x. rw (d.tested a b x.different x.first x.second) (is_due a b x);
        handed = λ cs v a b x. rw (d.handed cs v a b x.different x.first x.second, crossings_overlap ls a b x) (is_due a b x);
      }

-- The steps of the public function: the guard and the ends as the code's branches make them, and the answer from its parts. Assumes nothing.
use Rattle.std.specs.Prelude.{Ok, Err}
use mathlib.Core.Path.{◌≡◌, refl, sym, ap, ◌∙◌}
use mathlib.Core.Bool.{Bool, true, false, not, cond, ◌&&◌}
use mathlib.Core.List.{List, []}
use Prim.Native.Nat.{ℕ, zero, suc, ◌*◌, ◌≤◌, ◌<◌}
use native.Mathlib.Nat.{le_of_lt}
use native.Mathlib.Omega.{arith}
use borrow.Author.Tests.{le-leb, lt-leb, leb-true, leb-false, lt-ltb, le-ltb}
use lib.Dec.{leb, ltb}
use lib.ListN.{length, take}
use lib.Ieee.{Float}
use Rattle.refusals.specs.declared.Refusal.{Refusal}
use Rattle.refusals.specs.Refusals.{answer_by}
use Rattle.refusals.proofs.Checks.{unless_fine, and_then_left, and_then_right}
use Rattle.refusals.proofs.Answers.{then_refused, then_fine}
use Rattle.grid.specs.declared.Axis.{Axis}
use Rattle.grid.specs.declared.Grid.{Grid}
use Rattle.grid.specs.declared.Segment.{Segment}
use Rattle.grid.specs.Axes.{x_axis, y_axis}
use Rattle.grid.specs.Domain.{shape, scratch_check}
use Rattle.grid.proofs.Bools.{and_left, and_right}
use Rattle.grid.proofs.Shapes.{Shape, shape_says}
use Rattle.cover.specs.declared.Ends.{Ends}
use Rattle.cover.specs.declared.Covered.TheVariants.{Found, Everywhere}
use Rattle.cover.specs.Fine.{fine_on, near_on}
use Rattle.cover.specs.Rule.{run, cells_between}
use Rattle.cover.specs.Covering.{end_passes, passes, ordered, fine_ends, every_cell, unless_no_column, covering_of, off_grid, everywhere, scratch_shape_check, found_of, covered_of, CoverIs}
use Rattle.cover.specs.Inside.{Appended, Front, Small, Frame}
use Rattle.cover.proofs.Guarding.{fine_small}

-- ---- the guard

pub record Passed (g : Grid) (line : Segment) : Type 0 where
  pub start_x : near_on (x_axis g) line.start_x ≡ true
  pub start_y : near_on (y_axis g) line.start_y ≡ true
  pub end_x : near_on (x_axis g) line.end_x ≡ true
  pub end_y : near_on (y_axis g) line.end_y ≡ true

pub passes_says : (g : Grid) (line : Segment) → passes g line ≡ true → Passed g line
unfolding passes end_passes
passes_says g line h =
    let a = near_on (x_axis g) line.start_x in
    let b = near_on (y_axis g) line.start_y in
    let c = near_on (x_axis g) line.end_x in
    let d = near_on (y_axis g) line.end_y in
    let s = and_left (a && b) (c && d) h in
    let e = and_right (a && b) (c && d) h in
    record { start_x = and_left a b s; start_y = and_right a b s; end_x = and_left c d e; end_y = and_right c d e }

pub near_by : {a b : Axis} (v : Float) → a ≡ b → near_on b v ≡ true → near_on a v ≡ true
near_by v e h = rw e h

-- ---- the ends

module _ (g : Grid) (line : Segment) {x y x' y' : Axis} {a b c d : ℕ} (hx : x ≡ x_axis g) (ha : a ≡ fine_on x line.start_x) (hy : y ≡ y_axis g) (hb : b ≡ fine_on y line.start_y)
    (hx' : x' ≡ x_axis g) (hc : c ≡ fine_on x' line.end_x) (hy' : y' ≡ y_axis g) (hd : d ≡ fine_on y' line.end_y) where
  ends_are : ordered a b c d ≡ fine_ends g line
  unfolding fine_ends
  ends_are = rw (ha, hx, hb, hy, hc, hx', hd, hy')

  pub ends_up : b ≤ d → ◌≡◌ {A = Ends} (record { from_x = a; from_y = b; to_x = c; to_y = d }) (fine_ends g line)
  ends_up h = rw (← ends_are, le-leb b d h)

  pub ends_down : d < b → ◌≡◌ {A = Ends} (record { from_x = c; from_y = d; to_x = a; to_y = b }) (fine_ends g line)
  ends_down h = rw (← ends_are, lt-leb b d h)

ordered_small : (a b c d : ℕ) → a < 4294967296 → b < 4294967296 → c < 4294967296 → d < 4294967296 → Small (ordered a b c d) × ((ordered a b c d).from_y ≤ (ordered a b c d).to_y)
ordered_small a b c d p q r s = go (leb b d) refl
  where
    go : (t : Bool) → leb b d ≡ t → let e : Ends = cond t (record { from_x = a; from_y = b; to_x = c; to_y = d }) (record { from_x = c; from_y = d; to_x = a; to_y = b }) in Small e × (e.from_y ≤ e.to_y)
    go true h = (record { from_x = p; from_y = q; to_x = r; to_y = s }, leb-true b d h)
    go false h = (record { from_x = r; from_y = s; to_x = p; to_y = q }, le_of_lt (leb-false b d h))

-- the ends of a line that passes, on a grid with cells
module _ (g : Grid) (line : Segment) (h : passes g line ≡ true) where
  pub ends_small : Small (fine_ends g line) × ((fine_ends g line).from_y ≤ (fine_ends g line).to_y)
  unfolding fine_ends
  ends_small =
      let p = passes_says g line h in
      ordered_small (fine_on (x_axis g) line.start_x) (fine_on (y_axis g) line.start_y) (fine_on (x_axis g) line.end_x) (fine_on (y_axis g) line.end_y)
      (fine_small (x_axis g) line.start_x p.start_x) (fine_small (y_axis g) line.start_y p.start_y) (fine_small (x_axis g) line.end_x p.end_x) (fine_small (y_axis g) line.end_y p.end_y)

  pub frame_of : (e : Ends) (n : ℕ) → e ≡ fine_ends g line → Shape g.cols g.rows → 0 < g.cols → 16384 ≤ n → Frame g.cols g.rows e n
  frame_of e n k s c l =
      let z = ends_small in
      rw k
      (record {
        small = z.0;
        up = z.1;
        some_rows = s.alike c;
        few_rows = let r = s.high in omega arith;
        some_cols = c;
        few_cols = let r = s.wide in omega arith;
        holds = let r = s.high in let t = s.wide in omega arith;
      })

-- ---- what a scratch and the counts of a grid say that pass the checks

module _ (n : ℕ) (g : Grid) (h : scratch_shape_check n g ≡ Ok tt) where
  pub room_for : 16384 ≤ n
  unfolding scratch_shape_check scratch_check
  room_for = leb-true 16384 n (unless_fine _ 3 0 (and_then_left _ _ h))

  pub room_shape : Shape g.cols g.rows
  unfolding scratch_shape_check
  room_shape = shape_says g.cols g.rows (unless_fine (shape g.cols g.rows) 8 0 (and_then_right _ _ h))

  found_is : (line : Segment) → covered_of n g line ≡ found_of g line
  unfolding covered_of answer_by
  found_is line = rw (then_fine _ _ h)

-- ---- the cells, case by case

module _ (g : Grid) (line : Segment) where
  pub covering_none : g.cols ≡ 0 → covering_of g line ≡ []
  unfolding covering_of unless_no_column
  covering_none e = rw e

  some : (n : ℕ) (xs : List ℕ) → 0 < n → unless_no_column n xs ≡ xs
  unfolding unless_no_column
  some zero xs h = absurd (omega arith)
  some (suc n) xs h = refl

  pub covering_by_rule : 0 < g.cols → passes g line ≡ true → covering_of g line ≡ cells_between g.cols g.rows (fine_ends g line)
  unfolding covering_of
  covering_by_rule c h = some g.cols _ c ∙ rw h

  pub covering_all : 0 < g.cols → passes g line ≡ false → covering_of g line ≡ every_cell g
  unfolding covering_of
  covering_all c h = some g.cols _ c ∙ rw h

  -- off the grid, as the code's branches make it
  pub on_empty : g.cols ≡ 0 → false ≡ off_grid g line
  unfolding off_grid
  on_empty e = rw e

  pub on_passed : passes g line ≡ true → false ≡ off_grid g line
  unfolding off_grid
  on_passed h = rw h (none (ltb 0 g.cols))
    where
      none : (b : Bool) → false ≡ (b && false)
      none true = refl
      none false = refl

  pub off_failed : 0 < g.cols → passes g line ≡ false → true ≡ off_grid g line
  unfolding off_grid
  off_failed c h = rw (h, lt-ltb 0 g.cols c)

  pub everywhere_not : passes g line ≡ true → everywhere g line ≡ false
  unfolding everywhere
  everywhere_not h = rw h

  pub everywhere_few : g.rows * g.cols ≤ 2048 → everywhere g line ≡ false
  unfolding everywhere
  everywhere_few h = rw (le-ltb 2048 (g.rows * g.cols) h) (none (not (passes g line)))
    where
      none : (b : Bool) → (b && false) ≡ false
      none true = refl
      none false = refl

  pub everywhere_so : passes g line ≡ false → 2048 < g.rows * g.cols → everywhere g line ≡ true
  unfolding everywhere
  everywhere_so h l = rw (h, lt-ltb 2048 (g.rows * g.cols) l)

-- ---- the answer

module _ (g : Grid) (line : Segment) (was : List ℕ) where
  pub refused_answer : (r : Refusal) → scratch_shape_check (length was) g ≡ Err r → CoverIs g line was (Err r) was
  unfolding covered_of answer_by
  refused_answer r e = record { answer = rw (then_refused _ _ r e); size = refl; left = refl }

  module _ (fine : scratch_shape_check (length was) g ≡ Ok tt) where
    -- the cells are found
    found_answer : (now : List ℕ) (n : ℕ) → everywhere g line ≡ false → length now ≡ length was → n ≡ length (covering_of g line) → take n now ≡ covering_of g line → CoverIs g line was (Ok (Found n)) now
    unfolding found_of
    found_answer now n e l c t = record { answer = sym (found_is (length was) g fine line ∙ rw (e, c)); size = l; left = t }

    pub none_answer : g.cols ≡ 0 → CoverIs g line was (Ok (Found 0)) was
    none_answer e =
        let z : covering_of g line ≡ [] = covering_none g line e in
        let k : g.rows * g.cols ≤ 2048 = ap_zero g.rows g.cols e in
        found_answer was 0 (everywhere_few g line k) refl (sym (ap length z)) (sym z)
      where
        ap_zero : (r c : ℕ) → c ≡ 0 → r * c ≤ 2048
        ap_zero r c h = rw h (omega arith)

    pub rule_answer : (now : List ℕ) (e : Ends) (n : ℕ) → 0 < g.cols → passes g line ≡ true → e ≡ fine_ends g line → length now ≡ length was → Front (cells_between g.cols g.rows e) now n → CoverIs g line was (Ok (Found n)) now
    rule_answer now e n c h k l f =
        let z : cells_between g.cols g.rows e ≡ covering_of g line = ap (cells_between g.cols g.rows) k ∙ sym (covering_by_rule g line c h) in
        found_answer now n (everywhere_not g line h) l (f.count ∙ ap length z) (f.is ∙ z)

    pub everywhere_answer : passes g line ≡ false → 2048 < g.rows * g.cols → CoverIs g line was (Ok Everywhere) was
    unfolding found_of
    everywhere_answer h l = record { answer = sym (found_is (length was) g fine line ∙ rw (everywhere_so g line h l)); size = refl; left = refl }

    pub all_answer : (now : List ℕ) (n : ℕ) → 0 < g.cols → passes g line ≡ false → g.rows * g.cols ≤ 2048 → Appended was now 0 n (run (g.rows * g.cols) 0) → CoverIs g line was (Ok (Found n)) now
    all_answer now n c h l w =
        let z : every_cell g ≡ covering_of g line = sym (covering_all g line c h) in
        let k = ap length z in
        let u = w.count in
        found_answer now n (everywhere_few g line l) w.len (omega arith) (w.is ∙ z)

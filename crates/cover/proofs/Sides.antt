-- The definitions of the rule by cases: the last row and the rows before it, a line that goes right and one that goes left, one row and several.
-- Assumes nothing.
use mathlib.Core.Path.{◌≡◌, sym, ◌∙◌}
use Prim.Native.Nat.{ℕ, ◌+◌, ◌-◌, ◌*◌, ◌≤◌, ◌<◌, min, max}
use native.Mathlib.Omega.{arith}
use borrow.Author.Tests.{le-leb, lt-leb}
use Rattle.cover.specs.declared.Ends.{Ends}
use Rattle.cover.specs.Rule.{fine_cell, top_of, span_of, left_of, right_of, first_row, last_row, near_in, far_in, first_col, last_col}

-- ---- the top of a row

pub top_before : (e : Ends) (last r : ℕ) → r < last → top_of e last r ≡ min ((r + 1) * 1048576 + 3) e.to_y
unfolding top_of
top_before e last r h = rw (lt-leb last r h)

pub top_last : (e : Ends) (last r : ℕ) → last ≤ r → top_of e last r ≡ e.to_y
unfolding top_of
top_last e last r h = rw (le-leb last r h)

-- ---- the sides of a row

module _ (e : Ends) (near far : ℕ) where
  module _ (h : e.from_x ≤ e.to_x) where
    pub left_going_right : left_of e near far ≡ max (e.from_x + near - 3) e.from_x
    unfolding left_of
    left_going_right = rw (le-leb e.from_x e.to_x h)

    pub right_going_right : right_of e near far ≡ min (e.from_x + far + 5) e.to_x
    unfolding right_of
    right_going_right = rw (le-leb e.from_x e.to_x h)

  module _ (h : e.to_x < e.from_x) where
    pub left_going_left : left_of e near far ≡ max (e.from_x - (far + 5)) e.to_x
    unfolding left_of
    left_going_left = rw (lt-leb e.from_x e.to_x h)

    pub right_going_left : right_of e near far ≡ min (e.from_x + 3 - near) e.from_x
    unfolding right_of
    right_going_left = rw (lt-leb e.from_x e.to_x h)

-- as the code's calls give them
module _ (e : Ends) (near far : ℕ) {x r : ℕ} where
  pub left_by_right : e.from_x ≤ e.to_x → x ≡ e.from_x + near - 3 → r ≡ max x e.from_x → r ≡ left_of e near far
  left_by_right h k l = rw (left_going_right e near far h) (omega arith)

  pub left_by_left : e.to_x < e.from_x → x ≡ e.from_x - (far + 5) → r ≡ max x e.to_x → r ≡ left_of e near far
  left_by_left h k l = rw (left_going_left e near far h) (omega arith)

  pub right_by_left : e.to_x < e.from_x → x ≡ e.from_x + 3 - near → r ≡ min x e.from_x → r ≡ right_of e near far
  right_by_left h k l = rw (right_going_left e near far h) (omega arith)

-- in the first row the line has come no way at the bottom: one side is its lower end
module _ (e : Ends) (far : ℕ) where
  pub left_at_start : e.from_x ≤ e.to_x → left_of e 0 far ≡ e.from_x
  left_at_start h = left_going_right e 0 far h ∙ omega arith

  pub right_at_start : e.to_x < e.from_x → right_of e 0 far ≡ e.from_x
  right_at_start h = right_going_left e 0 far h ∙ omega arith

-- in the last row it has come all the way at the top, but for less than the margin: one side is its upper end
module _ (e : Ends) (near far : ℕ) (k : span_of e ≤ far + 5) where
  pub left_at_end : e.to_x < e.from_x → left_of e near far ≡ e.to_x
  left_at_end h = left_going_left e near far h ∙ omega arith

  pub right_at_end : e.from_x ≤ e.to_x → right_of e near far ≡ e.to_x
  right_at_end h = right_going_right e near far h ∙ omega arith

-- and the other side goes by the bottom alone
module _ (e : Ends) (near far other : ℕ) where
  pub left_by_bottom : e.from_x ≤ e.to_x → left_of e near far ≡ left_of e near other
  left_by_bottom h = left_going_right e near far h ∙ sym (left_going_right e near other h)

  pub right_by_bottom : e.to_x < e.from_x → right_of e near far ≡ right_of e near other
  right_by_bottom h = right_going_left e near far h ∙ sym (right_going_left e near other h)

-- ---- the columns of a row

module _ (cols rows : ℕ) (e : Ends) (r : ℕ) where
  module _ (h : last_row rows e ≤ first_row rows e) where
    pub first_level : first_col cols rows e r ≡ fine_cell cols (min e.from_x e.to_x)
    unfolding first_col
    first_level = rw (le-leb (last_row rows e) (first_row rows e) h)

    pub last_level : last_col cols rows e r ≡ fine_cell cols (max e.from_x e.to_x)
    unfolding last_col
    last_level = rw (le-leb (last_row rows e) (first_row rows e) h)

  module _ (h : first_row rows e < last_row rows e) where
    pub first_rising : first_col cols rows e r ≡ fine_cell cols (left_of e (near_in e r) (far_in rows e r))
    unfolding first_col
    first_rising = rw (lt-leb (last_row rows e) (first_row rows e) h)

    pub last_rising : last_col cols rows e r ≡ fine_cell cols (right_of e (near_in e r) (far_in rows e r))
    unfolding last_col
    last_rising = rw (lt-leb (last_row rows e) (first_row rows e) h)

-- ---- cells

pub cell_mono : (n x y : ℕ) → x ≤ y → fine_cell n x ≤ fine_cell n y
cell_mono n x y h = omega arith

pub cell_in : (n x : ℕ) → 0 < n → fine_cell n x < n
cell_in n x h = omega arith

module _ (cols rows : ℕ) (e : Ends) (C : 0 < cols) (r : ℕ) where
  pub first_in : first_col cols rows e r < cols
  unfolding first_col
  first_in = cell_in cols _ C

  pub last_in : last_col cols rows e r < cols
  unfolding last_col
  last_in = cell_in cols _ C

-- The cases of the ownership tests and of the first check, as the code takes them. lo and hi are the edges of index i. Assumes nothing.
use Rattle.std.specs.Prelude.{Ok, Err}
use Rattle.std.proofs.Common.{◌≡◌, ℕ, suc, ◌+◌, Bool, true, false, ◌&&◌, ◌||◌, eqb, sym, ap, ◌∙◌, add-one, eq-eqb, ne_eqb}
use lib.Ieee.{Float, lt, le, eq}
use Rattle.refusals.specs.declared.Refusal.{Refusal}
use Rattle.refusals.specs.Refusals.{and_then}
use Rattle.refusals.proofs.Checks.{and_then_left}
use Rattle.grid.specs.declared.Grid.{Grid}
use Rattle.grid.specs.declared.Axis.{Axis}
use Rattle.grid.specs.Domain.{point_check, grid_check}
use Rattle.grid.specs.Axes.{low_on, high_on}
use Rattle.own.specs.Own.{owns_on, holds_on, point_on_grid_check}

-- ---- the tests as Bools: l is "low <= p", t is "p < high", n is "the last index" and e is "p = high"

within : (l t n : Bool) → l ≡ true → t ≡ true → true ≡ (l && (t || n))
within l t n h k = rw (h, k)

at_last : (l t n e : Bool) → l ≡ true → t ≡ false → n ≡ true → e ≡ (l && (t || (n && e)))
at_last l t n e h k m = rw (h, k, m)

past : (l t n e : Bool) → l ≡ true → t ≡ false → n ≡ false → false ≡ (l && (t || (n && e)))
past l t n e h k m = rw (h, k, m)

over : (l t : Bool) → l ≡ true → t ≡ (l && t)
over l t h = rw h

short : (l t : Bool) → l ≡ false → false ≡ (l && t)
short l t h = rw h

-- ---- on an axis

module _ (a : Axis) (i : ℕ) (p lo : Float) (l : lo ≡ low_on a i) where
  -- below the low edge
  pub owns_under : le lo p ≡ false → false ≡ owns_on a i p
  unfolding owns_on
  owns_under h = short (le (low_on a i) p) _ (rw l at h)

  pub holds_under : le lo p ≡ false → false ≡ holds_on a i p
  unfolding holds_on
  holds_under h = short (le (low_on a i) p) _ (rw l at h)

  module _ (hi : Float) (u : hi ≡ high_on a i) (h : le lo p ≡ true) where
    pub holds_over : lt p hi ≡ holds_on a i p
    unfolding holds_on
    holds_over = ap (λ (z : Float). lt p z) u ∙ over (le (low_on a i) p) (lt p (high_on a i)) (rw l at h)

    pub owns_within : lt p hi ≡ true → true ≡ owns_on a i p
    unfolding owns_on
    owns_within k = within (le (low_on a i) p) (lt p (high_on a i)) _ (rw l at h) (rw u at k)

    -- on or over the high edge: the last index takes the edge itself
    pub owns_last : lt p hi ≡ false → i + 1 ≡ a.count → eq p hi ≡ owns_on a i p
    unfolding owns_on
    owns_last k e =
        ap (λ (z : Float). eq p z) u
        ∙ at_last (le (low_on a i) p) (lt p (high_on a i)) (eqb (suc i) a.count) (eq p (high_on a i)) (rw l at h) (rw u at k) (eq-eqb (suc i) a.count (sym (add-one i) ∙ e))

    pub owns_past : lt p hi ≡ false → (i + 1 ≡ a.count → ⊥) → false ≡ owns_on a i p
    unfolding owns_on
    owns_past k e =
        past (le (low_on a i) p) (lt p (high_on a i)) (eqb (suc i) a.count) (eq p (high_on a i)) (rw l at h) (rw u at k) (ne_eqb (suc i) a.count (λ x. e (add-one i ∙ x)))

-- ---- one axis after the other, by either test: u and v are what the two answer

module _ (test : Axis → ℕ → Float → Bool) (ax ax' : Axis) (i : ℕ) (p : Float) (u : Bool) (e : u ≡ test ax i p) (d : ax ≡ ax') where
  first : u ≡ test ax' i p
  first = e ∙ ap (λ (a : Axis). test a i p) d

  pub both : (ay ay' : Axis) (j : ℕ) (q : Float) (v : Bool) → v ≡ test ay j q → ay ≡ ay' → u ≡ true → v ≡ (test ax' i p && test ay' j q)
  both ay ay' j q v f g h = rw (← first, h, ← g) f

  pub not_both : (rest : Bool) → u ≡ false → false ≡ (test ax' i p && rest)
  not_both rest h = rw (← first, h)

-- ---- an overlap: u is the answer of the two axes

pub by_axes : (u p q : Bool) → u ≡ p → u ≡ true → true ≡ (p || q)
by_axes u p q e h = rw (← e, h)

pub by_cell : (u p q : Bool) (row : ℕ) → u ≡ p → u ≡ false → row ≡ 0 → q ≡ (p || (eqb row 0 && q))
by_cell u p q row e h r = rw (← e, h, eq-eqb row 0 r)

pub by_neither : (u p q : Bool) (row : ℕ) → u ≡ p → u ≡ false → (row ≡ 0 → ⊥) → false ≡ (p || (eqb row 0 && q))
by_neither u p q row e h r = rw (← e, h, ne_eqb row 0 r)

-- ---- the check of the point, then that of the grid

module _ (g : Grid) (x y : Float) where
  pub place_refused : (r : Refusal) → point_check x y ≡ Err r → Err r ≡ point_on_grid_check g x y
  unfolding point_on_grid_check and_then
  place_refused r h = rw h

  pub place_rest : point_check x y ≡ Ok tt → grid_check g ≡ point_on_grid_check g x y
  unfolding point_on_grid_check and_then
  place_rest h = rw h

  pub place_point : point_on_grid_check g x y ≡ Ok tt → point_check x y ≡ Ok tt
  unfolding point_on_grid_check
  place_point h = and_then_left (point_check x y) (grid_check g) h

-- Whether a coordinate lies between the ends of an axis, as the code asks it: lo is the low edge of the first index and hi the high edge of the
-- last. Assumes nothing.
use Rattle.std.proofs.Common.{◌≡◌, ℕ, zero, suc, ◌-◌, true, false, ◌&&◌, ap, arith}
use lib.Ieee.{Float, le}
use Rattle.grid.specs.declared.Axis.{Axis}
use Rattle.grid.specs.Axes.{low_on, high_on}
use Rattle.own.specs.Owner.{between_edges, spans}

module _ (a : Axis) (p : Float) where
  pub no_ends : a.count ≡ 0 → false ≡ spans a p
  unfolding spans
  no_ends h = rw h

  -- where there is an index, the two ends decide
  pub two_ends : (a.count ≡ 0 → ⊥) → spans a p ≡ (le (low_on a 0) p && le p (high_on a (a.count - 1)))
  unfolding spans
  two_ends h = go a.count h
    where
      go : (n : ℕ) → (n ≡ 0 → ⊥) → between_edges a n p ≡ (le (low_on a 0) p && le p (high_on a (n - 1)))
      go zero h = absurd (h (omega arith))
      go (suc n) h = let e : n ≡ suc n - 1 = omega arith in ap (λ (k : ℕ). le (low_on a 0) p && le p (high_on a k)) e

  module _ (some : a.count ≡ 0 → ⊥) (lo : Float) (l : lo ≡ low_on a 0) where
    pub under_ends : le lo p ≡ false → false ≡ spans a p
    under_ends h = rw (two_ends some, ← l, h)

    pub up_to_end : le lo p ≡ true → (hi : Float) → hi ≡ high_on a (a.count - 1) → le p hi ≡ spans a p
    up_to_end h hi u = rw (two_ends some, ← l, h, ← u)

-- The laws of floats and of an axis that the functions need. Assumes nothing.
use Rattle.std.proofs.Common.{◌≡◌, ℕ, ◌+◌, ◌-◌, ◌*◌, ◌/◌, ◌≤◌, min, Bool, true, false, ◌&&◌, eqb, sym, refl, true≢false, arith, le-ltb, eqb-true}
use lib.Ieee.{Float, nan, inf, fin, up, down, binary64, add, neg, lt, eq}
use Rattle.grid.proofs.Bools.{and_left}
use Rattle.numbers.specs.Floor.{clamped_floor}
use Rattle.grid.specs.declared.Axis.{Axis}
use Rattle.grid.specs.Axes.{scaled_on, index_on}
use Rattle.turns.specs.Turns.{nought, finite_of}
use Rattle.turns.specs.InsideModular.{step_by}

-- ---- the tests of `near`, the difference first

module _ (a b c : Bool) where
  pub all_true : c ≡ true → a ≡ true → b ≡ ((a && b) && c)
  all_true h k = rw (h, k) (go b)
    where
      go : (x : Bool) → x ≡ (x && true)
      go true = refl
      go false = refl

  pub first_false : a ≡ false → false ≡ ((a && b) && c)
  first_false k = rw k

  pub last_false : c ≡ false → false ≡ ((a && b) && c)
  last_false h = rw h (go (a && b))
    where
      go : (x : Bool) → false ≡ (x && false)
      go true = refl
      go false = refl

-- ---- finite

within : (v : Float) → lt v (inf false) ≡ true → lt (inf true) v ≡ finite_of v
unfolding lt finite_of
within nan p = absurd (true≢false (sym p))
within (inf false) p = absurd (true≢false (sym p))
within (inf true) p = refl
within (fin s m e) p = refl

pub finite_yes : (v top : Float) → top ≡ inf false → lt v top ≡ true → lt (neg top) v ≡ finite_of v
unfolding neg
finite_yes v top e p = rw e (within v (rw e at p))

beyond : (v : Float) → lt v (inf false) ≡ false → false ≡ finite_of v
unfolding lt finite_of
beyond nan p = refl
beyond (inf s) p = refl
beyond (fin s m e) p = absurd (true≢false p)

pub finite_no : (v top : Float) → top ≡ inf false → lt v top ≡ false → false ≡ finite_of v
finite_no v top e p = beyond v (rw e at p)

pub sum_far : (t d : Float) → t ≡ inf false → d ≡ inf false → add binary64 t d ≡ inf false
unfolding add
sum_far t d p q = rw (p, q)

-- ---- a difference of zero moves nothing

zero_product : (x d : ℕ) → x * 1 ≡ 0 * d → x ≡ 0
zero_product x d h = omega arith

not_above : (d : Float) → eq d nought ≡ true → lt nought d ≡ false
unfolding eq lt
not_above nan p = refl
not_above (inf s) p = absurd (true≢false (sym p))
not_above (fin true m e) p = refl
not_above (fin false m e) p =
    let z : m * up e ≡ 0 = zero_product (m * up e) (down e) (eqb-true (m * up e * 1) (0 * down e) (and_left (eqb (m * up e * 1) (0 * down e)) _ p)) in
    le-ltb (0 * down e) (m * up e * 1) (small (m * up e) (down e) z)
  where
    small : (x d : ℕ) → x ≡ 0 → x * 1 ≤ 0 * d
    small x d h = omega arith

not_below : (d : Float) → eq d nought ≡ true → lt d nought ≡ false
unfolding eq lt
not_below nan p = refl
not_below (inf s) p = absurd (true≢false (sym p))
not_below (fin false m e) p = le-ltb (m * up e * 1) (0 * down e) (small (m * up e * 1) (down e))
  where
    small : (x d : ℕ) → 0 * d ≤ x
    small x d = omega arith
not_below (fin true m e) p =
    let z : m * up e ≡ 0 = zero_product (m * up e) (down e) (eqb-true (m * up e * 1) (0 * down e) (and_left (eqb (m * up e * 1) (0 * down e)) _ p)) in
    le-ltb 0 (m * up e * 1 + 0 * down e) (small (m * up e) (down e) z)
  where
    small : (x d : ℕ) → x ≡ 0 → x * 1 + 0 * d ≤ 0
    small x d h = omega arith

pub step_none : (d : Float) → eq d nought ≡ true → step_by d ≡ 0
unfolding step_by
step_none d p = rw (not_above d p, not_below d p)

-- ---- an index is below the count

clamped_le : (v : Float) (count : ℕ) → clamped_floor v count ≤ count - 1
unfolding clamped_floor
clamped_le nan count = omega arith
clamped_le (inf true) count = omega arith
clamped_le (inf false) count = omega arith
clamped_le (fin true m e) count = omega arith
clamped_le (fin false m e) count = small (m * up e / down e) (count - 1)
  where
    small : (x y : ℕ) → min x y ≤ y
    small x y = omega arith

pub index_le : (a : Axis) (v : Float) → index_on a v ≤ a.count - 1
unfolding index_on
index_le a v = clamped_le (scaled_on a v) a.count

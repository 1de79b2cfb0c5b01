-- t_max stays finite on the way of a horizontal line: d is at least 2 ^ -200 in size, and what it divides is small. Assumes nothing.
use mathlib.Core.Path.{◌≡◌, sym, ap, subst}
use mathlib.Core.Logic.{◌⊎◌, inl, inr}
use Prim.Native.Nat.{ℕ, zero, suc, ◌+◌, ◌*◌, ◌^◌, ◌≤◌, ◌<◌}
use native.Mathlib.Omega.{arith}
use mathlib.Core.Bool.{Bool, true, false, cond}
use lib.Dec.{T}
use lib.Ieee.{Float, nan, inf, fin, binary64, up, down, round, of_int, add, sub, mul, div, lt, eq}
use lib.Ieee.Fits.{down_pos}
use lib.Ieee.Scale.{finite}
use borrow.Author.Tests.{ne_eqb}
use Rattle.numbers.specs.Order.{magnitude_of}
use Rattle.grid.specs.declared.Axis.{Axis}
use Rattle.grid.specs.Axes.{index_on, low_on}
use Rattle.grid.specs.Domain.{coordinate}
use Rattle.turns.specs.Turns.{nought, delta_of, next_on, first_on}
use Rattle.turns.proofs.Floats.{index_le}
use Rattle.straight.proofs.Walking.{Ahead, Finite}
use Rattle.straight.proofs.Answering.{Goes, StaysFinite}
use Rattle.straight.proofs.Bounds.{Bounded, Apart, round_bounded, add_bounded, sub_bounded, mul_bounded, div_bounded, magnitude_apart, greatest_bounded, below_infinity}
use Rattle.straight.proofs.Units.{Units}
use Rattle.straight.proofs.Coordinates.{Fits, coordinate_bounded, size_bounded}
use Rattle.straight.proofs.Separate.{apart_or_same}

-- t_max grows by at most 2e9 * 2 ^ 200 at each move
finite_run : (n q : ℕ) (t delta : Float) → Bounded q 200 t → Bounded 2000000000 200 delta → q + n * 2000000000 < 9007199254740992 → Finite n t delta
finite_run zero q t delta a b h = tt
finite_run (suc n) q t delta a b h = (
  below_infinity t a.fine,
  finite_run n (q + 2000000000) (add binary64 t delta) delta
      (add_bounded binary64 q 2000000000 200 t delta (record { digits = omega arith; exponent = omega arith }) a b) b (omega arith),
)

apart_nonzero : (l : ℕ) (d : Float) → Apart l d → eq d nought ≡ false
unfolding eq
apart_nonzero l nan a = absurd a.fine
apart_nonzero l (inf s) a = absurd a.fine
apart_nonzero l (fin s m e) a = rw (ne_eqb (m * up e * 1) (0 * down e) (λ h. none (m * up e) (2 ^ l) (down e) (down_pos e) h a.least))
  where
    none : (x w c : ℕ) → 0 < c → x * 1 ≡ 0 * c → c ≤ w * x → ⊥
    none x w c p h k = let z : x ≡ 0 = omega arith in omega (arith, ap (λ (y : ℕ). w * y) z)

module _ (a : Axis) (fit : Fits a) (few : a.count ≤ 4004) (start end : Float) (p : coordinate start ≡ true) (q : coordinate end ≡ true) where
  d : Float
  d = sub binary64 end start

  boundary_bounded : (i : ℕ) → i ≤ 4004 → Bounded 8009000000000 0 (low_on a i)
  unfolding low_on of_int
  boundary_bounded i l =
      add_bounded binary64 1000000000 8008000000000 0 a.low (mul binary64 (round binary64 false i 1) a.size)
      (record { digits = omega arith; exponent = omega arith })
      (coordinate_bounded a.low fit.low)
      (mul_bounded binary64 4004 0 2000000000 0 (round binary64 false i 1) a.size (record { digits = omega arith; exponent = omega arith })
      (round_bounded binary64 4004 0 (record { digits = omega arith; exponent = omega arith }) false i 1 (omega arith) (omega arith))
      (size_bounded a.size fit.size))

  next_few : 0 < a.count → (b : Bool) → cond b (index_on a start + 1) (index_on a start) ≤ 4004
  next_few c true = omega (arith, index_le a start)
  next_few c false = omega (arith, index_le a start)

  module _ (some : 0 < a.count) (far : Apart 200 d) where
    first_bounded : Bounded 8010000000000 200 (first_on a start d)
    unfolding first_on next_on d
    first_bounded =
        rw (apart_nonzero 200 d far)
        (greatest_bounded 8010000000000 200 (div binary64 (sub binary64 (next_on a start d) start) d)
        (div_bounded binary64 8010000000000 0 200 (sub binary64 (next_on a start d) start) d (record { digits = omega arith; exponent = omega arith })
        (sub_bounded binary64 8009000000000 1000000000 0 (next_on a start d) start (record { digits = omega arith; exponent = omega arith })
        (boundary_bounded (cond (lt nought d) (index_on a start + 1) (index_on a start)) (next_few some (lt nought d))) (coordinate_bounded start p)) far))

    delta_bounded : Bounded 2000000000 200 (delta_of a.size d)
    unfolding delta_of
    delta_bounded =
        rw (apart_nonzero 200 d far)
        (div_bounded binary64 2000000000 0 200 a.size (magnitude_of d) (record { digits = omega arith; exponent = omega arith })
        (size_bounded a.size fit.size) (magnitude_apart 200 d far))

  ahead_few : (up : Bool) (n : ℕ) → Ahead up n (index_on a start) (index_on a end) → n ≤ 4004
  ahead_few true n h = omega (arith, index_le a start, index_le a end)
  ahead_few false n h = omega (arith, index_le a start, index_le a end)

  ahead_same : (up : Bool) (n : ℕ) → Ahead up n (index_on a start) (index_on a end) → index_on a start ≡ index_on a end → n ≡ 0
  ahead_same true n h e = omega arith
  ahead_same false n h e = omega arith

  pub stays_finite : 0 < a.count → Units binary64 start → Units binary64 end → Units binary64 a.low → (k : Goes a start end) → StaysFinite a start end k
  unfolding d
  stays_finite some u w m k = go (apart_or_same a fit start end p q u w m fine)
    where
      fine : T (finite d)
      fine =
          (sub_bounded binary64 1000000000 1000000000 0 end start (record { digits = omega arith; exponent = omega arith }) (coordinate_bounded end q)
          (coordinate_bounded start p)).fine

      go : Apart 200 d ⊎ (index_on a start ≡ index_on a end) → StaysFinite a start end k
      go (inl far) =
          finite_run k.n 8010000000000 (first_on a start d) (delta_of a.size d) (first_bounded some far) (delta_bounded some far)
          (omega (arith, ahead_few k.up k.n k.ahead))
      go (inr e) = subst (λ (n : ℕ). Finite n (first_on a start d) (delta_of a.size d)) (sym (ahead_same k.up k.n k.ahead e)) tt

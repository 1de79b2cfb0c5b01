-- A value between two whole numbers that are next to each other, and off both, is on no boundary; and a line whose coordinates all are adds nothing.
-- Assumes nothing.
use mathlib.Core.Path.{◌≡◌, refl, sym, ap, ◌∙◌, subst}
use Prim.Native.Nat.{ℕ, ◌+◌, ◌*◌, ◌/◌, ◌≤◌, ◌<◌}
use native.Mathlib.Nat.{mul_left_comm, add-mul, zero-lt-suc, div-eq_of_lt-le}
use native.Mathlib.Omega.{arith}
use mathlib.Core.Logic.{◌⊎◌, inl, inr}
use mathlib.Core.Bool.{Bool, true, false, cond, true≢false}
use mathlib.Core.List.{List, []}
use lib.ListN.{length, take}
use lib.IntN.{pos}
use lib.Dec.{ltb}
use lib.Ieee.{Float, nan, inf, fin, up, down, binary64, round, of_int, add, sub, lt, le, eq}
use lib.Ieee.Exact.{HasValue}
use lib.Ieee.Fits.{down_pos}
use borrow.Author.Tests.{ltb-true, ltb-false}
use Rattle.numbers.specs.Order.{magnitude_of}
use Rattle.numbers.specs.Away.{round_away}
use Rattle.numbers.proofs.Tests.{holds, lt_says}
use Rattle.numbers.proofs.WholeLaws.{counted, counted_value, cast_is, whole_value, counted_sum}
use Rattle.grid.specs.declared.Axis.{Axis}
use Rattle.grid.specs.declared.Grid.{Grid}
use Rattle.grid.specs.declared.Segment.{Segment}
use Rattle.grid.specs.declared.Side.TheVariants.{Off}
use Rattle.grid.specs.Axes.{x_axis, y_axis, scaled_on, near_whole, side_of, side_on}
use Rattle.walk.specs.declared.Mode.{Mode}
use Rattle.walk.specs.declared.Mode.TheVariants.{Rust, Sided, Covering}
use Rattle.walk.specs.declared.Neighbour.{Neighbour}
use Rattle.walk.specs.declared.Neighbour.TheVariants.{None}
use Rattle.turns.specs.Turns.{nought, one}
use Rattle.walk.specs.Neighbours.{neighbour_for, neighbour_on, along_on, cell_of, endpoint_of}
use Rattle.walk.specs.Segment.{pushes_of}
use Rattle.walk.specs.Inside.{Complete, Clear, share, many_of}
use Rattle.turns.proofs.Plain.{not_le}
use Rattle.cover.proofs.Growing.{none, same}
use Rattle.walk.proofs.Added.{nothing_beside}
use Rattle.walk.proofs.Spread.{nothing_covers}
use Rattle.walk.proofs.Answer.{completes}

-- ---- rounded, it is one of the two

-- the fraction a / d is between i and i + 1
one_of_two : (i a d : ℕ) → 0 < d → i * d < a * 1 → a * 1 < (i + 1) * d → ((2 * a + d) / (2 * d) ≡ i) ⊎ ((2 * a + d) / (2 * d) ≡ i + 1)
one_of_two i a d D h k = go (ltb (2 * a + d) ((i + 1) * (2 * d))) refl
  where
    low : i * (2 * d) ≤ 2 * a + d
    low = let e : i * (2 * d) ≡ 2 * (i * d) = mul_left_comm i 2 d in omega arith

    high : 2 * a + d < (i + 1 + 1) * (2 * d)
    high =
        let e : i * (2 * d) ≡ 2 * (i * d) = mul_left_comm i 2 d in
        let f : (i + 1) * d ≡ i * d + 1 * d = add-mul i 1 d in
        let g : (i + 1) * (2 * d) ≡ i * (2 * d) + 1 * (2 * d) = add-mul i 1 (2 * d) in
        let j : (i + 1 + 1) * (2 * d) ≡ (i + 1) * (2 * d) + 1 * (2 * d) = add-mul (i + 1) 1 (2 * d) in
        omega arith

    go : (b : Bool) → ltb (2 * a + d) ((i + 1) * (2 * d)) ≡ b → ((2 * a + d) / (2 * d) ≡ i) ⊎ ((2 * a + d) / (2 * d) ≡ i + 1)
    go true e = inl (div-eq_of_lt-le (2 * d) low (ltb-true (2 * a + d) ((i + 1) * (2 * d)) e))
    go false e = inr (div-eq_of_lt-le (2 * d) (ltb-false (2 * a + d) ((i + 1) * (2 * d)) e) high)

none_above : (y : Float) → lt (inf false) y ≡ true → ⊥
unfolding lt
none_above nan h = true≢false (sym h)
none_above (inf s) h = true≢false (sym h)
none_above (fin s m e) h = true≢false (sym h)

rounded : (x v y : Float) (i : ℕ) → HasValue x false i 1 → HasValue y false (i + 1) 1 → lt x v ≡ true → lt v y ≡ true
    → (round_away v ≡ counted false i) ⊎ (round_away v ≡ counted false (i + 1))
unfolding lt round_away
rounded nan v y i p q h k = absurd p
rounded (inf s) v y i p q h k = absurd p
rounded (fin s a f) nan y i p q h k = absurd (true≢false (sym h))
rounded (fin s a f) (inf true) y i p q h k = absurd (true≢false (sym h))
rounded (fin s a f) (inf false) y i p q h k = absurd (none_above y k)
rounded (fin true a f) (fin t m e) y i p q h k = absurd (true≢false p.0)
rounded (fin false a f) (fin true m e) y i p q h k = absurd (true≢false (sym h))
rounded (fin false a f) (fin false m e) y i p q h k =
    which
    (one_of_two i (m * up e) (down e) (down_pos e)
    (lt_says (fin false a f) (fin false m e) i 1 (m * up e) (down e) (zero-lt-suc 0) (down_pos e) p (refl, refl) (holds _ h))
    (lt_says (fin false m e) y (m * up e) (down e) (i + 1) 1 (down_pos e) (zero-lt-suc 0) (refl, refl) q (holds _ k)))
  where
    which : ((2 * (m * up e) + down e) / (2 * down e) ≡ i) ⊎ ((2 * (m * up e) + down e) / (2 * down e) ≡ i + 1)
        → (counted false ((2 * (m * up e) + down e) / (2 * down e)) ≡ counted false i) ⊎ (counted false ((2 * (m * up e) + down e) / (2 * down e)) ≡ counted false (i + 1))
    which (inl z) = inl (ap (counted false) z)
    which (inr z) = inr (ap (counted false) z)

-- ---- off both, it is on no boundary

far : (v z : Float) → round_away v ≡ z → lt (round binary64 false 1 1000000000000) (magnitude_of (sub binary64 v z)) ≡ true → side_of v ≡ Off
unfolding side_of near_whole
far v z e h = rw (ap (λ (r : Float). le (magnitude_of (sub binary64 v r)) (round binary64 false 1 1000000000000)) e ∙ not_le (round binary64 false 1 1000000000000) (magnitude_of (sub binary64 v z)) h)

pub off_side : (axis : Axis) (v at : Float) (i : ℕ) → i ≤ 4294967295 → at ≡ scaled_on axis v → lt (of_int binary64 (pos i)) at ≡ true → lt at (add binary64 (of_int binary64 (pos i)) one) ≡ true
    → lt (round binary64 false 1 1000000000000) (magnitude_of (sub binary64 at (of_int binary64 (pos i)))) ≡ true
    → lt (round binary64 false 1 1000000000000) (magnitude_of (sub binary64 at (add binary64 (of_int binary64 (pos i)) one))) ≡ true
    → side_on axis v ≡ Off
unfolding side_on
off_side axis v at i l s h k p q =
    ap side_of (sym s)
    ∙ which (rounded (of_int binary64 (pos i)) at (add binary64 (of_int binary64 (pos i)) one) i whole next h k)
  where
    whole : HasValue (of_int binary64 (pos i)) false i 1
    whole = whole_value i (omega arith)

    sum : add binary64 (of_int binary64 (pos i)) one ≡ counted false (i + 1)
    sum = counted_sum i 1 (of_int binary64 (pos i)) one whole (refl, refl)

    next : HasValue (add binary64 (of_int binary64 (pos i)) one) false (i + 1) 1
    next = subst (λ (z : Float). HasValue z false (i + 1) 1) (sym sum) (counted_value false (i + 1) (omega arith))

    which : (round_away at ≡ counted false i) ⊎ (round_away at ≡ counted false (i + 1)) → side_of at ≡ Off
    which (inl e) = far at (of_int binary64 (pos i)) (e ∙ sym (cast_is i)) p
    which (inr e) = far at (add binary64 (of_int binary64 (pos i)) one) (e ∙ sym sum) q

-- ---- and the line adds nothing

module _ (mode : Mode) where
  off_none : (m : Mode) → neighbour_for m Off ≡ None
  unfolding neighbour_for
  off_none Rust = refl
  off_none Sided = refl
  off_none Covering = refl

  none_on : (a : Axis) (v : Float) → side_on a v ≡ Off → neighbour_on mode a v ≡ None
  unfolding neighbour_on
  none_on a v e = ap (neighbour_for mode) e ∙ off_none mode

  none_along : (a : Axis) (v w : Float) → side_on a v ≡ Off → None ≡ along_on mode a v w
  unfolding along_on
  none_along a v w e = sym (ap (λ (z : Neighbour). cond (eq (sub binary64 w v) nought) z None) (none_on a v e) ∙ go (eq (sub binary64 w v) nought))
    where
      go : (b : Bool) → cond b None None ≡ None
      go true = refl
      go false = refl

  nothing : (x y : Neighbour) → x ≡ None → y ≡ None → share x y ≡ 0
  unfolding share many_of
  nothing x y p q = rw (p, q)

  no_end : (g : Grid) (x y : Float) → side_on (x_axis g) x ≡ Off → side_on (y_axis g) y ≡ Off → [] ≡ endpoint_of mode g x y
  unfolding endpoint_of
  no_end g x y p q =
      sym
      (nothing_beside (neighbour_on mode (x_axis g) x) (neighbour_on mode (y_axis g) y) g.cols (g.rows * g.cols)
      (nothing (neighbour_on mode (x_axis g) x) (neighbour_on mode (y_axis g) y) (none_on (x_axis g) x p) (none_on (y_axis g) y q)) (cell_of g x y))

  pub clear_complete : (g : Grid) (line : Segment) (s : List ℕ) (n : ℕ) → n ≤ length s → Clear g line → Complete s n (pushes_of mode g line (take n s))
  clear_complete g line s n l c =
      completes mode g line None None (none_along (x_axis g) line.start_x line.end_x c.start_x) (none_along (y_axis g) line.start_y line.end_y c.start_y)
      (nothing_covers None None g.cols (g.rows * g.cols) refl refl l)
      (same (no_end g line.start_x line.start_y c.start_x c.start_y) (none l))
      (same (no_end g line.end_x line.end_y c.end_x c.end_y) (none l))

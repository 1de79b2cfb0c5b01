-- The walk with whole indices and the code's, whose indices are kept modulo 2^32, find the same: in 5,000 turns from an index of 0 to 4,003 an index
-- stays between -5,000 and 9,004. Assumes nothing.
use Rattle.std.proofs.Common.{◌≡◌, ℕ, zero, suc, ◌+◌, ◌*◌, ◌%◌, ◌≤◌, Bool, true, false, cond, ◌&&◌, eqb, ltb, List, [], ◌++◌, ℤ, pos, negsuc, ◌+ℤ◌, sym, refl, ap, ◌∙◌, subst, ap₂, arith, le-ltb, ne_eqb}
use lib.IntN.{suc_ℤ, pred_ℤ, +ℤ_one, -ℤ_one, +ℤ_idr}
use lib.Ieee.{Float, binary64, sub, lt}
use Rattle.grid.specs.declared.Axis.{Axis}
use Rattle.grid.specs.declared.Grid.{Grid}
use Rattle.grid.specs.declared.Segment.{Segment}
use Rattle.grid.specs.Axes.{x_axis, y_axis}
use Rattle.grid.proofs.Shapes.{Shape}
use Rattle.turns.specs.declared.Course.{Course}
use Rattle.turns.specs.declared.Position.{Position}
use Rattle.turns.specs.declared.Turn.{Turn}
use Rattle.turns.specs.declared.Walk.{Walk}
use Rattle.turns.specs.declared.Way.{Way}
use Rattle.turns.specs.Turns.{nought, sign_of, Stride, stride_on, Progress, progress_on, Ray, State, ray_of, start_of, same_int, arrived_of, turn_of, stepped_of, advanced, moved_of, goes_of}
use Rattle.turns.specs.Pushes.{kept_if, push_of, sides_of, pushed_of, before, followed_by, next_of, going_of, turns, onward_of, walked_of}
use Rattle.turns.specs.Trails.{ended_in, trodden_of}
use Rattle.turns.specs.InsideModular.{step_by, course_by, position_by, way_by, start_by, arrived_by, turn_by, stepped_by, advanced_by, moved_by, push_by, sides_by, pushed_by, next_by, going_by, turns_by, onward_by, walked_by, trodden_by}
use Rattle.turns.proofs.Floats.{index_le}

-- ---- an index

-- The whole number z and the number u that the code keeps for it, with so many moves left.
abbrev Kept : ℕ → ℤ → ℕ → Type 0
Kept left (pos n) u = (u ≡ n) × (n + left ≤ 9004) × (left ≤ 5000)
Kept left (negsuc n) u = (u + suc n ≡ 4294967296) × (suc n + left ≤ 5000)

up : (left : ℕ) (z : ℤ) (u : ℕ) → Kept (suc left) z u → Kept left (suc_ℤ z) ((u + 1) % 4294967296)
up left (pos n) u h = (omega (arith, h.0, h.1), omega (arith, h.1), omega (arith, h.2))
up left (negsuc zero) u h = (omega (arith, h.0), omega (arith, h.1), omega (arith, h.1))
up left (negsuc (suc n)) u h = (omega (arith, h.0), omega (arith, h.1))

down : (left : ℕ) (z : ℤ) (u : ℕ) → Kept (suc left) z u → Kept left (pred_ℤ z) ((u + 4294967295) % 4294967296)
down left (pos zero) u h = (omega (arith, h.0), omega (arith, h.2))
down left (pos (suc n)) u h = (omega (arith, h.0, h.1), omega (arith, h.1), omega (arith, h.2))
down left (negsuc n) u h = (omega (arith, h.0, h.1), omega (arith, h.1))

fewer : (left : ℕ) (z : ℤ) (u : ℕ) → Kept (suc left) z u → Kept left z u
fewer left (pos n) u h = (h.0, omega (arith, h.1), omega (arith, h.2))
fewer left (negsuc n) u h = (h.0, omega (arith, h.1))

level : (left : ℕ) (z : ℤ) (u : ℕ) → Kept (suc left) z u → Kept left z ((u + 0) % 4294967296)
level left (pos n) u h = (omega (arith, h.0, h.1), omega (arith, h.1), omega (arith, h.2))
level left (negsuc n) u h = (omega (arith, h.0), omega (arith, h.1))

-- a move of one in the sign of d
steps : (d : Float) (left : ℕ) (z : ℤ) (u : ℕ) → Kept (suc left) z u → Kept left (z +ℤ sign_of d) ((u + step_by d) % 4294967296)
unfolding sign_of step_by
steps d left z u h = go (lt nought d) (lt d nought)
  where
    go : (p q : Bool) → Kept left (z +ℤ cond p (pos 1) (cond q (negsuc 0) (pos 0))) ((u + cond p 1 (cond q 4294967295 0)) % 4294967296)
    go true q = subst (λ (y : ℤ). Kept left y ((u + 1) % 4294967296)) (sym (+ℤ_one z)) (up left z u h)
    go false true = subst (λ (y : ℤ). Kept left y ((u + 4294967295) % 4294967296)) (sym (-ℤ_one z)) (down left z u h)
    go false false = subst (λ (y : ℤ). Kept left y ((u + 0) % 4294967296)) (sym (+ℤ_idr z)) (level left z u h)

-- what is kept for a number below zero is beyond every count
beyond : (left n u count : ℕ) → Kept left (negsuc n) u → count ≤ 4004 → ltb u count ≡ false
beyond left n u count h l = le-ltb u count (omega (arith, h.0, h.1))

no_cell : (b : Bool) (c : ℕ) → [] ≡ kept_if (b && false) c
unfolding kept_if
no_cell true c = refl
no_cell false c = refl

push_is : (cols rows a b : ℕ) (z y : ℤ) (u v : ℕ) → cols ≤ 4004 → rows ≤ 4004 → Kept a z u → Kept b y v → push_of cols rows z y ≡ push_by cols rows u v
unfolding push_of push_by kept_if
push_is cols rows a b (pos c) (pos r) u v k l h i = rw (h.0, i.0)
push_is cols rows a b (pos c) (negsuc r) u v k l h i = rw (beyond b r v rows i l) (no_cell (ltb u cols) (v * cols + u))
push_is cols rows a b (negsuc c) y u v k l h i = rw (beyond a c u cols h k)

ends_at : (left : ℕ) (z : ℤ) (u e : ℕ) → Kept left z u → e ≤ 4003 → same_int z (pos e) ≡ eqb u e
unfolding same_int
ends_at left (pos n) u e h l = rw h.0
ends_at left (negsuc n) u e h l = sym (ne_eqb u e (λ k. omega (arith, h.0, h.1)))

-- ---- an axis

record OnAxis (left : ℕ) (p : Progress) (q : Position) : Type 0 where
  index : Kept left p.index q.index
  max : p.t_max ≡ q.t_max

record AlongAxis (c : Stride) (k : Course) : Type 0 where
  move : (left : ℕ) (z : ℤ) (u : ℕ) → Kept (suc left) z u → Kept left (z +ℤ c.step) ((u + k.step) % 4294967296)
  delta : c.t_delta ≡ k.t_delta
  end : c.end ≡ pos k.end
  within : k.end ≤ 4003

module _ {c : Stride} {k : Course} (a : AlongAxis c k) {p : Progress} {q : Position} where
  stepped_on : (left : ℕ) → OnAxis (suc left) p q → Kept left (stepped_of c p) (stepped_by k q)
  unfolding stepped_by
  stepped_on left o = a.move left p.index q.index o.index

  advanced_on : (left : ℕ) (b : Bool) → OnAxis (suc left) p q → OnAxis left (advanced b c p) (advanced_by b k q)
  unfolding advanced advanced_by
  advanced_on left false o = record { index = fewer left p.index q.index o.index; max = o.max }
  advanced_on left true o = record { index = stepped_on left o; max = rw (o.max, a.delta) }

  ends_on : (left : ℕ) → OnAxis left p q → same_int p.index c.end ≡ eqb q.index k.end
  ends_on left o = ap (same_int p.index) a.end ∙ ends_at left p.index q.index k.end o.index a.within

-- ---- both axes

record Along (r : Ray) (way : Way) : Type 0 where
  x : AlongAxis r.x way.x
  y : AlongAxis r.y way.y

record On (left : ℕ) (s : State) (w : Walk) : Type 0 where
  x : OnAxis left s.x w.x
  y : OnAxis left s.y w.y

module _ (cols rows : ℕ) (wide : cols ≤ 4004) (high : rows ≤ 4004) {r : Ray} {way : Way} (a : Along r way) where
  turn_is : (left : ℕ) {s : State} {w : Walk} → On left s w → turn_of r s ≡ turn_by way w
  unfolding turn_of turn_by arrived_of arrived_by
  turn_is left o = rw (ends_on a.x left o.x, ends_on a.y left o.y, o.x.max, o.y.max)

  moved_on : (left : ℕ) (k : Turn) {s : State} {w : Walk} → On (suc left) s w → On left (moved_of k r s) (moved_by k way w)
  unfolding moved_of moved_by
  moved_on left k o = record { x = advanced_on a.x left k.x o.x; y = advanced_on a.y left k.y o.y }

  sides_are : (left : ℕ) (b : Bool) {s : State} {w : Walk} → On (suc left) s w → sides_of b cols rows r s ≡ sides_by b cols rows way w
  unfolding sides_of sides_by
  sides_are left false o = refl
  sides_are left true {s} {w} o =
      let p : push_of cols rows (stepped_of r.x s.x) s.y.index ≡ push_by cols rows (stepped_by way.x w.x) w.y.index =
      push_is cols rows left (suc left) (stepped_of r.x s.x) s.y.index (stepped_by way.x w.x) w.y.index wide high (stepped_on a.x left o.x) o.y.index in
      let q : push_of cols rows s.x.index (stepped_of r.y s.y) ≡ push_by cols rows w.x.index (stepped_by way.y w.y) =
      push_is cols rows (suc left) left s.x.index (stepped_of r.y s.y) w.x.index (stepped_by way.y w.y) wide high o.x.index (stepped_on a.y left o.y) in
      ap (λ (l : List ℕ). l ++ push_of cols rows s.x.index (stepped_of r.y s.y)) p ∙ ap (λ (l : List ℕ). push_by cols rows (stepped_by way.x w.x) w.y.index ++ l) q

  pushed_is : (left : ℕ) (k : Turn) {s : State} {w : Walk} → On (suc left) s w → pushed_of k cols rows r s ≡ pushed_by k cols rows way w
  unfolding pushed_of pushed_by
  pushed_is left k {s} {w} o =
      let m = moved_on left k o in
      let n = moved_of k r s in
      let v = moved_by k way w in
      ap (λ (l : List ℕ). l ++ push_of cols rows n.x.index n.y.index) (sides_are left (k.x && k.y) o)
      ∙ ap (λ (l : List ℕ). sides_by (k.x && k.y) cols rows way w ++ l) (push_is cols rows left left n.x.index n.y.index v.x.index v.y.index wide high m.x.index m.y.index)

  next_on : (left : ℕ) {s : State} {w : Walk} → On (suc left) s w → On left (next_of r s) (next_by way w)
  unfolding next_of next_by
  next_on left {s} {w} o = subst (λ (k : Turn). On left (moved_of k r s) (moved_by (turn_by way w) way w)) (sym (turn_is (suc left) o)) (moved_on left (turn_by way w) o)

  going_is : (left : ℕ) {s : State} {w : Walk} → On left s w → going_of r s ≡ going_by way w
  unfolding going_of going_by
  going_is left o = ap goes_of (turn_is left o)

  turns_are : (left : ℕ) (s : State) (w : Walk) → On left s w → turns left cols rows r s ≡ turns_by left cols rows way w
  unfolding turns turns_by
  turns_are zero s w o = rw (going_is zero o)
  turns_are (suc left) s w o =
      let p : pushed_of (turn_of r s) cols rows r s ≡ pushed_by (turn_by way w) cols rows way w =
      ap (λ (k : Turn). pushed_of k cols rows r s) (turn_is (suc left) o) ∙ pushed_is left (turn_by way w) o in
      rw (going_is (suc left) o, p, turns_are left (next_of r s) (next_by way w) (next_on left o))

  onward_are : (s : State) (w : Walk) → On 5000 s w → onward_of cols rows r s ≡ onward_by cols rows way w
  onward_are s w o =
      let f : push_of cols rows s.x.index s.y.index ≡ push_by cols rows w.x.index w.y.index =
      push_is cols rows 5000 5000 s.x.index s.y.index w.x.index w.y.index wide high o.x.index o.y.index in
      ap₂ before f (turns_are 5000 s w o)

  end_is : push_of cols rows r.x.end r.y.end ≡ push_by cols rows way.x.end way.y.end
  end_is =
      ap (λ (z : ℤ). push_of cols rows z r.y.end) a.x.end
      ∙ ap (push_of cols rows (pos way.x.end)) a.y.end
      ∙ push_is cols rows 0 0 (pos way.x.end) (pos way.y.end) way.x.end way.y.end wide high
      (refl, omega (arith, a.x.within), omega arith) (refl, omega (arith, a.y.within), omega arith)

-- ---- a segment on a grid

module _ (a : Axis) (start end : Float) (l : a.count ≤ 4004) where
  along : AlongAxis (stride_on a start end) (course_by a start end)
  unfolding stride_on course_by
  along = record { move = steps (sub binary64 end start); delta = refl; end = refl; within = omega (arith, index_le a end) }

  at_start : OnAxis 5000 (progress_on a start end) (position_by a start end)
  unfolding progress_on position_by
  at_start = record { index = (refl, omega (arith, index_le a start), omega arith); max = refl }

module _ (g : Grid) (line : Segment) (h : Shape g.cols g.rows) where
  along_both : Along (ray_of g line) (way_by g line)
  unfolding ray_of way_by
  along_both = record { x = along (x_axis g) line.start_x line.end_x h.wide; y = along (y_axis g) line.start_y line.end_y h.high }

  on_start : On 5000 (start_of g line) (start_by g line)
  unfolding start_of start_by
  on_start = record { x = at_start (x_axis g) line.start_x line.end_x h.wide; y = at_start (y_axis g) line.start_y line.end_y h.high }

  onward_is : onward_of g.cols g.rows (ray_of g line) (start_of g line) ≡ onward_by g.cols g.rows (way_by g line) (start_by g line)
  onward_is = onward_are g.cols g.rows h.wide h.high along_both (start_of g line) (start_by g line) on_start

  last_is : push_of g.cols g.rows (ray_of g line).x.end (ray_of g line).y.end ≡ push_by g.cols g.rows (way_by g line).x.end (way_by g line).y.end
  last_is = end_is g.cols g.rows h.wide h.high along_both

  pub walked_is : walked_of g.cols g.rows (ray_of g line) (start_of g line) ≡ walked_by g.cols g.rows (way_by g line) (start_by g line)
  unfolding walked_of walked_by
  walked_is = ap₂ followed_by onward_is last_is

  pub trodden_is : trodden_of g.cols g.rows (ray_of g line) (start_of g line) ≡ trodden_by g.cols g.rows (way_by g line) (start_by g line)
  unfolding trodden_of trodden_by
  trodden_is = ap₂ ended_in onward_is last_is

-- From a point that two segments share, said over whole numbers, to the weights of their ends. A whole number z of either sign is p - n for two naturals;
-- the one that is written down has one of them 0. Assumes nothing.
use mathlib.Core.Path.{◌≡◌, sym, ap, ap₂, ◌∙◌, subst}
use mathlib.Core.Bool.{true, false}
use Prim.Native.Nat.{ℕ, ◌+◌, ◌-◌, ◌*◌, ◌≤◌, ◌<◌}
use native.Mathlib.Nat.{mul_comm, mul_assoc, mul_left_comm, add-mul, eq_of_mul-eq-mul_right}
use native.Mathlib.Omega.{arith}
use lib.IntN.{ℤ, pos, neg_ℤ, ◌-ℤ◌, ◌*ℤ◌, *ℤ_comm}
use lib.Ieee.{Float, nan, inf, fin, up, down}
use lib.Ieee.Positive.{den}
use Rattle.numbers.proofs.FloatOrder.{plus, minus}
use Rattle.grid.specs.declared.Segment.{Segment}
use Rattle.grid.specs.Points.{q_times, Exactly, SharePoint}
use Rattle.grid.proofs.Wholes.{over, under, Is, own, one_number, is_neg, is_sum, times_own, is_times}
use Rattle.cover.proofs.Meeting.{Same, Meet}

is_pos : (k : ℕ) → Is (pos k) k 0
is_pos k = record { says = omega arith }

-- ---- q times a point of a segment

pub is_point : (q a : ℕ) (s e : ℤ) → Is (q_times q a s e) (q * over s + a * (over e + under s)) (q * under s + a * (under e + over s))
unfolding q_times
is_point q a s e =
    is_sum (pos q *ℤ s) (pos a *ℤ (e -ℤ s)) (q * over s) (q * under s) (a * (over e + under s)) (a * (under e + over s)) (is_times q s (over s) (under s) (own s))
    (is_times a (e -ℤ s) (over e + under s) (under e + over s) (is_sum e (neg_ℤ s) (over e) (under e) (under s) (over s) (own e) (is_neg s (over s) (under s) (own s))))

-- two equal ones, by the weights of their ends
by_weights : (os us oe ue os' us' oe' ue' q a b v v' : ℕ) → q ≡ v + a → q ≡ v' + b
    → q * os + a * (oe + us) + (q * us' + b * (ue' + os')) ≡ q * os' + b * (oe' + us') + (q * us + a * (ue + os))
    → v * os + a * oe + (v' * us' + b * ue') ≡ v' * os' + b * oe' + (v * us + a * ue)
by_weights os us oe ue os' us' oe' ue' q a b v v' e e' h =
    let c1 : q * os ≡ v * os + a * os = ap (λ (z : ℕ). z * os) e ∙ omega arith in
    let c2 : q * us ≡ v * us + a * us = ap (λ (z : ℕ). z * us) e ∙ omega arith in
    let c3 : q * os' ≡ v' * os' + b * os' = ap (λ (z : ℕ). z * os') e' ∙ omega arith in
    let c4 : q * us' ≡ v' * us' + b * us' = ap (λ (z : ℕ). z * us') e' ∙ omega arith in
    omega arith

-- ---- the exact value of a float

pub exact_is : (x : Float) (z : ℤ) (n : ℕ) → Exactly x z n → plus x * n + den x * under z ≡ den x * over z + minus x * n
exact_is nan z n h = absurd h
exact_is (inf s) z n h = absurd h
exact_is (fin false m e) z n h =
    let a = one_number (z *ℤ pos (down e)) (m * up e * n) 0 (down e * over z) (down e * under z) (subst (λ (k : ℤ). Is k (m * up e * n) 0) h (is_pos (m * up e * n)))
    (subst (λ (k : ℤ). Is k (down e * over z) (down e * under z)) (*ℤ_comm (pos (down e)) z) (times_own (down e) z)) in
    omega arith
exact_is (fin true m e) z n h =
    let a = one_number (z *ℤ pos (down e)) 0 (m * up e * n) (down e * over z) (down e * under z) (subst (λ (k : ℤ). Is k 0 (m * up e * n)) h (is_neg (pos (m * up e * n)) (m * up e * n) 0 (is_pos (m * up e * n))))
    (subst (λ (k : ℤ). Is k (down e * over z) (down e * under z)) (*ℤ_comm (pos (down e)) z) (times_own (down e) z)) in
    omega arith

-- ---- a common point, on one axis

-- each float's fact, times what stands before it
times_all : (X Y A B d n k : ℕ) → X * n + d * B ≡ d * A + Y * n → X * k * n + k * d * B ≡ k * d * A + Y * k * n
times_all X Y A B d n k h = let t : (X * n + d * B) * k ≡ (d * A + Y * n) * k = ap (λ (z : ℕ). z * k) h in omega arith

gather : (x y x' y' m l m' l' a1 b1 a2 b2 a3 b3 a4 b4 : ℕ) → x + b1 ≡ a1 + m → y + b2 ≡ a2 + l → x' + b3 ≡ a3 + m' → y' + b4 ≡ a4 + l' → a1 + a2 + (b3 + b4) ≡ a3 + a4 + (b1 + b2) → x + y + (m' + l') ≡ x' + y' + (m + l)
gather x y x' y' m l m' l' a1 b1 a2 b2 a3 b3 a4 b4 p q r s t = omega arith

-- a point's two sums, each as a sum of its terms
two : (v a X Y dx dy D n : ℕ) → (v * (X * dy) + a * (Y * dx)) * D * n ≡ X * (v * dy * D) * n + Y * (a * dx * D) * n
two v a X Y dx dy D n =
    let p : v * (X * dy) * D * n ≡ X * (v * dy * D) * n = simp (mul_assoc, mul_comm, mul_left_comm) in
    let q : a * (Y * dx) * D * n ≡ Y * (a * dx * D) * n = simp (mul_assoc, mul_comm, mul_left_comm) in
    ap (λ (z : ℕ). z * n) (add-mul (v * (X * dy)) (a * (Y * dx)) D) ∙ add-mul (v * (X * dy) * D) (a * (Y * dx) * D) n ∙ ap₂ (λ (y z : ℕ). y + z) p q

spread : (v a X Y dx dy D' v' b M L dx' dy' D n : ℕ)
    → ((v * (X * dy) + a * (Y * dx)) * D' + (v' * (M * dy') + b * (L * dx')) * D) * n ≡ X * (v * dy * D') * n + Y * (a * dx * D') * n + (M * (v' * dy' * D) * n + L * (b * dx' * D) * n)
spread v a X Y dx dy D' v' b M L dx' dy' D n =
    add-mul ((v * (X * dy) + a * (Y * dx)) * D') ((v' * (M * dy') + b * (L * dx')) * D) n ∙ ap₂ (λ (y z : ℕ). y + z) (two v a X Y dx dy D' n) (two v' b M L dx' dy' D n)

module _ (X X⁻ dx Ax Bx Y Y⁻ dy Ay By X' X'⁻ dx' Ax' Bx' Y' Y'⁻ dy' Ay' By' n q a b v v' : ℕ) (N : 0 < n)
    (hx : X * n + dx * Bx ≡ dx * Ax + X⁻ * n) (hy : Y * n + dy * By ≡ dy * Ay + Y⁻ * n)
    (hx' : X' * n + dx' * Bx' ≡ dx' * Ax' + X'⁻ * n) (hy' : Y' * n + dy' * By' ≡ dy' * Ay' + Y'⁻ * n)
    (h : v * Ax + a * Ay + (v' * Bx' + b * By') ≡ v' * Ax' + b * Ay' + (v * Bx + a * By)) where
  abbrev D : ℕ
  D = q * (dx * dy)

  abbrev D' : ℕ
  D' = q * (dx' * dy')

  abbrev W : ℕ
  W = q * (dx * dy) * (dx' * dy')

  point_sum : (v * Ax + a * Ay + (v' * Bx' + b * By')) * W ≡ (v' * Ax' + b * Ay' + (v * Bx + a * By)) * W
  point_sum = ap (λ (z : ℕ). z * W) h

  over_sum : W * (v * Ax) + W * (a * Ay) + (W * (v' * Bx') + W * (b * By')) ≡ W * (v' * Ax') + W * (b * Ay') + (W * (v * Bx) + W * (a * By))
  over_sum = let t = point_sum in omega arith

  same_times : ((v * (X * dy) + a * (Y * dx)) * D' + (v' * (X'⁻ * dy') + b * (Y'⁻ * dx')) * D) * n ≡ ((v' * (X' * dy') + b * (Y' * dx')) * D + (v * (X⁻ * dy) + a * (Y⁻ * dx)) * D') * n
  same_times =
      let t1 = times_all X X⁻ Ax Bx dx n (v * dy * D') hx in
      let t2 = times_all Y Y⁻ Ay By dy n (a * dx * D') hy in
      let t3 = times_all X' X'⁻ Ax' Bx' dx' n (v' * dy' * D) hx' in
      let t4 = times_all Y' Y'⁻ Ay' By' dy' n (b * dx' * D) hy' in
      let g =
      gather (X * (v * dy * D') * n) (Y * (a * dx * D') * n) (X' * (v' * dy' * D) * n) (Y' * (b * dx' * D) * n)
      (X⁻ * (v * dy * D') * n) (Y⁻ * (a * dx * D') * n) (X'⁻ * (v' * dy' * D) * n) (Y'⁻ * (b * dx' * D) * n)
      (W * (v * Ax)) (W * (v * Bx)) (W * (a * Ay)) (W * (a * By)) (W * (v' * Ax')) (W * (v' * Bx')) (W * (b * Ay')) (W * (b * By'))
      (omega arith) (omega arith) (omega arith) (omega arith) over_sum in
      spread v a X Y dx dy D' v' b X'⁻ Y'⁻ dx' dy' D n ∙ g ∙ sym (spread v' b X' Y' dx' dy' D v a X⁻ Y⁻ dx dy D' n)

  pub same_point : (v * (X * dy) + a * (Y * dx)) * D' + (v' * (X'⁻ * dy') + b * (Y'⁻ * dx')) * D ≡ (v' * (X' * dy') + b * (Y' * dx')) * D + (v * (X⁻ * dy) + a * (Y⁻ * dx)) * D'
  same_point = eq_of_mul-eq-mul_right n N _ _ same_times

-- ---- a common point of two segments

module _ (n q a b : ℕ) (N : 0 < n) (A : a ≤ q) (B : b ≤ q) where
  left_over : (k : ℕ) → k ≤ q → q ≡ q - k + k
  left_over k h = omega arith

  on_axis : (x y x' y' : Float) (s e s' e' : ℤ) → Exactly x s n → Exactly y e n → Exactly x' s' n → Exactly y' e' n → q_times q a s e ≡ q_times q b s' e' → Same (q - a) a x y (q - b) b x' y'
  on_axis x y x' y' s e s' e' hx hy hx' hy' h =
      let u = one_number (q_times q b s' e') (q * over s + a * (over e + under s)) (q * under s + a * (under e + over s)) (q * over s' + b * (over e' + under s')) (q * under s' + b * (under e' + over s'))
      (subst (λ (z : ℤ). Is z (q * over s + a * (over e + under s)) (q * under s + a * (under e + over s))) h (is_point q a s e)) (is_point q b s' e') in
      record {
        is =
            rw (← left_over a A, ← left_over b B)
            (same_point (plus x) (minus x) (den x) (over s) (under s) (plus y) (minus y) (den y) (over e) (under e)
            (plus x') (minus x') (den x') (over s') (under s') (plus y') (minus y') (den y') (over e') (under e') n q a b (q - a) (q - b) N
            (exact_is x s n hx) (exact_is y e n hy) (exact_is x' s' n hx') (exact_is y' e' n hy')
            (by_weights (over s) (under s) (over e) (under e) (over s') (under s') (over e') (under e') q a b (q - a) (q - b) (left_over a A) (left_over b B) u));
      }

pub meet_of : (l k : Segment) → SharePoint l k → Meet l k
meet_of l k p =
    let h = p.share in
    let s = p.s in
    let t = p.t in
    let i = p.s_is in
    let j = p.t_is in
    record {
      v = h.q - h.a;
      w = h.a;
      v' = h.q - h.b;
      w' = h.b;
      some = some h.q h.a h.above h.a_to;
      some' = some h.q h.b h.above h.b_to;
      on_x_lem = on_axis p.n h.q h.a h.b p.above h.a_to h.b_to l.start_x l.end_x k.start_x k.end_x s.start_x s.end_x t.start_x t.end_x i.«start_x» i.«end_x» j.«start_x» j.«end_x» h.on_x_lem;
      on_y_lem = on_axis p.n h.q h.a h.b p.above h.a_to h.b_to l.start_y l.end_y k.start_y k.end_y s.start_y s.end_y t.start_y t.end_y i.«start_y» i.«end_y» j.«start_y» j.«end_y» h.on_y_lem;
    }
  where
    some : (q a : ℕ) → 0 < q → a ≤ q → 0 < q - a + a
    some q a Q h = omega arith

-- Two segments in the plane, from p to q and from r to s, whose coordinates are naturals: they have a point in common, by the weights of their ends,
-- exactly if their boxes overlap and neither has both ends of the other strictly on one side. Assumes nothing.
use mathlib.Core.Path.{◌≡◌, refl, sym, ap, ap₂, ◌∙◌}
use mathlib.Core.Logic.{◌⊎◌, inl, inr}
use Prim.Native.Nat.{ℕ, zero, suc, ◌+◌, ◌-◌, ◌*◌, ◌≤◌, ◌<◌, min, max}
use native.Mathlib.Nat.{mul_comm, add-mul, mul-le-mul_right}
use native.Mathlib.Omega.{arith}
use Rattle.slices.proofs.Laws.{le_or}

-- ---- words

-- r is left of the way from p to q where the first sum is the greater, right of it where the second is
abbrev pub left : ℕ → ℕ → ℕ → ℕ → ℕ → ℕ → ℕ
left px py qx qy rx ry = qx * ry + px * qy + rx * py

abbrev pub right : ℕ → ℕ → ℕ → ℕ → ℕ → ℕ → ℕ
right px py qx qy rx ry = qx * py + px * ry + rx * qy

-- a common point: the mean of p and q with the weights v and w is that of r and s with v' and w'
pub record Weighted (px py qx qy rx ry sx sy : ℕ) : Type 0 where
  pub v : ℕ
  pub w : ℕ
  pub v' : ℕ
  pub w' : ℕ
  pub above : 0 < v + w
  pub alike : v + w ≡ v' + w'
  pub on_x_lem : v * px + w * qx ≡ v' * rx + w' * sx
  pub on_y_lem : v * py + w * qy ≡ v' * ry + w' * sy

-- ---- the same point, with the two segments exchanged, with the first turned round, and with the axes exchanged

pub roles : {px py qx qy rx ry sx sy : ℕ} → Weighted px py qx qy rx ry sx sy → Weighted rx ry sx sy px py qx qy
roles {px} {py} {qx} {qy} {rx} {ry} {sx} {sy} h =
    record { v = h.v'; w = h.w'; v' = h.v; w' = h.w; above = omega (arith, h.above, h.alike); alike = sym h.alike; on_x_lem = sym h.on_x_lem; on_y_lem = sym h.on_y_lem }

pub turned : {px py qx qy rx ry sx sy : ℕ} → Weighted px py qx qy rx ry sx sy → Weighted qx qy px py rx ry sx sy
turned {px} {py} {qx} {qy} {rx} {ry} {sx} {sy} h =
    record { v = h.w; w = h.v; v' = h.v'; w' = h.w'; above = omega (arith, h.above); alike = omega (arith, h.alike); on_x_lem = omega (arith, h.on_x_lem); on_y_lem = omega (arith, h.on_y_lem) }

pub exchanged : {px py qx qy rx ry sx sy : ℕ} → Weighted px py qx qy rx ry sx sy → Weighted py px qy qx ry rx sy sx
exchanged h = record { v = h.v; w = h.w; v' = h.v'; w' = h.w'; above = h.above; alike = h.alike; on_x_lem = h.on_y_lem; on_y_lem = h.on_x_lem }

-- ---- what parts two segments leaves no common point

-- a sum of the mean of two points is the mean of their sums
affine : (v w a c d x y x' y' : ℕ) → v * (a * y + c + x * d) + w * (a * y' + c + x' * d) ≡ a * (v * y + w * y') + c * (v + w) + d * (v * x + w * x')
affine v w a c d x y x' y' = omega arith

affine' : (v w a c d x y x' y' : ℕ) → v * (c + a * y + x * d) + w * (c + a * y' + x' * d) ≡ a * (v * y + w * y') + c * (v + w) + d * (v * x + w * x')
affine' v w a c d x y x' y' = omega arith

-- means with the same weights, one of them of greater numbers
heavier : (v w a b c d : ℕ) → 0 < v + w → a < b → c < d → v * a + w * c < v * b + w * d
heavier zero w a b c d h x y = let t : w * suc c ≤ w * d = rw (mul_comm w (suc c), mul_comm w d) (mul-le-mul_right w y) in omega arith
heavier (suc v) w a b c d h x y =
    let s : suc v * suc a ≤ suc v * b = rw (mul_comm (suc v) (suc a), mul_comm (suc v) b) (mul-le-mul_right (suc v) x) in
    let t : w * suc c ≤ w * d = rw (mul_comm w (suc c), mul_comm w d) (mul-le-mul_right w y) in
    omega arith

-- r and s are not both strictly left of the way from p to q
pub none_left : {px py qx qy rx ry sx sy : ℕ} → Weighted px py qx qy rx ry sx sy
    → right px py qx qy rx ry < left px py qx qy rx ry → right px py qx qy sx sy < left px py qx qy sx sy → ⊥
none_left {px} {py} {qx} {qy} {rx} {ry} {sx} {sy} h a b =
    let v = h.v in
    let w = h.w in
    let v' = h.v' in
    let w' = h.w' in
    let ps : left px py qx qy px py ≡ right px py qx qy px py = omega arith in
    let qs : left px py qx qy qx qy ≡ right px py qx qy qx qy = omega arith in
    let one : v * left px py qx qy px py + w * left px py qx qy qx qy ≡ v' * left px py qx qy rx ry + w' * left px py qx qy sx sy =
    affine v w qx (px * qy) py px py qx qy ∙ ap₂ (λ (y z : ℕ). qx * y + px * qy * (v + w) + py * z) h.on_y_lem h.on_x_lem ∙ ap (λ (z : ℕ). qx * (v' * ry + w' * sy) + px * qy * z + py * (v' * rx + w' * sx)) h.alike ∙ sym (affine v' w' qx (px * qy) py rx ry sx sy) in
    let two : v * right px py qx qy px py + w * right px py qx qy qx qy ≡ v' * right px py qx qy rx ry + w' * right px py qx qy sx sy =
    affine' v w px (qx * py) qy px py qx qy ∙ ap₂ (λ (y z : ℕ). px * y + qx * py * (v + w) + qy * z) h.on_y_lem h.on_x_lem ∙ ap (λ (z : ℕ). px * (v' * ry + w' * sy) + qx * py * z + qy * (v' * rx + w' * sx)) h.alike ∙ sym (affine' v' w' px (qx * py) qy rx ry sx sy) in
    let same : v * left px py qx qy px py + w * left px py qx qy qx qy ≡ v * right px py qx qy px py + w * right px py qx qy qx qy = ap₂ (λ (y z : ℕ). v * y + w * z) ps qs in
    parted (v' * left px py qx qy rx ry + w' * left px py qx qy sx sy) (v' * right px py qx qy rx ry + w' * right px py qx qy sx sy)
    (sym one ∙ same ∙ two) (heavier v' w' (right px py qx qy rx ry) (left px py qx qy rx ry) (right px py qx qy sx sy) (left px py qx qy sx sy) (omega (arith, h.above, h.alike)) a b)
  where
    parted : (x y : ℕ) → x ≡ y → y < x → ⊥
    parted x y e l = omega arith

-- there is no gap between them on an axis
pub no_gap : (v w v' w' a b c d : ℕ) → 0 < v + w → v + w ≡ v' + w' → v * a + w * b ≡ v' * c + w' * d → max a b < min c d → ⊥
no_gap v w v' w' a b c d h e f g =
    let m : ℕ = max a b in
    let n : ℕ = min c d in
    let t1 : a * v ≤ max a b * v = mul-le-mul_right v (omega arith) in
    let t2 : b * w ≤ max a b * w = mul-le-mul_right w (omega arith) in
    let t3 : min c d * v' ≤ c * v' = mul-le-mul_right v' (omega arith) in
    let t4 : min c d * w' ≤ d * w' = mul-le-mul_right w' (omega arith) in
    let t5 : (max a b + 1) * (v + w) ≤ min c d * (v + w) = mul-le-mul_right (v + w) (omega arith) in
    let t6 : min c d * (v + w) ≡ min c d * (v' + w') = ap (λ (z : ℕ). min c d * z) e in
    plain v w v' w' a b c d (max a b) (min c d) h f t1 t2 t3 t4 t5 t6
  where
    plain : (v w v' w' a b c d m n : ℕ) → 0 < v + w → v * a + w * b ≡ v' * c + w' * d → a * v ≤ m * v → b * w ≤ m * w → n * v' ≤ c * v' → n * w' ≤ d * w' → (m + 1) * (v + w) ≤ n * (v + w) → n * (v + w) ≡ n * (v' + w') → ⊥
    plain v w v' w' a b c d m n h f t1 t2 t3 t4 t5 t6 = omega arith

-- ---- a crossing of two segments that are not parallel

-- how far r and s differ, seen from the first, and p and q, seen from the second
turns : (px py qx qy rx ry sx sy : ℕ)
    → left px py qx qy sx sy + right px py qx qy rx ry + (left rx ry sx sy qx qy + right rx ry sx sy px py)
    ≡ right px py qx qy sx sy + left px py qx qy rx ry + (right rx ry sx sy qx qy + left rx ry sx sy px py)
turns px py qx qy rx ry sx sy = omega arith

-- the four sums, each times a coordinate
cycle_x : (px py qx qy rx ry sx sy : ℕ)
    → right rx ry sx sy qx qy * px + left rx ry sx sy px py * qx + (right px py qx qy sx sy * rx + left px py qx qy rx ry * sx)
    ≡ left rx ry sx sy qx qy * px + right rx ry sx sy px py * qx + (left px py qx qy sx sy * rx + right px py qx qy rx ry * sx)
cycle_x px py qx qy rx ry sx sy = omega arith

cycle_y : (px py qx qy rx ry sx sy : ℕ)
    → right rx ry sx sy qx qy * py + left rx ry sx sy px py * qy + (right px py qx qy sx sy * ry + left px py qx qy rx ry * sy)
    ≡ left rx ry sx sy qx qy * py + right rx ry sx sy px py * qy + (left px py qx qy sx sy * ry + right px py qx qy rx ry * sy)
cycle_y px py qx qy rx ry sx sy = omega arith

-- what is over, times a coordinate
over_by : (a b k : ℕ) → b ≤ a → (a - b) * k + b * k ≡ a * k
over_by a b k h = let e : a - b + b ≡ a = omega arith in sym (add-mul (a - b) b k) ∙ ap (λ (z : ℕ). z * k) e

gather : (v w v' w' a b c d e f g h : ℕ) → v + a ≡ e → w + b ≡ f → v' + c ≡ g → w' + d ≡ h → e + f + (c + d) ≡ a + b + (g + h) → v + w ≡ v' + w'
gather v w v' w' a b c d e f g h p q r s t = omega arith

-- the weights are how far each end lies from the other segment
pub crossing : (px py qx qy rx ry sx sy : ℕ)
    → left px py qx qy rx ry ≤ right px py qx qy rx ry → right px py qx qy sx sy ≤ left px py qx qy sx sy
    → right rx ry sx sy px py ≤ left rx ry sx sy px py → left rx ry sx sy qx qy ≤ right rx ry sx sy qx qy
    → left px py qx qy rx ry + right px py qx qy sx sy < left px py qx qy sx sy + right px py qx qy rx ry
    → Weighted px py qx qy rx ry sx sy
crossing px py qx qy rx ry sx sy a b c d n = go (left px py qx qy rx ry) (right px py qx qy rx ry) (left px py qx qy sx sy) (right px py qx qy sx sy) (left rx ry sx sy px py) (right rx ry sx sy px py) (left rx ry sx sy qx qy) (right rx ry sx sy qx qy)
    a b c d n (turns px py qx qy rx ry sx sy) (cycle_x px py qx qy rx ry sx sy) (cycle_y px py qx qy rx ry sx sy)
  where
    go : (L₁ R₁ L₂ R₂ L₃ R₃ L₄ R₄ : ℕ) → L₁ ≤ R₁ → R₂ ≤ L₂ → R₃ ≤ L₃ → L₄ ≤ R₄ → L₁ + R₂ < L₂ + R₁ → L₂ + R₁ + (L₄ + R₃) ≡ R₂ + L₁ + (R₄ + L₃)
        → R₄ * px + L₃ * qx + (R₂ * rx + L₁ * sx) ≡ L₄ * px + R₃ * qx + (L₂ * rx + R₁ * sx)
        → R₄ * py + L₃ * qy + (R₂ * ry + L₁ * sy) ≡ L₄ * py + R₃ * qy + (L₂ * ry + R₁ * sy) → Weighted px py qx qy rx ry sx sy
    go L₁ R₁ L₂ R₂ L₃ R₃ L₄ R₄ a b c d n t x y =
        record {
          v = R₄ - L₄;
          w = L₃ - R₃;
          v' = L₂ - R₂;
          w' = R₁ - L₁;
          above = omega arith;
          alike = omega arith;
          on_x_lem = gather ((R₄ - L₄) * px) ((L₃ - R₃) * qx) ((L₂ - R₂) * rx) ((R₁ - L₁) * sx) (L₄ * px) (R₃ * qx) (R₂ * rx) (L₁ * sx) (R₄ * px) (L₃ * qx) (L₂ * rx) (R₁ * sx) (over_by R₄ L₄ px d) (over_by L₃ R₃ qx c) (over_by L₂ R₂ rx b) (over_by R₁ L₁ sx a) x;
          on_y_lem = gather ((R₄ - L₄) * py) ((L₃ - R₃) * qy) ((L₂ - R₂) * ry) ((R₁ - L₁) * sy) (L₄ * py) (R₃ * qy) (R₂ * ry) (L₁ * sy) (R₄ * py) (L₃ * qy) (L₂ * ry) (R₁ * sy) (over_by R₄ L₄ py d) (over_by L₃ R₃ qy c) (over_by L₂ R₂ ry b) (over_by R₁ L₁ sy a) y;
        }

-- ---- segments on one line: an end of one lies on the other

-- a point on a segment that is no point on its x axis
on_rising : (rx ry sx sy px py : ℕ) → rx < sx → rx ≤ px → px ≤ sx → left rx ry sx sy px py ≡ right rx ry sx sy px py → (qx qy : ℕ) → Weighted px py qx qy rx ry sx sy
on_rising rx ry sx sy px py l a b e qx qy =
    go (px - rx) (sx - px) (omega arith) (omega arith)
  where
    plain : (k m rx ry sx sy px py : ℕ) → px ≡ rx + k → sx ≡ rx + (k + m) → left rx ry sx sy px py ≡ right rx ry sx sy px py → (k + m) * px ≡ m * rx + k * sx
    plain k m rx ry sx sy px py p s e = rw (p, s) (omega arith)

    plain' : (k m rx ry sx sy px py : ℕ) → px ≡ rx + k → sx ≡ rx + (k + m) → left rx ry sx sy px py ≡ right rx ry sx sy px py → (k + m) * py ≡ m * ry + k * sy
    plain' k m rx ry sx sy px py p s e =
        let f : left rx ry (rx + (k + m)) sy (rx + k) py ≡ right rx ry (rx + (k + m)) sy (rx + k) py = rw (p, s) at e in omega arith

    go : (k m : ℕ) → px ≡ rx + k → sx ≡ rx + (k + m) → Weighted px py qx qy rx ry sx sy
    go k m p s =
        record {
          v = k + m;
          w = 0;
          v' = m;
          w' = k;
          above = omega arith;
          alike = omega arith;
          on_x_lem = omega (arith, plain k m rx ry sx sy px py p s e);
          on_y_lem = omega (arith, plain' k m rx ry sx sy px py p s e);
        }

-- the same, whichever way the segment goes
record In (c a b : ℕ) : Type 0 where
  low : min a b ≤ c
  high : c ≤ max a b
  wide : min a b < max a b

on_segment : (rx ry sx sy px py : ℕ) → In px rx sx → left rx ry sx sy px py ≡ right rx ry sx sy px py → (qx qy : ℕ) → Weighted px py qx qy rx ry sx sy
on_segment rx ry sx sy px py i e qx qy = elim (le_or sx rx) [
  | inl h ↦ roles (turned (roles (on_rising sx sy rx ry px py (omega (arith, i.low, i.high, i.wide)) (omega (arith, i.low, i.high)) (omega (arith, i.low, i.high)) (omega arith) qx qy)))
  | inr h ↦ on_rising rx ry sx sy px py h (omega (arith, i.low, i.high)) (omega (arith, i.low, i.high)) e qx qy
]

-- an end of one of two intervals is in the other, where they overlap and one has a length
pick : (rx sx px qx : ℕ) → min rx sx ≤ max px qx → min px qx ≤ max rx sx → (rx ≡ sx → px ≡ qx → ⊥) → In px rx sx ⊎ (In qx rx sx ⊎ In rx px qx)
pick rx sx px qx o o' n = elim (le_or (max rx sx) (min rx sx)) [
  | inl flat ↦ inr (inr (record { low = omega arith; high = omega arith; wide = longer flat }))
  | inr wide ↦ elim (le_or (min rx sx) px) [
    | inl low ↦ elim (le_or px (max rx sx)) [
      | inl high ↦ inl (record { low = low; high = high; wide = wide })
      | inr over ↦ elim (le_or (min rx sx) qx) [
        | inl low' ↦ inr (inl (record { low = low'; high = omega arith; wide = wide }))
        | inr under ↦ inr (inr (record { low = omega arith; high = omega arith; wide = omega arith }))
      ]
    ]
    | inr under ↦ elim (le_or qx (max rx sx)) [
      | inl high ↦ inr (inl (record { low = omega arith; high = high; wide = wide }))
      | inr over ↦ inr (inr (record { low = omega arith; high = omega arith; wide = omega arith }))
    ]
  ]
]
  where
    longer : max rx sx ≤ min rx sx → min px qx < max px qx
    longer flat = elim (le_or (max px qx) (min px qx)) [
      | inl h ↦ absurd (n (omega arith) (omega arith))
      | inr h ↦ h
    ]

-- all on one line
record OnLine (px py qx qy rx ry sx sy : ℕ) : Type 0 where
  r_on : left px py qx qy rx ry ≡ right px py qx qy rx ry
  p_on : left rx ry sx sy px py ≡ right rx ry sx sy px py
  q_on : left rx ry sx sy qx qy ≡ right rx ry sx sy qx qy

along : (px py qx qy rx ry sx sy : ℕ) → min rx sx ≤ max px qx → min px qx ≤ max rx sx → (rx ≡ sx → px ≡ qx → ⊥) → OnLine px py qx qy rx ry sx sy → Weighted px py qx qy rx ry sx sy
along px py qx qy rx ry sx sy o o' n l = elim (pick rx sx px qx o o' n) [
  | inl i ↦ on_segment rx ry sx sy px py i l.p_on qx qy
  | inr j ↦ elim j [
    | inl i ↦ turned (on_segment rx ry sx sy qx qy i l.q_on px py)
    | inr i ↦ roles (on_segment px py qx qy rx ry i l.r_on sx sy)
  ]
]

pub record Overlap (px py qx qy rx ry sx sy : ℕ) : Type 0 where
  pub x₁ : min rx sx ≤ max px qx
  pub x₂ : min px qx ≤ max rx sx
  pub y₁ : min ry sy ≤ max py qy
  pub y₂ : min py qy ≤ max ry sy

-- two numbers are equal or not
same_or : (a b c d : ℕ) → ((a ≡ b) × (c ≡ d)) ⊎ (a ≡ b → c ≡ d → ⊥)
same_or a b c d = elim (le_or a b) [
  | inr h ↦ inr (λ e f. omega arith)
  | inl h ↦ elim (le_or b a) [
    | inr k ↦ inr (λ e f. omega arith)
    | inl k ↦ elim (le_or c d) [
      | inr l ↦ inr (λ e f. omega arith)
      | inl l ↦ elim (le_or d c) [
        | inr m ↦ inr (λ e f. omega arith)
        | inl m ↦ inl (omega arith, omega arith)
      ]
    ]
  ]
]

collinear : (px py qx qy rx ry sx sy : ℕ) → Overlap px py qx qy rx ry sx sy → OnLine px py qx qy rx ry sx sy → Weighted px py qx qy rx ry sx sy
collinear px py qx qy rx ry sx sy o l = elim (same_or rx sx px qx) [
  | inr n ↦ along px py qx qy rx ry sx sy o.x₁ o.x₂ n l
  | inl e ↦ elim (same_or ry sy py qy) [
    | inr n ↦ exchanged (along py px qy qx ry rx sy sx o.y₁ o.y₂ n (record { r_on = omega (arith, l.r_on); p_on = omega (arith, l.p_on); q_on = omega (arith, l.q_on) }))
    | inl f ↦ record {
      v = 1;
      w = 0;
      v' = 1;
      w' = 0;
      above = omega arith;
      alike = refl;
      on_x_lem = let a = e.0 in let b = e.1 in let c = o.x₁ in let d = o.x₂ in let g : px ≡ rx = omega arith in omega arith;
      on_y_lem = let a = f.0 in let b = f.1 in let c = o.y₁ in let d = o.y₂ in let g : py ≡ ry = omega arith in omega arith;
    }
  ]
]

-- ---- the decision

-- two points, by their sums: not both strictly on one side
pub record Straddle (L₁ R₁ L₂ R₂ : ℕ) : Type 0 where
  pub not_left : R₁ < L₁ → R₂ < L₂ → ⊥
  pub not_right : L₁ < R₁ → L₂ < R₂ → ⊥

-- where the second lies further left, the first is not left and the second not right
rise_first : (L₁ R₁ L₂ R₂ : ℕ) → Straddle L₁ R₁ L₂ R₂ → L₁ + R₂ < L₂ + R₁ → L₁ ≤ R₁
rise_first L₁ R₁ L₂ R₂ s h = elim (le_or L₁ R₁) [
  | inl k ↦ k
  | inr k ↦ absurd (s.not_left k (omega arith))
]

rise_second : (L₁ R₁ L₂ R₂ : ℕ) → Straddle L₁ R₁ L₂ R₂ → L₁ + R₂ < L₂ + R₁ → R₂ ≤ L₂
rise_second L₁ R₁ L₂ R₂ s h = elim (le_or R₂ L₂) [
  | inl k ↦ k
  | inr k ↦ absurd (s.not_right (omega arith) k)
]

swapped : {L₁ R₁ L₂ R₂ : ℕ} → Straddle L₁ R₁ L₂ R₂ → Straddle L₂ R₂ L₁ R₁
swapped s = record { not_left = λ a b. s.not_left b a; not_right = λ a b. s.not_right b a }

mirrored : {L₁ R₁ L₂ R₂ : ℕ} → Straddle L₁ R₁ L₂ R₂ → Straddle R₁ L₁ R₂ L₂
mirrored s = record { not_left = s.not_right; not_right = s.not_left }

-- where both lie as far, both are on the line
level : (L₁ R₁ L₂ R₂ : ℕ) → Straddle L₁ R₁ L₂ R₂ → L₁ + R₂ ≡ L₂ + R₁ → (L₁ ≡ R₁) × (L₂ ≡ R₂)
level L₁ R₁ L₂ R₂ s h = elim (le_or L₁ R₁) [
  | inr k ↦ absurd (s.not_left k (omega arith))
  | inl k ↦ elim (le_or R₁ L₁) [
    | inr m ↦ absurd (s.not_right m (omega arith))
    | inl m ↦ (omega arith, omega arith)
  ]
]

-- r and s, seen from the first; p and q, seen from the second
abbrev pub First : (px py qx qy rx ry sx sy : ℕ) → Type 0
First px py qx qy rx ry sx sy = Straddle (left px py qx qy rx ry) (right px py qx qy rx ry) (left px py qx qy sx sy) (right px py qx qy sx sy)

abbrev Second : (px py qx qy rx ry sx sy : ℕ) → Type 0
Second px py qx qy rx ry sx sy = First rx ry sx sy px py qx qy

-- what the one says of r and s, the other says of p and q
rise_too : (px py qx qy rx ry sx sy : ℕ) → left px py qx qy rx ry + right px py qx qy sx sy < left px py qx qy sx sy + right px py qx qy rx ry
    → left rx ry sx sy qx qy + right rx ry sx sy px py < left rx ry sx sy px py + right rx ry sx sy qx qy
rise_too px py qx qy rx ry sx sy h = omega (arith, turns px py qx qy rx ry sx sy)

level_too : (px py qx qy rx ry sx sy : ℕ) → left px py qx qy rx ry + right px py qx qy sx sy ≡ left px py qx qy sx sy + right px py qx qy rx ry
    → left rx ry sx sy px py + right rx ry sx sy qx qy ≡ left rx ry sx sy qx qy + right rx ry sx sy px py
level_too px py qx qy rx ry sx sy h = omega (arith, turns px py qx qy rx ry sx sy)

rising : (px py qx qy rx ry sx sy : ℕ) → First px py qx qy rx ry sx sy → Second px py qx qy rx ry sx sy
    → left px py qx qy rx ry + right px py qx qy sx sy < left px py qx qy sx sy + right px py qx qy rx ry → Weighted px py qx qy rx ry sx sy
rising px py qx qy rx ry sx sy a b h =
    let k = rise_too px py qx qy rx ry sx sy h in
    crossing px py qx qy rx ry sx sy (rise_first _ _ _ _ a h) (rise_second _ _ _ _ a h) (rise_second _ _ _ _ (swapped b) k) (rise_first _ _ _ _ (swapped b) k) h

-- turned round, left and right change places
back : (px py qx qy rx ry : ℕ) → (left qx qy px py rx ry ≡ right px py qx qy rx ry) × (right qx qy px py rx ry ≡ left px py qx qy rx ry)
back px py qx qy rx ry = (omega arith, omega arith)

-- boxes that overlap, and no segment with both ends of the other on one side
pub yes : (px py qx qy rx ry sx sy : ℕ) → Overlap px py qx qy rx ry sx sy → First px py qx qy rx ry sx sy → Second px py qx qy rx ry sx sy → Weighted px py qx qy rx ry sx sy
yes px py qx qy rx ry sx sy o a b = elim (le_or (left px py qx qy sx sy + right px py qx qy rx ry) (left px py qx qy rx ry + right px py qx qy sx sy)) [
  | inr h ↦ rising px py qx qy rx ry sx sy a b h
  | inl h ↦ elim (le_or (left px py qx qy rx ry + right px py qx qy sx sy) (left px py qx qy sx sy + right px py qx qy rx ry)) [
    | inr k ↦
        let u = back px py qx qy rx ry in
        let w = back px py qx qy sx sy in
        turned (rising qx qy px py rx ry sx sy (rw (u.0, u.1, w.0, w.1) (mirrored a)) (swapped b) (rw (u.0, u.1, w.0, w.1) (other _ _ _ _ k)))
    | inl k ↦
        let e : left px py qx qy rx ry + right px py qx qy sx sy ≡ left px py qx qy sx sy + right px py qx qy rx ry = both _ _ k h in
        let f = level _ _ _ _ a e in
        let g = level _ _ _ _ b (level_too px py qx qy rx ry sx sy e) in
        collinear px py qx qy rx ry sx sy o (record { r_on = f.0; p_on = g.0; q_on = g.1 })
  ]
]
  where
    both : (m n : ℕ) → m ≤ n → n ≤ m → m ≡ n
    both m n h k = omega arith

    other : (L₁ R₁ L₂ R₂ : ℕ) → L₂ + R₁ < L₁ + R₂ → R₁ + L₂ < R₂ + L₁
    other L₁ R₁ L₂ R₂ h = omega arith

-- ---- and what two segments with a common point have

pub overlap_of : {px py qx qy rx ry sx sy : ℕ} → Weighted px py qx qy rx ry sx sy → Overlap px py qx qy rx ry sx sy
overlap_of {px} {py} {qx} {qy} {rx} {ry} {sx} {sy} h =
    record {
      x₁ = unless_gap px qx rx sx h.v h.w h.v' h.w' h.above h.alike h.on_x_lem;
      x₂ = let r = roles h in unless_gap rx sx px qx r.v r.w r.v' r.w' r.above r.alike r.on_x_lem;
      y₁ = unless_gap py qy ry sy h.v h.w h.v' h.w' h.above h.alike h.on_y_lem;
      y₂ = let r = roles h in unless_gap ry sy py qy r.v r.w r.v' r.w' r.above r.alike r.on_y_lem;
    }
  where
    unless_gap : (a b c d v w v' w' : ℕ) → 0 < v + w → v + w ≡ v' + w' → v * a + w * b ≡ v' * c + w' * d → min c d ≤ max a b
    unless_gap a b c d v w v' w' h e f = elim (le_or (min c d) (max a b)) [
      | inl k ↦ k
      | inr k ↦ absurd (no_gap v w v' w' a b c d h e f k)
    ]

pub straddles : {px py qx qy rx ry sx sy : ℕ} → Weighted px py qx qy rx ry sx sy → First px py qx qy rx ry sx sy
straddles {px} {py} {qx} {qy} {rx} {ry} {sx} {sy} h =
    record {
      not_left = none_left h;
      not_right = λ a b.
          let u = back px py qx qy rx ry in
          let w = back px py qx qy sx sy in
          none_left (turned h) (rw (u.0, u.1) a) (rw (w.0, w.1) b);
    }

-- The boxes of two segments that share an exact point overlap: on each axis the point lies between the sides of both. So a pair that shares a cell for a
-- common point is not only tested but handed out. Assumes nothing.
use mathlib.Core.Path.{◌≡◌, refl, sym, ap, ap₂, ◌∙◌}
use mathlib.Core.Logic.{inl, inr}
use mathlib.Core.Bool.{Bool, true, false, true≢false}
use Prim.Native.Nat.{ℕ, ◌+◌, ◌*◌, ◌≤◌, ◌<◌}
use native.Mathlib.Nat.{mul_comm, mul_assoc, mul_left_comm, add-mul, mul-add, mul-lt-mul_of_pos_right, mul-pos}
use native.Mathlib.Omega.{arith}
use lib.IntN.{ℤ}
use lib.Dec.{T}
use lib.Ieee.{Float, nan, inf, fin, lt, le}
use lib.Ieee.Scale.{finite}
use lib.Ieee.Positive.{den, den_pos}
use Rattle.slices.proofs.Laws.{le_or}
use Rattle.numbers.specs.Order.{least_of, greatest_of}
use Rattle.numbers.proofs.FloatOrder.{plus, minus, le→cross, cross→le, at_most, not_under, finite_number}
use Rattle.numbers.proofs.Extremes.{least_one, greatest_one, least_under, greatest_over}
use Rattle.grid.specs.declared.Segment.{Segment}
use Rattle.grid.specs.Boxes.{box_of, overlaps}
use Rattle.grid.specs.Points.{Exactly, SharePoint}
use Rattle.cover.proofs.Offsets.{mean_p, mean_n, mean_d, spread_le}
use Rattle.cover.proofs.Meeting.{Same}
use Rattle.cover.proofs.WholePoints.{meet_of}

-- ---- one axis

pub exact_finite : (x : Float) (z : ℤ) (n : ℕ) → Exactly x z n → T (finite x)
exact_finite nan z n h = absurd h
exact_finite (inf s) z n h = absurd h
exact_finite (fin s m e) z n h = tt

-- a value below another, by fractions
strictly : (m n : Float) → T (finite m) → T (finite n) → lt m n ≡ true → plus m * den n + minus n * den m < plus n * den m + minus m * den n
strictly m n p q h = elim (le_or (plus n * den m + minus m * den n) (plus m * den n + minus n * den m)) [
  | inl k ↦ absurd (true≢false (sym h ∙ not_under n m (cross→le n m q p k)))
  | inr k ↦ k
]

spread_lt : (a b c d k : ℕ) → 0 < k → a + b < c + d → a * k + b * k < c * k + d * k
spread_lt a b c d k K h = let t : (a + b) * k < (c + d) * k = mul-lt-mul_of_pos_right h K in omega arith

pub spread_eq : (a b c d k : ℕ) → a + b ≡ c + d → a * k + b * k ≡ c * k + d * k
spread_eq a b c d k h = let t : (a + b) * k ≡ (c + d) * k = ap (λ (z : ℕ). z * k) h in omega arith

-- the parts of a point with the weights v and w, and of a value that it is compared with
module _ (v w dx dy : ℕ) where
  ends_two : (s t dm : ℕ) → (v * (s * dy) + w * (t * dx)) * dm ≡ s * dm * (v * dy) + t * dm * (w * dx)
  ends_two s t dm =
      let p : v * (s * dy) * dm ≡ s * dm * (v * dy) = simp (mul_assoc, mul_comm, mul_left_comm) in
      let q : w * (t * dx) * dm ≡ t * dm * (w * dx) = simp (mul_assoc, mul_comm, mul_left_comm) in
      add-mul (v * (s * dy)) (w * (t * dx)) dm ∙ ap₂ (λ (y z : ℕ). y + z) p q

  value_two : (m : ℕ) → m * ((v + w) * (dx * dy)) ≡ m * dx * (v * dy) + m * dy * (w * dx)
  value_two m =
      let p : m * (v * (dx * dy)) ≡ m * dx * (v * dy) = simp (mul_assoc, mul_comm, mul_left_comm) in
      let q : m * (w * (dx * dy)) ≡ m * dy * (w * dx) = simp (mul_assoc, mul_comm, mul_left_comm) in
      ap (λ (z : ℕ). m * z) (add-mul v w (dx * dy)) ∙ mul-add m (v * (dx * dy)) (w * (dx * dy)) ∙ ap₂ (λ (y z : ℕ). y + z) p q

both_le : (a b c d a' b' c' d' A B C D : ℕ) → a + b ≤ c + d → a' + b' ≤ c' + d' → A ≡ a + a' → B ≡ b + b' → C ≡ c + c' → D ≡ d + d' → A + B ≤ C + D
both_le a b c d a' b' c' d' A B C D h k e f g i = omega arith

-- the point with the weights v and w of x and y is at most what both are at most, and at least what both are at least
module _ (v w px lx dx py ly dy pm lm dm : ℕ) where
  abbrev P : ℕ
  P = v * (px * dy) + w * (py * dx)

  abbrev N : ℕ
  N = v * (lx * dy) + w * (ly * dx)

  abbrev D : ℕ
  D = (v + w) * (dx * dy)

  pub mean_most : px * dm + lm * dx ≤ pm * dx + lx * dm → py * dm + lm * dy ≤ pm * dy + ly * dm → P * dm + lm * D ≤ pm * D + N * dm
  mean_most a b =
      both_le (px * dm * (v * dy)) (lm * dx * (v * dy)) (pm * dx * (v * dy)) (lx * dm * (v * dy)) (py * dm * (w * dx)) (lm * dy * (w * dx)) (pm * dy * (w * dx)) (ly * dm * (w * dx)) (P * dm) (lm * D) (pm * D) (N * dm)
      (spread_le (px * dm) (lm * dx) (pm * dx) (lx * dm) (v * dy) a) (spread_le (py * dm) (lm * dy) (pm * dy) (ly * dm) (w * dx) b)
      (ends_two v w dx dy px py dm) (value_two v w dx dy lm) (value_two v w dx dy pm) (ends_two v w dx dy lx ly dm)

  pub mean_least : pm * dx + lx * dm ≤ px * dm + lm * dx → pm * dy + ly * dm ≤ py * dm + lm * dy → pm * D + N * dm ≤ P * dm + lm * D
  mean_least a b =
      both_le (pm * dx * (v * dy)) (lx * dm * (v * dy)) (px * dm * (v * dy)) (lm * dx * (v * dy)) (pm * dy * (w * dx)) (ly * dm * (w * dx)) (py * dm * (w * dx)) (lm * dy * (w * dx)) (pm * D) (N * dm) (P * dm) (lm * D)
      (spread_le (pm * dx) (lx * dm) (px * dm) (lm * dx) (v * dy) a) (spread_le (pm * dy) (ly * dm) (py * dm) (lm * dy) (w * dx) b)
      (value_two v w dx dy pm) (ends_two v w dx dy lx ly dm) (ends_two v w dx dy px py dm) (value_two v w dx dy lm)

-- P / D is at most m, which is below n, which is at most P' / D'; but these two are the same
in_line : (x l p n q m y r x' l' p' n' q' m' y' r' : ℕ) → x + l ≤ p + n → q + m ≤ y + r → p' + r' < q' + l' → x' + m' ≡ y' + n' → x ≡ x' → l ≡ l' → p ≡ p' → n ≡ n' → q ≡ q' → m ≡ m' → y ≡ y' → r ≡ r' → ⊥
in_line x l p n q m y r x' l' p' n' q' m' y' r' a b c e h1 h2 h3 h4 h5 h6 h7 h8 = omega arith

no_room : (P N D P' N' D' pm lm dm pn ln dn : ℕ) → 0 < D → 0 < D' → P * dm + lm * D ≤ pm * D + N * dm → pn * D' + N' * dn ≤ P' * dn + ln * D' → pm * dn + ln * dm < pn * dm + lm * dn
    → P * D' + N' * D ≡ P' * D + N * D' → ⊥
no_room P N D P' N' D' pm lm dm pn ln dn X X' a b c e =
    in_line (P * dm * (D' * dn)) (lm * D * (D' * dn)) (pm * D * (D' * dn)) (N * dm * (D' * dn)) (pn * D' * (D * dm)) (N' * dn * (D * dm)) (P' * dn * (D * dm)) (ln * D' * (D * dm))
    (P * D' * (dm * dn)) (lm * dn * (D * D')) (pm * dn * (D * D')) (N * D' * (dm * dn)) (pn * dm * (D * D')) (N' * D * (dm * dn)) (P' * D * (dm * dn)) (ln * dm * (D * D'))
    (spread_le (P * dm) (lm * D) (pm * D) (N * dm) (D' * dn) a) (spread_le (pn * D') (N' * dn) (P' * dn) (ln * D') (D * dm) b)
    (spread_lt (pm * dn) (ln * dm) (pn * dm) (lm * dn) (D * D') (mul-pos X X') c) (spread_eq (P * D') (N' * D) (P' * D) (N * D') (dm * dn) e)
    (simp (mul_assoc, mul_comm, mul_left_comm)) (simp (mul_assoc, mul_comm, mul_left_comm)) (simp (mul_assoc, mul_comm, mul_left_comm)) (simp (mul_assoc, mul_comm, mul_left_comm))
    (simp (mul_assoc, mul_comm, mul_left_comm)) (simp (mul_assoc, mul_comm, mul_left_comm)) (simp (mul_assoc, mul_comm, mul_left_comm)) (simp (mul_assoc, mul_comm, mul_left_comm))

module _ (x y x' y' : Float) (fx : T (finite x)) (fy : T (finite y)) (fx' : T (finite x')) (fy' : T (finite y')) (v w v' w' : ℕ) (Q : 0 < v + w) (Q' : 0 < v' + w') (s : Same v w x y v' w' x' y') where
  abbrev most : Float
  most = greatest_of x y

  abbrev least : Float
  least = least_of x' y'

  most_fine : T (finite most)
  most_fine = greatest_one (λ (z : Float). T (finite z)) x y fx fy

  least_fine : T (finite least)
  least_fine = least_one (λ (z : Float). T (finite z)) x' y' fx' fy'

  -- the least of one is at most the greatest of the other
  beside : le least most ≡ true
  beside = go (lt most least) refl
    where
      holds : (b : Bool) → T b → b ≡ true
      holds true t = refl
      holds false t = absurd t

      over : T (le x most) × T (le y most)
      over = greatest_over x y (finite_number x fx) (finite_number y fy)

      under : T (le least x') × T (le least y')
      under = least_under x' y' (finite_number x' fx') (finite_number y' fy')

      apart : lt most least ≡ true → ⊥
      apart h =
          no_room (mean_p v w x y) (mean_n v w x y) (mean_d v w x y) (mean_p v' w' x' y') (mean_n v' w' x' y') (mean_d v' w' x' y') (plus most) (minus most) (den most) (plus least) (minus least) (den least)
          (mul-pos Q (mul-pos (den_pos x) (den_pos y))) (mul-pos Q' (mul-pos (den_pos x') (den_pos y')))
          (mean_most v w (plus x) (minus x) (den x) (plus y) (minus y) (den y) (plus most) (minus most) (den most) (le→cross x most fx most_fine over.0) (le→cross y most fy most_fine over.1))
          (mean_least v' w' (plus x') (minus x') (den x') (plus y') (minus y') (den y') (plus least) (minus least) (den least) (le→cross least x' least_fine fx' under.0) (le→cross least y' least_fine fy' under.1))
          (strictly most least most_fine least_fine h) s.is

      go : (b : Bool) → lt most least ≡ b → le least most ≡ true
      go true h = absurd (apart h)
      go false h = holds (le least most) (at_most least most (finite_number least least_fine) (finite_number most most_fine) h)

-- the other way round
turned : (v w : ℕ) (x y : Float) (v' w' : ℕ) (x' y' : Float) → Same v w x y v' w' x' y' → Same v' w' x' y' v w x y
turned v w x y v' w' x' y' s = record { is = sym s.is }

-- ---- the boxes

pub share_overlap : (l k : Segment) → SharePoint l k → overlaps (box_of l) (box_of k) ≡ true
unfolding overlaps box_of
share_overlap l k p =
    let m = meet_of l k p in
    let i = p.s_is in
    let j = p.t_is in
    let a = exact_finite l.start_x p.s.start_x p.n i.«start_x» in
    let b = exact_finite l.end_x p.s.end_x p.n i.«end_x» in
    let c = exact_finite l.start_y p.s.start_y p.n i.«start_y» in
    let d = exact_finite l.end_y p.s.end_y p.n i.«end_y» in
    let a' = exact_finite k.start_x p.t.start_x p.n j.«start_x» in
    let b' = exact_finite k.end_x p.t.end_x p.n j.«end_x» in
    let c' = exact_finite k.start_y p.t.start_y p.n j.«start_y» in
    let d' = exact_finite k.end_y p.t.end_y p.n j.«end_y» in
    let x = beside l.start_x l.end_x k.start_x k.end_x a b a' b' m.v m.w m.v' m.w' m.some m.some' m.on_x_lem in
    let x' = beside k.start_x k.end_x l.start_x l.end_x a' b' a b m.v' m.w' m.v m.w m.some' m.some (turned m.v m.w l.start_x l.end_x m.v' m.w' k.start_x k.end_x m.on_x_lem) in
    let y = beside l.start_y l.end_y k.start_y k.end_y c d c' d' m.v m.w m.v' m.w' m.some m.some' m.on_y_lem in
    let y' = beside k.start_y k.end_y l.start_y l.end_y c' d' c d m.v' m.w' m.v m.w m.some' m.some (turned m.v m.w l.start_y l.end_y m.v' m.w' k.start_y k.end_y m.on_y_lem) in
    rw (x, x', y, y')

-- The turns of a line that keeps to one coordinate: each moves it by one on the other axis, toward its end, until it is there. `v` says which axis it
-- keeps to: x where it is true. Assumes nothing.
use mathlib.Core.Path.{◌≡◌, refl, ap, ◌∙◌}
use Prim.Native.Nat.{ℕ, zero, suc, ◌+◌, ◌-◌, ◌*◌, ◌^◌, ◌≤◌, ◌<◌}
use native.Mathlib.Omega.{arith}
use mathlib.Core.Bool.{Bool, true, false, not, cond, and-true}
use mathlib.Core.Logic.{inl, inr}
use mathlib.Core.List.{List, [], ◌∷◌, ◌++◌, map}
use lib.IntN.{ℤ, pos, negsuc, pred_ℤ, ◌+ℤ◌, +ℤ_one, -ℤ_one}
use lib.Dec.{eqb}
use lib.Ieee.{Float, nan, inf, fin, binary64, add, mul, lt}
use borrow.Author.Tests.{lt-ltb, eq-eqb, ne_eqb}
use Rattle.numbers.specs.Arithmetic.{decimal}
use Rattle.numbers.specs.Order.{least_of, greatest_of, magnitude_of}
use Rattle.refusals.specs.Refusals.{gives, ◌into◌}
use Rattle.turns.specs.Turns.{one, infinite, Stride, Progress, Ray, State, tolerance_of, stop, single, further_of, same_int, arrived_of, turn_of, advanced, moved_of, goes_of}
use Rattle.turns.specs.Pushes.{kept_if, push_of, sides_of, pushed_of, before, followed_by, next_of, going_of, turns, walked_of}
use Rattle.turns.proofs.Tolerance.{top_first, top_last, constant}
use Rattle.turns.proofs.Loop.{near_far}

-- ---- an infinite t_max makes the tolerance infinite: no stop, and no move both ways

none_above : (w : Float) → lt infinite w ≡ false
unfolding lt
none_above nan = refl
none_above (inf s) = refl
none_above (fin s m e) = refl

-- above infinity there is nothing
unending : add binary64 one (mul binary64 (fin false 1 (negsuc 48)) infinite) ≡ infinite
unfolding mul add
unending = refl

endless : (tx ty : Float) → greatest_of (greatest_of (magnitude_of tx) (magnitude_of ty)) one ≡ infinite → add binary64 one (tolerance_of tx ty) ≡ infinite
unfolding tolerance_of
endless tx ty h =
    ap (λ (g : Float). add binary64 one (mul binary64 (mul binary64 (decimal 8 1) (decimal 1 (2 ^ 52))) g)) h
    ∙ ap (λ (k : Float). add binary64 one (mul binary64 k infinite)) constant
    ∙ unending

module _ (t : Float) where
  further_y : further_of infinite t ≡ single false
  unfolding further_of magnitude_of
  further_y =
      rw (
        endless infinite t (ap (λ (z : Float). greatest_of z one) (top_first (magnitude_of t)) ∙ top_first one),
        none_above (least_of infinite t),
        near_far infinite t (tolerance_of infinite t) (inl refl),
        none_above t,
      )

  further_x : lt t infinite ≡ true → further_of t infinite ≡ single true
  unfolding further_of magnitude_of
  further_x h =
      rw (
        endless t infinite (ap (λ (z : Float). greatest_of z one) (top_last (magnitude_of t)) ∙ top_first one),
        none_above (least_of t infinite),
        near_far t infinite (tolerance_of t infinite) (inr refl),
        h,
      )

-- ---- both axes, by the one that the line keeps to

abbrev pub state_by : Bool → Progress → Progress → State
state_by true held run = record { x = held; y = run }
state_by false held run = record { x = run; y = held }

abbrev pub ray_by : Bool → Stride → Stride → Ray
ray_by true held run = record { x = held; y = run }
ray_by false held run = record { x = run; y = held }

-- the number of the cell with the index i on the axis that the line keeps to, and j on the other
abbrev pub cell_by : Bool → ℕ → ℕ → ℕ → ℕ
cell_by true cols i j = j * cols + i
cell_by false cols i j = i * cols + j

abbrev pub Inside : Bool → ℕ → ℕ → ℕ → ℕ → Type 0
Inside true cols rows i j = (i < cols) × (j < rows)
Inside false cols rows i j = (j < cols) × (i < rows)

abbrev pub push_by : Bool → ℕ → ℕ → ℤ → ℤ → List ℕ
push_by true cols rows i j = push_of cols rows i j
push_by false cols rows i j = push_of cols rows j i

push_is : (v : Bool) (cols rows i j : ℕ) → Inside v cols rows i j → push_by v cols rows (pos i) (pos j) ≡ (cell_by v cols i j ∷ [])
unfolding push_of kept_if
push_is true cols rows i j h = rw (lt-ltb i cols h.0, lt-ltb j rows h.1)
push_is false cols rows i j h = rw (lt-ltb j cols h.0, lt-ltb i rows h.1)

-- ---- the way to the end: n moves up, or down

-- one index further
abbrev pub beyond : Bool → ℕ → ℕ
beyond true j = suc j
beyond false j = j - 1

abbrev pub step_by : Bool → ℤ
step_by true = pos 1
step_by false = negsuc 0

-- e is n moves from j
abbrev pub Ahead : Bool → ℕ → ℕ → ℕ → Type 0
Ahead true n j e = e ≡ j + n
Ahead false n j e = j ≡ e + n

-- the indices that the moves come to
unfoldable pub path : Bool → ℕ → ℕ → List ℕ
path up zero j = []
path up (suc n) j = beyond up j ∷ path up n (beyond up j)

-- all that is walked: the start, the moves, and the end again
abbrev pub stops : Bool → ℕ → ℕ → ℕ → List ℕ
stops up n j e = j ∷ (path up n j ++ (e ∷ []))

module _ (n j e : ℕ) where
  ahead_next : (up : Bool) → Ahead up (suc n) j e → Ahead up n (beyond up j) e
  ahead_next true h = omega arith
  ahead_next false h = omega arith

  ahead_not : (up : Bool) → Ahead up (suc n) j e → eqb j e ≡ false
  ahead_not true h = ne_eqb j e (λ k. omega arith)
  ahead_not false h = ne_eqb j e (λ k. omega arith)

  ahead_within : (up : Bool) (c : ℕ) → Ahead up (suc n) j e → j < c → e < c → beyond up j < c
  ahead_within true c h k l = omega arith
  ahead_within false c h k l = omega arith

  ahead_step : (up : Bool) → Ahead up (suc n) j e → pos j +ℤ step_by up ≡ pos (beyond up j)
  ahead_step true h = +ℤ_one (pos j)
  ahead_step false h = -ℤ_one (pos j) ∙ go j (omega arith)
    where
      go : (k : ℕ) → 0 < k → pred_ℤ (pos k) ≡ pos (k - 1)
      go zero l = absurd (omega arith)
      go (suc k) l = let d : k ≡ suc k - 1 = omega arith in ap pos d

ahead_none : (up : Bool) (j e : ℕ) → Ahead up 0 j e → eqb j e ≡ true
ahead_none true j e h = eq-eqb j e (omega arith)
ahead_none false j e h = eq-eqb j e (omega arith)

-- ---- one turn

-- the line keeps to the index i, and goes to e
abbrev pub along : Bool → ℕ → ℕ → ℤ → Float → ℤ → Float → Ray
along v i e hs hd step delta = ray_by v (record { step = hs; t_delta = hd; end = pos i }) (record { step = step; t_delta = delta; end = pos e })

abbrev pub at : Bool → ℕ → ℤ → Float → State
at v i z t = state_by v (record { index = pos i; t_max = infinite }) (record { index = z; t_max = t })

module _ (i e : ℕ) (hs : ℤ) (hd : Float) (step : ℤ) (delta : Float) (j : ℕ) (t : Float) where
  arrived_is : (v : Bool) → arrived_of (along v i e hs hd step delta) (at v i (pos j) t) ≡ eqb j e
  unfolding arrived_of same_int
  arrived_is true = rw (eq-eqb i i refl)
  arrived_is false = rw (eq-eqb i i refl) (and-true (eqb j e))

  -- the line is there, or moves on the axis along which it goes; t_max is asked only of a horizontal line
  turn_is : (v : Bool) → (v ≡ false → lt t infinite ≡ true) → turn_of (along v i e hs hd step delta) (at v i (pos j) t) ≡ cond (eqb j e) stop (single (not v))
  unfolding turn_of
  turn_is true h = rw (arrived_is true, further_y t)
  turn_is false h = rw (arrived_is false, further_x t (h refl))

  there : (v : Bool) → eqb j e ≡ true → going_of (along v i e hs hd step delta) (at v i (pos j) t) ≡ false
  unfolding going_of turn_of goes_of
  there v h = rw (arrived_is v, h)

  module _ (v : Bool) (fine : v ≡ false → lt t infinite ≡ true) (off : eqb j e ≡ false) where
    turned : turn_of (along v i e hs hd step delta) (at v i (pos j) t) ≡ single (not v)
    turned = turn_is v fine ∙ rw off

    goes_on : going_of (along v i e hs hd step delta) (at v i (pos j) t) ≡ true
    unfolding going_of goes_of
    goes_on = rw turned (go v)
      where
        go : (v : Bool) → cond (not v) true (not (not v)) ≡ true
        go true = refl
        go false = refl

    next_is : next_of (along v i e hs hd step delta) (at v i (pos j) t) ≡ at v i (pos j +ℤ step) (add binary64 t delta)
    unfolding next_of moved_of advanced
    next_is = rw turned (go v)
      where
        go : (v : Bool) → moved_of (single (not v)) (along v i e hs hd step delta) (at v i (pos j) t) ≡ at v i (pos j +ℤ step) (add binary64 t delta)
        go true = refl
        go false = refl

    pushes : (cols rows : ℕ) → pushed_of (turn_of (along v i e hs hd step delta) (at v i (pos j) t)) cols rows (along v i e hs hd step delta) (at v i (pos j) t)
        ≡ push_by v cols rows (pos i) (pos j +ℤ step)
    unfolding pushed_of sides_of moved_of advanced
    pushes cols rows = rw turned (go v)
      where
        go : (v : Bool) → pushed_of (single (not v)) cols rows (along v i e hs hd step delta) (at v i (pos j) t) ≡ push_by v cols rows (pos i) (pos j +ℤ step)
        go true = refl
        go false = refl

-- ---- all turns

-- t_max stays finite through n moves
abbrev pub Finite : ℕ → Float → Float → Type 0
Finite zero t delta = Unit {0}
Finite (suc n) t delta = (lt t infinite ≡ true) × Finite n (add binary64 t delta) delta

joined : (c : ℕ) (cs : List ℕ) → before (c ∷ []) (gives cs) ≡ gives (c ∷ cs)
unfolding before ◌into◌
joined c cs = refl

inside_at : (v : Bool) (cols rows i j k : ℕ) → Inside v cols rows i j → Inside v cols rows i k → (up : Bool) (n : ℕ) → Ahead up (suc n) j k
    → Inside v cols rows i (beyond up j)
inside_at true cols rows i j k a b up n h = (a.0, ahead_within n j k up rows h a.1 b.1)
inside_at false cols rows i j k a b up n h = (ahead_within n j k up cols h a.0 b.0, a.1)

module _ (v : Bool) (cols rows i e : ℕ) (hs : ℤ) (hd : Float) (step : ℤ) (delta : Float) (up : Bool) (last : Inside v cols rows i e) where
  ray : Ray
  ray = along v i e hs hd step delta

  stopped : (left : ℕ) (s : State) → going_of ray s ≡ false → turns left cols rows ray s ≡ gives []
  unfolding turns
  stopped zero s h = rw h
  stopped (suc left) s h = rw h

  more : (left : ℕ) (s : State) → going_of ray s ≡ true → turns (suc left) cols rows ray s ≡ before (pushed_of (turn_of ray s) cols rows ray s) (turns left cols rows ray (next_of ray s))
  unfolding turns
  more left s h = rw h

  turned_all : (n left j : ℕ) (t : Float) → n ≤ left → (0 < n → step ≡ step_by up) → Ahead up n j e → Inside v cols rows i j → (v ≡ false → Finite n t delta)
      → turns left cols rows ray (at v i (pos j) t) ≡ gives (map (cell_by v cols i) (path up n j))
  unfolding ray path
  turned_all zero left j t l s a k f = stopped left (at v i (pos j) t) (there i e hs hd step delta j t v (ahead_none up j e a))
  turned_all (suc n) zero j t l s a k f = absurd (omega arith)
  turned_all (suc n) (suc left) j t l s a k f =
      let w = at v i (pos j) t in
      let fine : v ≡ false → lt t infinite ≡ true = λ h. (f h).0 in
      let off = ahead_not n j e up a in
      let z : pos j +ℤ step ≡ pos (beyond up j) = ap (λ (x : ℤ). pos j +ℤ x) (s (omega arith)) ∙ ahead_step n j e up a in
      let p : pushed_of (turn_of ray w) cols rows ray w ≡ (cell_by v cols i (beyond up j) ∷ []) =
      pushes i e hs hd step delta j t v fine off cols rows ∙ ap (push_by v cols rows (pos i)) z ∙ push_is v cols rows i (beyond up j)
      (inside_at v cols rows i j e k last up n a) in
      let q : next_of ray w ≡ at v i (pos (beyond up j)) (add binary64 t delta) =
      next_is i e hs hd step delta j t v fine off ∙ ap (λ (x : ℤ). at v i x (add binary64 t delta)) z in
      more left w (goes_on i e hs hd step delta j t v fine off)
      ∙ rw (p, q)
      (ap (before (cell_by v cols i (beyond up j) ∷ []))
      (turned_all n left (beyond up j) (add binary64 t delta) (omega arith) (λ h. s (omega arith)) (ahead_next n j e up a)
      (inside_at v cols rows i j e k last up n a) (λ h. (f h).1))
      ∙ joined (cell_by v cols i (beyond up j)) (map (cell_by v cols i) (path up n (beyond up j))))

  -- the whole walk, from j
  pub walked_all : (n j : ℕ) (t : Float) → n ≤ 5000 → (0 < n → step ≡ step_by up) → Ahead up n j e → Inside v cols rows i j → (v ≡ false → Finite n t delta)
      → walked_of cols rows (along v i e hs hd step delta) (at v i (pos j) t) ≡ gives (map (cell_by v cols i) (stops up n j e))
  unfolding walked_of ray before followed_by ◌into◌
  walked_all n j t l s a k f =
      let w = at v i (pos j) t in
      let q = along v i e hs hd step delta in
      let first : push_of cols rows w.x.index w.y.index ≡ (cell_by v cols i j ∷ []) = by_axis v (pos i) (pos j) infinite t ∙ push_is v cols rows i j k in
      let final : push_of cols rows q.x.end q.y.end ≡ (cell_by v cols i e ∷ []) = by_end v ∙ push_is v cols rows i e last in
      rw (first, final, turned_all n 5000 j t l s a k f) (ap (λ (c : List ℕ). gives (cell_by v cols i j ∷ c)) (mapped (path up n j)))
    where
      by_axis : (v : Bool) (a b : ℤ) (x y : Float)
          → push_of cols rows (state_by v (record { index = a; t_max = x }) (record { index = b; t_max = y })).x.index
          (state_by v (record { index = a; t_max = x }) (record { index = b; t_max = y })).y.index ≡ push_by v cols rows a b
      by_axis true a b x y = refl
      by_axis false a b x y = refl

      by_end : (v : Bool) → push_of cols rows (along v i e hs hd step delta).x.end (along v i e hs hd step delta).y.end ≡ push_by v cols rows (pos i) (pos e)
      by_end true = refl
      by_end false = refl

      mapped : (js : List ℕ) → (map (cell_by v cols i) js ++ (cell_by v cols i e ∷ [])) ≡ map (cell_by v cols i) (js ++ (e ∷ []))
      mapped [] = refl
      mapped (x ∷ js) = ap (λ (c : List ℕ). cell_by v cols i x ∷ c) (mapped js)

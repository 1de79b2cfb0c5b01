-- From what the floats of a line say to its answer: the cells that the sentence describes. Assumes nothing.
use mathlib.Core.Path.{◌≡◌, refl, sym, ap, ◌∙◌}
use Prim.Native.Nat.{ℕ, ◌*◌, ◌≤◌, ◌<◌}
use native.Mathlib.Nat.{le_trans}
use native.Mathlib.Omega.{arith}
use mathlib.Core.Bool.{Bool, true, false, cond, ◌&&◌, ◌||◌}
use mathlib.Core.Logic.{◌⊎◌, inl, inr}
use mathlib.Core.List.{List, map}
use lib.IntN.{pos}
use lib.Dec.{leb, ltb, eqb}
use lib.Ieee.{Float, binary64, sub, eq}
use borrow.Author.Tests.{ltb-true, ltb-false, leb-true, le-leb, eqb-true, eq-eqb}
use Rattle.slices.specs.Slices.{sorted, distinct_of}
use Rattle.slices.specs.Lists.{any, elem, Rising}
use Rattle.slices.proofs.Members.{any_append, elem_one_of_each, below_elem}
use Rattle.slices.proofs.Laws.{le_or}
use Rattle.slices.proofs.Distinct.{one_of_each_rising, rising_members}
use Rattle.refusals.specs.Refusals.{gives, ◌into◌}
use Rattle.grid.specs.declared.Axis.{Axis}
use Rattle.grid.specs.declared.Grid.{Grid}
use Rattle.grid.specs.declared.Segment.{Segment}
use Rattle.grid.specs.Axes.{x_axis, y_axis, index_on, side_on}
use Rattle.grid.specs.Domain.{shape}
use Rattle.grid.proofs.Bools.{and_left, and_right, and_both, or_says, both_ways, or_left, or_right}
use Rattle.grid.proofs.Shapes.{Shape, shape_says}
use Rattle.walk.specs.declared.Mode.{Mode}
use Rattle.walk.specs.declared.Neighbour.{Neighbour}
use Rattle.walk.specs.declared.Neighbour.TheVariants.{None}
use Rattle.turns.specs.Turns.{nought, sign_of, delta_of, first_on, stride_on, progress_on, Ray, ray_of, start_of}
use Rattle.turns.specs.Pushes.{walked_of}
use Rattle.walk.specs.Neighbours.{neighbour_on, along_on, beside_of, line_of, cell_of, endpoint_of}
use Rattle.walk.specs.Segment.{pushes_of, answered, turning, segment_of}
use Rattle.turns.proofs.Floats.{index_le}
use Rattle.walk.proofs.Flat.{any_flat}
use Rattle.turns.proofs.Few.{first_far}
use Rattle.walk.proofs.Answer.{segment_is}
use Rattle.walk.proofs.Visits.{turns_visit}
use Rattle.straight.specs.Sentence.{between, next_to, beside_on, sentence, vertical_by, horizontal_by, vertical_in, horizontal_in}
use Rattle.straight.proofs.Walking.{state_by, ray_by, cell_by, Inside, step_by, Ahead, stops, along, at, Finite, walked_all}
use Rattle.straight.proofs.Listed.{held_index, run_index, beside_by, adds, cell_by_lem, beside_by_lem, stops_are, any_map, any_same, any_and, any_adds, any_one, any_none, pushed_said, those_rising, those_are}

-- ---- a line by the axis that it keeps to

abbrev pub held_of : Bool → Grid → Axis
held_of true g = x_axis g
held_of false g = y_axis g

abbrev pub run_of : Bool → Grid → Axis
run_of true g = y_axis g
run_of false g = x_axis g

abbrev pub held_start : Bool → Segment → Float
held_start true line = line.start_x
held_start false line = line.start_y

abbrev pub held_end : Bool → Segment → Float
held_end true line = line.end_x
held_end false line = line.end_y

abbrev pub run_start : Bool → Segment → Float
run_start true line = line.start_y
run_start false line = line.start_x

abbrev pub run_end : Bool → Segment → Float
run_end true line = line.end_y
run_end false line = line.end_x

abbrev pub cells_by : Mode → Bool → Grid → Segment → List ℕ
cells_by mode true g line = vertical_in mode g line
cells_by mode false g line = horizontal_in mode g line

abbrev difference : Float → Float → Float
difference start end = sub binary64 end start

-- what the floats say: on the axis that the line keeps to nothing changes; on the other its end is n moves ahead, in the sign of d
pub record Keeps (a : Axis) (start end : Float) : Type 0 where
  pub none : eq (difference start end) nought ≡ true
  pub index : index_on a start ≡ index_on a end
  pub side : side_on a start ≡ side_on a end

pub record Goes (a : Axis) (start end : Float) : Type 0 where
  pub up : Bool
  pub n : ℕ
  pub ahead : Ahead up n (index_on a start) (index_on a end)
  pub sign : 0 < n → sign_of (difference start end) ≡ step_by up
  pub still : eq (difference start end) nought ≡ true → index_on a start ≡ index_on a end

-- t_max stays finite on the way
abbrev pub StaysFinite : (a : Axis) (start end : Float) → Goes a start end → Type 0
StaysFinite a start end k = Finite k.n (first_on a start (difference start end)) (delta_of a.size (difference start end))

-- ---- the indices are inside

below_count : (a : Axis) (v : Float) → 0 < a.count → index_on a v < a.count
below_count a v h = omega (arith, index_le a v)

inside_of : (v : Bool) (g : Grid) (i j : ℕ) → i < (held_of v g).count → j < (run_of v g).count → Inside v g.cols g.rows i j
inside_of true g i j h k = (h, k)
inside_of false g i j h k = (k, h)

counts_of : (v : Bool) (g : Grid) → 0 < g.cols → 0 < g.rows → (0 < (held_of v g).count) × (0 < (run_of v g).count)
counts_of true g c r = (c, r)
counts_of false g c r = (r, c)

few_of : (v : Bool) (g : Grid) → Shape g.cols g.rows → (run_of v g).count ≤ 4004
few_of true g s = s.high
few_of false g s = s.wide

-- ---- the walk

-- the ray and the state at the start, by the axis that the line keeps to
ray_by_lem : (v : Bool) (g : Grid) (line : Segment)
    → ray_of g line ≡ ray_by v (stride_on (held_of v g) (held_start v line) (held_end v line)) (stride_on (run_of v g) (run_start v line) (run_end v line))
unfolding ray_of
ray_by_lem true g line = refl
ray_by_lem false g line = refl

start_by : (v : Bool) (g : Grid) (line : Segment)
    → start_of g line ≡ state_by v (progress_on (held_of v g) (held_start v line) (held_end v line)) (progress_on (run_of v g) (run_start v line) (run_end v line))
unfolding start_of
start_by true g line = refl
start_by false g line = refl

-- what is pushed, too: the walked cells, what they add, and what the two ends add
module _ (mode : Mode) where
  abbrev added_by : Bool → Grid → Segment → ℕ → List ℕ
  added_by v g line c =
      beside_by v (along_on mode (held_of v g) (held_start v line) (held_end v line)) (along_on mode (run_of v g) (run_start v line) (run_end v line)) g.cols
      (g.rows * g.cols) c

  abbrev end_by : Bool → Grid → Float → Float → List ℕ
  end_by v g h r =
      beside_by v (neighbour_on mode (held_of v g) h) (neighbour_on mode (run_of v g) r) g.cols (g.rows * g.cols)
      (cell_by v g.cols (index_on (held_of v g) h) (index_on (run_of v g) r))

  abbrev all_pushed : Bool → Grid → Segment → List ℕ → ℕ → Bool
  all_pushed v g line walked u =
      elem u walked
      || ((any (λ c. elem u (added_by v g line c)) walked || elem u (end_by v g (held_start v line) (run_start v line)))
      || elem u (end_by v g (held_end v line) (run_end v line)))

  pushes_by : (v : Bool) (g : Grid) (line : Segment) (walked : List ℕ) (u : ℕ) → elem u (pushes_of mode g line walked) ≡ all_pushed v g line walked u
  unfolding pushes_of line_of endpoint_of cell_of
  pushes_by v g line walked u = go v
    where
      beside : ℕ → List ℕ
      beside = beside_of (along_on mode (x_axis g) line.start_x line.end_x) (along_on mode (y_axis g) line.start_y line.end_y) g.cols (g.rows * g.cols)

      go : (v : Bool) → elem u (pushes_of mode g line walked) ≡ all_pushed v g line walked u
      go true = simp any_append (rw (any_flat (eqb u) beside walked))
      go false = simp any_append (rw (any_flat (eqb u) beside walked))

-- ---- between

between_start : (j e k : ℕ) → eqb k j ≡ true → between j e k ≡ true
between_start j e k h = let q = eqb-true k j h in go (le_or j e)
  where
    go : (j ≤ e) ⊎ (e < j) → between j e k ≡ true
    go (inl l) =
        let q = eqb-true k j h in or_left (leb j k && leb k e) (leb e k && leb k j)
        (and_both (leb j k) (leb k e) (le-leb j k (omega arith)) (le-leb k e (omega arith)))
    go (inr l) =
        let q = eqb-true k j h in or_right (leb j k && leb k e) (leb e k && leb k j)
        (and_both (leb e k) (leb k j) (le-leb e k (omega arith)) (le-leb k j (omega arith)))

between_swap : (j e k : ℕ) → between j e k ≡ between e j k
between_swap j e k = go (leb j k && leb k e) (leb e k && leb k j)
  where
    go : (p q : Bool) → (p || q) ≡ (q || p)
    go true true = refl
    go true false = refl
    go false true = refl
    go false false = refl

between_end : (j e k : ℕ) → eqb k e ≡ true → between j e k ≡ true
between_end j e k h = between_swap j e k ∙ between_start e j k h

between_one : (j e k : ℕ) → j ≡ e → between j e k ≡ eqb k j
between_one j e k h = both_ways (between j e k) (eqb k j) (λ t. elim (or_says (leb j k && leb k e) (leb e k && leb k j) t) [
  | inl p ↦ eq-eqb k j (omega (arith, leb-true j k (and_left (leb j k) (leb k e) p), leb-true k e (and_right (leb j k) (leb k e) p)))
  | inr p ↦ eq-eqb k j (omega (arith, leb-true e k (and_left (leb e k) (leb k j) p), leb-true k j (and_right (leb e k) (leb k j) p)))
]) (between_start j e k)

between_within : (j e k c : ℕ) → j < c → e < c → between j e k ≡ true → k < c
between_within j e k c p q h = elim (or_says (leb j k && leb k e) (leb e k && leb k j) h) [
  | inl t ↦ omega (arith, leb-true k e (and_right (leb j k) (leb k e) t))
  | inr t ↦ omega (arith, leb-true k j (and_right (leb e k) (leb k j) t))
]

ahead_few : (up : Bool) (n j e c : ℕ) → Ahead up n j e → j < c → e < c → n ≤ c
ahead_few true n j e c a p q = omega arith
ahead_few false n j e c a p q = omega arith

-- ---- the answer

module _ (mode : Mode) (turns : turning mode ≡ true) (v : Bool) (g : Grid) (line : Segment)
    (keeps : Keeps (held_of v g) (held_start v line) (held_end v line))
    (goes : Goes (run_of v g) (run_start v line) (run_end v line))
    (fine : v ≡ false → StaysFinite (run_of v g) (run_start v line) (run_end v line) goes)
    (shaped : shape g.cols g.rows ≡ true) (some : 0 < g.cols) where
  i : ℕ
  i = index_on (held_of v g) (held_start v line)

  j : ℕ
  j = index_on (run_of v g) (run_start v line)

  e : ℕ
  e = index_on (run_of v g) (run_end v line)

  walks : List ℕ
  walks = map (cell_by v g.cols i) (stops goes.up goes.n j e)

  ray_is : ray_of g line
      ≡ along v i e (sign_of (difference (held_start v line) (held_end v line))) (delta_of (held_of v g).size (difference (held_start v line) (held_end v line)))
      (sign_of (difference (run_start v line) (run_end v line))) (delta_of (run_of v g).size (difference (run_start v line) (run_end v line)))
  unfolding stride_on i e
  ray_is = ray_by_lem v g line ∙ rw keeps.index

  start_is : start_of g line ≡ at v i (pos j) (first_on (run_of v g) (run_start v line) (difference (run_start v line) (run_end v line)))
  unfolding progress_on i j
  start_is = start_by v g line ∙ rw (first_far (held_of v g) (held_start v line) (held_end v line) keeps.none)

  shape' : Shape g.cols g.rows
  shape' = shape_says g.cols g.rows shaped

  held_in : i < (held_of v g).count
  unfolding i
  held_in = below_count (held_of v g) (held_start v line) (counts_of v g some (shape'.alike some)).0

  run_in : (t : Float) → index_on (run_of v g) t < (run_of v g).count
  run_in t = below_count (run_of v g) t (counts_of v g some (shape'.alike some)).1

  inside_at : (k : ℕ) → k < (run_of v g).count → Inside v g.cols g.rows i k
  inside_at k h = inside_of v g i k held_in h

  walked_is : walked_of g.cols g.rows (ray_of g line) (start_of g line) ≡ gives walks
  unfolding walks j e
  walked_is =
      ap (λ (r : Ray). walked_of g.cols g.rows r (start_of g line)) ray_is
      ∙ ap (walked_of g.cols g.rows _) start_is
      ∙ walked_all v g.cols g.rows i e _ _ _ _ goes.up (inside_at e (run_in (run_end v line))) goes.n j _
      (le_trans (ahead_few goes.up goes.n j e (run_of v g).count goes.ahead (run_in (run_start v line)) (run_in (run_end v line)))
      (le_trans (few_of v g shape') (omega arith)))
      goes.sign goes.ahead (inside_at j (run_in (run_start v line))) fine

  module _ (u : ℕ) (within : u < g.rows * g.cols) where
    hu : ℕ
    hu = held_index v g.cols u

    ru : ℕ
    ru = run_index v g.cols u

    stops' : List ℕ
    stops' = stops goes.up goes.n j e

    stop_in : (k : ℕ) → elem k stops' ≡ true → Inside v g.cols g.rows i k
    unfolding stops' j e
    stop_in k h =
        inside_at k
        (between_within j e k (run_of v g).count (run_in (run_start v line)) (run_in (run_end v line))
        (sym (stops_are goes.up goes.n j e k goes.ahead) ∙ h))

    stops_between : (k : ℕ) → elem k stops' ≡ between j e k
    unfolding stops' j e
    stops_between k = stops_are goes.up goes.n j e k goes.ahead

    walked_in : elem u walks ≡ (eqb hu i && between j e ru)
    unfolding walks hu ru stops'
    walked_in =
        any_map (eqb u) (cell_by v g.cols i) stops'
        ∙ any_same (λ k. eqb u (cell_by v g.cols i k)) (λ k. eqb hu i && eqb ru k) stops' (λ k h. cell_by_lem g.cols some u v g.rows i k (stop_in k h))
        ∙ any_and (eqb hu i) ru stops'
        ∙ ap (λ (b : Bool). eqb hu i && b) (stops_between ru)

    -- a walked index is beside the cell's, by the neighbour x
    passed : Neighbour → Bool
    passed x = any (λ k. next_to x k ru) stops'

    added_in : (a b : Neighbour) → any (λ c. elem u (beside_by v a b g.cols (g.rows * g.cols) c)) walks
        ≡ adds (eqb hu i) (next_to a i hu) (between j e ru) (passed b)
    unfolding walks hu ru stops' passed
    added_in a b =
        any_map (λ c. elem u (beside_by v a b g.cols (g.rows * g.cols) c)) (cell_by v g.cols i) stops'
        ∙ any_same (λ k. elem u (beside_by v a b g.cols (g.rows * g.cols) (cell_by v g.cols i k)))
        (λ k. adds (eqb hu i) (next_to a i hu) (eqb ru k) (next_to b k ru)) stops'
        (λ k h. beside_by_lem g.cols some u v a b g.rows i k within (stop_in k h))
        ∙ any_adds (eqb hu i) (next_to a i hu) (eqb ru) (λ k. next_to b k ru) stops'
        ∙ ap (λ (c : Bool). adds (eqb hu i) (next_to a i hu) c (passed b)) (stops_between ru)

    end_in : (a b : Neighbour) (k : ℕ) → k < (run_of v g).count → elem u (beside_by v a b g.cols (g.rows * g.cols) (cell_by v g.cols i k))
        ≡ adds (eqb hu i) (next_to a i hu) (eqb ru k) (next_to b k ru)
    unfolding hu ru
    end_in a b k h = beside_by_lem g.cols some u v a b g.rows i k within (inside_at k h)

    -- what the whole line adds on the axis along which it runs, its start adds too: then it is a point
    passed_start : passed (along_on mode (run_of v g) (run_start v line) (run_end v line)) ≡ true → next_to (neighbour_on mode (run_of v g) (run_start v line)) j ru ≡ true
    unfolding passed along_on
    passed_start h = go (eq (difference (run_start v line) (run_end v line)) nought) refl h
      where
        go : (z : Bool) → eq (difference (run_start v line) (run_end v line)) nought ≡ z
            → any (λ k. next_to (cond z (neighbour_on mode (run_of v g) (run_start v line)) None) k ru) stops' ≡ true
            → next_to (neighbour_on mode (run_of v g) (run_start v line)) j ru ≡ true
        go true d t =
            any_one (λ k. next_to (neighbour_on mode (run_of v g) (run_start v line)) k ru) j stops'
            (λ k m. eqb-true k j (sym (between_one j e k (unfold j e in goes.still d)) ∙ sym (stops_between k) ∙ m)) t
        go false d t = absurd (any_none (λ k. false) stops' (λ k. refl) t)

    keeps_held : along_on mode (held_of v g) (held_start v line) (held_end v line) ≡ neighbour_on mode (held_of v g) (held_start v line)
    unfolding along_on
    keeps_held = rw keeps.none

    keeps_end : neighbour_on mode (held_of v g) (held_end v line) ≡ neighbour_on mode (held_of v g) (held_start v line)
    unfolding neighbour_on
    keeps_end = rw keeps.side

    members : elem u (pushes_of mode g line walks) ≡ sentence (beside_on mode) (held_of v g) (held_start v line) (run_of v g) (run_start v line) (run_end v line) hu ru
    unfolding sentence i j e
    members =
        pushes_by mode v g line walks u
        ∙ rw (
          keeps_held,
          keeps_end,
          ← keeps.index,
          walked_in,
          added_in (neighbour_on mode (held_of v g) (held_start v line)) (along_on mode (run_of v g) (run_start v line) (run_end v line)),
          end_in (neighbour_on mode (held_of v g) (held_start v line)) (neighbour_on mode (run_of v g) (run_start v line)) j (run_in (run_start v line)),
          end_in (neighbour_on mode (held_of v g) (held_start v line)) (neighbour_on mode (run_of v g) (run_end v line)) e (run_in (run_end v line)),
        )
        (pushed_said (eqb hu i) (next_to (neighbour_on mode (held_of v g) (held_start v line)) i hu) (between j e ru)
        (passed (along_on mode (run_of v g) (run_start v line) (run_end v line))) (eqb ru j) (next_to (neighbour_on mode (run_of v g) (run_start v line)) j ru)
        (eqb ru e) (next_to (neighbour_on mode (run_of v g) (run_end v line)) e ru) (between_start j e ru) (between_end j e ru) passed_start)

  found : segment_of mode g line ≡ gives (distinct_of (sorted (pushes_of mode g line walks)))
  unfolding answered ◌into◌
  found = segment_is mode g line turns (λ z. omega (arith, some)) ∙ ap (answered mode g line) walked_is

  pub answer : segment_of mode g line ≡ gives (cells_by mode v g line)
  answer = found ∙ ap gives (rising_members 0 0 xs (cells_by mode v g line) (one_of_each_rising (pushes_of mode g line walks)) (rising v) same)
    where
      xs : List ℕ
      xs = distinct_of (sorted (pushes_of mode g line walks))

      test : ℕ → Bool
      test u =
          sentence (beside_on mode) (held_of v g) (held_start v line) (run_of v g) (run_start v line) (run_end v line) (held_index v g.cols u)
          (run_index v g.cols u)

      rising : (v : Bool) → Rising 0 (cells_by mode v g line)
      rising true = unfold vertical_by in those_rising _ (g.rows * g.cols)
      rising false = unfold horizontal_by in those_rising _ (g.rows * g.cols)

      listed : (v : Bool) (u : ℕ) → elem u (cells_by mode v g line)
          ≡
          (ltb u (g.rows * g.cols) && sentence (beside_on mode) (held_of v g) (held_start v line) (run_of v g) (run_start v line) (run_end v line)
          (held_index v g.cols u) (run_index v g.cols u))
      listed true u = unfold vertical_by in those_are _ (g.rows * g.cols) u
      listed false u = unfold horizontal_by in those_are _ (g.rows * g.cols) u

      at : (u : ℕ) (b : Bool) → ltb u (g.rows * g.cols) ≡ b → elem u xs ≡ (b && test u)
      at u true h = unfold hu ru in elem_one_of_each u (pushes_of mode g line walks) ∙ members u (ltb-true u (g.rows * g.cols) h)
      at u false h = outside (elem u xs) refl
        where
          outside : (b : Bool) → elem u xs ≡ b → b ≡ false
          outside true k = absurd (omega (arith, ltb-false u (g.rows * g.cols) h, below_elem (g.rows * g.cols) u xs (turns_visit mode g line turns xs shaped found).inside k))
          outside false k = refl

      same : (u : ℕ) → elem u xs ≡ elem u (cells_by mode v g line)
      same u = at u (ltb u (g.rows * g.cols)) refl ∙ sym (listed v u)

-- THE LAWS OF THE WALK: a line parallel to an axis never meets refusal 7, in any mode, and its cells by turns are those of the sentence. Of the walk of a segment and of the
-- entry, on every fit grid, for every segment of the domain whose floats are values of the format. Assumes nothing.
use Rattle.std.specs.Prelude.{Ok, Err, Result}
use Rattle.refusals.specs.Refusals.{Check, refusal, unless, Answer, refused, gives, ◌then◌, answer_by, clears}
use mathlib.Core.Path.{◌≡◌, refl, sym, ap, ◌∙◌}
use mathlib.Core.Logic.{inl, inr}
use Prim.Native.Nat.{ℕ, ◌*◌}
use native.Mathlib.Nat.{mul-zero}
use native.Mathlib.Omega.{arith}
use native.Mathlib.Decide.{ℕ_discrete}
use mathlib.Core.Bool.{Bool, true, false, not, true≢false}
use mathlib.Core.List.{List, []}
use lib.Dec.{T}
use lib.Ieee.{Float, binary64, fits}
use Rattle.refusals.specs.declared.Refusal.{Refusal}
use Rattle.refusals.proofs.Checks.{unless_fine, and_then_left, and_then_right}
use Rattle.refusals.proofs.Answers.{apart}
use Rattle.grid.specs.declared.Axis.{Axis}
use Rattle.grid.specs.declared.Grid.{Grid}
use Rattle.grid.specs.declared.Segment.{Segment}
use Rattle.grid.specs.Axes.{x_axis, y_axis}
use Rattle.grid.specs.Domain.{coordinate, point, segment, fit, segment_check, grid_check}
use Rattle.grid.proofs.Bools.{and_left, and_right, or_says}
use Rattle.grid.proofs.Shapes.{fit_says, fit_shape}
use Rattle.walk.specs.declared.Mode.{Mode}
use Rattle.walk.specs.declared.Mode.TheVariants.{Rust}
use Rattle.turns.specs.Turns.{ray_of, start_of}
use Rattle.turns.specs.Pushes.{Outcome, walked_of}
use Rattle.walk.specs.Segment.{answered, by_turns, unless_none, turns_of, turning, segment_of, entry_check, off_in, off_check, entry_of, reach_of, cells_of, Entered}
use Rattle.walk.proofs.Checked.{entry_spares}
use Rattle.walk.proofs.Reaching.{segment_turns, segment_covers, entry_turns}
use Rattle.straight.specs.Sentence.{those, vertical_by, horizontal_by, vertical_cells, horizontal_cells, vertical_in, horizontal_in}
use Rattle.straight.specs.Lines.{vertical, horizontal, straight, InFormat, GridInFormat}
use Rattle.straight.proofs.Listed.{rust_vertical, rust_horizontal}
use Rattle.straight.proofs.Answering.{cells_by, answer}
use Rattle.straight.proofs.Units.{Units, units_of}
use Rattle.straight.proofs.Coordinates.{Fits, coordinate_bounded, keeps, goes}
use Rattle.straight.proofs.OnTheWay.{stays_finite}

-- ---- the parts, by the axis that the line keeps to

-- the coordinates on both axes obey the rule, and are values of the format
record Sound (a : Axis) (start end : Float) : Type 0 where
  fit : Fits a
  start_fits : coordinate start ≡ true
  end_fits : coordinate end ≡ true
  start_units : Units binary64 start
  end_units : Units binary64 end

units : (v : Float) → coordinate v ≡ true → T (fits binary64 v) → Units binary64 v
units v h t = units_of binary64 v (coordinate_bounded v h).fine t

sound : (a : Axis) (start end : Float) → Fits a → coordinate start ≡ true → coordinate end ≡ true → T (fits binary64 start) → T (fits binary64 end)
    → Sound a start end
sound a start end f p q s t = record { fit = f; start_fits = p; end_fits = q; start_units = units start p s; end_units = units end q t }

module _ (mode : Mode) (g : Grid) (line : Segment) (ok : fit g ≡ true) (in-domain : segment line ≡ true) (in-format : InFormat line) where
  both : (point line.start_x line.start_y ≡ true) × (point line.end_x line.end_y ≡ true)
  unfolding segment
  both =
      let p = point line.start_x line.start_y in
      let q = point line.end_x line.end_y in
      (and_left p q in-domain, and_right p q in-domain)

  fit_axes : Fits (x_axis g) × Fits (y_axis g)
  fit_axes = let f = fit_says g ok in (record { low = f.«min_x»; size = f.«cell-width» }, record { low = f.«min_y»; size = f.«cell-height» })

  sound_x : Sound (x_axis g) line.start_x line.end_x
  unfolding point
  sound_x =
      sound (x_axis g) line.start_x line.end_x fit_axes.0 (and_left (coordinate line.start_x) (coordinate line.start_y) both.0)
      (and_left (coordinate line.end_x) (coordinate line.end_y) both.1) in-format.«start_x» in-format.«end_x»

  sound_y : Sound (y_axis g) line.start_y line.end_y
  unfolding point
  sound_y =
      sound (y_axis g) line.start_y line.end_y fit_axes.1 (and_right (coordinate line.start_x) (coordinate line.start_y) both.0)
      (and_right (coordinate line.end_x) (coordinate line.end_y) both.1) in-format.«start_y» in-format.«end_y»

  -- a grid without columns has no cells
  no_columns : turning mode ≡ true → (v : Bool) → g.cols ≡ 0 → segment_of mode g line ≡ gives (cells_by mode v g line)
  unfolding turns_of by_turns unless_none
  no_columns t v e = segment_turns mode g line t ∙ ap (λ (n : ℕ). unless_none n (answered mode g line (walked_of g.cols g.rows (ray_of g line) (start_of g line)))) e ∙ ap gives (sym (go v))
    where
      none : (f : ℕ → Bool) → those f (g.rows * g.cols) ≡ []
      none f = unfold those in ap (those f) (ap (λ (n : ℕ). g.rows * n) e ∙ mul-zero g.rows)

      go : (v : Bool) → cells_by mode v g line ≡ []
      go true = unfold vertical_by in none _
      go false = unfold horizontal_by in none _

  -- LAW 2, vertical: equal x at both ends. In every mode that walks by turns, with the neighbours of that mode
  pub vertical_in_lem : turning mode ≡ true → vertical line ≡ true → segment_of mode g line ≡ gives (vertical_in mode g line)
  vertical_in_lem t e = elim (ℕ_discrete g.cols 0) [
    | yes z ↦ no_columns t true z
    | no n ↦
        answer mode t true g line
        (keeps (x_axis g) sound_x.fit line.start_x line.end_x sound_x.start_fits sound_x.end_fits e)
        (goes (y_axis g) sound_y.fit line.start_y line.end_y sound_y.start_fits sound_y.end_fits sound_y.start_units sound_y.end_units)
        (λ z. absurd (true≢false z)) (fit_shape g ok) (omega (arith, n))
  ]

  -- and horizontal: equal y at both ends
  pub horizontal_in_lem : turning mode ≡ true → GridInFormat g → horizontal line ≡ true → segment_of mode g line ≡ gives (horizontal_in mode g line)
  horizontal_in_lem t m e = elim (ℕ_discrete g.cols 0) [
    | yes z ↦ no_columns t false z
    | no n ↦
        let run =
        goes (x_axis g) sound_x.fit line.start_x line.end_x sound_x.start_fits sound_x.end_fits sound_x.start_units sound_x.end_units in
        answer mode t false g line
        (keeps (y_axis g) sound_y.fit line.start_y line.end_y sound_y.start_fits sound_y.end_fits e)
        run
        (λ z. stays_finite (x_axis g) sound_x.fit (fit_says g ok).counts.wide line.start_x line.end_x sound_x.start_fits sound_x.end_fits
        (omega (arith, n)) sound_x.start_units sound_x.end_units
        (units g.min_x sound_x.fit.low m.«min_x») run)
        (fit_shape g ok) (omega (arith, n))
  ]

  -- LAW 1: a line parallel to an axis is not refused, by 7 or at all; the covering walk refuses no line
  pub not_refused : GridInFormat g → straight line ≡ true → (why : Refusal) → segment_of mode g line ≡ refused why → ⊥
  not_refused m e why r = go (turning mode) refl
    where
      go : (b : Bool) → turning mode ≡ b → ⊥
      go false t = apart r (segment_covers mode g line t)
      go true t = elim (or_says (vertical line) (horizontal line) e) [
        | inl v ↦ apart r (vertical_in_lem t v)
        | inr l ↦ apart r (horizontal_in_lem t m l)
      ]

-- in the Rust's mode, so under document 01's boundary rule
module _ (g : Grid) (line : Segment) (ok : fit g ≡ true) (in-domain : segment line ≡ true) (in-format : InFormat line) where
  pub vertical_is : vertical line ≡ true → segment_of Rust g line ≡ gives (vertical_cells g line)
  unfolding turning
  vertical_is e = vertical_in_lem Rust g line ok in-domain in-format refl e ∙ ap gives (rust_vertical g line)

  pub horizontal_is : GridInFormat g → horizontal line ≡ true → segment_of Rust g line ≡ gives (horizontal_cells g line)
  unfolding turning
  horizontal_is m e = horizontal_in_lem Rust g line ok in-domain in-format refl m e ∙ ap gives (rust_horizontal g line)

-- ---- the entry

by_check : {A : Type 0} (c : Check) (x y : Answer A) → (c ≡ Ok tt → x ≡ y) → (c then x) ≡ (c then y)
unfolding ◌then◌
by_check (Ok _) x y h = h refl
by_check (Err r) x y h = refl

pub same_refusal : {A : Type 0} {p q : Refusal} → ◌≡◌ {A = Answer A} (refused p) (refused q) → p ≡ q
same_refusal d = cc

module _ (n : ℕ) (g : Grid) (line : Segment) (in-format : InFormat line) where
  passed : entry_check n g line ≡ Ok tt → (segment line ≡ true) × (fit g ≡ true)
  unfolding entry_check segment_check grid_check
  passed h =
      let rest = and_then_right _ _ h in
      (unless_fine (segment line) 1 0 (and_then_left _ _ rest), unless_fine (fit g) 8 0 (and_then_right _ _ rest))

  -- the checks 3, 1 and 8; then the cells of the sentence
  pub entry_vertical : vertical line ≡ true → entry_of Rust n g line ≡ (entry_check n g line then gives (vertical_cells g line))
  unfolding reach_of turning
  entry_vertical e =
      entry_turns Rust g line n refl ∙ by_check (entry_check n g line) (segment_of Rust g line) (gives (vertical_cells g line)) (λ h. vertical_is g line (passed h).1 (passed h).0 in-format e)

  pub entry_horizontal : GridInFormat g → horizontal line ≡ true → entry_of Rust n g line ≡ (entry_check n g line then gives (horizontal_cells g line))
  unfolding reach_of turning
  entry_horizontal m e = entry_turns Rust g line n refl ∙ by_check (entry_check n g line) (segment_of Rust g line) (gives (horizontal_cells g line)) (λ h. horizontal_is g line (passed h).1 (passed h).0 in-format m e)

  pub entry_not_7 : (mode : Mode) → GridInFormat g → straight line ≡ true → (value : ℕ) → entry_of mode n g line ≡ refused (refusal 7 value) → ⊥
  unfolding entry_of off_check
  entry_not_7 mode m e value r = go (entry_check n g line) refl r
    where
      behind : (b : Bool) → entry_check n g line ≡ Ok tt → (unless (not b) 16 0 then segment_of mode g line) ≡ refused (refusal 7 value) → ⊥
      behind false h k = unfold ◌then◌ unless in not_refused mode g line (passed h).1 (passed h).0 in-format m e (refusal 7 value) k
      behind true h k = unfold ◌then◌ unless in let z : ◌≡◌ {A = ℕ} 16 7 = ap (λ (r : Refusal). r.number) (same_refusal k) in omega arith

      go : (c : Check) → entry_check n g line ≡ c → (c then off_check mode g line then segment_of mode g line) ≡ refused (refusal 7 value) → ⊥
      go (Ok _) h k = unfold ◌then◌ in behind (off_in mode g line) h k
      go (Err s) h k = unfold ◌then◌ clears in true≢false ((entry_spares g line n).says (refusal 7 value) (h ∙ ap Err (same_refusal k)))

cells_refused : (o : Outcome) (why : Refusal) → cells_of o ≡ Err why → o ≡ refused why
unfolding cells_of answer_by
cells_refused (refused w) why d = let e : w ≡ why = cc in ap refused e
cells_refused (gives xs) why d = let z : ◌≡◌ {A = ℕ} 0 1 = cc in absurd (omega arith)

-- straight from what `walk::cells_of_segment` ensures: its answer is no refusal with 7
pub entered_not_7 : (mode : Mode) (n : ℕ) {g : Grid} {line : Segment} {was : List ℕ} {r : Result ℕ Refusal} {now : List ℕ} → straight line ≡ true → InFormat line → GridInFormat g
    → Entered (entry_of mode n g line) was r now → (value : ℕ) → r ≡ Err (refusal 7 value) → ⊥
entered_not_7 mode n {g} {line} e in-format m h value k =
    entry_not_7 n g line in-format mode m e value (cells_refused (entry_of mode n g line) (refusal 7 value) (sym h.answer ∙ k))

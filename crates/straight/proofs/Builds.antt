-- THE LAW OF A BUILD: where every line is parallel to an axis, no walk meets refusal 7, on any fit grid; so no build of such lines is refused with 7.
-- `spared_by` has the step from walks that end to the build, for any lines and any mode. Assumes nothing.
use Rattle.std.specs.Prelude.{Ok, Err, Result}
use Rattle.refusals.specs.Refusals.{Check, refusal, unless, and_then, each_from, Answer, refused, gives, ◌then◌, ◌into◌, answer_by}
use Rattle.build.specs.declared.Standing.{Standing}
use mathlib.Core.Path.{◌≡◌, refl, sym, ap, ◌∙◌, subst}
use mathlib.Core.Logic.{inl, inr}
use Prim.Native.Nat.{ℕ, zero, suc, ◌+◌, ◌-◌, ◌*◌, ◌≤◌, ◌<◌}
use native.Mathlib.Omega.{arith}
use mathlib.Core.Bool.{Bool, true, false, cond}
use mathlib.Core.List.{List}
use lib.Dec.{T, leb, ltb, eqb}
use lib.ListN.{length, get_or}
use lib.Ieee.{Float, nan, binary64, fits}
use borrow.Author.Tests.{leb-true, leb-false, ltb-true, eqb-false}
use Rattle.refusals.specs.declared.Refusal.{Refusal}
use Rattle.refusals.proofs.Checks.{and_then_right, each_fine}
use Rattle.grid.specs.declared.Grid.{Grid}
use Rattle.grid.specs.Domain.{Lines, count, segment_at, line_fits, fit, scratch_check, lines_check, lengths_check, count_check, coordinates_check}
use Rattle.grid.proofs.Bools.{and_right}
use Rattle.grid.proofs.Fine.{LinesFit, lines_fine}
use Rattle.sizing.specs.declared.Size.{Size}
use Rattle.sizing.specs.Bounds.{whole, lowest, extent_of}
use Rattle.sizing.specs.Size.{first_size, half_of}
use Rattle.sizing.specs.Counts.{grid_of, empty_grid}
use Rattle.sizing.proofs.Reach.{Lie, Among, lowest_among}
use Rattle.sizing.proofs.FitLaws.{whole_count, lie_x, lie_y, AllFit, all_fit}
use Rattle.walk.specs.declared.Mode.{Mode}
use Rattle.turns.specs.Pushes.{Outcome}
use Rattle.walk.specs.Segment.{segment_of}
use Rattle.fill.specs.OnGrid.{grid_cells, walk_on, completes, list_on, globals_on, total}
use Rattle.fill.specs.Checks.{room_check, turns_check, tried_check, space_check}
use Rattle.fill.specs.Fill.{more_than}
use Rattle.build.specs.declared.Plan.{Plan}
use Rattle.build.specs.Choice.{crowded, chosen, chosen_first, chosen_none, choice}
use Rattle.build.specs.Build.{room_on, end_of, built_on, answer_of, BuildIs}
use Rattle.straight.specs.Lines.{GridInFormat, AllStraight, AllInFormat}
use Rattle.straight.proofs.Laws.{not_refused, same_refusal}

-- ---- what is not refused with 7

-- a check, and an answer
pub record Spares (c : Check) : Type 0 where
  pub says : (value : ℕ) → c ≡ Err (refusal 7 value) → ⊥

pub record Spared {A : Type 0} (o : Answer A) : Type 0 where
  pub says : (value : ℕ) → o ≡ refused (refusal 7 value) → ⊥

unfined : {r : Refusal} → ◌≡◌ {A = Check} (Ok tt) (Err r) → ⊥
unfined h = let z : ◌≡◌ {A = ℕ} 0 1 = cc in omega arith

same_number : {n m v w : ℕ} → ◌≡◌ {A = Check} (Err (refusal n v)) (Err (refusal m w)) → n ≡ m
same_number {n} {m} {v} {w} h = ap (λ (r : Refusal). r.number) (same h)
  where
    same : {p q : Refusal} → ◌≡◌ {A = Check} (Err p) (Err q) → p ≡ q
    same d = cc

spares_fine : (c : Check) → c ≡ Ok tt → Spares c
spares_fine c e = record { says = λ v h. unfined (sym e ∙ h) }

spares_unless : (ok : Bool) (n v : ℕ) → eqb n 7 ≡ false → Spares (unless ok n v)
unfolding unless
spares_unless true n v h = spares_fine (Ok tt) refl
spares_unless false n v h = record { says = λ w e. eqb-false n 7 h (same_number e) }

spares_then : (a b : Check) → Spares a → Spares b → Spares (and_then a b)
unfolding and_then
spares_then (Ok _) b s t = t
spares_then (Err r) b s t = s

spares_each : (ok : ℕ → Bool) (n left i : ℕ) → eqb n 7 ≡ false → Spares (each_from ok n left i)
unfolding each_from
spares_each ok n zero i h = spares_fine (Ok tt) refl
spares_each ok n (suc left) i h = spares_then (unless (ok i) n i) (each_from ok n left (suc i)) (spares_unless (ok i) n i h) (spares_each ok n left (suc i) h)

spared_gives : {A : Type 0} (a : A) → Spared (gives a)
spared_gives a = record { says = λ v h. let z : ◌≡◌ {A = ℕ} 0 1 = cc in omega arith }

spared_then : {A : Type 0} (c : Check) (o : Answer A) → Spares c → (c ≡ Ok tt → Spared o) → Spared (c then o)
unfolding ◌then◌
spared_then (Ok _) o s t = t refl
spared_then {A} (Err r) o s t = record { says = λ v h. s.says v (ap Err (same_refusal h)) }

spared_into : {A B : Type 0} (o : Answer A) (next : A → Answer B) → Spared o → ((a : A) → Spared (next a)) → Spared (o into next)
unfolding ◌into◌
spared_into (gives a) next s t = t a
spared_into {A} {B} (refused r) next s t = record { says = λ v h. s.says v (ap refused (same_refusal h)) }

spared_if : {A : Type 0} (b : Bool) (x y : Answer A) → (b ≡ true → Spared x) → Spared y → Spared (cond b x y)
spared_if true x y s t = s refl
spared_if false x y s t = t

-- ---- on a fit grid every walk ends

ends_of : (o : Outcome) → ((why : Refusal) → o ≡ refused why → ⊥) → completes o ≡ true
ends_of (refused why) h = absurd (h why refl)
ends_of (gives xs) h = refl

-- ---- from walks that end on every grid that can be tried, to the choice of a grid

-- no walk on a grid that can be tried meets 7
abbrev pub Ending : Plan → Lines → Type 0
Ending plan ls = (size : Size) → fit (grid_of (extent_of ls) size) ≡ true → turns_check plan.mode (grid_of (extent_of ls) size) ls ≡ Ok tt

module _ (plan : Plan) (ls : Lines) (lines_fit : LinesFit ls) (ending : 1 ≤ count ls → Ending plan ls) where
  tried_spares : (g : Grid) (room : ℕ) → turns_check plan.mode g ls ≡ Ok tt → Spares (tried_check plan.mode g ls room)
  unfolding tried_check room_check
  tried_spares g room h =
      spares_then (room_check g room) (turns_check plan.mode g ls) (spares_unless (leb (grid_cells g + 1) room) 4 (grid_cells g + 1) refl) (spares_fine (turns_check plan.mode g ls) h)

  chosen_spared : 1 ≤ count ls → (left : ℕ) (size : Size) (room : ℕ) → AllFit left (extent_of ls) size → Spared (chosen plan.mode left (extent_of ls) size ls room)
  unfolding chosen
  chosen_spared h zero size room f =
      let g = grid_of (extent_of ls) size in
      spared_then (tried_check plan.mode g ls room) (gives g) (tried_spares g room (ending h size f)) (λ z. spared_gives g)
  chosen_spared h (suc left) size room f =
      let g = grid_of (extent_of ls) size in
      spared_then (tried_check plan.mode g ls room) (cond (crowded plan.mode g ls) (chosen plan.mode left (extent_of ls) (half_of size) ls room) (gives g))
      (tried_spares g room (ending h size f.0))
      (λ z. spared_if (crowded plan.mode g ls) (chosen plan.mode left (extent_of ls) (half_of size) ls room) (gives g) (λ c. chosen_spared h left (half_of size) room (f.1 (few g c)))
      (spared_gives g))
    where
      few : (g : Grid) → crowded plan.mode g ls ≡ true → g.rows * g.cols * 4 < 1000000
      few g c = unfold crowded in ltb-true (grid_cells g * 4) 1000000 (and_right (more_than 500 (λ c. length (list_on plan.mode g ls c)) (grid_cells g)) (ltb (grid_cells g * 4) 1000000) c)

  choice_spared : (room : ℕ) → Spared (choice plan ls room)
  unfolding choice chosen_first chosen_none
  choice_spared room = go (leb 1 (count ls)) refl
    where
      none : leb 1 (count ls) ≡ false → turns_check plan.mode empty_grid ls ≡ Ok tt
      none h = unfold turns_check in each_fine (λ i. completes (walk_on plan.mode empty_grid ls i)) 7 (count ls) 0 (λ k l m. absurd (omega (arith, leb-false 1 (count ls) h)))

      go : (b : Bool) → leb 1 (count ls) ≡ b → Spared (cond b (chosen_first plan ls room) (chosen_none plan.mode ls room))
      go true h =
          chosen_spared (leb-true 1 (count ls) h) 2 (first_size plan.sizing (extent_of ls) (count ls)) room
          (all_fit plan.sizing ls lines_fit (leb-true 1 (count ls) h))
      go false h = spared_then (tried_check plan.mode empty_grid ls room) (gives empty_grid) (tried_spares empty_grid room (none h)) (λ z. spared_gives empty_grid)

-- ---- 3, 2, 1 before, 5 and 6 after

lines_spare_7 : (ls : Lines) → Spares (lines_check ls)
unfolding lines_check lengths_check count_check coordinates_check
lines_spare_7 ls =
    spares_then _ _ (spares_unless _ 3 0 refl) (spares_then _ _ (spares_unless _ 2 (count ls) refl) (spares_each (line_fits ls) 1 (count ls) 0 refl))

room_spared : (mode : Mode) (ls : Lines) (items globals : ℕ) (g : Grid) → Spared (room_on mode ls items globals g)
unfolding room_on space_check
room_spared mode ls items globals g =
    spared_then (space_check mode g ls items globals) (gives g)
    (spares_then _ _ (spares_unless (leb (total mode g ls) items) 5 (total mode g ls) refl)
    (spares_unless (leb (length (globals_on mode g ls)) globals) 6 (length (globals_on mode g ls)) refl)) (λ z. spared_gives g)

pub spared_by : (plan : Plan) (ls : Lines) → (LinesFit ls → 1 ≤ count ls → Ending plan ls) → (offsets items globals scratch : ℕ) → Spared (end_of plan ls offsets items globals scratch)
unfolding end_of scratch_check
spared_by plan ls ending offsets items globals scratch =
    spared_then (and_then (scratch_check scratch) (lines_check ls)) (choice plan ls offsets into room_on plan.mode ls items globals)
    (spares_then (scratch_check scratch) (lines_check ls) (spares_unless (leb 16384 scratch) 3 0 refl) (lines_spare_7 ls))
    (λ h. let f = lines_fine ls (and_then_right (scratch_check scratch) (lines_check ls) h) in
    spared_into (choice plan ls offsets) (room_on plan.mode ls items globals) (choice_spared plan ls f (ending f) offsets) (room_spared plan.mode ls items globals))

answer_refused : (mode : Mode) (a : Answer Grid) (ls : Lines) (why : Refusal) → answer_of mode a ls ≡ Err why → a ≡ refused why
unfolding answer_of answer_by built_on
answer_refused mode (refused w) ls why d = let e : w ≡ why = cc in ap refused e
answer_refused mode (gives g) ls why d = let z : ◌≡◌ {A = ℕ} 0 1 = cc in absurd (omega arith)

-- from what `build::build` ensures: its answer is no refusal with 7
pub not_7_by : (plan : Plan) {ls : Lines} {o t gs s : List ℕ} {r : Result Standing Refusal} {o' t' gs' s' : List ℕ} → (LinesFit ls → 1 ≤ count ls → Ending plan ls)
    → BuildIs plan.mode ls o t gs s r o' t' gs' s' (end_of plan ls (length o) (length t) (length gs) (length s)) → (value : ℕ) → r ≡ Err (refusal 7 value) → ⊥
not_7_by plan {ls} {o} {t} {gs} {s} {r} ending h value e =
    let a = end_of plan ls (length o) (length t) (length gs) (length s) in
    (spared_by plan ls ending (length o) (length t) (length gs) (length s)).says value (answer_refused plan.mode a ls (refusal 7 value) (sym h.answer ∙ e))

-- ---- lines parallel to an axis

module _ (plan : Plan) (ls : Lines) (lines_fit : LinesFit ls) (straight : AllStraight ls) (in-format : AllInFormat ls) where
  pub turns_fine : (g : Grid) → fit g ≡ true → GridInFormat g → turns_check plan.mode g ls ≡ Ok tt
  unfolding turns_check walk_on
  turns_fine g ok m =
      each_fine (λ i. completes (walk_on plan.mode g ls i)) 7 (count ls) 0
      (λ k l h. ends_of (segment_of plan.mode g (segment_at ls k)) (not_refused plan.mode g (segment_at ls k) ok (unfold line_fits in lines_fit.each k (omega arith))
      (in-format k (omega arith)) m (straight k (omega arith))))

  -- ---- the grids of a build hold values of the format: a minimum is some line's coordinate

  among_in_format : (starts ends : List Float) (n : ℕ) (v : Float)
      → ((i : ℕ) → i < n → T (fits binary64 (get_or starts i nan)) × T (fits binary64 (get_or ends i nan))) → Among starts ends n v → T (fits binary64 v)
  among_in_format starts ends n v h (i, l, inl e) = subst (λ (x : Float). T (fits binary64 x)) (sym e) (h i l).0
  among_in_format starts ends n v h (i, l, inr e) = subst (λ (x : Float). T (fits binary64 x)) (sym e) (h i l).1

  holds_at : (n : ℕ) → whole ls ≡ suc n → count ls ≡ suc n → (size : Size) → GridInFormat (grid_of (extent_of ls) size)
  unfolding grid_of extent_of
  holds_at n k c size =
      let x : Lie ls.start_x ls.end_x (suc n) = subst (λ (m : ℕ). Lie ls.start_x ls.end_x m) c (lie_x ls lines_fit) in
      let y : Lie ls.start_y ls.end_y (suc n) = subst (λ (m : ℕ). Lie ls.start_y ls.end_y m) c (lie_y ls lines_fit) in
      record {
        «min_x» =
            subst (λ (m : ℕ). T (fits binary64 (lowest ls.start_x ls.end_x m))) (sym k)
            (among_in_format ls.start_x ls.end_x (suc n) (lowest ls.start_x ls.end_x (suc n))
            (λ i l. ((in-format i (omega arith)).«start_x», (in-format i (omega arith)).«end_x»))
            (lowest_among ls.start_x ls.end_x n x));
        «min_y» =
            subst (λ (m : ℕ). T (fits binary64 (lowest ls.start_y ls.end_y m))) (sym k)
            (among_in_format ls.start_y ls.end_y (suc n) (lowest ls.start_y ls.end_y (suc n))
            (λ i l. ((in-format i (omega arith)).«start_y», (in-format i (omega arith)).«end_y»))
            (lowest_among ls.start_y ls.end_y n y));
      }

  holds_of : 1 ≤ count ls → (size : Size) → GridInFormat (grid_of (extent_of ls) size)
  holds_of h = let c : count ls ≡ suc (count ls - 1) = omega arith in holds_at (count ls - 1) (whole_count ls lines_fit ∙ c) c

  pub straight_ending : 1 ≤ count ls → Ending plan ls
  straight_ending h size f = turns_fine (grid_of (extent_of ls) size) f (holds_of h size)

pub build_spared : (plan : Plan) (ls : Lines) → AllStraight ls → AllInFormat ls → (offsets items globals scratch : ℕ) → Spared (end_of plan ls offsets items globals scratch)
build_spared plan ls straight in-format = spared_by plan ls (λ f. straight_ending plan ls f straight in-format)

-- straight from what `build::build` ensures
pub build_not_7 : (plan : Plan) {ls : Lines} {o t gs s : List ℕ} {r : Result Standing Refusal} {o' t' gs' s' : List ℕ} → AllStraight ls → AllInFormat ls
    → BuildIs plan.mode ls o t gs s r o' t' gs' s' (end_of plan ls (length o) (length t) (length gs) (length s)) → (value : ℕ) → r ≡ Err (refusal 7 value) → ⊥
build_not_7 plan {ls} straight in-format h value e = not_7_by plan (λ f. straight_ending plan ls f straight in-format) h value e

-- The mode that is asked for: by turns, or the covering walk, whose answer goes over into a walk's. Assumes nothing.
use Rattle.std.specs.Prelude.{Ok, Err, Result}
use Rattle.refusals.specs.Refusals.{Check, unless, gives, ◌then◌, answer_by}
use mathlib.Core.Path.{◌≡◌, refl, sym, ◌∙◌}
use mathlib.Core.Bool.{Bool, true, false, cond, not, ◌&&◌}
use Prim.Native.Nat.{ℕ}
use native.Mathlib.Omega.{arith}
use mathlib.Core.List.{List}
use lib.ListN.{length, take}
use Rattle.refusals.specs.declared.Refusal.{Refusal}
use Rattle.refusals.proofs.Leaving.{left_same, Clearing}
use Rattle.grid.specs.declared.Grid.{Grid}
use Rattle.grid.specs.declared.Segment.{Segment}
use Rattle.cover.specs.declared.Covered.{Covered}
use Rattle.cover.specs.declared.Covered.TheVariants as cover
use Rattle.cover.specs.Covering.{covering_of, off_grid, everywhere, scratch_shape_check, found_of, covered_of, CoverIs}
use Rattle.cover.proofs.Laws.{everywhere_off}
use Rattle.walk.specs.declared.Mode.{Mode}
use Rattle.walk.specs.declared.Mode.TheVariants.{Rust, Sided, Covering}
use Rattle.walk.specs.declared.Reached.{Reached}
use Rattle.walk.specs.declared.Reached.TheVariants.{Found, Everywhere}
use Rattle.turns.proofs.Entry.{room_spares}
use Rattle.walk.specs.Segment.{turns_of, turning, segment_of, everywhere_in, off_in, off_check, entry_of, reach_of, as_is_of, reached_of, Walked}

-- ---- which walk it is

module _ (mode : Mode) (g : Grid) (line : Segment) where
  pub segment_turns : turning mode ≡ true → segment_of mode g line ≡ turns_of mode g line
  unfolding segment_of
  segment_turns h = rw h

  pub segment_covers : turning mode ≡ false → segment_of mode g line ≡ gives (covering_of g line)
  unfolding segment_of
  segment_covers h = rw h

  pub turning_nowhere : turning mode ≡ true → everywhere_in mode g line ≡ false
  unfolding everywhere_in
  turning_nowhere h = rw h

  pub covering_everywhere : turning mode ≡ false → everywhere_in mode g line ≡ everywhere g line
  unfolding everywhere_in
  covering_everywhere h = rw h

  -- a line that is everywhere is one of the covering walk
  pub everywhere_covers : everywhere_in mode g line ≡ true → turning mode ≡ false
  unfolding everywhere_in
  everywhere_covers h = go (turning mode) h
    where
      go : (b : Bool) → (not b && everywhere g line) ≡ true → b ≡ false
      go true k = sym k
      go false k = refl

  -- it is off the grid
  pub everywhere_out : everywhere_in mode g line ≡ true → off_in mode g line ≡ true
  unfolding everywhere_in off_in
  everywhere_out h = rw (everywhere_covers h) (everywhere_off g line (rw (everywhere_covers h) at h))

  -- by turns no line is
  pub turning_on : turning mode ≡ true → off_in mode g line ≡ false
  unfolding off_in
  turning_on h = rw h

  pub covering_off : turning mode ≡ false → off_in mode g line ≡ off_grid g line
  unfolding off_in
  covering_off h = rw h

  -- and 16 cannot come
  pub entry_turns : (n : ℕ) → turning mode ≡ true → entry_of mode n g line ≡ reach_of mode n g line
  unfolding entry_of reach_of off_check unless ◌then◌
  entry_turns n h = rw (turning_on h)

  pub reached_turns : (n : ℕ) {was now : List ℕ} {r : Result Reached Refusal} → turning mode ≡ true → Walked false (scratch_shape_check n g then turns_of mode g line) was r now
      → Walked (everywhere_in mode g line) (as_is_of mode n g line) was r now
  unfolding as_is_of
  reached_turns n h w = rw (turning_nowhere h, segment_turns h) w

  pub reached_covers : (n : ℕ) {was now : List ℕ} {r : Result Reached Refusal} → turning mode ≡ false → Walked (everywhere g line) (scratch_shape_check n g then gives (covering_of g line)) was r now
      → Walked (everywhere_in mode g line) (as_is_of mode n g line) was r now
  unfolding as_is_of
  reached_covers n h w = rw (covering_everywhere h, segment_covers h) w

module _ {mode : Mode} where
  pub turns_rust : mode ≡ Rust → true ≡ turning mode
  unfolding turning
  turns_rust e = rw e

  pub turns_sided : mode ≡ Sided → true ≡ turning mode
  unfolding turning
  turns_sided e = rw e

  pub turns_not : mode ≡ Covering → false ≡ turning mode
  unfolding turning
  turns_not e = rw e

-- refusal 7 cannot come in the covering mode, nor any other behind the checks
pub covering_given : (g : Grid) (line : Segment) → segment_of Covering g line ≡ gives (covering_of g line)
unfolding turning
covering_given g line = segment_covers Covering g line refl

-- ---- the answer of the covering walk

-- what it answers, by its check, by whether the line is everywhere, and by the cells
abbrev answer_from : Check → Bool → List ℕ → Result Covered Refusal
answer_from c all xs = answer_by Err (λ z. z) (c then gives (cond all (Ok cover.Everywhere) (Ok (cover.Found (length xs)))))

module _ (xs was now : List ℕ) (size : length now ≡ length was) where
  found : (c : Check) (all : Bool) (n : ℕ) → Ok (cover.Found n) ≡ answer_from c all xs → take n now ≡ xs → Walked all (c then gives xs) was (Ok (Found n)) now
  unfolding ◌then◌ answer_by reached_of
  found (Err r) all n e h = let z : ◌≡◌ {A = ℕ} 0 1 = cc e in absurd (omega arith)
  found (Ok _) true n e h = let z : ◌≡◌ {A = ℕ} 0 1 = cc e in absurd (omega arith)
  found (Ok _) false n e h = let l : n ≡ length xs = cc e in record { answer = rw l; size = size; left = rw (← l) h }

  every : (c : Check) (all : Bool) → Ok cover.Everywhere ≡ answer_from c all xs → now ≡ was → Walked all (c then gives xs) was (Ok Everywhere) now
  unfolding ◌then◌ answer_by reached_of
  every (Err r) all e h = let z : ◌≡◌ {A = ℕ} 0 1 = cc e in absurd (omega arith)
  every (Ok _) true e h = record { answer = refl; size = size; left = h }
  every (Ok _) false e h = let z : ◌≡◌ {A = ℕ} 0 1 = cc e in absurd (omega arith)

  unfound : (c : Check) (all : Bool) (why : Refusal) → Clearing false c → Err why ≡ answer_from c all xs → now ≡ was → Walked all (c then gives xs) was (Err why) now
  unfolding ◌then◌ answer_by reached_of
  unfound (Err r) all why s e h =
      let l : why ≡ r = cc e in
      record { answer = rw l; size = size; left = h ∙ sym (left_same 0 r was (s.says r refl)) }
  unfound (Ok _) true why s e h = let z : ◌≡◌ {A = ℕ} 0 1 = cc e in absurd (omega arith)
  unfound (Ok _) false why s e h = let z : ◌≡◌ {A = ℕ} 0 1 = cc e in absurd (omega arith)

module _ {g : Grid} {line : Segment} {was now : List ℕ} {R : Result Covered Refusal} (w : CoverIs g line was R now) where
  abbrev c : Check
  c = scratch_shape_check (length was) g

  says : (r : Result Covered Refusal) → R ≡ r → r ≡ answer_from c (everywhere g line) (covering_of g line)
  unfolding covered_of found_of
  says r e = sym e ∙ w.answer

  is : (r : Result Covered Refusal) → R ≡ r → CoverIs g line was r now
  is r e = rw e at w

  pub found_covered : (n : ℕ) → R ≡ Ok (cover.Found n) → Walked (everywhere g line) (c then gives (covering_of g line)) was (Ok (Found n)) now
  found_covered n e = found (covering_of g line) was now w.size c (everywhere g line) n (says (Ok (cover.Found n)) e) (is (Ok (cover.Found n)) e).left

  pub everywhere_covered : R ≡ Ok cover.Everywhere → Walked (everywhere g line) (c then gives (covering_of g line)) was (Ok Everywhere) now
  everywhere_covered e = every (covering_of g line) was now w.size c (everywhere g line) (says (Ok cover.Everywhere) e) (is (Ok cover.Everywhere) e).left

  pub refused_covered : (r : Refusal) → R ≡ Err r → Walked (everywhere g line) (c then gives (covering_of g line)) was (Err r) now
  refused_covered r e = unfound (covering_of g line) was now w.size c (everywhere g line) r (room_spares (length was) g) (says (Err r) e) (is (Err r) e).left

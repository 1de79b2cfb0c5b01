-- The walk of one segment: the refusals before the walk, and the scratch behind it, which is what the walk leaves, and zero beyond its cells. Assumes nothing.
use Rattle.std.specs.Prelude.{Ok, Err, Result}
use mathlib.Core.Path.{◌≡◌, refl, sym, ◌∙◌}
use mathlib.Core.Bool.{Bool, true, false, true≢false}
use Prim.Native.Nat.{ℕ}
use native.Mathlib.Omega.{arith}
use mathlib.Core.List.{List}
use lib.ListN.{length}
use Rattle.slices.specs.Slices.{cleared_from}
use Rattle.refusals.specs.declared.Refusal.{Refusal}
use Rattle.refusals.specs.Refusals.{refusal, unless, refused, gives, ◌then◌, answer_by, clears, left_in, zero_beyond}
use Rattle.refusals.proofs.Answers.{then_refused}
use Rattle.refusals.proofs.Leaving.{left_same}
use Rattle.grid.specs.declared.Grid.{Grid}
use Rattle.grid.specs.declared.Segment.{Segment}
use Rattle.walk.specs.declared.Mode.{Mode}
use Rattle.walk.specs.declared.Reached.{Reached}
use Rattle.walk.specs.declared.Reached.TheVariants.{Found, Everywhere}
use Rattle.turns.specs.Pushes.{Outcome}
use Rattle.walk.specs.Segment.{everywhere_in, entry_check, off_in, off_check, entry_of, reach_of, as_is_of, cells_of, scratch_of, reached_of, Walked, Entered}
use Rattle.walk.proofs.Checked.{entry_spares, as_is_checked}
use Rattle.walk.proofs.Reaching.{everywhere_out}

-- ---- what the walk inside leaves, handed back

found_entered : (o : Outcome) (all : Bool) (n : ℕ) (was now left : List ℕ) → Walked all o was (Ok (Found n)) now → left ≡ cleared_from n now → Entered o was (Ok n) left
unfolding cells_of scratch_of reached_of answer_by left_in zero_beyond cleared_from
found_entered (refused why) all n was now left w e = let z : ◌≡◌ {A = ℕ} 0 1 = cc w.answer in absurd (omega arith)
found_entered (gives xs) true n was now left w e = let z : ◌≡◌ {A = ℕ} 0 1 = cc w.answer in absurd (omega arith)
found_entered (gives xs) false n was now left w e =
    let l : n ≡ length xs = cc w.answer in
    record { answer = rw l; left = e ∙ rw (l, w.left, w.size) }

refused_entered : (o : Outcome) (all : Bool) (why : Refusal) (was now : List ℕ) → Walked all o was (Err why) now → Entered o was (Err why) now
unfolding cells_of scratch_of reached_of answer_by left_in
refused_entered (refused y) all why was now w = let l : why ≡ y = cc w.answer in record { answer = rw l; left = w.left }
refused_entered (gives xs) true why was now w = let z : ◌≡◌ {A = ℕ} 0 1 = cc w.answer in absurd (omega arith)
refused_entered (gives xs) false why was now w = let z : ◌≡◌ {A = ℕ} 0 1 = cc w.answer in absurd (omega arith)

is_everywhere : (o : Outcome) (all : Bool) (was now : List ℕ) → Walked all o was (Ok Everywhere) now → all ≡ true
unfolding reached_of answer_by
is_everywhere (refused y) all was now w = let z : ◌≡◌ {A = ℕ} 0 1 = cc w.answer in absurd (omega arith)
is_everywhere (gives xs) true was now w = refl
is_everywhere (gives xs) false was now w = let z : ◌≡◌ {A = ℕ} 0 1 = cc w.answer in absurd (omega arith)

-- a refusal that changes nothing
spared : (o : Outcome) (r : Refusal) (was : List ℕ) → o ≡ refused r → clears r.number ≡ false → Entered o was (Err r) was
unfolding cells_of scratch_of answer_by left_in
spared o r was e c = rw e (record { answer = refl; left = sym (left_same 0 r was c) })

-- ---- behind the checks

module _ (mode : Mode) (g : Grid) (line : Segment) {was : List ℕ} where
  pub checked_entry : (r : Refusal) → entry_check (length was) g line ≡ Err r → Entered (entry_of mode (length was) g line) was (Err r) was
  unfolding entry_of
  checked_entry r e = spared (entry_of mode (length was) g line) r was (then_refused _ _ r e) ((entry_spares g line (length was)).says r e)

  module _ (fine : entry_check (length was) g line ≡ Ok tt) where
    -- 16 changes nothing
    pub off_entry : off_in mode g line ≡ true → Entered (entry_of mode (length was) g line) was (Err (refusal 16 0)) was
    unfolding entry_of off_check unless ◌then◌ clears
    off_entry h = spared (entry_of mode (length was) g line) (refusal 16 0) was (rw (fine, h)) refl

    module _ (on : off_in mode g line ≡ false) {now : List ℕ} {R : Result Reached Refusal} (w : Walked (everywhere_in mode g line) (as_is_of mode (length was) g line) was R now) where
      on_grid : reach_of mode (length was) g line ≡ entry_of mode (length was) g line
      unfolding entry_of reach_of off_check unless ◌then◌
      on_grid = rw (fine, on)

      same : as_is_of mode (length was) g line ≡ entry_of mode (length was) g line
      same = as_is_checked g line (length was) mode fine ∙ on_grid

      is : (r : Result Reached Refusal) → R ≡ r → Walked (everywhere_in mode g line) (entry_of mode (length was) g line) was r now
      is r e = rw (← e, ← same) w

      pub found_entry : (n : ℕ) (left : List ℕ) → R ≡ Ok (Found n) → left ≡ cleared_from n now → Entered (entry_of mode (length was) g line) was (Ok n) left
      found_entry n left e h = found_entered (entry_of mode (length was) g line) (everywhere_in mode g line) n was now left (is (Ok (Found n)) e) h

      -- no line is everywhere there
      pub everywhere_entry : (r : Refusal) → R ≡ Ok Everywhere → Entered (entry_of mode (length was) g line) was (Err r) now
      everywhere_entry r e =
          absurd (true≢false (sym (everywhere_out mode g line (is_everywhere (entry_of mode (length was) g line) (everywhere_in mode g line) was now (is (Ok Everywhere) e))) ∙ on))

      pub refused_entry : (why : Refusal) → R ≡ Err why → Entered (entry_of mode (length was) g line) was (Err why) now
      refused_entry why e = refused_entered (entry_of mode (length was) g line) (everywhere_in mode g line) why was now (is (Err why) e)

-- The whole answer from its parts. Assumes nothing.
use Rattle.std.specs.Prelude.{Ok, Err, Result}
use Rattle.refusals.specs.Refusals.{Check, unless, and_then, refused, gives, ◌then◌, ◌into◌, answer_by, left_by}
use mathlib.Core.Path.{◌≡◌, refl, sym, ap, ◌∙◌}
use Prim.Native.Nat.{ℕ, zero, suc, ◌+◌, ◌*◌, ◌≤◌}
use native.Mathlib.Omega.{arith}
use mathlib.Core.Bool.{Bool, true, false}
use mathlib.Core.List.{List, [], ◌++◌, flat_map}
use lib.ListN.{length, take, drop}
use lib.Seq.{take_at}
use lib.Dec.{eqb}
use borrow.Author.Tests.{le-leb}
use Rattle.slices.specs.Lists.{any, Below}
use Rattle.slices.specs.Slices.{sorted, distinct_of, OneOfEach}
use Rattle.slices.proofs.Members.{below_elem, below_of}
use Rattle.slices.proofs.Distinct.{same_members}
use Rattle.refusals.specs.declared.Refusal.{Refusal}
use Rattle.refusals.proofs.Answers.{then_refused, then_fine}
use Rattle.refusals.proofs.Leaving.{left_same, Clearing}
use Rattle.grid.specs.declared.Grid.{Grid}
use Rattle.grid.specs.declared.Segment.{Segment}
use Rattle.grid.specs.Axes.{x_axis, y_axis}
use Rattle.grid.specs.Domain.{segment, fit, scratch_check, segment_check, grid_check}
use Rattle.grid.proofs.Shapes.{Shape}
use Rattle.walk.specs.declared.Mode.{Mode}
use Rattle.walk.specs.declared.Neighbour.{Neighbour}
use Rattle.walk.specs.declared.Reached.{Reached}
use Rattle.walk.specs.declared.Reached.TheVariants.{Found}
use Rattle.turns.specs.declared.Trod.{Trod}
use Rattle.turns.specs.Turns.{ray_of, start_of}
use Rattle.turns.specs.Pushes.{Outcome, walked_of}
use Rattle.turns.specs.Trails.{TrailIs}
use Rattle.turns.proofs.Few.{Few, walked_few}
use Rattle.turns.proofs.Entry.{room_spares, Trodden, trodden, untrodden}
use Rattle.walk.specs.Neighbours.{along_on, beside_of, line_of, endpoint_of}
use Rattle.cover.specs.Covering.{scratch_shape_check}
use Rattle.cover.proofs.Entry.{room_for, room_shape}
use Rattle.walk.specs.Segment.{pushes_of, answered, by_turns, unless_none, turns_of, turning, segment_of, everywhere_in, entry_check, reach_of, as_is_of, reached_of, Walked}
use Rattle.cover.specs.Inside.{Appended}
use Rattle.walk.specs.Inside.{Covers, Complete, share_of}
use Rattle.walk.proofs.Grows.{and_then_lem}
use Rattle.walk.proofs.Added.{end_le}
use Rattle.walk.proofs.Faithful.{same_answer}
use Rattle.walk.proofs.Room.{room}
use Rattle.walk.proofs.Checked.{entry_spares, as_is_checked}
use Rattle.walk.proofs.Reaching.{segment_turns}

module _ (mode : Mode) (g : Grid) (line : Segment) where
  -- ---- what is completed

  pub completes : (x y : Neighbour) → x ≡ along_on mode (x_axis g) line.start_x line.end_x → y ≡ along_on mode (y_axis g) line.start_y line.end_y
      → {s t u w : List ℕ} {n a c r b : ℕ} → Covers s t n a b (flat_map (beside_of x y g.cols (g.rows * g.cols)) (take n s))
      → Appended t u a c (endpoint_of mode g line.start_x line.start_y) → Appended u w c r (endpoint_of mode g line.end_x line.end_y)
      → Complete w r (pushes_of mode g line (take n s))
  unfolding pushes_of line_of
  completes x y e f p q k =
      let z = and_then_lem 3 (end_le mode g line.end_x line.end_y) (and_then_lem 3 (end_le mode g line.start_x line.start_y) p q) k in
      record { within = z.within; same = rw (← e, ← f) z.same }

module _ (mode : Mode) (g : Grid) (line : Segment) where
  -- of a scratch, a segment and a grid that pass the checks
  pub reach_is : (n : ℕ) → 16384 ≤ n → segment line ≡ true → fit g ≡ true → reach_of mode n g line ≡ segment_of mode g line
  unfolding reach_of entry_check scratch_check segment_check grid_check ◌then◌ and_then unless
  reach_is n h i k = rw (le-leb 16384 n h, i, k)

  none_is : g.cols ≡ 0 → turns_of mode g line ≡ gives []
  unfolding turns_of unless_none
  none_is e = rw e

  some : (n : ℕ) (o : Outcome) → (n ≡ 0 → ⊥) → unless_none n o ≡ o
  unfolding unless_none
  some zero o h = absurd (h refl)
  some (suc n) o h = refl

  some_is : (g.cols ≡ 0 → ⊥) → turns_of mode g line ≡ by_turns mode g line
  unfolding turns_of
  some_is h = some g.cols _ h

  -- in a mode that walks by turns
  pub segment_is : turning mode ≡ true → (g.cols ≡ 0 → ⊥) → segment_of mode g line ≡ answered mode g line (walked_of g.cols g.rows (ray_of g line) (start_of g line))
  unfolding by_turns
  segment_is t h = segment_turns mode g line t ∙ some_is h

-- ---- the answers

refused_walked : {all : Bool} (o : Outcome) (why : Refusal) (was now : List ℕ) → o ≡ refused why → length now ≡ length was → now ≡ left_by 0 why was → Walked all o was (Err why) now
unfolding reached_of answer_by
refused_walked o why was now e l h = rw e (record { answer = refl; size = l; left = h })

found_walked : (o : Outcome) (xs was now : List ℕ) (r : ℕ) → o ≡ gives xs → length now ≡ length was → r ≡ length xs → take (length xs) now ≡ xs → Walked false o was (Ok (Found r)) now
unfolding reached_of answer_by
found_walked o xs was now r e l c h = rw (e, c) (record { answer = refl; size = l; left = h })

-- on a grid of 0 columns
module _ (n : ℕ) (g : Grid) where
  pub none_refused : (r : Refusal) → scratch_shape_check n g ≡ Err r → Err r ≡ reached_of false (scratch_shape_check n g then gives [])
  unfolding reached_of answer_by ◌then◌
  none_refused r e = rw e

  pub none_found : scratch_shape_check n g ≡ Ok tt → Ok (Found 0) ≡ reached_of false (scratch_shape_check n g then gives [])
  unfolding reached_of answer_by ◌then◌
  none_found e = rw e

pub none_answer : (mode : Mode) (g : Grid) (line : Segment) (was : List ℕ) (r : Result Reached Refusal) → g.cols ≡ 0 → r ≡ reached_of false (scratch_shape_check (length was) g then gives [])
    → Walked false (scratch_shape_check (length was) g then turns_of mode g line) was r was
unfolding ◌then◌ reached_of answer_by
none_answer mode g line was r e h = rw (none_is mode g line e, h) (go (scratch_shape_check (length was) g) (room_spares (length was) g))
  where
    go : (c : Check) → Clearing false c → Walked false (c then gives []) was (reached_of false (c then gives [])) was
    go (Err y) s = record { answer = refl; size = refl; left = sym (left_same 0 y was (s.says y refl)) }
    go (Ok _) s = record { answer = refl; size = refl; left = refl }

-- behind the walk by turns
module _ (mode : Mode) (g : Grid) (line : Segment) {was now : List ℕ} {T : Result Trod Refusal} (some : g.cols ≡ 0 → ⊥) (p : TrailIs g line was T now) where
  abbrev o : Outcome
  o = scratch_shape_check (length was) g then turns_of mode g line

  abbrev w : Outcome
  w = walked_of g.cols g.rows (ray_of g line) (start_of g line)

  module _ (t : Trod) (e : T ≡ Ok t) where
    fine : scratch_shape_check (length was) g ≡ Ok tt
    fine = (trodden p t e).0

    trod : Trodden g line t.count now
    trod = (trodden p t e).1

    pub trod_shape : Shape g.cols g.rows
    trod_shape = room_shape (length was) g fine

    few : Few g line trod.walked
    few = walked_few g line trod_shape trod.walked trod.is

    -- room for all that is added, beside cells of the grid
    pub trod_room : t.count + t.count * share_of mode g line + 6 ≤ length now
    trod_room = omega (arith, room mode g line trod.walked few t.count trod.few, room_for (length was) g fine, p.size)

    pub trod_inside : Below (g.rows * g.cols) (take t.count now)
    trod_inside = below_of (g.rows * g.cols) (take t.count now) (λ v h. below_elem (g.rows * g.cols) v trod.walked few.inside (sym (trod.same (eqb v)) ∙ h))

    walks_on : o ≡ turns_of mode g line
    walks_on = then_fine _ _ fine

    ordered : (l : List ℕ) → ((f : ℕ → Bool) → any f l ≡ any f (pushes_of mode g line (take t.count now))) → by_turns mode g line ≡ gives (distinct_of (sorted l))
    unfolding by_turns answered ◌into◌
    ordered l q =
        ap (answered mode g line) trod.is
        ∙ ap gives (sym (same_answer mode g line (take t.count now) trod.walked trod.same) ∙ sym (same_members l (pushes_of mode g line (take t.count now)) (λ u. q (eqb u))))

    pub found_answer : (m r : ℕ) (s u : List ℕ) → Complete s m (pushes_of mode g line (take t.count now)) → length u ≡ length was
        → OneOfEach (sorted (take m s)) (sorted (take m s) ++ drop m s) u r
        → Walked false o was (Ok (Found r)) u
    found_answer m r s u q l k =
        found_walked _ (distinct_of (sorted (take m s))) was u r
        (walks_on ∙ some_is mode g line some ∙ ordered (take m s) q.same)
        l k.count (rw k.left (take_at (distinct_of (sorted (take m s))) (drop r (sorted (take m s) ++ drop m s)) (length (distinct_of (sorted (take m s)))) refl))

  module _ (why : Refusal) where
    seven : w ≡ refused why → turns_of mode g line ≡ refused why
    unfolding by_turns answered ◌into◌
    seven e = some_is mode g line some ∙ ap (answered mode g line) e

    out : (c : Check) → (c then w) ≡ refused why → (c then turns_of mode g line) ≡ refused why
    unfolding ◌then◌
    out (Err r) e = e
    out (Ok _) e = seven e

    pub refused_answer : T ≡ Err why → Walked false o was (Err why) now
    refused_answer e =
        let u = untrodden p why e in
        refused_walked _ why was now (out (scratch_shape_check (length was) g) u.0) p.size u.1

-- behind 3, 1 and 8
module _ (mode : Mode) (g : Grid) (line : Segment) {was : List ℕ} where
  pub reach_refused : (r : Refusal) → entry_check (length was) g line ≡ Err r → Walked (everywhere_in mode g line) (reach_of mode (length was) g line) was (Err r) was
  unfolding reach_of
  reach_refused r e = refused_walked _ r was was (then_refused _ _ r e) refl (sym (left_same 0 r was ((entry_spares g line (length was)).says r e)))

  pub reach_walked : {now : List ℕ} {R : Result Reached Refusal} → entry_check (length was) g line ≡ Ok tt → Walked (everywhere_in mode g line) (as_is_of mode (length was) g line) was R now
      → Walked (everywhere_in mode g line) (reach_of mode (length was) g line) was R now
  reach_walked h w = rw (as_is_checked g line (length was) mode h) at w

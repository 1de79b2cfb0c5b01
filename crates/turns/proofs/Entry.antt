-- The walk as a call, from its parts; and what it says to the crates above. Assumes nothing.
use Rattle.std.specs.Prelude.{Ok, Err, Some, None, Result, Option}
use Rattle.refusals.specs.Refusals.{Check, refusal, refused, gives, ◌then◌, ◌into◌, answer_by, clears, left_by}
use Rattle.std.proofs.Common.{◌≡◌, ℕ, ◌-◌, ◌≤◌, Bool, false, List, ◌++◌, length, take, sym, refl, ap, ◌∙◌, subst, arith, length-append, length-take-le}
use Rattle.slices.specs.Lists.{any}
use Rattle.slices.specs.Slices.{cleared_from}
use Rattle.refusals.specs.declared.Refusal.{Refusal}
use Rattle.refusals.proofs.Answers.{then_refused, then_fine}
use Rattle.refusals.proofs.Leaving.{Clearing, clearing_unless, clearing_then, left_zero, left_same}
use Rattle.grid.specs.declared.Grid.{Grid}
use Rattle.grid.specs.declared.Segment.{Segment}
use Rattle.grid.proofs.Fine.{scratch_spares}
use Rattle.cover.specs.Covering.{scratch_shape_check}
use Rattle.cover.proofs.Entry.{room_shape}
use Rattle.turns.specs.declared.Walk.{Walk}
use Rattle.turns.specs.declared.Way.{Way}
use Rattle.turns.specs.declared.Trod.{Trod}
use Rattle.turns.specs.Turns.{ray_of, start_of}
use Rattle.turns.specs.Pushes.{push_of, Outcome, followed_by, onward_of, walked_of}
use Rattle.turns.specs.Trails.{unless_there, ended_in, trodden_of, tread_of, trod_by, trail_of, TrailLeft, TrailIs}
use Rattle.turns.specs.InsideModular.{course_by, position_by, way_by, start_by, trodden_by}
use Rattle.turns.specs.Inside.{RanTo}
use Rattle.turns.proofs.Grows.{there_le, there_same}
use Rattle.turns.proofs.Whole.{trodden_is}
use Rattle.turns.proofs.Pushed.{no_cells, same_cells}

-- ---- 3, and 8 by the counts alone

-- neither is one of 4 to 7
pub room_spares : (n : ℕ) (g : Grid) → Clearing false (scratch_shape_check n g)
unfolding scratch_shape_check clears
room_spares n g = clearing_then (scratch_spares n) (clearing_unless _ 8 0 refl)

-- ---- the answer

refused_trail : (g : Grid) (line : Segment) (why : Refusal) (was now : List ℕ) → tread_of (length was) g line ≡ refused why → length now ≡ length was → now ≡ left_by 0 why was
    → TrailIs g line was (Err why) now
unfolding trail_of answer_by
refused_trail g line why was now e l h = record { answer = rw e; size = l; left = rw e h }

module _ (g : Grid) (line : Segment) (was : List ℕ) where
  pub check_trail : (r : Refusal) → scratch_shape_check (length was) g ≡ Err r → TrailIs g line was (Err r) was
  unfolding tread_of
  check_trail r e = refused_trail g line r was was (then_refused _ _ r e) refl (sym (left_same 0 r was ((room_spares (length was) g).says r e)))

  module _ (fine : scratch_shape_check (length was) g ≡ Ok tt) (way : Way) (w : Walk) (R : Option ℕ) (s : List ℕ) (e : way ≡ way_by g line) (f : w ≡ start_by g line)
      (run : RanTo (trodden_by g.cols g.rows way w) R s) (size : length s ≡ length was) where
    -- by the code's walk
    tread_is : tread_of (length was) g line ≡ trodden_by g.cols g.rows way w
    unfolding tread_of
    tread_is = then_fine _ _ fine ∙ trodden_is g line (room_shape (length was) g fine) ∙ rw (← e, ← f)

    found : (o : Outcome) (n : ℕ) → tread_of (length was) g line ≡ o → RanTo o (Some n) s
        → TrailIs g line was (Ok (record { count = n; start_col = w.x.index; start_row = w.y.index; end_col = way.x.end; end_row = way.y.end })) s
    unfolding trail_of answer_by trod_by way_by start_by course_by position_by
    found (refused why) n k p = absurd p
    found (gives xs) n k p =
        let l : n ≡ length xs = sym (length-take-le n s p.0) ∙ ap length p.1 in
        record { answer = rw (k, e, f, l); size = size; left = rw (k, ← l) p.1 }

    pub done_trail : (n : ℕ) → R ≡ Some n
        → TrailIs g line was (Ok (record { count = n; start_col = w.x.index; start_row = w.y.index; end_col = way.x.end; end_row = way.y.end })) s
    done_trail n d = found (trodden_by g.cols g.rows way w) n tread_is (subst (λ (z : Option ℕ). RanTo (trodden_by g.cols g.rows way w) z s) d run)

    budget : (o : Outcome) → RanTo o None s → o ≡ refused (refusal 7 0)
    budget (refused why) p = ap refused p
    budget (gives xs) p = absurd p

    -- 7 clears
    pub over_trail : (t : List ℕ) → R ≡ None → length t ≡ length s → t ≡ cleared_from 0 s → TrailIs g line was (Err (refusal 7 0)) t
    unfolding clears cleared_from
    over_trail t d k c =
        let z : length s - 0 ≡ length was = omega arith in
        refused_trail g line (refusal 7 0) was t
        (tread_is ∙ budget (trodden_by g.cols g.rows way w) (subst (λ (z : Option ℕ). RanTo (trodden_by g.cols g.rows way w) z s) d run))
        (k ∙ size) (c ∙ rw z (sym (left_zero 0 (refusal 7 0) was refl)))

-- ---- what it says: the cells that are walked, each at least once, and no other

pub record Trodden (g : Grid) (line : Segment) (n : ℕ) (s : List ℕ) : Type 0 where
  pub walked : List ℕ
  pub is : walked_of g.cols g.rows (ray_of g line) (start_of g line) ≡ gives walked
  pub same : (f : ℕ → Bool) → any f (take n s) ≡ any f walked
  pub few : n ≤ length walked

ended_followed : (o : Outcome) (why : Refusal) (ys : List ℕ) → ended_in o ys ≡ refused why → followed_by o ys ≡ refused why
unfolding ended_in followed_by ◌into◌
ended_followed (refused r) why ys e = e
ended_followed (gives xs) why ys e = absurd (no_cells why (xs ++ unless_there xs ys) (sym e))

module _ (g : Grid) (line : Segment) (s : List ℕ) (xs : List ℕ) (left : take (length xs) s ≡ xs) where
  ended : (o : Outcome) (ys : List ℕ) → ended_in o ys ≡ gives xs → walked_of g.cols g.rows (ray_of g line) (start_of g line) ≡ followed_by o ys → Trodden g line (length xs) s
  unfolding ended_in followed_by ◌into◌
  ended (refused why) ys e k = absurd (no_cells why xs e)
  ended (gives zs) ys e k =
      let q : zs ++ unless_there zs ys ≡ xs = same_cells (zs ++ unless_there zs ys) xs e in
      record {
        walked = zs ++ ys;
        is = k;
        same = λ f. ap (any f) (left ∙ sym q) ∙ there_same f zs ys;
        few = omega (arith, ap length q, length-append zs (unless_there zs ys), length-append zs ys, there_le zs ys);
      }

module _ {g : Grid} {line : Segment} {was now : List ℕ} {R : Result Trod Refusal} (p : TrailIs g line was R now) where
  module _ (t : Trod) (e : R ≡ Ok t) where
    trod : (c : Check) → c ≡ scratch_shape_check (length was) g → (o : Outcome) → o ≡ trodden_of g.cols g.rows (ray_of g line) (start_of g line)
        → Ok t ≡ trail_of g line (c then o) → TrailLeft (c then o) was now → (scratch_shape_check (length was) g ≡ Ok tt) × Trodden g line t.count now
    unfolding ◌then◌ trail_of answer_by trod_by trodden_of walked_of
    trod (Err r) k o h a l = let z : ◌≡◌ {A = ℕ} 0 1 = cc a in absurd (omega arith)
    trod (Ok _) k (refused why) h a l = let z : ◌≡◌ {A = ℕ} 0 1 = cc a in absurd (omega arith)
    trod (Ok _) k (gives xs) h a l =
        let n : t.count ≡ length xs = cc a in (
          sym k,
          rw n
              (ended g line now xs l (onward_of g.cols g.rows (ray_of g line) (start_of g line)) (push_of g.cols g.rows (ray_of g line).x.end (ray_of g line).y.end) (sym h) refl),
        )

    pub trodden : (scratch_shape_check (length was) g ≡ Ok tt) × Trodden g line t.count now
    unfolding tread_of
    trodden = trod (scratch_shape_check (length was) g) refl (trodden_of g.cols g.rows (ray_of g line) (start_of g line)) refl (sym e ∙ p.answer) p.left

  module _ (why : Refusal) (e : R ≡ Err why) where
    out : (c : Check) (o q : Outcome) → (o ≡ refused why → q ≡ refused why)
        → Err why ≡ trail_of g line (c then o) → TrailLeft (c then o) was now → ((c then q) ≡ refused why) × (now ≡ left_by 0 why was)
    unfolding ◌then◌ trail_of answer_by
    out (Err r) o q h a l = let z : why ≡ r = cc a in (ap refused (sym z), rw z l)
    out (Ok _) (refused r) q h a l = let z : why ≡ r = cc a in (h (ap refused (sym z)), rw z l)
    out (Ok _) (gives xs) q h a l = let z : ◌≡◌ {A = ℕ} 0 1 = cc a in absurd (omega arith)

    pub untrodden : ((scratch_shape_check (length was) g then walked_of g.cols g.rows (ray_of g line) (start_of g line)) ≡ refused why) × (now ≡ left_by 0 why was)
    unfolding tread_of trodden_of walked_of
    untrodden =
        out (scratch_shape_check (length was) g) (trodden_of g.cols g.rows (ray_of g line) (start_of g line)) (walked_of g.cols g.rows (ray_of g line) (start_of g line))
        (ended_followed (onward_of g.cols g.rows (ray_of g line) (start_of g line)) why (push_of g.cols g.rows (ray_of g line).x.end (ray_of g line).y.end))
        (sym e ∙ p.answer) p.left

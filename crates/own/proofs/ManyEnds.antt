-- The call for many points, by its checks: what each refusal leaves, what all of them let through, and that the promise settles the outcome.
-- Assumes nothing.
use Rattle.std.specs.Prelude.{Ok, Err}
use Rattle.std.proofs.Common.{◌≡◌, ℕ, ◌<◌, true, false, ◌&&◌, eqb, List, length, get_or, sym, refl, ap, ◌∙◌, arith, lit<, eqb-true}
use lib.Ieee.{Float, nan}
use Rattle.refusals.specs.declared.Refusal.{Refusal}
use Rattle.refusals.specs.Refusals.{Check, unless, and_then, Answer, refused, gives, ◌then◌, answer_by, clears, left_in}
use Rattle.refusals.proofs.Checks.{unless_fine}
use Rattle.refusals.proofs.Answers.{then_refused, then_fine, then_passed}
use Rattle.refusals.proofs.Leaving.{left_same, numbers_below, clearing_unless, clearing_each}
use Rattle.grid.specs.declared.Grid.{Grid}
use Rattle.grid.specs.Domain.{fit, point_check, grid_check}
use Rattle.grid.proofs.Bools.{and_left, and_right}
use Rattle.grid.proofs.Fine.{grid_spares}
use Rattle.grid.proofs.Shapes.{fit_says}
use Rattle.own.specs.Own.{point_on_grid_check}
use Rattle.own.specs.Owner.{owner_of, owner_answer}
use Rattle.own.specs.Many.{owner_number, owner_by, owners_of, alike_check, point_fits, points_check, owners_end, owners_check, OwnersAre}
use Rattle.own.specs.Inside.{PointsChecked}
use Rattle.own.proofs.ThreeCases.{its_case}
use Rattle.own.proofs.ManyLaws.{told, owners_at, point_at}

-- the slices have one length
pub lengths : (m n k : ℕ) → alike_check m n k ≡ Ok tt → (n ≡ m) × (k ≡ m)
unfolding alike_check
lengths m n k a =
    let e = unless_fine (eqb n m && eqb k m) 3 0 a in
    (eqb-true n m (and_left (eqb n m) (eqb k m) e), eqb-true k m (and_right (eqb n m) (eqb k m) e))

module _ (g : Grid) (xs ys : List Float) (was : List ℕ) where
  -- ---- a refusal leaves the answers as they were

  spared : (r : Refusal) → owners_end g xs ys (length was) ≡ refused r → clears r.number ≡ false → OwnersAre g xs ys was (Err r) was
  unfolding owners_check answer_by left_in
  spared r e h = record { answer = rw e; left = rw e (sym (left_same 0 r was h)) }

  pub unlike : (r : Refusal) → alike_check (length xs) (length ys) (length was) ≡ Err r → OwnersAre g xs ys was (Err r) was
  unfolding owners_end alike_check
  unlike r e = spared r (then_refused _ _ r e) ((clearing_unless _ 3 0 (numbers_below 3 (lit< tt))).says r e)

  module _ (a : alike_check (length xs) (length ys) (length was) ≡ Ok tt) where
    pub bad_point : (r : Refusal) → points_check xs ys ≡ Err r → OwnersAre g xs ys was (Err r) was
    unfolding owners_end points_check
    bad_point r e =
        spared r (then_fine _ _ a ∙ then_refused _ _ r e) ((clearing_each (point_fits xs ys) 1 (length xs) 0 (numbers_below 1 (lit< tt))).says r e)

    module _ (p : points_check xs ys ≡ Ok tt) where
      pub unfit : (r : Refusal) → grid_check g ≡ Err r → OwnersAre g xs ys was (Err r) was
      unfolding owners_end
      unfit r e = spared r (then_fine _ _ a ∙ then_fine _ _ p ∙ then_refused _ _ r e) ((grid_spares g).says r e)

      module _ (f : grid_check g ≡ Ok tt) where
        pub checked : PointsChecked g xs ys was
        unfolding grid_check
        checked =
            let l = lengths (length xs) (length ys) (length was) a in
            record { fits = unless_fine (fit g) 8 0 f; points = p; alike = l.0; room = l.1 }

        pub all_told : {now : List ℕ} → now ≡ owners_of g xs ys → OwnersAre g xs ys was (Ok tt) now
        unfolding owners_end owners_check answer_by left_in
        all_told e =
            let end : owners_end g xs ys (length was) ≡ gives (owners_of g xs ys) = then_fine _ _ a ∙ then_fine _ _ p ∙ then_fine _ _ f in
            record { answer = rw end; left = rw end e }

-- any two outcomes that the promise admits are identical
pub one_outcome : {g : Grid} {xs ys : List Float} {was now now₁ : List ℕ} {r r₁ : Check} → OwnersAre g xs ys was r now → OwnersAre g xs ys was r₁ now₁ → (r ≡ r₁) × (now ≡ now₁)
one_outcome h k = (h.answer ∙ sym k.answer, h.left ∙ sym k.left)

-- ---- each entry says the single call's answer

module _ (g : Grid) (xs ys : List Float) (was now : List ℕ) where
  -- what a call that is not refused has passed and left
  record Passed : Type 0 where
    alike : alike_check (length xs) (length ys) (length was) ≡ Ok tt
    points : points_check xs ys ≡ Ok tt
    grid : grid_check g ≡ Ok tt
    is : now ≡ owners_of g xs ys

  passed : OwnersAre g xs ys was (Ok tt) now → Passed
  unfolding owners_check owners_end answer_by left_in
  passed h = go (owners_end g xs ys (length was)) refl h.answer h.left
    where
      same : {p q : List ℕ} → ◌≡◌ {A = Answer (List ℕ)} (gives p) (gives q) → q ≡ p
      same d = cc

      go : (a : Answer (List ℕ)) → owners_end g xs ys (length was) ≡ a → ◌≡◌ {A = Check} (Ok tt) (answer_by Err (λ owners. Ok tt) a) → now ≡ left_in 0 was a (λ owners. owners) → Passed
      go (refused r) e f l = let z : ◌≡◌ {A = ℕ} 0 1 = cc in absurd (omega arith)
      go (gives o) e f l =
          let p = then_passed _ _ e in
          let q = then_passed _ _ p.1 in
          let s = then_passed _ _ q.1 in
          record { alike = p.0; points = q.0; grid = s.0; is = l ∙ same s.1 }

  pub as_one : OwnersAre g xs ys was (Ok tt) now → (i : ℕ) → i < length xs → Ok (owner_by g.cols (get_or now i 0)) ≡ owner_answer g (get_or xs i nan) (get_or ys i nan)
  unfolding owner_answer point_on_grid_check point_check grid_check answer_by ◌then◌ and_then unless
  as_one h i l =
      let p = passed h in
      let x = get_or xs i nan in
      let y = get_or ys i nan in
      let fits : fit g ≡ true = unless_fine (fit g) 8 0 p.grid in
      let few = (fit_says g fits).counts.cells in
      let entry : get_or now i 0 ≡ owner_number g.cols (owner_of g x y) =
      ap (λ (s : List ℕ). get_or s i 0) p.is ∙ owners_at g xs ys i (lengths (length xs) (length ys) (length was) p.alike).0 l in
      let says : owner_by g.cols (get_or now i 0) ≡ owner_of g x y =
      ap (owner_by g.cols) entry ∙ told g (omega arith) x y (owner_of g x y) (its_case g x y) in
      rw (point_at xs ys i p.points l, fits) (ap Ok says)

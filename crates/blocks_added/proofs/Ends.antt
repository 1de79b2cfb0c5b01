-- The order of the refusals. 10 is due where the tables misfit, and where the summary and the offsets disagree, with one value: so whether the summary is
-- that of the offsets may be asked before the tables are checked. Assumes nothing.
use Rattle.std.specs.Prelude.{Ok, Err}
use mathlib.Core.Path.{◌≡◌, refl, sym, ap, ◌∙◌}
use mathlib.Core.Bool.{Bool, true, false, ◌&&◌}
use mathlib.Core.List.{List}
use Prim.Native.Nat.{ℕ, ◌≤◌}
use native.Mathlib.Omega.{arith}
use borrow.Author.Tests.{leb-true}
use lib.Dec.{leb, ltb}
use lib.ListN.{length}
use Rattle.refusals.specs.declared.Refusal.{Refusal}
use Rattle.refusals.specs.Refusals.{Check, refusal, unless, and_then, Answer, refused, ◌then◌}
use Rattle.refusals.proofs.Checks.{unless_fine, and_then_left, and_then_right}
use Rattle.refusals.proofs.Answers.{then_fine, then_refused}
use Rattle.refusals.proofs.Leaving.{Clearing, clearing_unless, clearing_then, numbers_below, numbers_above}
use Rattle.grid.specs.declared.Grid.{Grid}
use Rattle.grid.specs.declared.Segment.{Segment}
use Rattle.grid.specs.Domain.{fit, scratch_check, segment_check}
use Rattle.grid.proofs.Bools.{and_left}
use Rattle.walk.specs.declared.Mode.{Mode}
use Rattle.tables.specs.Tables.{Tables, tables}
use Rattle.tables.specs.Fit.{tables_fit, tables_check}
use Rattle.tables.proofs.Facts.{fit_facts}
use Rattle.blocks.specs.Blocks.{blocks, own, summary_of, summary_check}
use Rattle.blocks.proofs.Owns.{fit_summary}
use Rattle.added.specs.Added.{below_check, cells_check, edge_check, ask_check, room_for, add_end}
use Rattle.added.proofs.Asking.{asked}
use Rattle.blocks_added.specs.Beside.{own_check, beside_end}
use Rattle.blocks_added.specs.Inside.{first_check}

-- ---- over any checks

-- U, which is asked first, refuses as what follows C does
in_order_lem : (A S B L C U T O : Check) (rest : Answer (List ℕ)) (r : Refusal)
    → (A ≡ Ok tt → C ≡ Ok tt → (q : Refusal) → U ≡ Err q → (T then O then rest) ≡ refused q)
    → and_then A (and_then S (and_then B (and_then L (and_then C U)))) ≡ Err r
    → (A then and_then S (and_then B (and_then L (and_then C T))) then O then rest) ≡ refused r
unfolding and_then ◌then◌
in_order_lem (Err a) S B L C U T O rest r link e = cc
in_order_lem (Ok _) (Err a) B L C U T O rest r link e = cc
in_order_lem (Ok _) (Ok _) (Err a) L C U T O rest r link e = cc
in_order_lem (Ok _) (Ok _) (Ok _) (Err a) C U T O rest r link e = cc
in_order_lem (Ok _) (Ok _) (Ok _) (Ok _) (Err a) U T O rest r link e = cc
in_order_lem (Ok _) (Ok _) (Ok _) (Ok _) (Ok _) (Err a) T O rest r link e = link refl refl a refl ∙ cc
in_order_lem (Ok _) (Ok _) (Ok _) (Ok _) (Ok _) (Ok _) T O rest r link e = let x : ◌≡◌ {A = ℕ} 0 1 = cc in absurd (omega arith)

-- a check that passes where the one before it does
passed_over : (A O : Check) (rest : Answer (List ℕ)) → (A ≡ Ok tt → O ≡ Ok tt) → (A then O then rest) ≡ (A then rest)
unfolding ◌then◌
passed_over (Err a) O rest h = refl
passed_over (Ok _) O rest h = then_fine O rest (h refl)

refused_as : (b : Bool) (n v : ℕ) {q : Refusal} → unless b n v ≡ Err q → refusal n v ≡ q
unfolding unless
refused_as true n v e = let x : ◌≡◌ {A = ℕ} 0 1 = cc in absurd (omega arith)
refused_as false n v e = cc

-- ---- of the call

module _ (mode : Mode) (g : Grid) (line : Segment) (n : ℕ) (o xs gs : List ℕ) (found : ℕ) (kept s : List ℕ) where
  abbrev t : Tables
  t = tables g n o xs gs found

  rest : Answer (List ℕ)
  rest = edge_check g line then room_for mode g line t

  pub room_says : summary_check g (length kept) ≡ Ok tt → blocks g ≤ length kept
  unfolding summary_check
  room_says e = leb-true (blocks g) (length kept) (unless_fine (leb (blocks g) (length kept)) 3 0 e)

  link : summary_check g (length kept) ≡ Ok tt → cells_check g ≡ Ok tt → (q : Refusal) → unless (summary_of g o kept) 10 0 ≡ Err q
      → (tables_check t then own_check g o kept then edge_check g line then room_for mode g line t) ≡ refused q
  unfolding cells_check tables_check own_check
  link a c q u = go (tables_fit t) refl
    where
      go : (b : Bool) → tables_fit t ≡ b → (unless (tables_fit t) 10 0 then unless (own g o kept) 10 0 then edge_check g line then room_for mode g line t) ≡ refused q
      go false e = rw e (unfold unless in unfold ◌then◌ in ap refused (refused_as (summary_of g o kept) 10 0 u))
      go true e =
          let f = and_left (fit g) (ltb 0 g.cols) (unless_fine (fit g && ltb 0 g.cols) 8 0 c) in
          let d = fit_summary g n o xs gs found kept f (fit_facts t e) (room_says a) in
          then_fine (unless (tables_fit t) 10 0) _ (rw e (unfold unless in refl)) ∙ then_refused (unless (own g o kept) 10 0) _ q (rw d at u)

  pub first_refused : (r : Refusal) → first_check g line n o kept (length s) ≡ Err r → beside_end mode g line t kept (length s) ≡ refused r
  unfolding first_check beside_end ask_check
  first_refused r e =
      in_order_lem (summary_check g (length kept)) (scratch_check (length s)) (below_check n) (segment_check line) (cells_check g) (unless (summary_of g o kept) 10 0) (tables_check t) (own_check g o kept)
      (edge_check g line then room_for mode g line t) r link e

  pub first_spares : Clearing false (first_check g line n o kept (length s))
  unfolding first_check summary_check scratch_check below_check segment_check cells_check
  first_spares =
      clearing_then (clearing_unless _ 3 0 (numbers_below 3 (omega arith)))
      (clearing_then (clearing_unless _ 3 0 (numbers_below 3 (omega arith)))
      (clearing_then (clearing_unless _ 2 n (numbers_below 2 (omega arith)))
      (clearing_then (clearing_unless _ 1 0 (numbers_below 1 (omega arith)))
      (clearing_then (clearing_unless _ 8 0 (numbers_above 8 (omega arith))) (clearing_unless _ 10 0 (numbers_above 10 (omega arith)))))))

  module _ (f : first_check g line n o kept (length s) ≡ Ok tt) where
    pub first_room : blocks g ≤ length kept
    unfolding first_check
    first_room = room_says (and_then_left _ _ f)

    summary_fine : summary_of g o kept ≡ true
    unfolding first_check
    summary_fine = unless_fine (summary_of g o kept) 10 0 (and_then_right _ _ (and_then_right _ _ (and_then_right _ _ (and_then_right _ _ (and_then_right _ _ f)))))

    -- where the tables fit, the summary is their own
    pub first_own : ask_check g line t (length s) ≡ Ok tt → own g o kept ≡ true
    first_own a =
        let p = asked {g = g} {line = line} {t = t} {s = s} a in
        sym (fit_summary g n o xs gs found kept p.walkable.fits p.tables_fit_lem first_room) ∙ summary_fine

    -- THE CALL ENDS AS THAT WITHOUT A SUMMARY
    pub ends_alike : beside_end mode g line t kept (length s) ≡ add_end mode g line t (length s)
    unfolding beside_end add_end first_check own_check unless
    ends_alike =
        then_fine (summary_check g (length kept)) _ (and_then_left _ _ f)
        ∙ passed_over (ask_check g line t (length s)) (unless (own g o kept) 10 0) (edge_check g line then room_for mode g line t) (λ a. rw (first_own a))

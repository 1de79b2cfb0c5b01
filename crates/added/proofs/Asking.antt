-- The checks in their order, case by case. Assumes nothing.
use Rattle.std.specs.Prelude.{Ok, Err}
use mathlib.Core.Path.{◌≡◌, sym, ap, ◌∙◌}
use mathlib.Core.Bool.{Bool, ◌&&◌}
use Prim.Native.Nat.{ℕ}
use borrow.Author.Tests.{leb-true, ltb-true}
use lib.Dec.{leb, ltb}
use lib.ListN.{length}
use Rattle.refusals.specs.declared.Refusal.{Refusal}
use Rattle.refusals.specs.Refusals.{Check, unless}
use Rattle.refusals.proofs.Checks.{unless_fine, and_then_refused, and_then_fine, and_then_left, and_then_right}
use Rattle.grid.specs.declared.Grid.{Grid}
use Rattle.grid.specs.declared.Segment.{Segment}
use Rattle.grid.specs.Domain.{segment, fit, scratch_check, segment_check}
use Rattle.grid.proofs.Bools.{and_left, and_right}
use Rattle.tables.specs.Tables.{Tables}
use Rattle.tables.specs.Fit.{tables_check}
use Rattle.tables.proofs.Facts.{check_facts}
use Rattle.added.specs.Added.{below_check, cells_check, ask_check}
use Rattle.added.specs.Inside.{space_by, Placeable}
use mathlib.Core.List.{List}

-- ---- 5, then 6

module _ (total items found globals : ℕ) {b : Bool} (test : b ≡ (leb total items && leb total 4294967295)) where
  fives : {k : Check} → k ≡ unless b 5 total → unless (leb total items && leb total 4294967295) 5 total ≡ k
  fives e = sym (e ∙ ap (λ (x : Bool). unless x 5 total) test)

  pub room_items : {r : Refusal} → Err r ≡ unless b 5 total → Err r ≡ space_by total items found globals
  unfolding space_by
  room_items {r} e = sym (and_then_refused _ _ r (fives e))

  pub room_globals : {q : Check} → Ok tt ≡ unless b 5 total → q ≡ unless (leb found globals) 6 found → q ≡ space_by total items found globals
  unfolding space_by
  room_globals e h = h ∙ sym (and_then_fine _ _ (fives e))

-- ---- 3, 2, 1, 8, 10

module _ (g : Grid) (line : Segment) (t : Tables) (scratch : ℕ) where
  pub ask_scratch : (r : Refusal) → scratch_check scratch ≡ Err r → Err r ≡ ask_check g line t scratch
  unfolding ask_check
  ask_scratch r e = sym (and_then_refused _ _ r e)

  module _ (a : scratch_check scratch ≡ Ok tt) where
    pub ask_many : (r : Refusal) → below_check t.lines ≡ Err r → Err r ≡ ask_check g line t scratch
    unfolding ask_check
    ask_many r e = sym (and_then_fine _ _ a ∙ and_then_refused _ _ r e)

    module _ (b : below_check t.lines ≡ Ok tt) where
      pub ask_line : (r : Refusal) → segment_check line ≡ Err r → Err r ≡ ask_check g line t scratch
      unfolding ask_check
      ask_line r e = sym (and_then_fine _ _ a ∙ and_then_fine _ _ b ∙ and_then_refused _ _ r e)

      module _ (d : segment_check line ≡ Ok tt) where
        pub ask_grid : (r : Refusal) → cells_check g ≡ Err r → Err r ≡ ask_check g line t scratch
        unfolding ask_check
        ask_grid r e = sym (and_then_fine _ _ a ∙ and_then_fine _ _ b ∙ and_then_fine _ _ d ∙ and_then_refused _ _ r e)

        pub ask_tables : cells_check g ≡ Ok tt → tables_check t ≡ ask_check g line t scratch
        unfolding ask_check
        ask_tables e = sym (and_then_fine _ _ a ∙ and_then_fine _ _ b ∙ and_then_fine _ _ d ∙ and_then_fine _ _ e)

pub below_is : (n : ℕ) {k : Check} → k ≡ unless (ltb n 65536) 2 n → k ≡ below_check n
unfolding below_check
below_is n h = h

pub cells_are : (g : Grid) {b : Bool} {k : Check} → k ≡ unless b 8 0 → b ≡ (fit g && ltb 0 g.cols) → k ≡ cells_check g
unfolding cells_check
cells_are g h e = h ∙ ap (λ (x : Bool). unless x 8 0) e

-- what they find
pub asked : {g : Grid} {line : Segment} {t : Tables} {s : List ℕ} → ask_check g line t (length s) ≡ Ok tt → Placeable g line t s
unfolding ask_check scratch_check below_check segment_check cells_check
asked {g} {line} {t} {s} h =
    let h₁ = and_then_right _ _ h in
    let h₂ = and_then_right _ _ h₁ in
    let h₃ = and_then_right _ _ h₂ in
    record {
      walkable =
          record {
            space = leb-true 16384 (length s) (unless_fine _ 3 0 (and_then_left _ _ h));
            obeys = unless_fine (segment line) 1 0 (and_then_left _ _ h₂);
            fits = and_left (fit g) (ltb 0 g.cols) (unless_fine _ 8 0 (and_then_left _ _ h₃));
          };
      some = ltb-true 0 g.cols (and_right (fit g) (ltb 0 g.cols) (unless_fine _ 8 0 (and_then_left _ _ h₃)));
      tables_fit_lem = check_facts t (and_then_right _ _ h₃);
      few = ltb-true t.lines 65536 (unless_fine _ 2 t.lines (and_then_left _ _ h₁));
    }

-- What follows from the promises of the entries alone.
--     one-count, one-tables     each promise settles everything (that of `add`: `one_sum`)
--     tables-stand              what `tables_on` leaves stands, so that demand 3 holds of it
--     offsets-sum               its offsets are the running sums of the count
--     build-is-tables           a build leaves what `tables_on` leaves on the grid that the build chose
--     lengths-added             the added count tables of benches are the lengths of the lists in all lines' tables
-- Assumes nothing.
use Rattle.std.specs.Prelude.{Ok, Err, Result}
use Rattle.refusals.specs.declared.Refusal.{Refusal}
use Rattle.refusals.specs.Refusals.{Check, unless, and_then, Answer, gives, ◌then◌, ◌into◌, answer_by, left_in, zero_beyond}
use Rattle.build.specs.declared.Standing.{Standing}
use mathlib.Core.Path.{◌≡◌, refl, sym, ap, ◌∙◌}
use mathlib.Core.List.{List, ◌++◌}
use Prim.Native.Nat.{ℕ, suc, ◌-◌, ◌≤◌, ◌<◌}
use native.Mathlib.Omega.{arith}
use borrow.Author.Tests.{leb-true, le-leb}
use lib.Dec.{leb}
use lib.ListN.{length, get_or, replicate}
use Rattle.slices.proofs.Clearing.{length_filled}
use Rattle.refusals.proofs.Checks.{unless_fine, and_then_left, and_then_right}
use Rattle.refusals.proofs.Answers.{then_passed}
use Rattle.grid.specs.declared.Grid.{Grid}
use Rattle.grid.specs.Domain.{Lines, count, scratch_check, lines_check}
use Rattle.walk.specs.declared.Mode.{Mode}
use Rattle.tables.specs.Tables.{tables, list_in}
use Rattle.tables.specs.Lists.{sum, items_of, offsets_of}
use Rattle.tables.specs.Stands.{Stands}
use Rattle.tables.proofs.Laws.{sum_same, table_made, table_offset, length_offsets, length_items}
use Rattle.tables.proofs.Standing.{Laid, laid_stands}
use Rattle.fill.specs.OnGrid.{grid_cells, cells_on, list_on, globals_on, total, counts_on}
use Rattle.fill.specs.Checks.{counting_check, space_check}
use Rattle.fill.proofs.Counts.{turns_all}
use Rattle.fill.proofs.Walks.{cells_walk}
use Rattle.build.specs.declared.Plan.{Plan}
use Rattle.build.specs.Choice.{choice}
use Rattle.build.specs.Build.{room_on, end_of, BuildIs}
use Rattle.build.proofs.Settled.{Made, made_says}
use Rattle.counts.specs.declared.Counted.{Counted}
use Rattle.counts.specs.declared.Tabled.{Tabled}
use Rattle.counts.specs.OnGrid.{CountingIs, tabled_on, tables_room_check, tables_of, TablesAre}
use Rattle.counts.specs.Sharing.{Benches, Shared, table_by}
use Rattle.counts.proofs.Passing.{Passes, fine_passes, passes_fine, table_in}
use Rattle.counts.proofs.Sharings.{shared_counts}

-- ---- the promises settle everything

pub one_count : {mode : Mode} {g : Grid} {ls : Lines} {o s : List ℕ} {r r₁ : Result Counted Refusal} {o' o₁ s' s₁ : List ℕ} {a : Answer ℕ}
    → CountingIs mode g ls o s r o' s' a → CountingIs mode g ls o s r₁ o₁ s₁ a → (r ≡ r₁) × (o' ≡ o₁) × (s' ≡ s₁)
one_count h k = (h.answer ∙ sym k.answer, h.counts_are ∙ sym k.counts_are, h.scratch_is ∙ sym k.scratch_is)

pub one_tables : {mode : Mode} {g : Grid} {ls : Lines} {o t gs s : List ℕ} {r r₁ : Result Tabled Refusal} {o' o₁ t' t₁ gs' gs₁ s' s₁ : List ℕ} {a : Answer Grid}
    → TablesAre mode g ls o t gs s r o' t' gs' s' a → TablesAre mode g ls o t gs s r₁ o₁ t₁ gs₁ s₁ a → (r ≡ r₁) × (o' ≡ o₁) × (t' ≡ t₁) × (gs' ≡ gs₁) × (s' ≡ s₁)
one_tables h k = (
  h.answer ∙ sym k.answer,
  h.offsets_are ∙ sym k.offsets_are,
  h.items_are ∙ sym k.items_are,
  h.globals_are ∙ sym k.globals_are,
  h.scratch_is ∙ sym k.scratch_is,
)

-- ---- tables that were made

-- what passes all checks of tables on a grid, in slices of these lengths
record Fills (mode : Mode) (g : Grid) (ls : Lines) (offsets items globals scratch : ℕ) : Type 0 where
  passes : Passes mode g ls offsets scratch
  space : total mode g ls ≤ items
  listed : length (globals_on mode g ls) ≤ globals

module _ (mode : Mode) (g : Grid) (ls : Lines) (offsets items globals scratch : ℕ) where
  fine_fills : tables_room_check mode g ls offsets items globals scratch ≡ Ok tt → Fills mode g ls offsets items globals scratch
  unfolding tables_room_check space_check
  fine_fills h =
      let s = and_then_right (counting_check mode g ls offsets scratch) (space_check mode g ls items globals) h in
      record {
        passes = fine_passes mode g ls offsets scratch (and_then_left (counting_check mode g ls offsets scratch) (space_check mode g ls items globals) h);
        space = leb-true (total mode g ls) items (unless_fine (leb (total mode g ls) items) 5 (total mode g ls) (and_then_left _ _ s));
        listed = leb-true (length (globals_on mode g ls)) globals (unless_fine (leb (length (globals_on mode g ls)) globals) 6 (length (globals_on mode g ls)) (and_then_right _ _ s));
      }

  fills_given : Fills mode g ls offsets items globals scratch → tables_of mode g ls offsets items globals scratch ≡ gives g
  unfolding tables_of tables_room_check space_check unless and_then ◌then◌
  fills_given f =
      rw (
        passes_fine mode g ls offsets scratch f.passes,
        le-leb (total mode g ls) items f.space,
        le-leb (length (globals_on mode g ls)) globals f.listed,
      )

same_tabled : {t u : Tabled} → ◌≡◌ {A = Result Tabled Refusal} (Ok t) (Ok u) → t ≡ u
same_tabled e = cc

module _ {mode : Mode} {g : Grid} {ls : Lines} {o t gs s : List ℕ} {r : Result Tabled Refusal} {o' t' gs' s' : List ℕ} {items globals : ℕ} (h : TablesAre mode g ls o t gs s r o' t' gs' s' (tables_of mode g ls (length o) (length t) (length gs) (length s))) (ok : r ≡ Ok (record { items = items; globals = globals })) where
  passed : (k : Check) → r ≡ answer_by Err (λ g. Ok (tabled_on mode ls g)) (k then gives g) → (k ≡ Ok tt) × (globals ≡ length (globals_on mode g ls))
  unfolding ◌then◌ answer_by
  passed k e = go k e
    where
      go : (k : Check) → r ≡ answer_by Err (λ g. Ok (tabled_on mode ls g)) (k then gives g) → (k ≡ Ok tt) × (globals ≡ length (globals_on mode g ls))
      go (Ok _) e = (refl, ap (λ (t : Tabled). t.globals) (same_tabled (sym ok ∙ e)))
      go (Err q) e = let z : ◌≡◌ {A = ℕ} 0 1 = cc in absurd (omega arith)

  check_passed : (tables_room_check mode g ls (length o) (length t) (length gs) (length s) ≡ Ok tt) × (globals ≡ length (globals_on mode g ls))
  unfolding tables_of
  check_passed = passed (tables_room_check mode g ls (length o) (length t) (length gs) (length s)) h.answer

  filled : Fills mode g ls (length o) (length t) (length gs) (length s)
  filled = fine_fills mode g ls (length o) (length t) (length gs) (length s) check_passed.0

  given : tables_of mode g ls (length o) (length t) (length gs) (length s) ≡ gives g
  given = fills_given mode g ls (length o) (length t) (length gs) (length s) filled

  left : (was : List ℕ) (puts : Grid → List ℕ) → left_in 0 was (tables_of mode g ls (length o) (length t) (length gs) (length s)) puts ≡ puts g
  unfolding left_in
  left was puts = rw given

  laid : Laid (cells_on mode g ls) (count ls) g o' t' gs' globals
  unfolding total list_on globals_on zero_beyond
  laid =
      let f = filled in
      let x : o' ≡ offsets_of (list_on mode g ls) (grid_cells g) (length o) = h.offsets_are ∙ left o (λ g. offsets_of (list_on mode g ls) (grid_cells g) (length o)) in
      let y : t' ≡ items_of (list_on mode g ls) (grid_cells g) (length t) = h.items_are ∙ left t (λ g. items_of (list_on mode g ls) (grid_cells g) (length t)) in
      let z : gs' ≡ globals_on mode g ls ++ replicate (length gs - length (globals_on mode g ls)) 0 = h.globals_are ∙ left gs (λ g. zero_beyond 0 (length gs) (globals_on mode g ls)) in
      let l : suc (grid_cells g) ≤ length o = omega (arith, f.passes.roomy) in
      let p : length o' ≡ length o = ap length x ∙ length_offsets (list_on mode g ls) (grid_cells g) (length o) l in
      let q : length t' ≡ length t = ap length y ∙ length_items (list_on mode g ls) (grid_cells g) (length t) f.space in
      let v : length gs' ≡ length gs = ap length z ∙ length_filled (globals_on mode g ls) (length gs) f.listed in
      record {
        grid_fit = f.passes.fits;
        few = f.passes.few;
        walks = cells_walk mode g ls f.passes.fits;
        room = rw p f.passes.roomy;
        space = rw q f.space;
        table = table_made l f.space x y;
        found_is = check_passed.1;
        globe = rw v z;
      }

  -- WHAT TABLES ON A GRID LEAVE STANDS, for the walks of the lines on it
  pub tables_stand : Stands (cells_on mode g ls) (count ls) g (tables g (count ls) o' t' gs' globals)
  tables_stand = laid_stands laid

  -- ITS OFFSETS ARE THE RUNNING SUMS OF THE COUNT
  pub offsets_sum : (room c : ℕ) → c ≤ grid_cells g → get_or o' c 0 ≡ sum (λ k. get_or (counts_on mode g ls room) k 0) c
  unfolding list_on counts_on
  offsets_sum room c l =
      table_offset laid.table c l
      ∙ sum_same (λ c. length (list_on mode g ls c)) (λ k. get_or (counts_on mode g ls room) k 0) c (λ k m. sym (table_in (λ c. length (list_on mode g ls c)) g room k (omega arith)))

  -- THE ADDED COUNT TABLES ARE THE LENGTHS OF THE LISTS, for any sharing of the lines
  pub lengths_added : (room scratch : ℕ) (bs : Benches) (u : List ℕ) → Shared (count ls) bs → table_by mode g room scratch ls bs ≡ gives u
      → (c : ℕ) → c < grid_cells g → get_or u c 0 ≡ length (list_in o' t' c)
  unfolding list_on counts_on
  lengths_added room scratch bs u shared e c l =
      let p = filled.passes in
      ap (λ (x : List ℕ). get_or x c 0) (shared_counts mode g room scratch ls bs p.same p.few shared u e).1
      ∙ table_in (λ c. length (list_on mode g ls c)) g room c l
      ∙ sym (ap length (tables_stand.lists c l))

-- ---- A BUILD IS THIS ON THE GRID THAT IT CHOSE

scratch_says : (n : ℕ) → scratch_check n ≡ Ok tt → 16384 ≤ n
unfolding scratch_check
scratch_says n h = leb-true 16384 n (unless_fine (leb 16384 n) 3 0 h)

left_on : {a b : Answer Grid} {g : Grid} (was : List ℕ) (puts : Grid → List ℕ) → a ≡ gives g → b ≡ gives g → left_in 0 was a puts ≡ left_in 0 was b puts
left_on was puts h k = ap (λ (x : Answer Grid). left_in 0 was x puts) (h ∙ sym k)

answer_on : (mode : Mode) (ls : Lines) (g : Grid) {a : Answer Grid} → a ≡ gives g
    → ◌≡◌ {A = Result Tabled Refusal} (Ok (tabled_on mode ls g)) (answer_by Err (λ g. Ok (tabled_on mode ls g)) a)
unfolding answer_by
answer_on mode ls g h = rw h

pub build_is_tables : (plan : Plan) {ls : Lines} {o t gs s : List ℕ} {r : Result Standing Refusal} {o' t' gs' s' : List ℕ} {g : Grid}
    → BuildIs plan.mode ls o t gs s r o' t' gs' s' (end_of plan ls (length o) (length t) (length gs) (length s)) → end_of plan ls (length o) (length t) (length gs) (length s) ≡ gives g
    → TablesAre plan.mode g ls o t gs s (Ok (tabled_on plan.mode ls g)) o' t' gs' s' (tables_of plan.mode g ls (length o) (length t) (length gs) (length s))
unfolding end_of
build_is_tables plan {ls} {o} {t} {gs} {s} {g = g} h e =
    let m : Made plan.mode ls (length o) (length t) (length gs) g = made_says plan ls (length o) (length t) (length gs) (length s) g e in
    let k = (then_passed (and_then (scratch_check (length s)) (lines_check ls)) (choice plan ls (length o) into room_on plan.mode ls (length t) (length gs)) e).0 in
    let a : tables_of plan.mode g ls (length o) (length t) (length gs) (length s) ≡ gives g = fills_given plan.mode g ls (length o) (length t) (length gs) (length s)
    (record {
      passes = record {
        space = scratch_says (length s) (and_then_left (scratch_check (length s)) (lines_check ls) k);
        same = m.lines_fit.same;
        few = m.lines_fit.few;
        each = m.lines_fit.each;
        fits = m.fits;
        roomy = m.room;
        ended = turns_all plan.mode g ls m.turns;
      };
      space = m.space;
      listed = m.listed;
    }) in
    record {
      answer = answer_on plan.mode ls g a;
      offsets_are = h.cell_offsets ∙ left_on o (λ g. offsets_of (list_on plan.mode g ls) (grid_cells g) (length o)) e a;
      items_are = h.cell_items ∙ left_on t (λ g. items_of (list_on plan.mode g ls) (grid_cells g) (length t)) e a;
      globals_are = h.global_lines ∙ left_on gs (λ g. zero_beyond 0 (length gs) (globals_on plan.mode g ls)) e a;
      scratch_is = h.scratch_is ∙ left_on s (λ _. replicate (length s) 0) e a;
    }

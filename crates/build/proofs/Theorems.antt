-- What follows from the promise of the entry alone, for whoever calls it: what a successful build leaves stands, on a fit grid, for the walks
-- of its lines, which all end; and the promise settles everything. Assumes nothing.
use Rattle.std.specs.Prelude.{Ok, Result}
use Rattle.refusals.specs.declared.Refusal.{Refusal}
use mathlib.Core.Path.{◌≡◌, refl, sym, ap, ◌∙◌}
use mathlib.Core.Bool.{true}
use mathlib.Core.List.{List, ◌++◌}
use Prim.Native.Nat.{ℕ, suc, ◌-◌, ◌≤◌, ◌<◌}
use native.Mathlib.Omega.{arith}
use lib.ListN.{length, replicate}
use Rattle.slices.proofs.Clearing.{length_filled}
use Rattle.refusals.specs.Refusals.{and_then, Answer, refused, gives, ◌into◌, answer_by, left_in, zero_beyond}
use Rattle.refusals.proofs.Checks.{each_says, and_then_right}
use Rattle.refusals.proofs.Answers.{then_passed}
use Rattle.grid.specs.declared.Grid.{Grid}
use Rattle.grid.specs.Domain.{Lines, count, fit, scratch_check, lines_check}
use Rattle.turns.specs.Pushes.{Outcome}
use Rattle.walk.specs.declared.Mode.{Mode}
use Rattle.tables.specs.Tables.{tables, list_in}
use Rattle.tables.specs.Lists.{sum, offsets_of, items_of}
use Rattle.tables.specs.Stands.{Stands}
use Rattle.tables.proofs.Laws.{sum_same, table_made, length_offsets, length_items}
use Rattle.tables.proofs.Standing.{Laid, laid_stands}
use Rattle.build.specs.declared.Standing.{Standing}
use Rattle.fill.specs.OnGrid.{grid_cells, walk_on, completes, visited, cells_on, list_on, globals_on, total}
use Rattle.fill.specs.Checks.{turns_check}
use Rattle.fill.proofs.Walks.{cells_walk}
use Rattle.build.specs.declared.Plan.{Plan}
use Rattle.build.specs.Choice.{choice}
use Rattle.build.specs.Build.{room_on, end_of, built_on, answer_of, BuildIs}
use Rattle.build.proofs.Settled.{Made, made_says}

-- ---- the promise settles everything

-- "any two outcomes it admits are proved identical"
pub record Identical (r r₁ : Result Standing Refusal) (o o₁ t t₁ gs gs₁ s s₁ : List ℕ) : Type 0 where
  pub answer : r ≡ r₁
  pub offsets : o ≡ o₁
  pub items : t ≡ t₁
  pub globals : gs ≡ gs₁
  pub scratch : s ≡ s₁

pub one_outcome : {mode : Mode} {ls : Lines} {o t gs s : List ℕ} {r r₁ : Result Standing Refusal} {o' o₁ t' t₁ gs' gs₁ s' s₁ : List ℕ} {e : Answer Grid}
    → BuildIs mode ls o t gs s r o' t' gs' s' e → BuildIs mode ls o t gs s r₁ o₁ t₁ gs₁ s₁ e → Identical r r₁ o' o₁ t' t₁ gs' gs₁ s' s₁
one_outcome h k =
    record {
      answer = h.answer ∙ sym k.answer;
      offsets = h.cell_offsets ∙ sym k.cell_offsets;
      items = h.cell_items ∙ sym k.cell_items;
      globals = h.global_lines ∙ sym k.global_lines;
      scratch = h.scratch_is ∙ sym k.scratch_is;
    }

-- ---- a successful build: the answer is tables

record Success (mode : Mode) (ls : Lines) (st : Standing) (o t gs : List ℕ) : Type 0 where
  passed : lines_check ls ≡ Ok tt
  turns : turns_check mode st.grid ls ≡ Ok tt
  items_are : st.items ≡ total mode st.grid ls
  laid : Laid (cells_on mode st.grid ls) (count ls) st.grid o t gs st.globals

pub answer_made : (mode : Mode) (e : Answer Grid) (ls : Lines) (st : Standing) → answer_of mode e ls ≡ Ok st
    → (e ≡ gives st.grid) × (st.items ≡ total mode st.grid ls) × (st.globals ≡ length (globals_on mode st.grid ls))
unfolding answer_of answer_by built_on
answer_made mode (refused r) ls st h = let z : ◌≡◌ {A = ℕ} 0 1 = cc in absurd (omega arith)
answer_made mode (gives g) ls st h =
    let z : record { grid = g; items = total mode g ls; globals = length (globals_on mode g ls) } ≡ st = cc in
    let e : g ≡ st.grid = ap (λ (x : Standing). x.grid) z in
    (ap gives e, sym (ap (λ (x : Standing). x.items) z) ∙ rw e, sym (ap (λ (x : Standing). x.globals) z) ∙ rw e)

left_made : (e : Answer Grid) (g : Grid) (was : List ℕ) (on : Grid → List ℕ) → e ≡ gives g → left_in 0 was e on ≡ on g
unfolding left_in
left_made e g was on h = rw h

made_passed : (plan : Plan) (ls : Lines) (offsets items globals scratch : ℕ) (g : Grid) → end_of plan ls offsets items globals scratch ≡ gives g → lines_check ls ≡ Ok tt
unfolding end_of
made_passed plan ls offsets items globals scratch g h =
    and_then_right (scratch_check scratch) (lines_check ls)
    (then_passed (and_then (scratch_check scratch) (lines_check ls)) (choice plan ls offsets into room_on plan.mode ls items globals) h).0

success : (plan : Plan) {ls : Lines} {o t gs s : List ℕ} {r : Result Standing Refusal} {o' t' gs' s' : List ℕ} {st : Standing}
    → BuildIs plan.mode ls o t gs s r o' t' gs' s' (end_of plan ls (length o) (length t) (length gs) (length s)) → r ≡ Ok st → Success plan.mode ls st o' t' gs'
unfolding total list_on globals_on zero_beyond
success plan {ls} {o} {t} {gs} {s} {r} {o'} {t'} {gs'} {s'} {st} h ok =
    let g : Grid = st.grid in
    let e = end_of plan ls (length o) (length t) (length gs) (length s) in
    let a = answer_made plan.mode e ls st (sym h.answer ∙ ok) in
    let m : Made plan.mode ls (length o) (length t) (length gs) g = made_says plan ls (length o) (length t) (length gs) (length s) g a.0 in
    let x : o' ≡ offsets_of (list_on plan.mode g ls) (grid_cells g) (length o) = h.cell_offsets ∙ left_made e g o (λ g. offsets_of (list_on plan.mode g ls) (grid_cells g) (length o)) a.0 in
    let y : t' ≡ items_of (list_on plan.mode g ls) (grid_cells g) (length t) = h.cell_items ∙ left_made e g t (λ g. items_of (list_on plan.mode g ls) (grid_cells g) (length t)) a.0 in
    let z : gs' ≡ globals_on plan.mode g ls ++ replicate (length gs - length (globals_on plan.mode g ls)) 0 =
    h.global_lines ∙ left_made e g gs (λ g. zero_beyond 0 (length gs) (globals_on plan.mode g ls)) a.0 in
    let l : suc (grid_cells g) ≤ length o = omega (arith, m.room) in
    let p : length o' ≡ length o = ap length x ∙ length_offsets (list_on plan.mode g ls) (grid_cells g) (length o) l in
    let q : length t' ≡ length t = ap length y ∙ length_items (list_on plan.mode g ls) (grid_cells g) (length t) m.space in
    let v : length gs' ≡ length gs = ap length z ∙ length_filled (globals_on plan.mode g ls) (length gs) m.listed in
    record {
      passed = made_passed plan ls (length o) (length t) (length gs) (length s) g a.0;
      turns = m.turns;
      items_are = a.1;
      laid =
          record {
            grid_fit = m.fits;
            few = m.lines_fit.few;
            walks = cells_walk plan.mode g ls m.fits;
            room = rw p m.room;
            space = rw q m.space;
            table = table_made l m.space x y;
            found_is = a.2;
            globe = rw v z;
          };
    }

ended_found : (o : Outcome) → completes o ≡ true → o ≡ gives (visited o)
ended_found (refused why) h = let z : ◌≡◌ {A = ℕ} 0 1 = cc in absurd (omega arith)
ended_found (gives xs) h = refl

-- ---- THE THEOREMS

module _ (plan : Plan) {ls : Lines} {o t gs s : List ℕ} {r : Result Standing Refusal} {o' t' gs' s' : List ℕ} {st : Standing} (h : BuildIs plan.mode ls o t gs s r o' t' gs' s' (end_of plan ls (length o) (length t) (length gs) (length s))) (ok : r ≡ Ok st) where
  -- WHAT A BUILD LEAVES STANDS, on its final grid, for the walks of its lines
  pub build_stands : Stands (cells_on plan.mode st.grid ls) (count ls) st.grid (tables st.grid (count ls) o' t' gs' st.globals)
  build_stands = laid_stands (success plan h ok).laid

  -- EVERY WALK ENDS within its turns, so that these cells are what it visits
  pub walks_end : (k : ℕ) → k < count ls → walk_on plan.mode st.grid ls k ≡ gives (cells_on plan.mode st.grid ls k)
  unfolding turns_check cells_on
  walks_end k l =
      ended_found (walk_on plan.mode st.grid ls k) (each_says (λ i. completes (walk_on plan.mode st.grid ls i)) 7 (count ls) 0 k (success plan h ok).turns (omega arith) (omega arith))

  -- the final grid is fit, and has a column where there is a line
  pub grid_fits : (fit st.grid ≡ true) × (1 ≤ count ls → 1 ≤ st.grid.cols)
  grid_fits =
      let e = end_of plan ls (length o) (length t) (length gs) (length s) in
      let a = answer_made plan.mode e ls st (sym h.answer ∙ ok) in
      let m = made_says plan ls (length o) (length t) (length gs) (length s) st.grid a.0 in
      (m.fits, m.some)

  -- the lines passed the checks 3, 2 and 1
  pub lines_passed : lines_check ls ≡ Ok tt
  lines_passed = (success plan h ok).passed

  -- "invented .. item counts": the number of items is the sum of the lengths of the lists
  pub items_counted : st.items ≡ sum (λ c. length (list_in o' t' c)) (grid_cells st.grid)
  unfolding total list_on
  items_counted =
      (success plan h ok).items_are
      ∙ sym (sum_same (λ c. length (list_in o' t' c)) (λ c. length (list_on plan.mode st.grid ls c)) (grid_cells st.grid) (λ c l. ap length (build_stands.lists c l)))

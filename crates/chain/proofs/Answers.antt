-- What is printed, case by case of what the calls answered. Assumes nothing.
use Rattle.std.specs.Prelude.{Ok, Err, Result}
use mathlib.Core.Path.{◌≡◌, refl, sym, ap, ◌∙◌}
use mathlib.Core.List.{List}
use Prim.Native.Nat.{ℕ}
use native.Mathlib.Omega.{arith}
use lib.ListN.{length}
use Rattle.refusals.specs.declared.Refusal.{Refusal}
use Rattle.refusals.specs.Refusals.{Answer, refused, gives, answer_by, left_in}
use Rattle.refusals.proofs.Answers.{then_passed}
use Rattle.grid.specs.declared.Grid.{Grid}
use Rattle.grid.specs.Domain.{Lines}
use Rattle.fill.specs.OnGrid.{globals_on, total}
use Rattle.build.specs.declared.Plan.{Plan}
use Rattle.build.specs.Build.{end_of, built_on, answer_of, BuildIs}
use Rattle.build.specs.declared.Standing.{Standing}
use Rattle.tables.specs.Tables.{Tables, beside}
use Rattle.seek.specs.Tests.{Pair}
use Rattle.visit.specs.Batches.{overlapping}
use Rattle.seek.specs.Bookmarks.{visit_check}
use Rattle.report.specs.Lines.{refused_line}
use Rattle.chain.specs.declared.Visited.{Visited}
use Rattle.chain.specs.Inside.{full_visit}
use Rattle.chain.specs.Printed.{refused_text, report_of, all_tests, printed_tables, tables_on, printed_on, printed_lines}

-- ---- the visit

pub tables_refused : (ls : Lines) (g : Grid) (t : Tables) (items : ℕ) {x : Result Visited Refusal} {r : Refusal} → x ≡ full_visit ls g t → x ≡ Err r → refused_line r.number ≡ printed_tables ls g t items
unfolding full_visit printed_tables answer_by
tables_refused ls g t items {x} {r} v e = go (all_tests ls g t) (sym e ∙ v)
  where
    go : (o : Answer (List Pair)) → ◌≡◌ {A = Result Visited Refusal} (Err r) (answer_by Err (λ ps. Ok (record { tests = length ps; overlaps = length (overlapping ls ps) })) o)
        → refused_line r.number ≡ answer_by refused_text (λ ps. report_of g t items (length ps) (length (overlapping ls ps))) o
    go (refused q) d = let s : r ≡ q = cc in ap refused_text s
    go (gives ps) d = absurd (let z : ◌≡◌ {A = ℕ} 0 1 = cc in omega arith)

-- the visit was made: the checks were passed, and the counts are those of a full visit
pub record Shown (ls : Lines) (g : Grid) (t : Tables) (items tests overlaps : ℕ) : Type 0 where
  pub fine : visit_check ls g t ≡ Ok tt
  pub text : report_of g t items tests overlaps ≡ printed_tables ls g t items

tests_in : Result Visited Refusal → ℕ
tests_in (Ok v) = v.tests
tests_in (Err r) = 0

overlaps_in : Result Visited Refusal → ℕ
overlaps_in (Ok v) = v.overlaps
overlaps_in (Err r) = 0

pub tables_counted : (ls : Lines) (g : Grid) (t : Tables) (items : ℕ) {x : Result Visited Refusal} {tests overlaps : ℕ} → x ≡ full_visit ls g t → x ≡ Ok (record { tests = tests; overlaps = overlaps }) → Shown ls g t items tests overlaps
unfolding full_visit printed_tables all_tests answer_by tests_in overlaps_in
tables_counted ls g t items {x} {tests} {overlaps} v e = go (all_tests ls g t) refl (sym e ∙ v)
  where
    go : (o : Answer (List Pair)) → all_tests ls g t ≡ o → ◌≡◌ {A = Result Visited Refusal} (Ok (record { tests = tests; overlaps = overlaps })) (answer_by Err (λ ps. Ok (record { tests = length ps; overlaps = length (overlapping ls ps) })) o)
        → Shown ls g t items tests overlaps
    go (refused q) h d = absurd (let z : ◌≡◌ {A = ℕ} 0 1 = cc in omega arith)
    go (gives ps) h d =
        let a : tests ≡ length ps = ap tests_in d in
        let b : overlaps ≡ length (overlapping ls ps) = ap overlaps_in d in
        record { fine = (then_passed (visit_check ls g t) _ h).0; text = rw (h, a, b) }

-- ---- the build

module _ (plan : Plan) (ls : Lines) {o i gs s o' i' gs' s' : List ℕ} {r : Result Standing Refusal} (eo : length o ≡ 4096) (ei : length i ≡ 4096) (eg : length gs ≡ 64) (es : length s ≡ 16384) where
  at_end : (e : Answer Grid) → end_of plan ls 4096 4096 64 16384 ≡ e → BuildIs plan.mode ls o i gs s r o' i' gs' s' (end_of plan ls (length o) (length i) (length gs) (length s)) → BuildIs plan.mode ls o i gs s r o' i' gs' s' e
  at_end e h b = rw (eo, ei, eg, es, h) at b

  refused_end : (e : Answer Grid) → BuildIs plan.mode ls o i gs s r o' i' gs' s' e → (q : Refusal) → r ≡ Err q → refused_line q.number ≡ answer_by refused_text (printed_on plan ls) e
  unfolding answer_of answer_by built_on
  refused_end (refused p) b q x = let w : q ≡ p = cc b.answer in ap refused_text w
  refused_end (gives g) b q x = absurd (let z : ◌≡◌ {A = ℕ} 0 1 = cc b.answer in omega arith)

  pub lines_refused : BuildIs plan.mode ls o i gs s r o' i' gs' s' (end_of plan ls (length o) (length i) (length gs) (length s)) → {q : Refusal} → r ≡ Err q → refused_line q.number ≡ printed_lines plan ls
  unfolding printed_lines
  lines_refused b {q} x = refused_end _ (at_end _ refl b) q x

  made_end : (e : Answer Grid) → BuildIs plan.mode ls o i gs s r o' i' gs' s' e → (st : Standing) → r ≡ Ok st → printed_tables ls st.grid (beside ls st.grid o' i' gs' st.globals) st.items ≡ answer_by refused_text (printed_on plan ls) e
  unfolding answer_of answer_by built_on left_in printed_on tables_on
  made_end (refused p) b st x = absurd (let z : ◌≡◌ {A = ℕ} 0 1 = cc b.answer in omega arith)
  made_end (gives g) b st x =
      let w : st ≡ record { grid = g; items = total plan.mode g ls; globals = length (globals_on plan.mode g ls) } = cc b.answer in
      rw (w, b.cell_offsets, b.cell_items, b.global_lines, eo, ei, eg)

  pub lines_made : BuildIs plan.mode ls o i gs s r o' i' gs' s' (end_of plan ls (length o) (length i) (length gs) (length s)) → {st : Standing} → r ≡ Ok st → printed_tables ls st.grid (beside ls st.grid o' i' gs' st.globals) st.items ≡ printed_lines plan ls
  unfolding printed_lines
  lines_made b {st} x = made_end _ (at_end _ refl b) st x

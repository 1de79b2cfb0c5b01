-- How long a text can be: 281,000 bytes hold every one. At most 4,095 cells with at most 4,096 items and 64 globals are shown. Assumes nothing.
use mathlib.Core.Path.{◌≡◌, refl}
use mathlib.Core.List.{List}
use Prim.Native.Nat.{ℕ, zero, suc, ◌+◌, ◌-◌, ◌*◌, ◌/◌, ◌%◌, ◌≤◌}
use native.Mathlib.Omega.{arith}
use lib.Ieee.{binary64, to_bits}
use lib.ListN.{length, get_or, length-append, length-take, length-replicate}
use lib.Seq.{length-slice}
use Rattle.refusals.specs.Refusals.{Answer, refused, gives, answer_by, zero_beyond}
use Rattle.refusals.proofs.Answers.{then_passed}
use Rattle.grid.specs.declared.Grid.{Grid}
use Rattle.grid.specs.Domain.{Lines}
use Rattle.tables.specs.Lists.{start, items_of}
use Rattle.fill.specs.OnGrid as on
use Rattle.fill.specs.OnGrid.{total}
use Rattle.build.specs.declared.Plan.{Plan}
use Rattle.build.specs.Build.{end_of}
use Rattle.build.proofs.Settled.{Made, made_says}
use Rattle.tables.specs.Tables.{Tables, cells, list_of, globals_of}
use Rattle.tables.specs.Fit.{TablesFit}
use Rattle.tables.proofs.Facts.{all_within}
use Rattle.tables.proofs.Laws.{length_concat}
use Rattle.seek.specs.Bookmarks.{visit_check}
use Rattle.seek.specs.Tests.{Pair}
use Rattle.visit.specs.Batches.{overlapping}
use Rattle.seek.proofs.Standing.{stands}
use Rattle.wkb.specs.Bytes.{Point}
use Rattle.wkb.specs.Reading.{found}
use Rattle.report.proofs.Sizes.{grid_size, cell_size, global_size, visit_size, refused_size}
use Rattle.chain.specs.Printed.{cell_lines, report_of, all_tests, printed_tables, tables_on, printed_on, printed_lines, refused_text, printed_points, printed}

-- ---- tables that fit

cells_size : (t : Tables) → TablesFit t → (c : ℕ) → c ≤ cells t → length (cell_lines t c) ≤ 47 * c + 21 * get_or t.offsets c 0
unfolding cell_lines
cells_size t f zero h = omega arith
cells_size t f (suc c) h =
    let k = cells_size t f c (omega arith) in
    let s = cell_size (c / t.cols) (c % t.cols) (list_of t c) in
    let r = f.lists.rises c (omega arith) in
    let w = all_within (cells t) t.lines t.offsets t.items f.lists (suc c) h in
    let l : length (list_of t c) ≡ get_or t.offsets (suc c) 0 - get_or t.offsets c 0 = length-slice (get_or t.offsets c 0) (get_or t.offsets (suc c) 0) t.items w in
    simp length-append (omega arith)

report_size : (g : Grid) (t : Tables) (items tests overlaps : ℕ) → TablesFit t → cells t ≤ 4095 → length t.items ≤ 4096 → t.global_count ≤ 64 → length (report_of g t items tests overlaps) ≤ 281000
unfolding report_of
report_size g t items tests overlaps f c i m =
    let a = grid_size g.cols g.rows (to_bits binary64 g.cell_width) (to_bits binary64 g.cell_height) items t.global_count in
    let b = cells_size t f (cells t) (omega arith) in
    let w = all_within (cells t) t.lines t.offsets t.items f.lists (cells t) (omega arith) in
    let d = global_size (globals_of t) in
    let l : length (globals_of t) ≤ 64 = let e = length-take t.global_count t.globals in omega arith in
    let v = visit_size tests overlaps in
    simp length-append (omega arith)

tables_size : (ls : Lines) (g : Grid) (t : Tables) (items : ℕ) → cells t ≤ 4095 → length t.items ≤ 4096 → t.global_count ≤ 64 → length (printed_tables ls g t items) ≤ 281000
unfolding printed_tables all_tests answer_by
tables_size ls g t items c i m = go (all_tests ls g t) refl
  where
    go : (o : Answer (List Pair)) → all_tests ls g t ≡ o → length (answer_by refused_text (λ ps. report_of g t items (length ps) (length (overlapping ls ps))) o) ≤ 281000
    go (refused r) e = let s = refused_size r.number in omega arith
    go (gives ps) e = report_size g t items (length ps) (length (overlapping ls ps)) (stands ls g t (then_passed (visit_check ls g t) _ e).0).tables c i m

-- ---- the whole

items_size : (F : ℕ → List ℕ) (n : ℕ) → start F n ≤ 4096 → length (items_of F n 4096) ≤ 4096
unfolding items_of
items_size F n h = let e = length_concat F n in simp (length-append, length-replicate) (omega arith)

end_size : (plan : Plan) (e : Answer Grid) (ls : Lines) → end_of plan ls 4096 4096 64 16384 ≡ e → length (answer_by refused_text (printed_on plan ls) e) ≤ 281000
unfolding answer_by printed_on tables_on total zero_beyond
end_size plan (refused r) ls h = let s = refused_size r.number in omega arith
end_size plan (gives g) ls h =
    let m : Made plan.mode ls 4096 4096 64 g = made_says plan ls 4096 4096 64 16384 g h in
    tables_size ls g (tables_on plan ls g) (total plan.mode g ls) (let o = m.room in omega arith) (items_size (on.list_on plan.mode g ls) (g.rows * g.cols) m.space) m.listed

found_size : (plan : Plan) (f : Answer (List Point)) → length (answer_by refused_text (printed_points plan) f) ≤ 281000
unfolding answer_by printed_points printed_lines
found_size plan (gives ps) = end_size plan _ _ refl
found_size plan (refused r) = let s = refused_size r.number in omega arith

-- 281,000 bytes hold every text
pub printed_fits : (plan : Plan) (bs : List ℕ) → length (printed plan bs) ≤ 281000
unfolding printed
printed_fits plan bs = found_size plan (found bs)

-- How long a text can be: 192,600 bytes hold every one, for at most 4,096 pairs are printed. Assumes nothing.
use Rattle.std.proofs.Common.{◌≡◌, ℕ, ◌*◌, ◌≤◌, List, [], ◌∷◌, length, replicate, refl, ap, arith, length-append, leb-true}
use lib.ListN.{length-map, length-replicate}
use Rattle.refusals.specs.Refusals.{Answer, refused, gives, ◌into◌, answer_by}
use Rattle.refusals.proofs.Checks.{unless_fine}
use Rattle.refusals.proofs.Answers.{then_passed}
use Rattle.grid.specs.declared.Grid.{Grid}
use Rattle.grid.specs.Domain.{Lines}
use Rattle.tables.specs.Tables.{Tables}
use Rattle.build.specs.declared.Plan.{Plan}
use Rattle.build.specs.Build.{end_of}
use Rattle.seek.specs.Tests.{Pair}
use Rattle.visit.specs.Batches.{firsts, seconds}
use Rattle.wkb.specs.Bytes.{Point}
use Rattle.wkb.specs.Reading.{found}
use Rattle.lent.specs.Lent.{pairs_check}
use Rattle.samples.specs.Samples.{Samples, sample_lines_check}
use Rattle.crossings.specs.Crossings.{crossings_of, crossings_by}
use Rattle.report.proofs.Sizes.{crossings_size, pair_size, refused_size}
use Rattle.chain.specs.Printed.{refused_text}
use Rattle.crossing_chain.specs.Printed.{pair_lines, crossings_text, crossings_in, tables_beside, crossings_built, printed_samples, crossings_of_lines, crossings_of_points, crossings_printed}

pairs_size : (ms ns : List ℕ) → length (pair_lines ms ns) ≤ 47 * length ms
unfolding pair_lines
pairs_size [] ns = omega arith
pairs_size (m ∷ ms) [] = omega arith
pairs_size (m ∷ ms) (n ∷ ns) = let h = pair_size m n in let k = pairs_size ms ns in simp length-append (omega arith)

text_size : (ps : List Pair) → length ps ≤ 4096 → length (crossings_text ps) ≤ 192600
unfolding crossings_text
text_size ps h =
    let a = crossings_size (length ps) in
    let b = pairs_size (firsts ps) (seconds ps) in
    let e = length-map ps (λ (p : Pair). p.first) in
    simp length-append (omega arith)

-- at most 4,096 pairs come out of tables
room : (ss : Samples) (g : Grid) (t : Tables) (ps : List Pair) → crossings_in ss g t ≡ gives ps → length ps ≤ 4096
unfolding crossings_in crossings_by pairs_check
room ss g t ps h =
    let a = (then_passed _ _ h).1 in
    let b = (then_passed _ _ a).1 in
    let d = then_passed _ _ b in
    let l = leb-true (length (crossings_of ss t)) (length (replicate {A = ℕ} 4096 0)) (unless_fine _ 5 (length (crossings_of ss t)) d.0) in
    let e = length-replicate {A = ℕ} 4096 0 in
    let s : crossings_of ss t ≡ ps = cc d.1 in
    let n = ap length s in
    omega arith

answer_size : (e : Answer (List Pair)) → ((ps : List Pair) → e ≡ gives ps → length ps ≤ 4096) → length (answer_by refused_text crossings_text e) ≤ 192600
unfolding answer_by
answer_size (refused r) h = let s = refused_size r.number in omega arith
answer_size (gives ps) h = text_size ps (h ps refl)

built_room : (plan : Plan) (ss : Samples) (ls : Lines) (ps : List Pair) → crossings_built plan ss ls ≡ gives ps → length ps ≤ 4096
unfolding crossings_built ◌into◌
built_room plan ss ls ps h = go (end_of plan ls 4096 4096 64 16384) (then_passed (sample_lines_check ss) _ h).1
  where
    go : (e : Answer Grid) → (e into (λ g. crossings_in ss g (tables_beside plan ss ls g))) ≡ gives ps → length ps ≤ 4096
    go (refused r) k = absurd (let z : ◌≡◌ {A = ℕ} 0 1 = cc in omega arith)
    go (gives g) k = room ss g (tables_beside plan ss ls g) ps k

found_size : (plan : Plan) (f : Answer (List Point)) → length (answer_by refused_text (crossings_of_points plan) f) ≤ 192600
unfolding answer_by crossings_of_points crossings_of_lines printed_samples
found_size plan (refused r) = let s = refused_size r.number in omega arith
found_size plan (gives ps) = answer_size _ (built_room plan _ _)

-- 192,600 bytes hold every text
pub printed_fits : (plan : Plan) (bs : List ℕ) → length (crossings_printed plan bs) ≤ 192600
unfolding crossings_printed
printed_fits plan bs = found_size plan (found bs)

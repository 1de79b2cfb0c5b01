-- What is printed, case by case of what the calls answered. Assumes nothing.
use Rattle.std.specs.Prelude.{Ok, Err, Result}
use Rattle.std.proofs.Common.{◌≡◌, ℕ, zero, suc, ◌+◌, ◌-◌, ◌<◌, ◌≤◌, List, [], ◌∷◌, ◌++◌, map, length, get_or, take, drop, replicate, ℤ, sym, refl, ap, ◌∙◌, append_assoc, append-nil, add-one, arith, length-append, length-drop, length-take-le, take_at}
use lib.Ieee.{Float}
use lib.ListN.{length-map}
use Rattle.refusals.specs.declared.Refusal.{Refusal}
use Rattle.refusals.specs.Refusals.{Answer, refused, gives, ◌then◌, ◌into◌, answer_by, left_in, zero_beyond}
use Rattle.grid.specs.declared.Grid.{Grid}
use Rattle.grid.specs.Domain.{Lines, lines}
use Rattle.fill.specs.OnGrid.{globals_on, total}
use Rattle.build.specs.declared.Plan.{Plan}
use Rattle.build.specs.declared.Standing.{Standing}
use Rattle.build.specs.Build.{end_of, built_on, answer_of, BuildIs}
use Rattle.seek.specs.Tests.{Pair}
use Rattle.visit.specs.Batches.{firsts, seconds}
use Rattle.first_tests.specs.Firsts.{PairsAre}
use Rattle.samples.specs.Samples.{Samples, samples, sample_lines_check}
use Rattle.crossings.specs.Crossings.{beside_samples}
use Rattle.report.specs.Pages.{Page, Puts}
use Rattle.report.specs.Lines.{crossings_line, pair_line, refused_line}
use Rattle.report.proofs.Putting.{puts_none, puts_then}
use Rattle.chain.specs.Printed.{refused_text}
use Rattle.wkb.specs.Reading.{found}
use Rattle.chain.proofs.Chains.{lines_of}
use Rattle.crossing_chain.specs.Whole.{whole_of, whole_lines}
use Rattle.crossing_chain.specs.Printed.{pair_lines, crossings_text, crossings_in, crossings_of_tables, tables_beside, crossings_built, printed_samples, crossings_of_lines, crossings_of_points, crossings_printed}
use Rattle.crossing_chain.specs.Inside.{LengthsHeld, Wholes}

-- ---- a line for each pair

pairs_more : (ms ns : List ℕ) (i : ℕ) → i < length ms → i < length ns → pair_lines (take (suc i) ms) (take (suc i) ns) ≡ pair_lines (take i ms) (take i ns) ++ pair_line (get_or ms i 0) (get_or ns i 0)
unfolding pair_lines
pairs_more [] ns i h k = absurd (omega arith)
pairs_more (m ∷ ms) [] i h k = absurd (omega arith)
pairs_more (m ∷ ms) (n ∷ ns) zero h k = append-nil (pair_line m n)
pairs_more (m ∷ ms) (n ∷ ns) (suc i) h k = ap (λ (l : List ℕ). pair_line m n ++ l) (pairs_more ms ns i (omega arith) (omega arith)) ∙ sym (append_assoc (pair_line m n) _ _)

pub pairs_none : (p : Page) → Puts (pair_lines [] []) p p
unfolding pair_lines
pairs_none p = puts_none p

-- one more pair
pub puts_pair : (ms ns : List ℕ) (i : ℕ) {p q r : Page} → i < length ms → i < length ns → Puts (pair_lines (take i ms) (take i ns)) p q → Puts (pair_line (get_or ms i 0) (get_or ns i 0)) q r → Puts (pair_lines (take (i + 1) ms) (take (i + 1) ns)) p r
puts_pair ms ns i h k f g = rw (add-one, pairs_more ms ns i h k) (puts_then f g)

-- ---- the crossings that were listed

pub listed_refused : {end : Answer (List Pair)} {f s st l c f' s' st' l' c' : List ℕ} {r : Result ℕ Refusal} {q : Refusal} → PairsAre end f s st l c r f' s' st' l' c' → r ≡ Err q → refused_line q.number ≡ answer_by refused_text crossings_text end
unfolding answer_by
listed_refused {end = refused p} {q = q} a e = let w : q ≡ p = cc a.answers in ap refused_text w
listed_refused {end = gives ps} a e = absurd (let z : ◌≡◌ {A = ℕ} 0 1 = cc a.answers in omega arith)

-- so many stand at the starts of two slices, and their lines are what is said
pub record Listed (end : Answer (List Pair)) (n : ℕ) (first second : List ℕ) : Type 0 where
  pub in_first : n ≤ length first
  pub in_second : n ≤ length second
  pub text : crossings_line n ++ pair_lines (take n first) (take n second) ≡ answer_by refused_text crossings_text end

front : (n : ℕ) (xs : List ℕ) (room : ℕ) → length xs ≡ n → (n ≤ length (zero_beyond 0 room xs)) × (take n (zero_beyond 0 room xs) ≡ xs)
unfolding zero_beyond
front n xs room e = (simp length-append (omega arith), take_at xs (replicate (room - length xs) 0) n e)

pub listed_pairs : {end : Answer (List Pair)} {f s st l c f' s' st' l' c' : List ℕ} {r : Result ℕ Refusal} {n : ℕ} → PairsAre end f s st l c r f' s' st' l' c' → r ≡ Ok n → Listed end n f' s'
unfolding answer_by left_in crossings_text
listed_pairs {end = refused p} a e = absurd (let z : ◌≡◌ {A = ℕ} 0 1 = cc a.answers in omega arith)
listed_pairs {end = gives ps} {f} {s} {n = n} a e =
    let w : n ≡ length ps = cc a.answers in
    let u = front n (firsts ps) (length f) (length-map ps (λ (p : Pair). p.first) ∙ sym w) in
    let v = front n (seconds ps) (length s) (length-map ps (λ (p : Pair). p.second) ∙ sym w) in
    record {
      in_first = rw a.first_is u.0;
      in_second = rw a.second_is v.0;
      text = rw (a.first_is, a.second_is, u.1, v.1, w);
    }

-- ---- the build

module _ (plan : Plan) (ls : Lines) {o i gs s o' i' gs' s' : List ℕ} {r : Result Standing Refusal} (eo : length o ≡ 4096) (ei : length i ≡ 4096) (eg : length gs ≡ 64) (es : length s ≡ 16384) where
  at_end : (e : Answer Grid) → end_of plan ls 4096 4096 64 16384 ≡ e → BuildIs plan.mode ls o i gs s r o' i' gs' s' (end_of plan ls (length o) (length i) (length gs) (length s)) → BuildIs plan.mode ls o i gs s r o' i' gs' s' e
  at_end e h b = rw (eo, ei, eg, es, h) at b

  module _ (ss : Samples) (fine : sample_lines_check ss ≡ Ok tt) where
    refused_end : (e : Answer Grid) → BuildIs plan.mode ls o i gs s r o' i' gs' s' e → (q : Refusal) → r ≡ Err q
        → refused_line q.number ≡ answer_by refused_text crossings_text (sample_lines_check ss then (e into (λ g. crossings_in ss g (tables_beside plan ss ls g))))
    unfolding answer_of answer_by built_on ◌then◌ ◌into◌
    refused_end (refused p) b q x = let w : q ≡ p = cc b.answer in rw fine (ap refused_text w)
    refused_end (gives g) b q x = absurd (let z : ◌≡◌ {A = ℕ} 0 1 = cc b.answer in omega arith)

    pub build_refused : BuildIs plan.mode ls o i gs s r o' i' gs' s' (end_of plan ls (length o) (length i) (length gs) (length s)) → {q : Refusal} → r ≡ Err q → refused_line q.number ≡ printed_samples plan ss ls
    unfolding printed_samples crossings_built
    build_refused b {q} x = refused_end _ (at_end _ refl b) q x

    made_end : (e : Answer Grid) → BuildIs plan.mode ls o i gs s r o' i' gs' s' e → (st : Standing) → r ≡ Ok st
        → crossings_of_tables ss st.grid (beside_samples ss st.grid o' i' gs' st.globals) ≡ answer_by refused_text crossings_text (sample_lines_check ss then (e into (λ g. crossings_in ss g (tables_beside plan ss ls g))))
    unfolding answer_of answer_by built_on left_in tables_beside crossings_of_tables ◌then◌ ◌into◌
    made_end (refused p) b st x = absurd (let z : ◌≡◌ {A = ℕ} 0 1 = cc b.answer in omega arith)
    made_end (gives g) b st x =
        let w : st ≡ record { grid = g; items = total plan.mode g ls; globals = length (globals_on plan.mode g ls) } = cc b.answer in
        rw (fine, w, b.cell_offsets, b.cell_items, b.global_lines, eo, ei, eg)

    pub build_made : BuildIs plan.mode ls o i gs s r o' i' gs' s' (end_of plan ls (length o) (length i) (length gs) (length s)) → {st : Standing} → r ≡ Ok st → crossings_of_tables ss st.grid (beside_samples ss st.grid o' i' gs' st.globals) ≡ printed_samples plan ss ls
    unfolding printed_samples crossings_built
    build_made b {st} x = made_end _ (at_end _ refl b) st x

-- the samples were refused
pub samples_refused : (plan : Plan) (ss : Samples) (ls : Lines) {q : Refusal} → sample_lines_check ss ≡ Err q → refused_line q.number ≡ printed_samples plan ss ls
unfolding printed_samples crossings_built answer_by ◌then◌
samples_refused plan ss ls e = rw e

-- ---- lines as whole numbers

-- the numbers stand at the start of a slice
pub wholes_took : {xs : List Float} {was ys : List ℤ} {n : ℕ} → Wholes xs was ys → length xs ≡ n → take n ys ≡ map whole_of xs
wholes_took {xs} {was} {ys} {n} h e = rw h.are (take_at (map whole_of xs) (drop (length xs) was) n (length-map xs whole_of ∙ e))

pub wholes_size : {xs : List Float} {was ys : List ℤ} {n : ℕ} → Wholes xs was ys → length xs ≡ n → n ≡ length (take n ys)
wholes_size {xs} h e = sym (ap length (wholes_took h e) ∙ length-map xs whole_of ∙ e)

pub lines_samples : (plan : Plan) (x₀ y₀ x₁ y₁ : List Float) {a b c d : List ℤ} → a ≡ map whole_of x₀ → b ≡ map whole_of y₀ → c ≡ map whole_of x₁ → d ≡ map whole_of y₁ → printed_samples plan (samples a b c d) (lines x₀ y₀ x₁ y₁) ≡ crossings_of_lines plan (lines x₀ y₀ x₁ y₁)
unfolding crossings_of_lines whole_lines
lines_samples plan x₀ y₀ x₁ y₁ ea eb ec ed = rw (ea, eb, ec, ed)

-- ---- points

-- the lines of at most 1,024 points
pub held : (n : ℕ) (xs ys : List Float) → 1 ≤ n → n ≤ 1024 → n ≤ length xs → n ≤ length ys → LengthsHeld (take (n - 1) xs) (take (n - 1) ys) (take (n - 1) (drop 1 xs)) (take (n - 1) (drop 1 ys))
held n xs ys h m k l =
    let a = length-take-le (n - 1) xs (omega arith) in
    let b = length-take-le (n - 1) ys (omega arith) in
    let c = length-take-le (n - 1) (drop 1 xs) (let e = length-drop 1 xs in omega arith) in
    let d = length-take-le (n - 1) (drop 1 ys) (let e = length-drop 1 ys in omega arith) in
    record { room = omega arith; in_y₀ = b ∙ sym a; in_x₁ = c ∙ sym a; in_y₁ = d ∙ sym a }

-- what is printed of the bytes, by the lines of points
pub printed_by : (plan : Plan) (bs : List ℕ) → answer_by refused_text (λ ps. crossings_of_lines plan (lines_of ps)) (found bs) ≡ crossings_printed plan bs
unfolding crossings_printed crossings_of_points
printed_by plan bs = refl

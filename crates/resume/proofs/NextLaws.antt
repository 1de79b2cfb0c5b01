-- What `next` refuses, case by case, and what both runs came to. Assumes nothing.
use Rattle.std.specs.Prelude.{Ok, Err}
use mathlib.Core.Path.{◌≡◌, refl, sym, ap, ◌∙◌}
use mathlib.Core.Bool.{Bool, true, false, cond}
use mathlib.Core.List.{List, [], ◌++◌, append-nil}
use Prim.Native.Nat.{ℕ, ◌+◌, ◌-◌, ◌*◌, ◌≤◌, ◌<◌, ◌^◌, min}
use native.Mathlib.Nat.{sub-zero}
use native.Mathlib.Decide.{dec_lt}
use native.Mathlib.Omega.{arith}
use lib.ListN.{length, take, drop, length-append, length-map}
use lib.Seq.{drop-drop, length-take-le}
use lib.Dec.{ltb}
use borrow.Author.Tests.{lt-ltb, ltb-false}
use Rattle.refusals.specs.declared.Refusal.{Refusal}
use Rattle.grid.specs.Domain.{Lines, count, lengths_check, count_check}
use Rattle.seek.specs.Tests.{Pair}
use Rattle.visit.specs.Batches.{made, handed, firsts, seconds}
use Rattle.visit.specs.Entries.{outputs_check}
use Rattle.visit.proofs.Clauses.{made_full, handed_full, handed_none}
use Rattle.visit.proofs.Moves.{none_made, none_handed}
use Rattle.slices.specs.Slices.{cleared_from}
use Rattle.refusals.specs.Refusals.{clears, ◌then◌, answer_by, left_in}
use Rattle.refusals.specs.Refusals as refusals-words
use Rattle.refusals.proofs.Leaving.{numbers_below, clearing_unless, clearing_then}
use Rattle.grid.specs.declared.Grid.{Grid}
use Rattle.tables.specs.Tables.{Tables, beside}
use Rattle.visit.specs.Entries.{pairs_left}
use Rattle.through.specs.declared.CellsMade.{CellsMade}
use Rattle.listed.specs.Lists.{list_by, cells_from}
use Rattle.through.specs.Runs.{outputs_lines_check, within_fit, also_if, runs, run_tests, RanIs, CellsMadeIs}
use Rattle.through.specs.Inside.{Goes}
use Rattle.listed.proofs.CellLaws.{from_done}
use Rattle.through.proofs.Bounds.{cells_few}
use Rattle.through.proofs.RunLaws.{lent_fine, cleared}
use Rattle.through.proofs.Onward.{counts, ends_on, goes_on}
use Rattle.resume.specs.declared.Cursor.{Cursor}
use Rattle.resume.specs.declared.Went.{Went}
use Rattle.resume.specs.declared.nexts.Ran.{Ran}
use Rattle.resume.specs.declared.globals.GlobalsRan.{GlobalsRan}
use Rattle.resume.specs.AsTheyAre.{cells_to_look, globals_as}
use Rattle.resume.specs.Cursors.{globals_from, left_from, cursor_of}
use Rattle.resume.specs.Answers.{next_tests, next_answer, NextIs}
use Rattle.resume.specs.Inside.{Passed, GlobalsAsk, GlobalsRanIs, GoAsks, RunAsks, still_left, RunIs, SettleAsks, Gone}
use Rattle.resume.proofs.AsIs.{globals_increase}
use Rattle.resume.proofs.Zeros.{Kept, kept}
use Rattle.resume.proofs.Bounds.{globals_few, globals_table, globals_start, clip}
use Rattle.resume.proofs.CursorLaws.{reach_most}

pub next_fine : (ls : Lines) (first second : List ℕ) → outputs_lines_check ls first second ≡ (Ok tt) → GoAsks ls first second
next_fine ls first second h =
    let a = lent_fine ls first second h 0 (omega arith) in
    record { fine = h; alike = a.alike; few = a.few; same = a.same }

-- ---- both runs

module _ (ls : Lines) (C C' G G' : List Pair) (t₁ t₂ : ℕ) (fs ss fs₁ ss₁ fs₂ ss₂ : List ℕ) (h₁ h₂ : ℕ)
    (w₁ : (later : List Pair) → Goes ls (C ++ later) (C' ++ later) t₁ (length fs) fs ss 0 fs₁ ss₁ h₁) (e₁ : h₁ < length fs → C' ≡ [])
    (w₂ : Goes ls G G' t₂ (length fs) fs₁ ss₁ h₁ fs₂ ss₂ h₂) (e₂ : h₂ < length fs → G' ≡ []) where
  handed_on : handed ls (C' ++ G) (length fs - h₁) ≡ handed ls G (length fs - h₁)
  handed_on = go (dec_lt h₁ (length fs))
    where
      go : Dec (h₁ < length fs) → handed ls (C' ++ G) (length fs - h₁) ≡ handed ls G (length fs - h₁)
      go (yes h) = rw (e₁ h)
      go (no h) = let z : length fs - h₁ ≡ 0 = omega arith in rw (z, handed_full ls (C' ++ G)) (sym (handed_full ls G))

  made_on : made ls (C' ++ G) (length fs - h₁) ≡ made ls G (length fs - h₁)
  made_on = go (dec_lt h₁ (length fs))
    where
      go : Dec (h₁ < length fs) → made ls (C' ++ G) (length fs - h₁) ≡ made ls G (length fs - h₁)
      go (yes h) = rw (e₁ h)
      go (no h) = let z : length fs - h₁ ≡ 0 = omega arith in rw (z, made_full ls (C' ++ G)) (sym (made_full ls G))

  no_more : handed ls G' (length fs - h₂) ≡ []
  no_more = none_handed ls (length fs) G' h₂ e₂

  no_made : made ls G' (length fs - h₂) ≡ []
  no_made = none_made ls (length fs) G' h₂ e₂

  pub both_firsts : take h₂ fs₂ ≡ firsts (handed ls (C ++ G) (length fs))
  both_firsts =
      sym (rw sub-zero at (w₁ G).moved.firsts_are ∙ rw handed_on (w₂.moved.firsts_are ∙ rw no_more (append-nil (take h₂ fs₂))))

  pub both_seconds : take h₂ ss₂ ≡ seconds (handed ls (C ++ G) (length fs))
  both_seconds =
      sym (rw sub-zero at (w₁ G).moved.seconds_are ∙ rw handed_on (w₂.moved.seconds_are ∙ rw no_more (append-nil (take h₂ ss₂))))

  pub both_tests : t₁ + t₂ ≡ length (made ls (C ++ G) (length fs))
  both_tests =
      let x : length (made ls (C ++ G) (length fs)) ≡ t₁ + length (made ls G (length fs - h₁)) = rw sub-zero at (w₁ G).moved.made_is ∙ rw made_on in
      let y : length (made ls G (length fs - h₁)) ≡ t₂ + 0 = w₂.moved.made_is ∙ rw no_made in
      omega arith

  pub both_most : t₁ + t₂ ≤ length (C ++ G)
  both_most = omega (arith, (w₁ G).moved.counts, w₂.moved.counts, length-append C' G)

  pub both_hits : h₂ ≡ length (handed ls (C ++ G) (length fs))
  both_hits =
      sym (length-take-le h₂ fs₂ (omega (arith, w₂.moved.in_room, w₂.moved.first_long, (w₁ G).moved.first_long)))
      ∙ ap length both_firsts ∙ length-map (handed ls (C ++ G) (length fs)) (λ (p : Pair). p.first)

  -- what is left: where the outputs were full before the globals, none of those was tested
  pub both_left : drop (t₁ + t₂) (C ++ G) ≡ C' ++ G'
  both_left = go (dec_lt h₁ (length fs))
    where
      go : Dec (h₁ < length fs) → drop (t₁ + t₂) (C ++ G) ≡ C' ++ G'
      go (yes h) =
          let c : C' ≡ [] = e₁ h in
          let g : drop t₁ (C ++ G) ≡ G = sym (w₁ G).left ∙ ap (λ (l : List Pair). l ++ G) c in
          let k : G' ≡ C' ++ G' = sym (ap (λ (l : List Pair). l ++ G') c) in
          sym (drop-drop t₂ t₁ (C ++ G)) ∙ ap (drop t₂) g ∙ sym w₂.left ∙ k
      go (no h) =
          let z : length fs - h₁ ≡ 0 = omega arith in
          let f : made ls G (length fs - h₁) ≡ [] = rw z (made_full ls G) in
          let y : 0 ≡ t₂ + length (made ls G' (length fs - h₂)) = sym (ap length f) ∙ w₂.moved.made_is in
          let k : t₂ ≡ 0 = omega arith in
          let g : G' ≡ G = w₂.left ∙ rw k in
          let s : t₁ + t₂ ≡ t₁ = omega arith in
          rw (s, g) (sym (w₁ G).left)

-- ---- a run from a cursor

module _ (ls : Lines) (cols m : ℕ) (offsets items globals : List ℕ) (c : Cursor) (fs ss : List ℕ) (a : RunAsks ls m globals fs ss) where
  C : List Pair
  C = cells_from cols (list_by (count ls) offsets items) (m - c.place) c.place c.i c.j

  all_within : within_fit m ≡ m
  all_within = omega (arith, a.most)

  runs_here : runs ls m c.place fs ss ≡ ltb c.place m
  unfolding runs also_if
  runs_here = rw (a.asks.fine, all_within)

  none_beyond : ltb c.place m ≡ false → C ≡ []
  unfolding C
  none_beyond h = from_done cols (list_by (count ls) offsets items) m c.place c.i c.j (ltb-false c.place m h)

  tests_by : (b : Bool) → ltb c.place m ≡ b → cond b (cells_from cols (list_by (count ls) offsets items) (m - c.place) c.place c.i c.j) [] ≡ C
  unfolding C
  tests_by true e = refl
  tests_by false e = sym (none_beyond e)

  tests_are : run_tests ls cols m offsets items c.place c.i c.j fs ss ≡ C
  unfolding run_tests
  tests_are = rw (runs_here, all_within) (tests_by (ltb c.place m) refl)

  module _ (fs₁ ss₁ : List ℕ) (r₁ : CellsMade) (w₀ : CellsMadeIs ls cols m offsets items c.place c.i c.j fs ss fs₁ ss₁ r₁) where
    w₁ : RanIs ls cols m offsets items C (ltb c.place m) fs ss fs₁ ss₁ r₁
    w₁ = rw (tests_are, runs_here) at w₀

    pairs_fit : length (handed ls C (length fs)) ≤ length fs
    pairs_fit = (counts ls C (length fs)).most

    first_kept : Kept (ltb c.place m) r₁.overlaps (firsts (handed ls C (length fs))) fs fs₁
    first_kept =
        let l = length-map (handed ls C (length fs)) (λ (p : Pair). p.first) in
        kept (ltb c.place m) r₁.overlaps (firsts (handed ls C (length fs))) fs fs₁ (w₁.overlaps ∙ sym l) w₁.first_is (omega (arith, pairs_fit, l))
        (λ e. rw (none_beyond e, handed_none ls (length fs)))

    second_kept : Kept (ltb c.place m) r₁.overlaps (seconds (handed ls C (length fs))) ss ss₁
    second_kept =
        let l = length-map (handed ls C (length fs)) (λ (p : Pair). p.second) in
        kept (ltb c.place m) r₁.overlaps (seconds (handed ls C (length fs))) ss ss₁ (w₁.overlaps ∙ sym l) w₁.second_is (omega (arith, pairs_fit, l, a.asks.same))
        (λ e. rw (none_beyond e, handed_none ls (length fs)))

    C' : List Pair
    C' = drop r₁.tests C

    goes₁ : (later : List Pair) → Goes ls (C ++ later) (C' ++ later) r₁.tests (length fs) fs ss 0 fs₁ ss₁ r₁.overlaps
    unfolding C'
    goes₁ =
        goes_on ls C (length fs) r₁.tests r₁.overlaps w₁.tests w₁.overlaps fs ss fs₁ ss₁ first_kept.taken second_kept.taken first_kept.long second_kept.long

    ends₁ : r₁.overlaps < length fs → C' ≡ []
    unfolding C'
    ends₁ = ends_on ls C (length fs) r₁.tests r₁.overlaps w₁.tests w₁.overlaps

    module _ (p₀ p k q : ℕ) (e₀ : p₀ ≡ c.place - m) (ep : p ≡ min p₀ (length globals)) (ek : k ≡ min (cond (ltb c.place m) 0 c.j) (count ls)) (s : Passed globals p k q) where
      pub run_globals : GlobalsAsk ls globals p q k fs₁ ss₁ r₁.overlaps
      run_globals =
          let g = goes₁ [] in
          record {
            lent = record { alike = a.asks.alike; same = g.moved.second_long ∙ a.asks.same ∙ sym g.moved.first_long; in_room = omega (arith, g.moved.in_room, g.moved.first_long) };
            few = omega (arith, a.asks.few);
            place = globals_start (count ls) a.asks.few globals a.increase p k q (omega arith) (omega arith) s;
            small = omega (arith, globals_few (count ls) a.asks.few globals a.increase p k);
          }

      module _ (fs₂ ss₂ : List ℕ) (r₂ : GlobalsRan) (w₂ : GlobalsRanIs ls globals p k fs₁ ss₁ r₁.overlaps fs₂ ss₂ r₂) where
        G : List Pair
        G = globals_from (count ls) globals p k

        G' : List Pair
        G' = globals_from (count ls) globals r₂.p r₂.k

        first_same : length fs₁ ≡ length fs
        first_same = (goes₁ []).moved.first_long

        whole : still_left (count ls) cols m offsets items globals c ≡ C ++ G
        unfolding C G
        whole = ap (λ (l : List Pair). cells_from cols (list_by (count ls) offsets items) (m - c.place) c.place c.i c.j ++ l) (sym (rw (ep, e₀, ek) (clip (count ls) globals (c.place - m) (cond (ltb c.place m) 0 c.j))))

        goes₂ : Goes ls G G' r₂.tests (length fs) fs₁ ss₁ r₁.overlaps fs₂ ss₂ r₂.hits
        unfolding G G'
        goes₂ = rw first_same at w₂.goes

        ends₂ : r₂.hits < length fs → G' ≡ []
        unfolding G'
        ends₂ h = w₂.ends (rw first_same h)

        few_tests : length (C ++ G) < 2 ^ 64
        unfolding C G
        few_tests =
            omega (
              arith,
              length-append (cells_from cols (list_by (count ls) offsets items) (m - c.place) c.place c.i c.j) (globals_from (count ls) globals p k),
              cells_few (count ls) a.asks.few offsets items cols m c.place c.i c.j a.most,
              globals_few (count ls) a.asks.few globals a.increase p k,
            )

        pub run_small : r₁.tests + r₂.tests < 2 ^ 64
        run_small = omega (arith, both_most ls C C' G G' r₁.tests r₂.tests fs ss fs₁ ss₁ fs₂ ss₂ r₁.overlaps r₂.hits goes₁ ends₁ goes₂ ends₂, few_tests)

        pub run_first_long : length fs₂ ≡ length fs
        run_first_long = goes₂.moved.first_long ∙ first_same

        pub run_second_long : length ss₂ ≡ length ss
        run_second_long = goes₂.moved.second_long ∙ (goes₁ []).moved.second_long

        pub run_is : RunIs ls cols m offsets items globals c fs ss fs₂ ss₂
            (record { found = r₁.at; p = r₂.p; q = r₂.q; k = r₂.k; tests = r₁.tests + r₂.tests; hits = r₂.hits })
        unfolding C' G'
        run_is =
            record {
              tests = rw whole (both_tests ls C C' G G' r₁.tests r₂.tests fs ss fs₁ ss₁ fs₂ ss₂ r₁.overlaps r₂.hits goes₁ ends₁ goes₂ ends₂);
              hits = rw whole (both_hits ls C C' G G' r₁.tests r₂.tests fs ss fs₁ ss₁ fs₂ ss₂ r₁.overlaps r₂.hits goes₁ ends₁ goes₂ ends₂);
              first_is = rw whole (both_firsts ls C C' G G' r₁.tests r₂.tests fs ss fs₁ ss₁ fs₂ ss₂ r₁.overlaps r₂.hits goes₁ ends₁ goes₂ ends₂);
              second_is = rw whole (both_seconds ls C C' G G' r₁.tests r₂.tests fs ss fs₁ ss₁ fs₂ ss₂ r₁.overlaps r₂.hits goes₁ ends₁ goes₂ ends₂);
              first_long = run_first_long;
              second_long = run_second_long;
              left = rw whole (both_left ls C C' G G' r₁.tests r₂.tests fs ss fs₁ ss₁ fs₂ ss₂ r₁.overlaps r₂.hits goes₁ ends₁ goes₂ ends₂);
              rest = C';
              at = rw all_within at w₁.at;
              first_zero = λ h. w₂.first_zero (first_kept.zeros (lt-ltb c.place m h));
              second_zero = λ h. w₂.second_zero (second_kept.zeros (lt-ltb c.place m h));
              place = w₂.place;
            }

-- ---- what `go` and `next` come to

module _ (ls : Lines) (g : Grid) (offsets items globals : List ℕ) (count_of : ℕ) (c : Cursor) (fs ss : List ℕ) where
  module _ (m : ℕ) (em : m ≡ cells_to_look (beside ls g offsets items globals count_of)) (listed : List ℕ) (el : listed ≡ globals_as (beside ls g offsets items globals count_of)) where
    pub go_runs : GoAsks ls fs ss → RunAsks ls m listed fs ss
    go_runs a = record { asks = a; most = rw em (reach_most (g.rows * g.cols) (length offsets)); increase = rw el (globals_increase (count ls) globals count_of) }

    module _ (fs₁ ss₁ : List ℕ) (r : Ran) (w : RunIs ls g.cols m offsets items listed c fs ss fs₁ ss₁ r) where
      left_is : still_left (count ls) g.cols m offsets items listed c ≡ left_from (beside ls g offsets items globals count_of) c
      unfolding left_from
      left_is = rw (em, el)

      pub go_settles : GoAsks ls fs ss → SettleAsks (beside ls g offsets items globals count_of) m listed r.p r.q r.k
      go_settles a =
          record {
            reach_is = em;
            globals_are = el;
            place = record { table = globals_table (count ls) a.few listed (rw el (globals_increase (count ls) globals count_of)); place = w.place };
          }

      pub go_is : (fs₂ ss₂ : List ℕ) (after : Cursor) → fs₂ ≡ cleared_from r.hits fs₁ → ss₂ ≡ cleared_from r.hits ss₁
          → after ≡ cursor_of (beside ls g offsets items globals count_of) (w.rest ++ globals_from (count ls) listed r.p r.k)
          → Gone ls (beside ls g offsets items globals count_of) c fs ss fs₂ ss₂ (record { tests = r.tests; overlaps = r.hits; cursor = after })
      go_is fs₂ ss₂ after ef es ea =
          let hits : r.hits ≡ length (handed ls (left_from (beside ls g offsets items globals count_of) c) (length fs)) = rw left_is at w.hits in
          let tests : r.tests ≡ length (made ls (left_from (beside ls g offsets items globals count_of) c) (length fs)) = rw left_is at w.tests in
          let cut : drop r.tests (left_from (beside ls g offsets items globals count_of) c) ≡ w.rest ++ globals_from (count ls) listed r.p r.k =
          rw left_is at w.left in
          let end : after ≡ cursor_of (beside ls g offsets items globals count_of) (drop (length (made ls (left_from (beside ls g offsets items globals count_of) c) (length fs))) (left_from (beside ls g offsets items globals count_of) c)) =
          ea ∙ ap (cursor_of (beside ls g offsets items globals count_of)) (sym cut ∙ ap (λ (n : ℕ). drop n (left_from (beside ls g offsets items globals count_of) c)) tests) in
          record {
            is = rw (end, tests, hits);
            first_is = cleared fs₁ fs₂ (firsts (handed ls (left_from (beside ls g offsets items globals count_of) c) (length fs))) (length fs) r.hits ef (rw left_is at w.first_is) w.first_long (length-map (handed ls (left_from (beside ls g offsets items globals count_of) c) (length fs)) (λ (p : Pair). p.first) ∙ sym hits);
            second_is = cleared ss₁ ss₂ (seconds (handed ls (left_from (beside ls g offsets items globals count_of) c) (length fs))) (length ss) r.hits es (rw left_is at w.second_is) w.second_long (length-map (handed ls (left_from (beside ls g offsets items globals count_of) c) (length fs)) (λ (p : Pair). p.second) ∙ sym hits);
          }

module _ (ls : Lines) (t : Tables) (c : Cursor) (fs ss : List ℕ) where
  -- a refusal by 3 or 2 leaves the outputs as they were
  pub next_refused : (r : Refusal) → outputs_lines_check ls fs ss ≡ Err r → clears r.number ≡ false → NextIs ls t c fs ss fs ss (Err r)
  unfolding next_answer next_tests ◌then◌ answer_by pairs_left left_in refusals-words.left_by
  next_refused r e k = record { answers = rw e; first_is = rw (e, k); second_is = rw (e, k) }

  pub next_went : outputs_lines_check ls fs ss ≡ (Ok tt) → (fs' ss' : List ℕ) (w : Went) → Gone ls t c fs ss fs' ss' w → NextIs ls t c fs ss fs' ss' (Ok w)
  unfolding next_answer next_tests ◌then◌ answer_by pairs_left left_in
  next_went e fs' ss' w g = record { answers = rw (e, g.is); first_is = rw e g.first_is; second_is = rw e g.second_is }

pub next_clears : (ls : Lines) (fs ss : List ℕ) (r : Refusal) → outputs_lines_check ls fs ss ≡ Err r → clears r.number ≡ false
unfolding outputs_lines_check outputs_check lengths_check count_check
next_clears ls fs ss r e =
    (clearing_then (clearing_unless _ 3 0 (numbers_below 3 (omega arith))) (clearing_then (clearing_unless _ 3 0 (numbers_below 3 (omega arith))) (clearing_unless _ 2 (count ls) (numbers_below 2 (omega arith))))).says r e

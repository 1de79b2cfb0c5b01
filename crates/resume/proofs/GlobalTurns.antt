-- The turns of the run through the globals. Assumes nothing.
use Rattle.std.specs.Prelude.{Some, None, Option}
use mathlib.Core.Path.{◌≡◌, sym, ap, subst, ◌∙◌}
use mathlib.Core.List.{List, [], ◌∷◌, ◌++◌, append_assoc}
use Prim.Native.Nat.{ℕ, zero, suc, ◌+◌, ◌-◌, ◌≤◌, ◌<◌, ◌^◌, min}
use native.Mathlib.Decide.{ℕ_discrete}
use native.Mathlib.Omega.{arith}
use lib.ListN.{length, get_or, take}
use Rattle.grid.specs.Domain.{Lines, count}
use Rattle.seek.specs.declared.Place.TheVariants.{Global}
use Rattle.seek.specs.Tests.{Pair, with_each, others, global_tests}
use Rattle.seek.specs.Inside.{numbers}
use Rattle.seek.specs.Cursors.{LineFits}
use Rattle.visit.specs.Inside.{GlobalAsks, GlobalIs}
use Rattle.seek.proofs.Clauses.{with_nil, with_append, numbers_zero, numbers_suc}
use Rattle.seek.proofs.OtherLines.{length_numbers}
use Rattle.seek.proofs.GlobalRests.{grest_run, stop_most, line_further}
use Rattle.resume.specs.declared.settle.GlobalAt.{GlobalAt}
use Rattle.resume.specs.Cursors.{globals_from}
use Rattle.through.specs.Inside.{Goes}
use Rattle.resume.specs.Inside.{ZeroAfter, LinesAsk, LinesScanned, Passed, GlobalFound, GlobalsAsk, GlobalsRanIs}
use Rattle.through.proofs.Goings.{goes_none, goes_then, goes_row}

-- what was found, taken apart
module _ (n : ℕ) (globals : List ℕ) (p q k : ℕ) (r : (Option GlobalAt)) (f : GlobalFound n globals p q k r) where
  pub global_is : (a : GlobalAt) → r ≡ Some a → GlobalIs n (length globals) globals p q k a.p a.q a.k a.stop
  global_is a e = subst (GlobalFound n globals p q k) e f

  pub global_past : r ≡ None → globals_from n globals p k ≡ []
  global_past e = subst (GlobalFound n globals p q k) e f

numbers_split : (a b k : ℕ) → numbers (a + b) k ≡ numbers a k ++ numbers b (k + a)
numbers_split zero b k = let e : 0 + b ≡ b = omega arith in let z : k + 0 ≡ k = omega arith in rw (e, z, numbers_zero)
numbers_split (suc a) b k =
    let e : suc a + b ≡ suc (a + b) = omega arith in
    let z : k + suc a ≡ suc k + a = omega arith in
    rw (e, z, numbers_suc, numbers_suc) (ap (λ (l : List ℕ). k ∷ l) (numbers_split a b (suc k)))

-- ---- how many globals are below a line

pub record Passing (globals : List ℕ) (p k q : ℕ) : Type 0 where
  pub inside : p < length globals
  pub q_small : q ≤ p + 1
  pub passed : (a : ℕ) → a < q → get_or globals a 0 < k

pub passing_none : (globals : List ℕ) (p k : ℕ) → p < length globals → Passing globals p k 0
passing_none globals p k h = record { inside = h; q_small = omega arith; passed = λ a l. absurd (omega arith) }

pub passed_out : (globals : List ℕ) (p k : ℕ) → length globals ≤ p → Passed globals p k 0
passed_out globals p k h = record { q_small = omega arith; passed = λ a l. absurd (omega arith); ahead = λ i l. absurd (omega arith) }

module _ (globals : List ℕ) (p k q : ℕ) (s : Passing globals p k q) where
  pub passing_more : q ≤ p → get_or globals q 0 < k → Passing globals p k (q + 1)
  passing_more h l = record { inside = s.inside; q_small = omega arith; passed = λ a i. go a i (ℕ_discrete a q) }
    where
      go : (a : ℕ) → a < q + 1 → Dec (a ≡ q) → get_or globals a 0 < k
      go a i (yes e) = rw e l
      go a i (no e) = s.passed a (omega arith)

  pub passed_here : q ≤ p → k ≤ get_or globals q 0 → Passed globals p k q
  passed_here h l = record { q_small = s.q_small; passed = s.passed; ahead = λ i j. l }

  pub passed_all : p < q → Passed globals p k (p + 1)
  passed_all h = record { q_small = omega arith; passed = λ a l. s.passed a (omega arith); ahead = λ i j. absurd (omega arith) }

-- ---- the run

pub record GlobalsRun (ls : Lines) (globals : List ℕ) (p₀ q₀ k₀ : ℕ) (fs ss : List ℕ) (hits₀ n : ℕ) (fs' ss' : List ℕ) (p q k tests hits : ℕ) : Type 0 where
  pub asks : GlobalsAsk ls globals p₀ q₀ k₀ fs ss hits₀
  pub n_is : n ≡ count ls
  pub place : LineFits (count ls) (length globals) globals p q k
  pub goes : Goes ls (globals_from (count ls) globals p₀ k₀) (globals_from (count ls) globals p k) tests (length fs) fs ss hits₀ fs' ss' hits
  pub first_zero : ZeroAfter hits₀ fs → ZeroAfter hits fs'
  pub second_zero : ZeroAfter hits₀ ss → ZeroAfter hits ss'

pub globals_run : (ls : Lines) (globals : List ℕ) (p q k : ℕ) (fs ss : List ℕ) (hits n : ℕ) → GlobalsAsk ls globals p q k fs ss hits → n ≡ count ls
    → GlobalsRun ls globals p q k fs ss hits n fs ss p q k 0 hits
globals_run ls globals p q k fs ss hits n a e =
    record { asks = a; n_is = e; place = a.place.place; goes = goes_none ls (length fs) (globals_from (count ls) globals p k) fs ss hits a.lent.in_room; first_zero = λ z. z; second_zero = λ z. z }

module _ (ls : Lines) (globals : List ℕ) (p₀ q₀ k₀ : ℕ) (fs ss : List ℕ) (hits₀ n : ℕ) (fs' ss' : List ℕ) (p q k tests hits : ℕ)
    (s : GlobalsRun ls globals p₀ q₀ k₀ fs ss hits₀ n fs' ss' p q k tests hits) where
  pub globals_first_long : length fs' ≡ length fs
  globals_first_long = s.goes.moved.first_long

  pub globals_second_long : length ss' ≡ length ss
  globals_second_long = s.goes.moved.second_long

  pub globals_place : GlobalAsks n (length globals) globals p q k
  globals_place = rw s.n_is (record { table = s.asks.place.table; place = s.place })

  pub globals_full : length fs ≤ hits → GlobalsRanIs ls globals p₀ k₀ fs ss hits₀ fs' ss' (record { p = p; q = q; k = k; tests = tests; hits = hits })
  globals_full h = record { place = s.place; goes = s.goes; ends = λ l. absurd (omega arith); first_zero = s.first_zero; second_zero = s.second_zero }

  pub globals_over : globals_from n globals p k ≡ [] → GlobalsRanIs ls globals p₀ k₀ fs ss hits₀ fs' ss' (record { p = p; q = q; k = k; tests = tests; hits = hits })
  globals_over e = record { place = s.place; goes = s.goes; ends = λ l. rw s.n_is at e; first_zero = s.first_zero; second_zero = s.second_zero }

  pub globals_stop : (a b d stop : ℕ) → GlobalIs n (length globals) globals p q k a b d stop → stop < 2 ^ 32
  globals_stop a b d stop g =
      let e : GlobalIs (count ls) (length globals) globals p q k a b d stop = rw s.n_is at g in
      omega (arith, e.stops, stop_most (count ls) (length globals) globals s.asks.place.table a b d e.fits e.inside, s.asks.few)

  module _ (a b d stop : ℕ) (g : GlobalIs n (length globals) globals p q k a b d stop) (h : hits < length fs') (many : ℕ) (em : many ≡ min (stop - d) (length fs' - hits)) where
    f : GlobalIs (count ls) (length globals) globals p q k a b d stop
    f = rw s.n_is at g

    stop_in_lines : stop ≤ count ls
    stop_in_lines = omega (arith, f.stops, stop_most (count ls) (length globals) globals s.asks.place.table a b d f.fits f.inside)

    pub globals_few : many < 2 ^ 32
    globals_few = omega (arith, stop_in_lines, s.asks.few)

    pub globals_inside : a < length globals
    globals_inside = f.inside

    pub globals_asks : LinesAsk ls (get_or globals a 0) d many fs' ss' hits
    globals_asks =
        record {
          alike = s.asks.lent.alike;
          one = s.asks.place.table.below a f.inside;
          below = omega (arith, stop_in_lines, f.one);
          few = s.asks.few;
          same = globals_second_long ∙ s.asks.lent.same ∙ sym globals_first_long;
          room = omega arith;
        }

    later : List Pair
    later = with_each (Global a) (get_or globals a 0) (others (take (suc a) globals) (count ls - stop) stop) ++ global_tests (count ls) globals (length globals - suc a) (suc a)

    run_at : (x : ℕ) → d ≤ x → x ≤ stop → globals_from (count ls) globals a x ≡ with_each (Global a) (get_or globals a 0) (numbers (stop - x) x) ++ later
    unfolding later
    run_at x u v = grest_run (count ls) (length globals) globals s.asks.place.table a b d f.fits f.inside stop x f.stops u v

    split : globals_from (count ls) globals a d ≡ with_each (Global a) (get_or globals a 0) (numbers many d) ++ globals_from (count ls) globals a (d + many)
    split =
        let e : stop - d ≡ many + (stop - (d + many)) = omega (arith, f.one) in
        run_at d (omega arith) (omega (arith, f.one))
        ∙ ap (λ (x : ℕ). with_each (Global a) (get_or globals a 0) (numbers x d) ++ later) e
        ∙ ap (λ (l : List ℕ). with_each (Global a) (get_or globals a 0) l ++ later) (numbers_split many (stop - (d + many)) d)
        ∙ ap (λ (l : List Pair). l ++ later) (with_append (Global a) (get_or globals a 0) (numbers many d) (numbers (stop - (d + many)) (d + many)))
        ∙ append_assoc (with_each (Global a) (get_or globals a 0) (numbers many d)) (with_each (Global a) (get_or globals a 0) (numbers (stop - (d + many)) (d + many))) later
        ∙ ap (λ (l : List Pair). with_each (Global a) (get_or globals a 0) (numbers many d) ++ l) (sym (run_at (d + many) (omega arith) (omega (arith, f.one))))

    module _ (fs'' ss'' : List ℕ) (hits' : ℕ) (w : LinesScanned ls (get_or globals a 0) d many many fs' ss' hits fs'' ss'' hits') where
      step : Goes ls (globals_from (count ls) globals p k) (globals_from (count ls) globals a (d + many)) many (length fs) fs' ss' hits fs'' ss'' hits'
      step =
          let z : many - many ≡ 0 = omega arith in
          let m = rw (z, numbers_zero, with_nil) at (w.moved (Global a) (globals_from (count ls) globals a (d + many))) in
          let l = length_numbers many d in
          rw (f.same, split)
          (rw (globals_first_long, l) at (goes_row ls (length fs') (Global a) (get_or globals a 0) (numbers many d) (globals_from (count ls) globals a (d + many)) fs' ss' hits fs'' ss'' hits' (rw l m)))

      pub globals_turn : GlobalsRun ls globals p₀ q₀ k₀ fs ss hits₀ n fs'' ss'' a b (d + many) (tests + many) hits'
      globals_turn =
          record {
            asks = s.asks;
            n_is = s.n_is;
            place = line_further (count ls) (length globals) globals s.asks.place.table a b d f.fits f.inside (d + many) (omega arith) (omega (arith, f.stops, f.one));
            goes = goes_then ls (length fs) s.goes step;
            first_zero = λ z. w.first_zero (s.first_zero z);
            second_zero = λ z. w.second_zero (s.second_zero z);
          }

      pub globals_less : length (globals_from (count ls) globals a (d + many)) < length (globals_from (count ls) globals p k)
      globals_less = omega (arith, step.moved.counts, f.one)

      pub globals_small : tests + many < 2 ^ 64
      globals_small = omega (arith, s.goes.moved.counts, step.moved.counts, s.asks.small)

      pub globals_k : d + many < 2 ^ 32
      globals_k = omega (arith, stop_in_lines, s.asks.few, f.one)

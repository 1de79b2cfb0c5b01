-- Laws of the cost of a visit.
--   Adding ..    a turn of the sum over the cells
--   cost-..      the cells' tests and the globals' are all tests
-- Assumes nothing.
use Rattle.std.specs.Prelude.{Ok, Err}
use mathlib.Core.Path.{◌≡◌, refl, sym, ap, ◌∙◌}
use mathlib.Core.Bool.{cond}
use mathlib.Core.List.{List}
use Prim.Native.Nat.{ℕ, zero, suc, ◌+◌, ◌-◌, ◌*◌, ◌≤◌, ◌<◌, ◌^◌}
use native.Mathlib.Nat.{mul-suc, mul-le-mul_left, mul-le-mul_right}
use native.Mathlib.Numerals.{add-one}
use native.Mathlib.Omega.{arith}
use lib.Dec.{leb}
use lib.ListN.{length, get_or}
use lib.Seq.{length-take-le}
use Rattle.refusals.specs.declared.Refusal.{Refusal}
use Rattle.refusals.specs.Refusals.{gives, answer_by}
use Rattle.refusals.proofs.Checks.{unless_fine, and_then_left, and_then_right}
use Rattle.refusals.proofs.Answers.{refused_by, past}
use Rattle.grid.specs.declared.Grid.{Grid}
use Rattle.grid.specs.Domain.{count_check, grid_check, fit}
use Rattle.grid.proofs.Shapes.{Fit, fit_says}
use Rattle.tables.specs.Tables.{Tables, tables, cells, list_of, globals_of}
use Rattle.tables.specs.Fit.{TablesFit, standing_check}
use Rattle.tables.proofs.Facts.{check_facts}
use Rattle.seek.specs.Inside.{tri}
use Rattle.seek.specs.Tests.{tests_of}
use Rattle.seek.proofs.Lengths.{tri_twice, length_increasing, tri_few}
use Rattle.tables.proofs.Parts.{fit_cells}
use Rattle.seek.proofs.CellRests.{length_list}
use Rattle.visit.specs.Words.{half_down, sum_below}
use Rattle.visit.proofs.Number.{half_is, sum_zero, sum_suc, tests_number}
use borrow.Author.Tests.{leb-true}
use Rattle.cost.specs.declared.Cost.{Cost}
use Rattle.cost.specs.Cost.{greatest, cost_of, cost_answer}
use Rattle.cost.specs.Inside.{gap, GapsAsk, CellsCost, CostAsks}

-- ---- sums and greatest numbers over the cells

greatest_zero : (f : ℕ → ℕ) → greatest f 0 ≡ 0
unfolding greatest
greatest_zero f = refl

greatest_suc : (f : ℕ → ℕ) (m : ℕ) → greatest f (suc m) ≡ cond (leb (greatest f m) (f m)) (f m) (greatest f m)
unfolding greatest
greatest_suc f m = refl

greatest_same : (f g : ℕ → ℕ) (m : ℕ) → ((c : ℕ) → c < m → f c ≡ g c) → greatest f m ≡ greatest g m
greatest_same f g zero h = simp greatest_zero
greatest_same f g (suc m) h = simp greatest_suc (rw (greatest_same f g m (λ c l. h c (omega arith)), h m (omega arith)))

sum_alike : (m : ℕ) (f g : ℕ → ℕ) → ((c : ℕ) → c < m → f c ≡ g c) → sum_below m f ≡ sum_below m g
sum_alike zero f g h = simp sum_zero
sum_alike (suc m) f g h = simp sum_suc (rw (sum_alike m f g (λ c l. h c (omega arith)), h m (omega arith)))

-- ---- the loop over the cells

pub record Adding (m : ℕ) (offsets : List ℕ) (cell tests longest : ℕ) : Type 0 where
  pub asks : GapsAsk m offsets
  pub at_most : cell ≤ m
  pub tests_are : tests ≡ sum_below cell (λ c. tri (gap offsets c))
  pub longest_is : longest ≡ greatest (gap offsets) cell
  pub small : tests ≤ cell * 2147450880

pub adding_none : {m : ℕ} {offsets : List ℕ} → GapsAsk m offsets → Adding m offsets 0 0 0
adding_none {m} {offsets} a =
    record {
      asks = a;
      at_most = omega arith;
      tests_are = sym (sum_zero (λ c. tri (gap offsets c)));
      longest_is = sym (greatest_zero (gap offsets));
      small = omega arith;
    }

module _ {m : ℕ} {offsets : List ℕ} {cell tests longest : ℕ} (s : Adding m offsets cell tests longest) where
  pub adding_done : m ≤ cell → CellsCost m offsets (record { tests = tests; longest = longest })
  adding_done h =
      let e : cell ≡ m = omega (arith, s.at_most) in
      record {
        tests = s.tests_are ∙ ap (λ (x : ℕ). sum_below x (λ c. tri (gap offsets c))) e;
        longest = s.longest_is ∙ ap (greatest (gap offsets)) e;
        small = omega (arith, s.small, s.asks.few, s.at_most);
      }

  module _ (h : cell < m) where
    pub adding_up : get_or offsets cell 0 ≤ get_or offsets (cell + 1) 0
    adding_up = rw add-one (s.asks.fits.rises cell h)

    pub adding_inside : cell + 1 < length offsets
    adding_inside = omega (arith, s.asks.fits.long)

    module _ (k : ℕ) (e : k ≡ get_or offsets (cell + 1) 0 - get_or offsets cell 0) where
      gap_is : k ≡ gap offsets cell
      gap_is = e ∙ rw add-one

      few : tri k ≤ 2147450880
      few = tri_few k (omega (arith, gap_is, s.asks.short cell h))

      pub adding_fits : (d : ℕ) → d ≡ tri k → tests + d < 2 ^ 64
      adding_fits d t = omega (arith, few, s.small, s.asks.few)

      pub adding_more : (d l : ℕ) → d ≡ tri k → l ≡ cond (leb longest k) k longest → Adding m offsets (cell + 1) (tests + d) l
      adding_more d l t u =
          record {
            asks = s.asks;
            at_most = omega arith;
            tests_are = rw (add-one, sum_suc, ← s.tests_are, t, gap_is);
            longest_is = u ∙ rw (add-one, greatest_suc, ← s.longest_is, gap_is);
            small = omega (arith, few, s.small);
          }

-- ---- the globals

module _ (n g : ℕ) (a : CostAsks n g) where
  pub globals_most : 0 < g → tri g ≤ g * (n - 1)
  globals_most h =
      let e : n ≡ suc (n - 1) = omega (arith, a.within) in
      let p : g * n ≡ g * (n - 1) + g = ap (λ (x : ℕ). g * x) e ∙ mul-suc g (n - 1) ∙ omega arith in
      omega (arith, p, tri_twice g, mul-le-mul_left g a.within)

  pub globals_small : g * (n - 1) < 2 ^ 33
  globals_small =
      let u : g * (n - 1) ≤ 65536 * (n - 1) = mul-le-mul_right (n - 1) (omega (arith, a.within, a.few)) in
      omega (arith, a.few)

-- ---- all of it

pub cost_refused : (g : Grid) (t : Tables) (r : Refusal) → standing_check g t ≡ Err r → Err r ≡ cost_answer g t
unfolding cost_answer
cost_refused g t r e = refused_by Err Ok _ _ r e

module _ (g : Grid) (n : ℕ) (offsets items globals : List ℕ) (m : ℕ) where
  abbrev t : Tables
  t = tables g n offsets items globals m

  module _ (f : standing_check g (tables g n offsets items globals m) ≡ (Ok tt)) where
    few_lines : n ≤ 65536
    unfolding standing_check count_check
    few_lines = leb-true n 65536 (unless_fine _ 2 n (and_then_left _ _ f))

    shaped : Fit g
    unfolding standing_check grid_check
    shaped = fit_says g (unless_fine (fit g) 8 0 (and_then_left _ _ (and_then_right _ _ f)))

    fits : TablesFit t
    unfolding standing_check
    fits = check_facts t (and_then_right _ _ (and_then_right _ _ f))

    gap_at : (c : ℕ) → c < cells t → length (list_of t c) ≡ gap offsets c
    gap_at c h = length_list (cells t) offsets items (fit_cells t fits) c h

    pub cells_ask : GapsAsk (g.rows * g.cols) offsets
    cells_ask =
        record {
          few = shaped.counts.cells;
          items = items;
          fits = fit_cells t fits;
          short = λ c h. omega (arith, gap_at c h, length_increasing n (list_of t c) (fits.lists.lists c h), few_lines);
        }

    pub globals_ask : CostAsks n m
    globals_ask =
        record {
          few = few_lines;
          within = omega (arith, length_increasing n (globals_of t) fits.globals, length-take-le m globals fits.counted);
        }

    module _ {l : Cost} (w : CellsCost (g.rows * g.cols) offsets l) {x : ℕ} (e : x ≡ m * (n - 1) - tri m) where
      pub cost_fits : l.tests + x < 2 ^ 64
      cost_fits = omega (arith, w.small, globals_small n m globals_ask)

      all_tests : l.tests + x ≡ length (tests_of t)
      all_tests =
          let u : sum_below (cells t) (λ c. half_down (length (list_of t c))) ≡ l.tests =
          sum_alike (cells t) (λ c. half_down (length (list_of t c))) (λ c. tri (gap offsets c)) (λ c h. half_is (length (list_of t c)) ∙ ap tri (gap_at c h)) ∙ sym w.tests in
          let v : m * (n - 1) - half_down m ≡ x = ap (λ (y : ℕ). m * (n - 1) - y) (half_is m) ∙ sym e in
          sym (tests_number t fits ∙ rw (u, v))

      longest_is : l.longest ≡ greatest (λ c. length (list_of t c)) (cells t)
      longest_is = w.longest ∙ sym (greatest_same (λ c. length (list_of t c)) (gap offsets) (cells t) gap_at)

      pub cost_is : Ok (record { tests = l.tests + x; longest = l.longest }) ≡ cost_answer g t
      unfolding cost_answer answer_by
      cost_is = rw (all_tests, longest_is) (past Err Ok _ (gives (cost_of t)) f)

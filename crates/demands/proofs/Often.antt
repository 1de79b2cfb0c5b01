-- How often a full visit of standing tables tests two different lines: once per cell that both walks visit if neither is global, and so at
-- most 2,048 times; else exactly once. Of any walk. Assumes nothing.
use mathlib.Core.Path.{◌≡◌, refl, sym, ap, subst, ◌∙◌}
use mathlib.Core.Bool.{Bool, true, false, ◌&&◌, ◌||◌}
use mathlib.Core.List.{List}
use Prim.Native.Nat.{ℕ, zero, suc, ◌≤◌, ◌<◌}
use native.Mathlib.Omega.{arith}
use Rattle.slices.specs.Lists.{elem}
use Rattle.grid.specs.declared.Grid.{Grid}
use Rattle.tables.specs.Tables.{Tables, cells, list_of}
use Rattle.tables.specs.Stands.{Stands}
use Rattle.tables.proofs.Standing.{lines_are}
use Rattle.seek.specs.Tests.{tests_of}
use Rattle.visit.specs.Words.{one_where, count_below, times, Different}
use Rattle.visit.proofs.Number.{sum_zero, sum_suc}
use Rattle.visit.proofs.Often.{tests_no_global, tests_global, tests_most}
use Rattle.visit.proofs.Different.{tests_different}
use Rattle.demands.specs.Words.{is_global, visits, shared_cells, due}
use Rattle.demands.proofs.Listed.{listed_line, global_line, apart, few_cells}

count_same : (m : ℕ) (f g : ℕ → Bool) → ((c : ℕ) → c < m → f c ≡ g c) → count_below m f ≡ count_below m g
unfolding count_below
count_same zero f g h = sum_zero (λ c. one_where (f c)) ∙ sym (sum_zero (λ c. one_where (g c)))
count_same (suc m) f g h =
    omega (
      arith,
      sum_suc m (λ c. one_where (f c)),
      sum_suc m (λ c. one_where (g c)),
      ap one_where (h m (omega arith)),
      count_same m f g (λ c l. h c (omega arith)),
    )

-- ---- two different lines

module _ {W : ℕ → List ℕ} {n : ℕ} {g : Grid} {t : Tables} (s : Stands W n g t) where
  -- NO OTHER TESTS: none of a line with itself, and none of a line that there is not
  pub only : Different n (tests_of t)
  only = subst (λ (x : ℕ). Different x (tests_of t)) (lines_are s) (tests_different t s.tables_fit_lem)

  module _ (a b : ℕ) (d : a ≡ b → ⊥) (la : a < n) (lb : b < n) where
    in_a : a < t.lines
    in_a = rw (lines_are s) la

    in_b : b < t.lines
    in_b = rw (lines_are s) lb

    -- neither is global: ONCE PER CELL THAT BOTH WALKS VISIT
    pub once_per_cell : is_global W a ≡ false → is_global W b ≡ false → times a b (tests_of t) ≡ shared_cells g W a b
    unfolding shared_cells
    once_per_cell p q =
        tests_no_global t s.tables_fit_lem a b d in_a in_b (global_line s a la ∙ p) (global_line s b lb ∙ q)
        ∙ count_same (cells t) (λ c. elem a (list_of t c) && elem b (list_of t c)) (λ c. visits W a c && visits W b c)
        (λ c l. rw (listed_line s a c la l p, listed_line s b c lb l q))
        ∙ ap (λ (x : Tables). count_below (cells x) (λ c. visits W a c && visits W b c)) s.on_grid

    -- AND SO AT MOST 2,048 TIMES
    pub at_most : is_global W a ≡ false → is_global W b ≡ false → times a b (tests_of t) ≤ 2048
    at_most p q =
        tests_most t s.tables_fit_lem a b d in_a in_b 2048 (global_line s a la ∙ p) (global_line s b lb ∙ q) (few_cells s a)

    -- at least one is global: EXACTLY ONCE
    pub exactly_once : (is_global W a || is_global W b) ≡ true → times a b (tests_of t) ≡ 1
    exactly_once p = tests_global t s.tables_fit_lem a b d in_a in_b (apart s) (rw (global_line s a la, global_line s b lb) p)

    -- the two in one
    pub tested : times a b (tests_of t) ≡ due g W a b
    unfolding due
    tested = go (is_global W a) refl (is_global W b) refl
      where
        go : (x : Bool) → is_global W a ≡ x → (y : Bool) → is_global W b ≡ y → times a b (tests_of t) ≡ due g W a b
        go true p y q = exactly_once (rw p) ∙ rw p
        go false p true q = exactly_once (rw (p, q)) ∙ rw (p, q)
        go false p false q = once_per_cell p q ∙ rw (p, q)

-- What stands, in demand 3's words: each line is in exactly its lists, and a global line in no cell's list. Of any walk. Assumes nothing.
use mathlib.Core.Path.{◌≡◌, refl, sym, ◌∙◌}
use mathlib.Core.Bool.{Bool, true, false, not, ◌&&◌, true≢false}
use mathlib.Core.List.{List}
use Prim.Native.Nat.{ℕ, zero, suc, ◌≤◌, ◌<◌}
use native.Mathlib.Omega.{arith}
use borrow.Author.Tests.{lt-ltb}
use lib.Dec.{ltb}
use lib.ListN.{length}
use Rattle.slices.specs.Lists.{elem}
use Rattle.grid.specs.declared.Grid.{Grid}
use Rattle.tables.specs.Tables.{Tables, cells, list_of, globals_of}
use Rattle.tables.specs.Lists.{only, sum}
use Rattle.tables.specs.Stands.{Stands}
use Rattle.tables.proofs.Standing.{listed, global, few_lists}
use Rattle.visit.specs.Words.{one_where, count_below, Apart}
use Rattle.visit.proofs.Number.{sum_zero, sum_suc}
use Rattle.demands.specs.Words.{is_global, visits}

-- a line that is global is in no list of those that are not
not_both : (n long visits : Bool) → (n && long) ≡ true → (n && (not long && visits)) ≡ false
not_both true true v h = refl
not_both true false v h = absurd (true≢false (sym h))
not_both false l v h = refl

one_is : (b : Bool) (k : ℕ) → one_where b ≡ length (only b k)
unfolding one_where
one_is true k = refl
one_is false k = refl

-- the two ways to count
count_sum : (m : ℕ) (f : ℕ → Bool) (k : ℕ) → count_below m f ≡ sum (λ c. length (only (f c) k)) m
unfolding count_below sum
count_sum zero f k = sum_zero (λ c. one_where (f c))
count_sum (suc m) f k = omega (arith, sum_suc m (λ c. one_where (f c)), one_is (f m) k, count_sum m f k)

module _ {W : ℕ → List ℕ} {n : ℕ} {g : Grid} {t : Tables} (s : Stands W n g t) where
  -- a cell lists a line that is not global exactly where the line visits it
  pub listed_line : (k c : ℕ) → k < n → c < cells t → is_global W k ≡ false → elem k (list_of t c) ≡ visits W k c
  listed_line k c l m h = listed s c m k ∙ rw (lt-ltb k n l, h)

  -- the global list holds a line exactly where it is global
  pub global_line : (k : ℕ) → k < n → elem k (globals_of t) ≡ is_global W k
  global_line k l = global s k ∙ rw (lt-ltb k n l)

  -- A GLOBAL LINE STANDS IN NO CELL'S LIST
  pub apart : Apart t
  apart = record { apart = λ v e c l. listed s c l v ∙ not_both (ltb v n) (is_global W v) (visits W v c) (sym (global s v) ∙ e) }

  -- A LINE STANDS IN AT MOST 2,048 LISTS
  pub few_cells : (k : ℕ) → count_below (cells t) (λ c. elem k (list_of t c)) ≤ 2048
  few_cells k = omega (arith, few_lists s k, count_sum (cells t) (λ c. elem k (list_of t c)) k)

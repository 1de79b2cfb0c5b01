-- The number of tests of a full visit of standing tables: the sum of k (k - 1) / 2 over list lengths k, plus G (n - 1) - G (G - 1) / 2 for the
-- G globals among n lines. Assumes nothing.
use mathlib.Core.Path.{◌≡◌, sym, ap, ◌∙◌}
use mathlib.Core.List.{List}
use Prim.Native.Nat.{ℕ, ◌+◌, ◌-◌, ◌*◌}
use lib.ListN.{length}
use lib.Seq.{length-take-le}
use Rattle.grid.specs.declared.Grid.{Grid}
use Rattle.tables.specs.Tables.{Tables, cells, list_of, globals_of}
use Rattle.tables.specs.Stands.{Stands}
use Rattle.tables.proofs.Standing.{lines_are}
use Rattle.seek.specs.Tests.{tests_of}
use Rattle.visit.specs.Words.{half_down, sum_below}
use Rattle.visit.proofs.Number.{tests_number}

module _ {W : ℕ → List ℕ} {n : ℕ} {g : Grid} {t : Tables} (s : Stands W n g t) where
  -- G is the number of globals that is lent with the tables
  pub number_lent : length (tests_of t) ≡ sum_below (cells t) (λ c. half_down (length (list_of t c))) + (t.global_count * (n - 1) - half_down t.global_count)
  number_lent =
      tests_number t s.tables_fit_lem
      ∙ ap (λ (x : ℕ). sum_below (cells t) (λ c. half_down (length (list_of t c))) + (t.global_count * (x - 1) - half_down t.global_count)) (lines_are s)

  -- and that is the length of the global list
  pub number : length (tests_of t) ≡ sum_below (cells t) (λ c. half_down (length (list_of t c))) + (length (globals_of t) * (n - 1) - half_down (length (globals_of t)))
  number =
      number_lent
      ∙ ap (λ (G : ℕ). sum_below (cells t) (λ c. half_down (length (list_of t c))) + (G * (n - 1) - half_down G)) (sym (length-take-le t.global_count t.globals s.tables_fit_lem.counted))

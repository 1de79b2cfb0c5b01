-- Document 01: "Tables fit if the offsets slice has at least cells + 1 entries, the first offset is 0, offsets never fall over those entries,
-- the last is within items, each list and the globals strictly increase below the number of lines, and the global count is within its slice."
-- Said once as facts, `TablesFit`, and once as a test that computes, `tables_fit`. The laws `fit_facts` and `facts_fit` join the two.
-- Definitions only.
use Rattle.refusals.specs.Refusals.{Check}
use Rattle.std.specs.Prelude.{ℕ, zero, suc, ◌+◌, ◌≤◌, ◌<◌, ◌≡◌, Bool, true, ◌&&◌, List, [], ◌∷◌, length, get_or, leb, ltb, eqb}
use Rattle.refusals.specs.Refusals.{unless, and_then}
use Rattle.grid.specs.declared.Grid.{Grid}
use Rattle.grid.specs.Domain.{count_check, grid_check}
use Rattle.slices.specs.Lists.{Below, Rising}
use Rattle.tables.specs.Tables.{Tables, cells, list_in, globals_of}

-- ---- as facts

-- strictly increases below n
pub record Increasing (n : ℕ) (xs : List ℕ) : Type 0 where
  pub rises : Rising 0 xs
  pub below : Below n xs

-- the offsets of m cells, and the lists between them
pub record ListsFit (m n : ℕ) (offsets items : List ℕ) : Type 0 where
  pub first : get_or offsets 0 0 ≡ 0
  pub rises : (c : ℕ) → c < m → get_or offsets c 0 ≤ get_or offsets (suc c) 0
  pub within : get_or offsets m 0 ≤ length items
  pub lists : (c : ℕ) → c < m → Increasing n (list_in offsets items c)

pub record TablesFit (t : Tables) : Type 0 where
  pub long : cells t + 1 ≤ length t.offsets
  pub lists : ListsFit (cells t) t.lines t.offsets t.items
  pub globals : Increasing t.lines (globals_of t)
  pub counted : t.global_count ≤ length t.globals

-- ---- as a test

-- strictly increases below n, from `low` on
unfoldable pub increases : ℕ → ℕ → List ℕ → Bool
increases low n [] = true
increases low n (x ∷ xs) = leb low x && (ltb x n && increases (suc x) n xs)

-- a test passes at each number below m
unfoldable pub every : ℕ → (ℕ → Bool) → Bool
every zero f = true
every (suc m) f = every m f && f m

unfoldable pub lists_fit : ℕ → ℕ → List ℕ → List ℕ → Bool
lists_fit m n offsets items =
    eqb (get_or offsets 0 0) 0
    && (every m (λ c. leb (get_or offsets c 0) (get_or offsets (suc c) 0))
    && (leb (get_or offsets m 0) (length items) && every m (λ c. increases 0 n (list_in offsets items c))))

unfoldable pub tables_fit : Tables → Bool
tables_fit t =
    leb (cells t + 1) (length t.offsets)
    && (lists_fit (cells t) t.lines t.offsets t.items
    && (increases 0 t.lines (globals_of t) && leb t.global_count (length t.globals)))

-- 10: tables misfit
unfoldable pub tables_check : Tables → Check
tables_check t = unless (tables_fit t) 10 0

-- 2, 8, 10, in that order: what every call that is lent tables checks of them
unfoldable pub standing_check : Grid → Tables → Check
standing_check g t = and_then (count_check t.lines) (and_then (grid_check g) (tables_check t))

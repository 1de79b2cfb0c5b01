-- The turns of the loops of the check. Assumes nothing.
use mathlib.Core.Path.{◌≡◌, refl, sym}
use mathlib.Core.Bool.{Bool, true, false, ◌&&◌}
use mathlib.Core.List.{List}
use Prim.Native.Nat.{ℕ, ◌+◌, ◌≤◌, ◌<◌}
use native.Mathlib.Omega.{arith}
use lib.ListN.{length, get_or, take}
use lib.Dec.{leb}
use borrow.Author.Tests.{le-leb, lt-leb}
use Rattle.tables.specs.Tables.{Tables, cells, globals_of}
use Rattle.tables.specs.Fit.{increases, lists_fit, tables_fit}
use Rattle.tables.proofs.Facts.{not_true, lists_facts}

-- the first offset is not 0
pub first_bad : (m n : ℕ) (offsets items : List ℕ) → (get_or offsets 0 0 ≡ 0 → ⊥) → false ≡ lists_fit m n offsets items
first_bad m n offsets items h = sym (not_true (lists_fit m n offsets items) (λ e. h (lists_facts m n offsets items e).first))

-- ---- the globals: a count beyond the slice, and one within it

and_nothing : (p q : Bool) → q ≡ false → false ≡ (p && q)
and_nothing true q h = sym h
and_nothing false q h = refl

and_rest : (p q : Bool) → q ≡ true → p ≡ (p && q)
and_rest true q h = sym h
and_rest false q h = refl

module _ (n : ℕ) (gs : List ℕ) (count : ℕ) where
  pub globals_short : length gs < count → false ≡ (increases 0 n (take count gs) && leb count (length gs))
  globals_short l = and_nothing (increases 0 n (take count gs)) (leb count (length gs)) (lt-leb count (length gs) l)

  pub globals_in : count ≤ length gs → increases 0 n (take count gs) ≡ (increases 0 n (take count gs) && leb count (length gs))
  globals_in l = and_rest (increases 0 n (take count gs)) (leb count (length gs)) (le-leb count (length gs) l)

-- ---- the tables, of m cells

module _ (t : Tables) (m : ℕ) (e : m ≡ cells t) where
  pub tables_short : length t.offsets ≤ m → false ≡ tables_fit t
  unfolding tables_fit
  tables_short l = rw (lt-leb (cells t + 1) (length t.offsets) (omega arith))

  module _ (l : m < length t.offsets) where
    pub tables_lists : lists_fit m t.lines t.offsets t.items ≡ false → false ≡ tables_fit t
    unfolding tables_fit
    tables_lists h =
        let h₁ : lists_fit (cells t) t.lines t.offsets t.items ≡ false = rw e at h in
        rw (le-leb (cells t + 1) (length t.offsets) (omega arith), h₁)

    pub tables_rest : lists_fit m t.lines t.offsets t.items ≡ true
        → (increases 0 t.lines (globals_of t) && leb t.global_count (length t.globals)) ≡ tables_fit t
    unfolding tables_fit
    tables_rest h =
        let h₁ : lists_fit (cells t) t.lines t.offsets t.items ≡ true = rw e at h in
        rw (le-leb (cells t + 1) (length t.offsets) (omega arith), h₁)

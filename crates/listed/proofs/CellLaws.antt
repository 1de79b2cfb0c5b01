-- What is left of the cells from a place in them, and the turns of the loops that look for a test. Assumes nothing.
use mathlib.Core.Path.{◌≡◌, refl, sym, ap, ◌∙◌}
use mathlib.Core.List.{List, [], ◌++◌}
use Prim.Native.Nat.{ℕ, zero, suc, ◌+◌, ◌-◌, ◌≤◌, ◌<◌, min}
use native.Mathlib.Nat.{add-zero}
use native.Mathlib.Numerals.{add-one}
use native.Mathlib.Decide.{ℕ_discrete}
use native.Mathlib.Omega.{arith}
use lib.ListN.{length, get_or}
use Rattle.seek.specs.declared.Place.{Place}
use Rattle.seek.specs.Tests.{Pair, pairs, place_of}
use Rattle.seek.proofs.Clauses.{left_suc}
use Rattle.listed.specs.Lists.{list_by, list_from, tests_of_cells, cells_from}
use Rattle.listed.specs.Places.{NextCell, FirstAt}
use Rattle.listed.proofs.ListLaws.{RowIs, from_begin, short_none}
use Rattle.listed.proofs.AsIs.{list_short}

module _ (cols : ℕ) (L : ℕ → List ℕ) where
  pub of_zero : (c : ℕ) → tests_of_cells cols L 0 c ≡ []
  unfolding tests_of_cells
  of_zero c = refl

  pub of_suc : (left c : ℕ) → tests_of_cells cols L (suc left) c ≡ pairs (place_of cols c) (L c) ++ tests_of_cells cols L left (suc c)
  unfolding tests_of_cells
  of_suc left c = refl

  pub from_zero : (c i j : ℕ) → cells_from cols L 0 c i j ≡ []
  unfolding cells_from
  from_zero c i j = refl

  pub from_suc : (left c i j : ℕ) → cells_from cols L (suc left) c i j ≡ list_from (place_of cols c) (L c) i j ++ tests_of_cells cols L left (suc c)
  unfolding cells_from
  from_suc left c i j = refl

  pub of_begin : (left c : ℕ) → tests_of_cells cols L left c ≡ cells_from cols L left c 0 1
  of_begin zero c = of_zero c ∙ sym (from_zero c 0 1)
  of_begin (suc left) c = of_suc left c ∙ ap (λ (l : List Pair). l ++ tests_of_cells cols L left (suc c)) (from_begin (place_of cols c) (L c)) ∙ sym (from_suc left c 0 1)

  pub from_done : (m c i j : ℕ) → m ≤ c → cells_from cols L (m - c) c i j ≡ []
  from_done m c i j h = let z : m - c ≡ 0 = omega arith in rw z (from_zero c i j)

  module _ (m c : ℕ) (h : c < m) where
    pub from_at : (i j : ℕ) → cells_from cols L (m - c) c i j ≡ list_from (place_of cols c) (L c) i j ++ tests_of_cells cols L (m - suc c) (suc c)
    from_at i j = rw (left_suc m c h) (from_suc (m - suc c) c i j)

    -- the list is done
    pub from_next : (i j : ℕ) → list_from (place_of cols c) (L c) i j ≡ [] → cells_from cols L (m - c) c i j ≡ cells_from cols L (m - (c + 1)) (c + 1) 0 1
    from_next i j e = from_at i j ∙ rw (e, add-one) (of_begin (m - suc c) (suc c))

-- ---- cells that are passed over

pub record CellsPassed (m : ℕ) (offsets : List ℕ) (cell c : ℕ) : Type 0 where
  pub onward : cell ≤ c
  pub same : (cols n : ℕ) (items : List ℕ) → cells_from cols (list_by n offsets items) (m - cell) cell 0 1 ≡ cells_from cols (list_by n offsets items) (m - c) c 0 1

passed_none : (m : ℕ) (offsets : List ℕ) (cell : ℕ) → CellsPassed m offsets cell cell
passed_none m offsets cell = record { onward = omega arith; same = λ cols n items. refl }

passed_more : (m : ℕ) (offsets : List ℕ) (cell₀ cell from to : ℕ) → CellsPassed m offsets cell₀ cell → cell < m → from ≡ get_or offsets cell 0 → to ≡ get_or offsets (cell + 1) 0 → to < from + 2
    → CellsPassed m offsets cell₀ (cell + 1)
passed_more m offsets cell₀ cell from to p h ef et l =
    record {
      onward = omega (arith, p.onward);
      same = λ cols n items. p.same cols n items
          ∙ from_next cols (list_by n offsets items) m cell h 0 1 (short_none (place_of cols cell) (list_by n offsets items cell) (list_short n offsets items cell from to ef et l));
    }

-- of those before the next cell none has a test
module _ (m : ℕ) (offsets : List ℕ) (cell c : ℕ) (n : NextCell m offsets cell c) where
  passed_all : (k : ℕ) → cell + k ≤ c → CellsPassed m offsets cell (cell + k)
  passed_all zero h = rw add-zero (passed_none m offsets cell)
  passed_all (suc k) h =
      let e : cell + suc k ≡ cell + k + 1 = omega arith in
      let l : get_or offsets (cell + k + 1) 0 < get_or offsets (cell + k) 0 + 2 = rw add-one (n.passed (cell + k) (omega arith) (omega arith)) in
      rw e (passed_more m offsets cell (cell + k) _ _ (passed_all k (omega arith)) (omega (arith, n.ends (omega arith))) refl refl l)

  pub next_passed : CellsPassed m offsets cell c
  next_passed = let e : cell + (c - cell) ≡ c = omega (arith, n.onward) in rw e at (passed_all (c - cell) (omega (arith, n.onward)))

-- the cells before c were looked at
pub record Looking (m : ℕ) (offsets : List ℕ) (cell last c : ℕ) : Type 0 where
  pub most : last ≡ min m (length offsets - 1)
  pub onward : cell ≤ c
  pub passed : (b : ℕ) → cell ≤ b → b < c → get_or offsets (suc b) 0 < get_or offsets b 0 + 2
  pub ends : cell < c → c ≤ last

pub look_start : (m : ℕ) (offsets : List ℕ) (cell last : ℕ) → last ≡ min m (length offsets - 1) → Looking m offsets cell last cell
look_start m offsets cell last e =
    record { most = e; onward = omega arith; passed = λ b h k. absurd (omega arith); ends = λ h. absurd (omega arith) }

module _ (m : ℕ) (offsets : List ℕ) (cell last c : ℕ) (s : Looking m offsets cell last c) where
  pub look_end : last ≤ c → NextCell m offsets cell c
  look_end h =
      record { onward = s.onward; passed = s.passed; stops = λ k. absurd (omega (arith, s.most)); ends = λ k. omega (arith, s.most, s.ends k) }

  module _ (from to : ℕ) (ef : from ≡ get_or offsets c 0) (et : to ≡ get_or offsets (c + 1) 0) where
    to_is : get_or offsets (suc c) 0 ≡ to
    to_is = sym (et ∙ rw add-one)

    pub look_here : from + 2 ≤ to → NextCell m offsets cell c
    look_here h =
        record { onward = s.onward; passed = s.passed; stops = λ k. omega (arith, ef, to_is); ends = λ k. omega (arith, s.most, s.ends k) }

    pub look_more : c < last → to < from + 2 → Looking m offsets cell last (c + 1)
    look_more h l =
        record {
          most = s.most;
          onward = omega (arith, s.onward);
          passed = λ b k q. go b k q (ℕ_discrete b c);
          ends = λ k. omega arith;
        }
      where
        go : (b : ℕ) → cell ≤ b → b < c + 1 → Dec (b ≡ c) → get_or offsets (suc b) 0 < get_or offsets b 0 + 2
        go b k q (yes e) = rw e (omega (arith, ef, to_is))
        go b k q (no e) = s.passed b k (omega arith)

-- ---- the first test at or after a place in the cells

pub record Settling (n m : ℕ) (offsets items : List ℕ) (cell₀ i₀ j₀ cell i j : ℕ) : Type 0 where
  pub same : (cols : ℕ) → cells_from cols (list_by n offsets items) (m - cell₀) cell₀ i₀ j₀ ≡ cells_from cols (list_by n offsets items) (m - cell) cell i j

pub settling_none : (n m : ℕ) (offsets items : List ℕ) (cell i j : ℕ) → Settling n m offsets items cell i j cell i j
settling_none n m offsets items cell i j = record { same = λ cols. refl }

module _ (n m : ℕ) (offsets items : List ℕ) (cell₀ i₀ j₀ cell i j : ℕ) (s : Settling n m offsets items cell₀ i₀ j₀ cell i j) where
  pub settled_past : m ≤ cell → (cols : ℕ) → cells_from cols (list_by n offsets items) (m - cell₀) cell₀ i₀ j₀ ≡ []
  settled_past h cols = s.same cols ∙ from_done cols (list_by n offsets items) m cell i j h

  module _ (h : cell < m) (xs : List ℕ) (e : xs ≡ list_by n offsets items cell) where
    pub settled_here : (a b : ℕ) → RowIs (length xs) i j a b → (cols : ℕ) → FirstAt cols n m offsets items (cells_from cols (list_by n offsets items) (m - cell₀) cell₀ i₀ j₀) cell a b
    settled_here a b f cols =
        record {
          inside = h;
          later = f.later;
          among = rw (← e) f.inside;
          is = s.same cols ∙ from_at cols (list_by n offsets items) m cell h i j
              ∙ ap (λ (l : List Pair). l ++ tests_of_cells cols (list_by n offsets items) (m - suc cell) (suc cell)) (f.same (place_of cols cell) (list_by n offsets items cell) (ap length (sym e)))
              ∙ sym (from_at cols (list_by n offsets items) m cell h a b);
        }

    pub settling_more : ((pl : Place) (ys : List ℕ) → length ys ≡ length xs → list_from pl ys i j ≡ []) → Settling n m offsets items cell₀ i₀ j₀ (cell + 1) 0 1
    settling_more f =
        record { same = λ cols. s.same cols ∙ from_next cols (list_by n offsets items) m cell h i j (f (place_of cols cell) (list_by n offsets items cell) (ap length (sym e))) }

pub settling_passed : (n m : ℕ) (offsets items : List ℕ) (cell₀ i₀ j₀ cell c : ℕ) → Settling n m offsets items cell₀ i₀ j₀ cell 0 1 → CellsPassed m offsets cell c
    → Settling n m offsets items cell₀ i₀ j₀ c 0 1
settling_passed n m offsets items cell₀ i₀ j₀ cell c s p = record { same = λ cols. s.same cols ∙ p.same cols n items }

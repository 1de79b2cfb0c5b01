-- The loop that settles a place in the cells. Assumes nothing.
use mathlib.Core.Path.{◌≡◌, refl, sym, ◌∙◌}
use mathlib.Core.List.{List, []}
use Prim.Native.Nat.{ℕ, suc, ◌+◌, ◌-◌, ◌≤◌, ◌<◌}
use native.Mathlib.Numerals.{add-one}
use native.Mathlib.Omega.{arith}
use lib.ListN.{length, get_or}
use Rattle.tables.specs.Tables.{list_in}
use Rattle.seek.specs.Cursors.{cells_rest, PlaceFits}
use Rattle.tables.specs.InsideFit.{CellsFit}
use Rattle.seek.proofs.CellRests.{length_list, cells_done, next_row, next_cell}
use Rattle.visit.specs.Inside.{CellAsks, CellIs}

pub record Settling (m : ℕ) (offsets items : List ℕ) (cell₀ i₀ j₀ cell i j : ℕ) : Type 0 where
  pub table : CellsFit m offsets items
  pub fits : PlaceFits m items cell i j
  pub same : (cols : ℕ) → cells_rest cols offsets items (m - cell₀) cell₀ i₀ j₀ ≡ cells_rest cols offsets items (m - cell) cell i j

pub settling_none : (m : ℕ) (offsets items : List ℕ) (cell i j : ℕ) → CellAsks m offsets items cell i j → Settling m offsets items cell i j cell i j
settling_none m offsets items cell i j a = record { table = a.table; fits = a.place; same = λ cols. refl }

module _ (m : ℕ) (offsets items : List ℕ) (cell₀ i₀ j₀ cell i j : ℕ) (s : Settling m offsets items cell₀ i₀ j₀ cell i j) where
  pub settled_past : m ≤ cell → (cols : ℕ) → cells_rest cols offsets items (m - cell₀) cell₀ i₀ j₀ ≡ []
  settled_past h cols = s.same cols ∙ cells_done cols offsets items m cell i j h

  module _ (h : cell < m) (from to : ℕ) (f : from ≡ get_or offsets cell 0) (t : to ≡ get_or offsets (cell + 1) 0) where
    to_is : get_or offsets (suc cell) 0 ≡ to
    to_is = sym (t ∙ rw add-one)

    pub from_to : from ≤ to
    from_to = omega (arith, to_is, s.table.rises cell h)

    pub to_in : to ≤ length items
    to_in = omega (arith, to_is, s.table.within (suc cell) h)

    long : length (list_in offsets items cell) ≡ to - from
    long = length_list m offsets items s.table cell h ∙ rw (to_is, ← f)

    pub settled_here : j < to - from → CellIs m offsets items cell₀ i₀ j₀ cell i j from to
    settled_here k = record { same = s.same; fits = s.fits; inside = h; begins = f; ends = sym to_is; one = k }

    pub settled_row : to - from ≤ j → i + 2 < to - from → CellIs m offsets items cell₀ i₀ j₀ cell (i + 1) (i + 2) from to
    settled_row k l =
        let e : i + 1 ≡ suc i = omega arith in
        let e₂ : i + 2 ≡ suc (suc i) = omega arith in
        record {
          same = λ cols. s.same cols ∙ rw (e, e₂) (next_row cols offsets items m cell h i j (omega (arith, long)) (omega (arith, long)));
          fits = record { at_most = s.fits.at_most; later = omega arith; small = omega (arith, to_in) };
          inside = h;
          begins = f;
          ends = sym to_is;
          one = l;
        }

    pub settling_more : to - from ≤ j → to - from ≤ i + 2 → Settling m offsets items cell₀ i₀ j₀ (cell + 1) 0 1
    settling_more k l =
        record {
          table = s.table;
          fits = record { at_most = omega arith; later = omega arith; small = omega arith };
          same = λ cols. s.same cols ∙ rw add-one (next_cell cols offsets items m cell h i j (omega (arith, long)) (omega (arith, long)));
        }

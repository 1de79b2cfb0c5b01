-- Tables that fit, as private functions ask for them.
--     fit-cells, fit-globals    what `TablesFit` says of the lists of the cells and of the globals
--     part-..                   the list of a cell, as a part of the items
-- Assumes nothing.
use mathlib.Core.Path.{◌≡◌, refl, sym, ◌∙◌}
use mathlib.Core.Bool.{Bool, true, false, cond, ◌&&◌}
use mathlib.Core.List.{List, []}
use Prim.Native.Nat.{ℕ, suc, ◌+◌, ◌-◌, ◌≤◌, ◌<◌}
use native.Mathlib.Nat.{zero-sub}
use native.Mathlib.Numerals.{add-one}
use native.Mathlib.Omega.{arith}
use lib.ListN.{length, get_or, take, drop, get_or-eq_default}
use lib.Seq.{get_or-take, length-take-le}
use lib.Dec.{leb}
use borrow.Author.Tests.{le-leb, lt-leb}
use Rattle.slices.proofs.Distinct.{rising_at}
use Rattle.slices.proofs.Members.{below_at}
use Rattle.tables.specs.Tables.{Tables, cells, list_in, part_in, globals_of}
use Rattle.tables.specs.Fit.{TablesFit}
use Rattle.tables.specs.InsideFit.{CellsFit, CellIn, GlobalsFit}
use Rattle.tables.proofs.Facts.{part_slice, all_within}

module _ (t : Tables) (f : TablesFit t) where
  pub fit_cells : CellsFit (cells t) t.offsets t.items
  fit_cells =
      record {
        long = omega (arith, f.long);
        rises = f.lists.rises;
        within = all_within (cells t) t.lines t.offsets t.items f.lists;
      }

  in_globals : (a : ℕ) → a < t.global_count → a < length (globals_of t)
  in_globals a h = rw (length-take-le t.global_count t.globals f.counted) h

  at_global : (a : ℕ) → a < t.global_count → get_or (globals_of t) a 0 ≡ get_or t.globals a 0
  at_global a h = get_or-take t.global_count t.globals a 0 h

  pub fit_globals : GlobalsFit t.lines t.global_count t.globals
  fit_globals =
      record {
        long = f.counted;
        rises = λ a b h k. omega (arith, at_global a (omega arith), at_global b k, rising_at 0 (globals_of t) a b f.globals.rises h (in_globals b k));
        below = λ a h. omega (arith, at_global a h, below_at t.lines (globals_of t) a f.globals.below (in_globals a h));
      }

-- ---- the list of a cell, as the code finds it

-- between two offsets
pub part_is : (offsets items : List ℕ) (c from to : ℕ) → from ≡ get_or offsets c 0 → to ≡ get_or offsets (c + 1) 0
    → take (to - from) (drop from items) ≡ list_in offsets items c
part_is offsets items c from to ef et = part_slice from to items ∙ rw (ef, et, add-one)

-- where it begins and ends
module _ {offsets items : List ℕ} {c : ℕ} (a : CellIn offsets items c) where
  pub part_rises : get_or offsets c 0 ≤ get_or offsets (c + 1) 0
  part_rises = rw add-one (a.fits.rises c a.inside)

  pub part_within : get_or offsets (c + 1) 0 ≤ length items
  part_within = rw add-one (a.fits.within (suc c) a.inside)

-- ---- where nobody has checked the tables

either : (b : Bool) (xs : List ℕ) → xs ≡ [] → [] ≡ cond b xs []
either true xs e = sym e
either false xs e = refl

module _ (offsets items : List ℕ) (c : ℕ) where
  pub part_untold : length offsets ≤ c + 1 → [] ≡ part_in offsets items c
  unfolding part_in
  part_untold h =
      let z : get_or offsets (suc c) 0 ≡ 0 = get_or-eq_default offsets 0 {n = suc c} (omega arith) in
      either (leb (get_or offsets c 0) (get_or offsets (suc c) 0) && leb (get_or offsets (suc c) 0) (length items)) (list_in offsets items c)
      (sym (part_slice (get_or offsets c 0) (get_or offsets (suc c) 0) items) ∙ rw (z, zero-sub))

  module _ (from to : ℕ) (ef : from ≡ get_or offsets c 0) (et : to ≡ get_or offsets (c + 1) 0) where
    to_is : get_or offsets (suc c) 0 ≡ to
    to_is = sym (et ∙ rw add-one)

    pub part_falls : to < from → [] ≡ part_in offsets items c
    unfolding part_in
    part_falls h = rw (← ef, to_is, lt-leb from to h)

    pub part_beyond : from ≤ to → length items < to → [] ≡ part_in offsets items c
    unfolding part_in
    part_beyond r h = rw (← ef, to_is, le-leb from to r, lt-leb to (length items) h)

    pub part_there : from ≤ to → to ≤ length items → take (to - from) (drop from items) ≡ part_in offsets items c
    unfolding part_in
    part_there r h = part_slice from to items ∙ rw (← ef, to_is, le-leb from to r, le-leb to (length items) h)

-- ON TABLES THAT FIT it is the cell's list
pub part_fits : {m : ℕ} {offsets items : List ℕ} → CellsFit m offsets items → (c : ℕ) → c < m → part_in offsets items c ≡ list_in offsets items c
unfolding part_in
part_fits {m} {offsets} {items} f c h =
    rw (le-leb (get_or offsets c 0) (get_or offsets (suc c) 0) (f.rises c h), le-leb (get_or offsets (suc c) 0) (length items) (f.within (suc c) h))

-- What lent lines say that pass the checks 3, 2 and 1, and the steps of the search for the first bad line. Assumes nothing.
use Rattle.std.specs.Prelude.{Ok, Err}
use mathlib.Core.Path.{◌≡◌, refl, sym, ◌∙◌}
use mathlib.Core.Bool.{Bool, true, false, ◌&&◌}
use Prim.Native.Nat.{ℕ, ◌+◌, ◌-◌, ◌≤◌, ◌<◌}
use native.Mathlib.Omega.{arith}
use borrow.Author.Tests.{eqb-true, leb-true}
use lib.Dec.{eqb}
use lib.ListN.{length, get_or}
use lib.Ieee.{nan}
use Rattle.refusals.specs.Refusals.{refusal, each_from, clears}
use Rattle.refusals.proofs.Checks.{unless_fine, and_then_left, and_then_right, each_good, each_bad, each_over, each_says}
use Rattle.refusals.proofs.Leaving.{Clearing, clearing_unless, clearing_then, clearing_each}
use Rattle.grid.specs.declared.Grid.{Grid}
use Rattle.grid.specs.Domain.{Lines, count, Alike, coordinate, point, segment, line_fits, lengths_check, scratch_check, count_check, coordinates_check, grid_check, lines_check}
use Rattle.grid.proofs.Bools.{and_left, and_right}

-- ---- the slices have one length

abbrev pub alike : Lines → Bool
alike ls = eqb (length ls.start_y) (count ls) && (eqb (length ls.end_x) (count ls) && eqb (length ls.end_y) (count ls))

pub alike_says : (ls : Lines) → alike ls ≡ true → Alike ls
alike_says ls h =
    record {
      «start_y» = eqb-true _ _ (and_left sy (ex && ey) h);
      «end_x» = eqb-true _ _ (and_left ex ey (and_right sy (ex && ey) h));
      «end_y» = eqb-true _ _ (and_right ex ey (and_right sy (ex && ey) h));
    }
  where
    sy : Bool
    sy = eqb (length ls.start_y) (count ls)

    ex : Bool
    ex = eqb (length ls.end_x) (count ls)

    ey : Bool
    ey = eqb (length ls.end_y) (count ls)

-- ---- the search for the first bad line

-- the search stands at line i: no line before it was bad
pub record Searched (ls : Lines) (i : ℕ) : Type 0 where
  pub same : Alike ls
  pub at : i ≤ count ls
  pub rest : coordinates_check ls ≡ each_from (line_fits ls) 1 (count ls - i) i

pub searched_none : (ls : Lines) → Alike ls → Searched ls 0
unfolding coordinates_check
searched_none ls h = let e : count ls - 0 ≡ count ls = omega arith in record { same = h; at = omega arith; rest = rw e }

module _ {ls : Lines} {i : ℕ} (h : Searched ls i) where
  pub searched_more : i < count ls → line_fits ls i ≡ true → Searched ls (i + 1)
  searched_more l e = record { same = h.same; at = omega arith; rest = h.rest ∙ each_good (line_fits ls) 1 (count ls) i l e }

  pub searched_bad : i < count ls → line_fits ls i ≡ false → Err (refusal 1 i) ≡ coordinates_check ls
  searched_bad l e = sym (h.rest ∙ each_bad (line_fits ls) 1 (count ls) i l e)

  pub searched_over : count ls ≤ i → (Ok tt) ≡ coordinates_check ls
  searched_over l = sym (h.rest ∙ each_over (line_fits ls) 1 (count ls) i l)

-- all lines were looked at before line i, and where `all` is true none of them was bad
pub record Looked (ls : Lines) (all : Bool) (i : ℕ) : Type 0 where
  pub same : Alike ls
  pub at : i ≤ count ls
  pub good : all ≡ true → Searched ls i

pub looked_none : (ls : Lines) → Alike ls → Looked ls true 0
looked_none ls h = record { same = h; at = omega arith; good = λ e. searched_none ls h }

module _ {ls : Lines} {all : Bool} {i : ℕ} (h : Looked ls all i) where
  pub looked_more : i < count ls → (a b d e : Bool)
      → a ≡ coordinate (get_or ls.start_x i nan)
      → b ≡ coordinate (get_or ls.start_y i nan)
      → d ≡ coordinate (get_or ls.end_x i nan)
      → e ≡ coordinate (get_or ls.end_y i nan)
      → Looked ls (all && ((a && b) && (d && e))) (i + 1)
  unfolding line_fits segment point
  looked_more l a b d e p q s t =
      record {
        same = h.same;
        at = omega arith;
        good = λ k. searched_more (h.good (and_left all ((a && b) && (d && e)) k)) l (sym (rw (p, q, s, t)) ∙ and_right all ((a && b) && (d && e)) k);
      }

  pub looked_over : count ls ≤ i → all ≡ true → (Ok tt) ≡ coordinates_check ls
  looked_over l e = searched_over (h.good e) l

-- ---- the checks 3, 2, 1 of lent lines

pub lengths_fine : (ls : Lines) → lengths_check ls ≡ (Ok tt) → Alike ls
unfolding lengths_check
lengths_fine ls h = alike_says ls (unless_fine _ _ _ h)

-- what lines say that pass them
pub record LinesFit (ls : Lines) : Type 0 where
  pub same : Alike ls
  pub few : count ls ≤ 65536
  pub each : (i : ℕ) → i < count ls → line_fits ls i ≡ true

pub lines_fine : (ls : Lines) → lines_check ls ≡ (Ok tt) → LinesFit ls
unfolding lines_check count_check coordinates_check
lines_fine ls h =
    record {
      same = lengths_fine ls (and_then_left _ _ h);
      few = leb-true _ _ (unless_fine _ _ _ (and_then_left _ _ (and_then_right _ _ h)));
      each = λ i l. each_says (line_fits ls) 1 (count ls) 0 i (and_then_right _ _ (and_then_right _ _ h)) (omega arith) (omega arith);
    }

-- the number of lines that passed them passes 2 again
pub lines_counted : (ls : Lines) → lines_check ls ≡ (Ok tt) → count_check (count ls) ≡ Ok tt
unfolding lines_check
lines_counted ls h = and_then_left _ _ (and_then_right _ _ h)

-- ---- none of these refuses by 4 to 7

pub scratch_spares : (n : ℕ) → Clearing false (scratch_check n)
unfolding scratch_check clears
scratch_spares n = clearing_unless _ 3 0 refl

pub lines_spare : (ls : Lines) → Clearing false (lines_check ls)
unfolding lines_check lengths_check count_check coordinates_check clears
lines_spare ls = clearing_then (clearing_unless _ 3 0 refl) (clearing_then (clearing_unless _ 2 (count ls) refl) (clearing_each (line_fits ls) 1 (count ls) 0 refl))

pub grid_spares : (g : Grid) → Clearing false (grid_check g)
unfolding grid_check clears
grid_spares g = clearing_unless _ 8 0 refl

-- Laws of a bookmark: the checks, where it is sought, and what is found. Assumes nothing.
use Rattle.std.specs.Prelude.{Ok, Err, Some, None, Result, Option}
use mathlib.Core.Path.{◌≡◌, refl, sym, subst, ◌∙◌}
use mathlib.Core.Bool.{false}
use Prim.Native.Nat.{ℕ, ◌≤◌, ◌<◌}
use lib.ListN.{length, drop}
use borrow.Author.Tests.{le-leb, lt-leb}
use Rattle.refusals.specs.declared.Refusal.{Refusal}
use Rattle.refusals.specs.Refusals.{refusal, unless, and_then, refused, gives, answer_by, clears}
use Rattle.refusals.proofs.Checks.{and_then_refused, and_then_fine}
use Rattle.refusals.proofs.Answers.{then_refused, then_fine, then_and_then}
use Rattle.refusals.proofs.Leaving.{Clearing, clearing_unless, clearing_then}
use Rattle.grid.specs.declared.Grid.{Grid}
use Rattle.grid.specs.Domain.{Lines, count, lines_check, grid_check}
use Rattle.grid.proofs.Fine.{lines_counted, lines_spare, grid_spares}
use Rattle.tables.specs.Tables.{Tables, cells}
use Rattle.tables.specs.Fit.{tables_check, standing_check}
use Rattle.seek.specs.declared.Cursor.{Cursor}
use Rattle.seek.specs.declared.PairAt.{PairAt}
use Rattle.seek.specs.Tests.{tests_of}
use Rattle.seek.specs.Bookmarks.{visit_check, bookmark_check, from_check, tests_from, pair_at}
use Rattle.seek.specs.Cursors.{CursorIs, FindIs}
use Rattle.seek.specs.Inside.{pair_of, SoughtAt, SeekIs}

-- ---- the checks of a visit

module _ (ls : Lines) (g : Grid) (t : Tables) where
  pub visit_lines : (r : Refusal) → lines_check ls ≡ Err r → Err r ≡ visit_check ls g t
  unfolding visit_check
  visit_lines r e = sym (and_then_refused (lines_check ls) (and_then (grid_check g) (tables_check t)) r e)

  -- the lines have passed, 2 with them: what is left of the tables' check is 8 and 10
  pub visit_tables : lines_check ls ≡ (Ok tt) → t.lines ≡ count ls → standing_check g t ≡ visit_check ls g t
  unfolding visit_check standing_check
  visit_tables f e = and_then_fine _ _ (rw e (lines_counted ls f)) ∙ sym (and_then_fine _ _ f)

-- ---- a seek, taken apart by what it is

module _ (ls : Lines) (g : Grid) (t : Tables) (b : ℕ) (s : (Option Cursor)) (f : SeekIs ls g t b s) where
  pub seek_at : (c : Cursor) → s ≡ Some c → SoughtAt ls g t b c
  seek_at c e = subst (SeekIs ls g t b) e f

  pub seek_beyond : s ≡ None → length (tests_of t) < b
  seek_beyond e = subst (SeekIs ls g t b) e f

-- ---- a bookmark within its end, and beyond

pub book_in : (t : Tables) (b : ℕ) → b ≤ length (tests_of t) → bookmark_check t b ≡ Ok tt
unfolding bookmark_check unless
book_in t b h = rw (le-leb b (length (tests_of t)) h)

pub book_out : (t : Tables) (b : ℕ) → length (tests_of t) < b → bookmark_check t b ≡ Err (refusal 9 b)
unfolding bookmark_check unless
book_out t b h = rw (lt-leb b (length (tests_of t)) h)

-- ---- what is found, and what it is taken apart by

module _ (ls : Lines) (g : Grid) (t : Tables) (b : ℕ) where
  pub find_refused : (r : Refusal) → visit_check ls g t ≡ Err r → from_check ls g t b ≡ Err r
  unfolding from_check
  find_refused r e = and_then_refused (visit_check ls g t) (bookmark_check t b) r e

  pub find_beyond : visit_check ls g t ≡ (Ok tt) → length (tests_of t) < b → from_check ls g t b ≡ Err (refusal 9 b)
  unfolding from_check
  find_beyond f h = and_then_fine _ _ f ∙ book_out t b h

  -- the tests that are left, by the check and by the cursor
  pub from_none : (r : Refusal) → from_check ls g t b ≡ Err r → tests_from ls g t b ≡ refused r
  unfolding from_check tests_from
  from_none r e = sym (then_and_then (visit_check ls g t) (bookmark_check t b) (gives (drop b (tests_of t)))) ∙ then_refused _ _ r e

  pub from_fine : (c : Cursor) → CursorIs ls g t b c → from_check ls g t b ≡ Ok tt
  unfolding from_check
  from_fine c k = and_then_fine _ _ k.ready.fine ∙ book_in t b k.at_most

  pub from_cursor : (c : Cursor) → CursorIs ls g t b c → tests_from ls g t b ≡ gives (drop b (tests_of t))
  unfolding tests_from
  from_cursor c k = then_fine _ _ k.ready.fine ∙ then_fine _ _ (book_in t b k.at_most)

  -- the test at a bookmark, by the check and by the cursor
  pub pair_none : (r : Refusal) → from_check ls g t b ≡ Err r → Err r ≡ pair_at ls g t b
  unfolding pair_at answer_by
  pair_none r e = rw (from_none r e)

  pub pair_read : (c : Cursor) → SoughtAt ls g t b c → (r : (Result (Option PairAt) Refusal))
      → r ≡ pair_of (cells t) t.cols t.offsets t.items t.globals t.global_count c → r ≡ pair_at ls g t b
  unfolding pair_at answer_by
  pair_read c k r e = e ∙ k.reads ∙ rw (from_cursor c k.is)

  -- no check of a visit refuses by 4 to 7
  pub from_spares : Clearing false (from_check ls g t b)
  unfolding from_check visit_check tables_check bookmark_check clears
  from_spares = clearing_then (clearing_then (lines_spare ls) (clearing_then (grid_spares g) (clearing_unless _ 10 0 refl))) (clearing_unless _ 9 b refl)

  module _ (s : (Result Cursor Refusal)) (f : FindIs ls g t b s) where
    pub found_at : (c : Cursor) → s ≡ Ok c → CursorIs ls g t b c
    found_at c e = subst (FindIs ls g t b) e f

    pub found_none : (r : Refusal) → s ≡ Err r → from_check ls g t b ≡ Err r
    found_none r e = subst (FindIs ls g t b) e f

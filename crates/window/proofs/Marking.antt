-- Marks entry by entry: a line is marked if it was, or if it is in a list that was marked. Assumes nothing.
use mathlib.Core.Path.{◌≡◌, refl, sym, ap, ◌∙◌}
use mathlib.Core.Bool.{Bool, true, false, cond, ◌||◌}
use mathlib.Core.List.{List, [], ◌∷◌}
use Prim.Native.Nat.{ℕ, zero, suc, ◌+◌, ◌-◌, ◌≤◌, ◌<◌}
use native.Mathlib.Omega.{arith}
use borrow.Author.Tests.{eqb-true, eqb-false}
use lib.Dec.{eqb}
use lib.ListN.{length, get_or, set, drop, length-set, drop_of_length-le}
use lib.Seq.{drop-cons, get_or-set_same, get_or-set_other}
use Rattle.slices.specs.Lists.{elem}
use Rattle.window.specs.Inside.{marked_with, row_part, marked_rows}

-- ---- a list

pub marked_length : (xs marks : List ℕ) → length (marked_with xs marks) ≡ length marks
unfolding marked_with
marked_length [] marks = refl
marked_length (x ∷ xs) marks = marked_length xs (set marks x 1) ∙ length-set marks x 1

set_at : (marks : List ℕ) (x i : ℕ) → i < length marks → get_or (set marks x 1) i 0 ≡ cond (eqb i x) 1 (get_or marks i 0)
set_at marks x i l = go (eqb i x) refl
  where
    go : (b : Bool) → eqb i x ≡ b → get_or (set marks x 1) i 0 ≡ cond b 1 (get_or marks i 0)
    go true e = rw (← eqb-true i x e) (get_or-set_same marks i 1 0 l)
    go false e = get_or-set_other marks x i 1 0 (eqb-false i x e)

cond_or : (a b : Bool) (m : ℕ) → cond b 1 (cond a 1 m) ≡ cond (a || b) 1 m
cond_or true true m = refl
cond_or true false m = refl
cond_or false b m = refl

pub marked_at : (xs marks : List ℕ) (i : ℕ) → i < length marks → get_or (marked_with xs marks) i 0 ≡ cond (elem i xs) 1 (get_or marks i 0)
unfolding marked_with
marked_at [] marks i l = refl
marked_at (x ∷ xs) marks i l =
    marked_at xs (set marks x 1) i (rw (length-set marks x 1) l)
    ∙ ap (cond (elem i xs) 1) (set_at marks x i l)
    ∙ cond_or (eqb i x) (elem i xs) (get_or marks i 0)

-- the loop over a list: what is left of it is still to be marked
pub mark_one : (xs marks : List ℕ) (k : ℕ) → k < length xs → marked_with (drop k xs) marks ≡ marked_with (drop (k + 1) xs) (set marks (get_or xs k 0) 1)
unfolding marked_with
mark_one xs marks k l = let e : k + 1 ≡ suc k = omega arith in rw (drop-cons xs k 0 l, e)

pub mark_none : (xs marks : List ℕ) (k : ℕ) → length xs ≤ k → marked_with (drop k xs) marks ≡ marks
unfolding marked_with
mark_none xs marks k l = rw (drop_of_length-le xs l)

pub record MarkingList (list was marks : List ℕ) (k : ℕ) : Type 0 where
  pub rest : marked_with (drop k list) marks ≡ marked_with list was
  pub long : length marks ≡ length was

pub marking_none : (list was : List ℕ) → MarkingList list was was 0
marking_none list was = record { rest = refl; long = refl }

pub marking_more : (list was marks : List ℕ) (k v : ℕ) → MarkingList list was marks k → k < length list → v ≡ get_or list k 0 → MarkingList list was (set marks v 1) (k + 1)
marking_more list was marks k v h l e =
    rw e (record { rest = sym (mark_one list marks k l) ∙ h.rest; long = length-set marks (get_or list k 0) 1 ∙ h.long })

pub marking_over : (list was marks : List ℕ) (k : ℕ) → MarkingList list was marks k → length list ≤ k → marks ≡ marked_with list was
marking_over list was marks k h l = sym (mark_none list marks k l) ∙ h.rest

-- ---- rows

-- some of the `left` numbers from k on passes a test
unfoldable pub any_from : (ℕ → Bool) → ℕ → ℕ → Bool
any_from test zero k = false
any_from test (suc left) k = test k || any_from test left (suc k)

module _ (cols : ℕ) (offsets items : List ℕ) (first last : ℕ) where
  abbrev rows : ℕ → ℕ → List ℕ → List ℕ
  rows = marked_rows cols offsets items first last

  abbrev part : ℕ → List ℕ
  part = row_part cols offsets items first last

  pub rows_length : (left row : ℕ) (marks : List ℕ) → length (rows left row marks) ≡ length marks
  unfolding marked_rows
  rows_length zero row marks = refl
  rows_length (suc left) row marks = rows_length left (suc row) (marked_with (part row) marks) ∙ marked_length (part row) marks

  pub rows_at : (left row : ℕ) (marks : List ℕ) (i : ℕ) → i < length marks
      → get_or (rows left row marks) i 0 ≡ cond (any_from (λ r. elem i (part r)) left row) 1 (get_or marks i 0)
  unfolding marked_rows any_from
  rows_at zero row marks i l = refl
  rows_at (suc left) row marks i l =
      rows_at left (suc row) (marked_with (part row) marks) i (rw (marked_length (part row) marks) l)
      ∙ ap (cond (any_from (λ r. elem i (part r)) left (suc row)) 1) (marked_at (part row) marks i l)
      ∙ cond_or (elem i (part row)) (any_from (λ r. elem i (part r)) left (suc row)) (get_or marks i 0)

  -- the loop over the rows below a number
  pub row_one : (below row : ℕ) (marks : List ℕ) → row < below → rows (below - row) row marks ≡ rows (below - (row + 1)) (row + 1) (marked_with (part row) marks)
  unfolding marked_rows
  row_one below row marks l = rw (left_is, one) refl
    where
      left_is : below - row ≡ suc (below - (row + 1))
      left_is = omega arith

      one : row + 1 ≡ suc row
      one = omega arith

  pub row_none : (below row : ℕ) (marks : List ℕ) → below ≤ row → rows (below - row) row marks ≡ marks
  unfolding marked_rows
  row_none below row marks l = rw none
    where
      none : below - row ≡ 0
      none = omega arith

  pub record MarkingRows (below from : ℕ) (was marks : List ℕ) (row : ℕ) : Type 0 where
    pub rest : rows (below - row) row marks ≡ rows (below - from) from was
    pub long : length marks ≡ length was

  pub rows_none : (below from : ℕ) (was : List ℕ) → MarkingRows below from was was from
  rows_none below from was = record { rest = refl; long = refl }

  pub rows_more : (below from : ℕ) (was marks now : List ℕ) (row : ℕ) → MarkingRows below from was marks row → row < below → now ≡ marked_with (part row) marks
      → MarkingRows below from was now (row + 1)
  rows_more below from was marks now row h l e =
      record {
        rest = ap (rows (below - (row + 1)) (row + 1)) e ∙ sym (row_one below row marks l) ∙ h.rest;
        long = ap (λ (xs : List ℕ). length xs) e ∙ marked_length (part row) marks ∙ h.long;
      }

  pub rows_over : (below from : ℕ) (was marks : List ℕ) (row : ℕ) → MarkingRows below from was marks row → below ≤ row → marks ≡ rows (below - from) from was
  rows_over below from was marks row h l = sym (row_none below row marks l) ∙ h.rest

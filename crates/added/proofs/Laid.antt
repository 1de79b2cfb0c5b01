-- What the two loops leave is the layout of the lists, each with n at its end if its cell is visited.
--     weave             the items, from any cell on
--     lift              the offsets, from any cell on
--     ends              the total
--     items-laid, offsets-laid    with zeros beyond
-- Assumes nothing.
use mathlib.Core.Path.{◌≡◌, refl, sym, ap, ◌∙◌}
use mathlib.Core.Bool.{false}
use mathlib.Core.List.{List, [], ◌∷◌, ◌++◌, append_assoc, append-nil}
use Prim.Native.Nat.{ℕ, suc, ◌+◌, ◌-◌, ◌≤◌, ◌<◌}
use native.Mathlib.Nat.{zero-add}
use native.Mathlib.Decide.{le_ind}
use native.Mathlib.Numerals.{add-one}
use native.Mathlib.Omega.{arith}
use borrow.Author.Tests.{ne_eqb}
use lib.Dec.{eqb}
use lib.ListN.{length, get_or, take, drop, length-append}
use lib.Seq.{slice, slice_empty, length-slice, take_at}
use Rattle.slices.specs.Slices.{cleared_from}
use Rattle.slices.specs.Lists.{elem, Below, Rising}
use Rattle.slices.proofs.Distinct.{not_elem}
use Rattle.slices.proofs.Members.{elem_head}
use Rattle.tables.specs.Tables.{list_in}
use Rattle.tables.specs.Lists.{only, sum, concat, tabulate, start, items_of, offsets_of}
use Rattle.tables.specs.Fit.{ListsFit}
use Rattle.tables.proofs.Facts.{all_within}
use Rattle.tables.proofs.Laws.{length_tabulate, length_concat}
use Rattle.added.specs.Inside.{end_in, behind, spread_of, Spreadable, more, next_in, moved_above, lifted_of, RaisableAll, Insertable, with_in, Inserted}
use Rattle.added.proofs.Parts.{slice_join, slice_last, more_append, more_none}
use Rattle.added.proofs.Spreads.{never_fall}

-- ---- visited cells

beyond_first : (c d : ℕ) (cs : List ℕ) → c < d → elem d (c ∷ cs) ≡ elem d cs
beyond_first c d cs l = let n : eqb d c ≡ false = ne_eqb d c (λ e. omega arith) in rw n

module _ (cells lines n : ℕ) (o xs : List ℕ) (fits : ListsFit cells lines o xs) (F : ℕ → List ℕ) where
  -- the lists from a on, up to b, have n at their end if they are visited
  abbrev With : List ℕ → ℕ → Type 0
  With cs a = (c : ℕ) → a ≤ c → c < cells → F c ≡ list_in o xs c ++ only (elem c cs) n

  within : (c : ℕ) → c ≤ cells → get_or o c 0 ≤ length xs
  within c l = all_within cells lines o xs fits c l

  rises : (a b : ℕ) → a ≤ b → b ≤ cells → get_or o a 0 ≤ get_or o b 0
  rises = never_fall o cells fits.rises

  -- a list that is not visited stays
  kept : (cs : List ℕ) (a c : ℕ) → With cs a → a ≤ c → c < cells → elem c cs ≡ false → F c ≡ list_in o xs c
  kept cs a c w l m e = w c l m ∙ rw (e, append-nil)

  -- lists that stay stand side by side in the items
  stretch : (a b : ℕ) → a ≤ b → b ≤ cells → ((c : ℕ) → a ≤ c → c < b → F c ≡ list_in o xs c) → concat F b ≡ concat F a ++ slice (get_or o a 0) (get_or o b 0) xs
  unfolding concat
  stretch a b l =
      le_ind (λ m. m ≤ cells → ((c : ℕ) → a ≤ c → c < m → F c ≡ list_in o xs c) → concat F m ≡ concat F a ++ slice (get_or o a 0) (get_or o m 0) xs)
      (λ _ _. rw (slice_empty (get_or o a 0) xs, append-nil))
      (λ m (k : a ≤ m) ih q h.
      let j = slice_join (get_or o a 0) (get_or o m 0) (get_or o (suc m) 0) xs (rises a m k (omega arith)) (fits.rises m (omega arith)) (within (suc m) q) in
      rw (ih (omega arith) (λ c u v. h c u (omega arith)), h m k (omega arith), append_assoc) (ap (λ (z : List ℕ). concat F a ++ z) j))
      b l

  -- THE ITEMS, from the cell a on
  weave : (rest : List ℕ) (total : ℕ) → total ≡ get_or o cells 0 → (cs : List ℕ) (a : ℕ) → a ≤ cells → Rising a cs → Below cells cs → With cs a
      → concat F cells ++ rest ≡ concat F a ++ (slice (get_or o a 0) (end_in o total cs) xs ++ behind n o total xs rest cs)
  unfolding concat behind
  weave rest total e [] a l r b w =
      rw (e, stretch a cells l (omega arith) (λ c u v. kept [] a c w u v refl), append_assoc)
  weave rest total e (c ∷ cs) a l r b w =
      let m : c < cells = b.0 in
      let s = stretch a c r.0 (omega arith) (λ d u v. kept (c ∷ cs) a d w u (omega arith) (not_elem d c (c ∷ cs) v (omega arith, r.1))) in
      let v : F c ≡ list_in o xs c ++ (n ∷ []) = w c r.0 m ∙ rw (elem_head c cs) in
      let j = slice_join (get_or o a 0) (get_or o c 0) (get_or o (suc c) 0) xs (rises a c r.0 (omega arith)) (fits.rises c m) (within (suc c) m) in
      let ih = weave rest total e cs (suc c) m r.1 b.1 (λ d u k. w d (omega (arith, r.0)) k ∙ rw (beyond_first c d cs u)) in
      ih
      ∙ rw (s, v, ← j, append_assoc, append_assoc, append_assoc, append_assoc)

  -- where the lists begin, as long as none is visited
  run : (j a b : ℕ) → start F a ≡ get_or o a 0 + j → a ≤ b → b ≤ cells → ((c : ℕ) → a ≤ c → c < b → F c ≡ list_in o xs c) → start F b ≡ get_or o b 0 + j
  unfolding sum
  run j a b e l =
      le_ind (λ m. m ≤ cells → ((c : ℕ) → a ≤ c → c < m → F c ≡ list_in o xs c) → start F m ≡ get_or o m 0 + j)
      (λ _ _. e)
      (λ m (k : a ≤ m) ih q h.
      let u : length (F m) ≡ get_or o (suc m) 0 - get_or o m 0 = ap length (h m k (omega arith)) ∙ length-slice (get_or o m 0) (get_or o (suc m) 0) xs (within (suc m) q) in
      omega (arith, ih (omega arith) (λ c x y. h c x (omega arith)), fits.rises m (omega arith)))
      b l

  module _ (j a c : ℕ) (cs : List ℕ) (e : start F a ≡ get_or o a 0 + j) (r : Rising a (c ∷ cs)) (b : Below cells (c ∷ cs)) (w : With (c ∷ cs) a) where
    to_first : (p : ℕ) → a ≤ p → p ≤ c → start F p ≡ get_or o p 0 + j
    to_first p l k =
        run j a p e l (omega (arith, b.0)) (λ d u v. kept (c ∷ cs) a d w u (omega (arith, b.0)) (not_elem d c (c ∷ cs) (omega arith) (omega arith, r.1)))

    past_first : start F (suc c) ≡ get_or o (suc c) 0 + suc j
    unfolding sum
    past_first =
        let v : F c ≡ list_in o xs c ++ (n ∷ []) = w c r.0 b.0 ∙ rw (elem_head c cs) in
        let u : length (F c) ≡ (get_or o (suc c) 0 - get_or o c 0) + 1 =
        ap length v ∙ length-append (list_in o xs c) (n ∷ []) ∙ ap (λ (k : ℕ). k + 1) (length-slice (get_or o c 0) (get_or o (suc c) 0) xs (within (suc c) b.0)) in
        omega (arith, to_first c r.0 (omega arith), fits.rises c b.0)

    with_rest : With cs (suc c)
    with_rest d u k = w d (omega (arith, r.0)) k ∙ rw (beyond_first c d cs u)

  -- THE TOTAL
  ends : (j : ℕ) (cs : List ℕ) (a : ℕ) → a ≤ cells → start F a ≡ get_or o a 0 + j → Rising a cs → Below cells cs → With cs a
      → start F cells ≡ get_or o cells 0 + (j + length cs)
  ends j [] a l e r b w = let u = run j a cells e l (omega arith) (λ c u v. kept [] a c w u v refl) in omega arith
  ends j (c ∷ cs) a l e r b w =
      let u = ends (suc j) cs (suc c) b.0 (past_first j a c cs e r b w) r.1 b.1 (with_rest j a c cs e r b w) in
      omega arith

  -- numbers that are the entries, and so many more
  grown : (g : ℕ → ℕ) (j a b : ℕ) → a ≤ b → b ≤ length o → ((p : ℕ) → a ≤ p → p < b → g p ≡ get_or o p 0 + j) → tabulate g b ≡ tabulate g a ++ more j (slice a b o)
  unfolding tabulate
  grown g j a b l =
      le_ind (λ m. m ≤ length o → ((p : ℕ) → a ≤ p → p < m → g p ≡ get_or o p 0 + j) → tabulate g m ≡ tabulate g a ++ more j (slice a m o))
      (λ _ _. rw (slice_empty a o, append-nil))
      (λ m (k : a ≤ m) ih q h.
      rw (ih (omega arith) (λ p u v. h p u (omega arith)), h m k (omega arith), slice_last a m o k q, more_append j (slice a m o) (get_or o m 0 ∷ []), append_assoc))
      b l

  -- THE OFFSETS, from the cell a on, where j visited cells are before it
  lift : suc cells ≤ length o → (j : ℕ) (cs : List ℕ) (a : ℕ) → a ≤ cells → start F a ≡ get_or o a 0 + j → Rising a cs → Below cells cs → With cs a
      → tabulate (start F) (suc cells) ++ drop (suc cells) o ≡ tabulate (start F) a ++ (more j (slice a (next_in (suc cells) cs) o) ++ moved_above o (suc cells) j cs)
  unfolding moved_above
  lift q j [] a l e r b w =
      rw (grown (start F) j a (suc cells) (omega arith) q (λ p u v. run j a p e u (omega arith) (λ c x y. kept [] a c w x (omega arith) refl)), append_assoc)
  lift q j (c ∷ cs) a l e r b w =
      lift q (suc j) cs (suc c) b.0 (past_first j a c cs e r b w) r.1 b.1 (with_rest j a c cs e r b w)
      ∙ rw (grown (start F) j a (suc c) (omega (arith, r.0)) (omega (arith, b.0)) (λ p u v. to_first j a c cs e r b w p u (omega arith)), append_assoc)

-- the total of the lists, each with n at its end if it is visited
pub totalled : {cells lines : ℕ} (n : ℕ) (visited o xs : List ℕ) → ListsFit cells lines o xs → Rising 0 visited → Below cells visited
    → start (with_in n visited o xs) cells ≡ get_or o cells 0 + length visited
unfolding sum
totalled {cells} {lines} n visited o xs h r b =
    rw (← zero-add (length visited)) (ends cells lines n o xs h (with_in n visited o xs) 0 visited 0 (omega arith) (omega (arith, h.first)) r b (λ c u v. refl))

-- ---- with zeros beyond

module _ {visited : List ℕ} {cells total : ℕ} {o xs : List ℕ} (h : Insertable visited cells total o xs) (n : ℕ) where
  abbrev F : ℕ → List ℕ
  F = with_in n visited o xs

  at_start : start F 0 ≡ get_or o 0 0 + 0
  unfolding sum
  at_start = omega (arith, h.lists.first)

  pub total_is : start F cells ≡ total + length visited
  total_is = omega (arith, h.last, totalled n visited o xs h.lists h.order h.below)

  pub spread_is : concat F cells ++ drop (total + length visited) xs ≡ spread_of n o total xs visited
  unfolding concat spread_of
  spread_is =
      weave cells h.lines n o xs h.lists F (drop (total + length visited) xs) total h.last visited 0 (omega arith) h.order h.below (λ c u v. refl)
      ∙ rw h.lists.first

  pub lifted_is : tabulate (start F) (suc cells) ++ drop (suc cells) o ≡ lifted_of o (suc cells) visited
  unfolding tabulate lifted_of
  lifted_is =
      lift cells h.lines n o xs h.lists F h.long 0 visited 0 (omega arith) at_start h.order h.below (λ c u v. refl)
      ∙ rw (more_none (slice 0 (next_in (suc cells) visited) o))

  pub insert_spreads : Spreadable visited o total xs
  insert_spreads =
      record {
        cells = cells;
        rises = h.lists.rises;
        last = sym h.last;
        long = h.long;
        few = h.few;
        order = h.order;
        below = h.below;
        room = h.room;
      }

  pub insert_raises : RaisableAll visited o (cells + 1)
  insert_raises =
      record {
        cells = cells;
        end_is = add-one cells;
        within = omega (arith, h.long);
        few = h.few;
        order = h.order;
        below = h.below;
        small = λ p q. omega (arith, h.last, h.small, never_fall o cells h.lists.rises p cells (omega arith) (omega arith));
      }

module _ {visited : List ℕ} {cells total : ℕ} {o xs : List ℕ} (h : Insertable visited cells total o xs) (n : ℕ) {ys zs us vs : List ℕ} where
  -- WHAT IS INSERTED: the lists with n, laid out anew
  pub inserted : ys ≡ spread_of n o total xs visited → length ys ≡ length xs → zs ≡ cleared_from (total + length visited) ys
      → us ≡ lifted_of o (cells + 1) visited → length us ≡ length o → vs ≡ cleared_from (cells + 1) us → Inserted n visited cells o xs vs zs
  unfolding cleared_from items_of offsets_of
  inserted a b c d e f =
      let G : ℕ → List ℕ = with_in n visited o xs in
      let x : ys ≡ concat G cells ++ drop (total + length visited) xs = a ∙ sym (spread_is h n) in
      let t : start G cells ≡ total + length visited = total_is h n in
      let y : take (total + length visited) ys ≡ concat G cells =
      ap (take (total + length visited)) x ∙ take_at (concat G cells) (drop (total + length visited) xs) (total + length visited) (length_concat G cells ∙ t) in
      let u : us ≡ tabulate (start G) (suc cells) ++ drop (suc cells) o = d ∙ ap (λ (m : ℕ). lifted_of o m visited) (add-one cells) ∙ sym (lifted_is h n) in
      let v : take (suc cells) us ≡ tabulate (start G) (suc cells) =
      ap (take (suc cells)) u ∙ take_at (tabulate (start G) (suc cells)) (drop (suc cells) o) (suc cells) (length_tabulate (start G) (suc cells)) in
      record {
        offsets_are = f ∙ rw (add-one cells, v, e);
        items_are = c ∙ rw (y, b, t);
      }

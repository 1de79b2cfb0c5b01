-- A row: its tests one by one, and the turns of the two scans. Assumes nothing.
use Rattle.std.specs.Prelude.{Some, None}
use mathlib.Core.Path.{◌≡◌, refl, sym, ap, ◌∙◌}
use mathlib.Core.Bool.{Bool, true, false}
use mathlib.Core.List.{List, [], ◌∷◌, ◌++◌}
use Prim.Native.Nat.{ℕ, suc, ◌+◌, ◌-◌, ◌≤◌, ◌<◌}
use native.Mathlib.Numerals.{add-one}
use native.Mathlib.Decide.{ℕ_discrete, dec_lt}
use native.Mathlib.Omega.{arith}
use lib.ListN.{length, get_or, drop, set, length-set, length-drop, drop_of_length-le}
use lib.Seq.{drop-cons}
use Rattle.grid.specs.declared.Box.{Box}
use Rattle.grid.specs.Domain.{Lines, segment_at}
use Rattle.grid.specs.Boxes.{box_of, overlaps}
use Rattle.seek.specs.declared.Place.{Place}
use Rattle.visit.specs.declared.Test.{Test}
use Rattle.visit.specs.declared.scan.Row.{Row}
use Rattle.seek.specs.Tests.{Pair, pair, with_each}
use Rattle.visit.specs.Overlap.{overlap}
use Rattle.visit.specs.Entries.{test_of}
use Rattle.seek.specs.Inside.{numbers}
use Rattle.visit.specs.Inside.{next_step, RowAsks, TestsMoved, HandedAt, ListAsks, InList, LinesAsk, InLines}
use Rattle.seek.proofs.Clauses.{left_suc, with_cons, numbers_zero, numbers_suc}
use Rattle.seek.proofs.OtherLines.{length_numbers}
use Rattle.visit.proofs.Moves.{moved_none, moved_then, moved_hit, moved_miss}
use Rattle.visit.proofs.Placing.{at_none, at_then, at_hit, at_miss}

-- the record of a test, as the code makes it
pub row_test : (ls : Lines) (row : Row) (second : ℕ) → RowAsks ls row → (other : Box) (o : Bool) → other ≡ box_of (segment_at ls second) → o ≡ overlaps row.bounds other
    → ◌≡◌ {A = Test} (record { place = row.place; first = row.first; second = second; overlap = o }) (test_of ls (pair row.place row.first second))
unfolding overlap
row_test ls row second a other o e m = rw (m, a.held, e)

-- the head of a row, or its end
pub next_end : (ls : Lines) (pl : Place) (a : ℕ) (xs : List ℕ) → xs ≡ [] → None ≡ next_step ls (with_each pl a xs)
unfolding next_step with_each
next_end ls pl a xs e = rw e

pub next_made : (ls : Lines) (pl : Place) (a b : ℕ) (xs bs : List ℕ) → xs ≡ b ∷ bs → Some (test_of ls (pair pl a b)) ≡ next_step ls (with_each pl a xs)
unfolding next_step with_each
next_made ls pl a b xs bs e = rw e

-- `left` lines from k on, as the code counts them
pub numbers_none : (stop k : ℕ) → stop ≤ k → numbers (stop - k) k ≡ []
numbers_none stop k h = let z : stop - k ≡ 0 = omega arith in rw z (numbers_zero k)

pub numbers_some : (stop k : ℕ) → k < stop → numbers (stop - k) k ≡ k ∷ numbers (stop - (k + 1)) (k + 1)
numbers_some stop k h = rw (left_suc stop k h, add-one) (numbers_suc (stop - suc k) k)

-- ---- a step, taken apart by what it is

module _ (ls : Lines) (pl : Place) (a : ℕ) where
  made_is : (t : Test) (ys : List ℕ) (b : ℕ) (bs : List ℕ) → ys ≡ b ∷ bs → Some t ≡ next_step ls (with_each pl a ys) → t ≡ test_of ls (pair pl a b)
  made_is t ys b bs e m = let m₁ = m ∙ ap (λ (l : List ℕ). next_step ls (with_each pl a l)) e ∙ sym (next_made ls pl a b (b ∷ bs) bs refl) in cc

  made_some : (t : Test) (ys : List ℕ) → Some t ≡ next_step ls (with_each pl a ys) → ys ≡ [] → ⊥
  made_some t ys m e = let m₁ : Some t ≡ None = m ∙ sym (next_end ls pl a ys e) in let z : ◌≡◌ {A = ℕ} 0 1 = cc in omega arith

  end_none : (ys : List ℕ) → None ≡ next_step ls (with_each pl a ys) → ys ≡ []
  end_none [] m = refl
  end_none (b ∷ bs) m =
      let m₁ : None ≡ Some (test_of ls (pair pl a b)) = m ∙ sym (next_made ls pl a b (b ∷ bs) bs refl) in
      let z : ◌≡◌ {A = ℕ} 0 1 = cc in
      absurd (omega arith)

-- ---- along a row: from where the seconds ys₀ were left to where ys are, `steps` tests were made

pub record Scanning (ls : Lines) (row : Row) (ys₀ ys : List ℕ) (steps : ℕ) (fs ss : List ℕ) (hits : ℕ) (fs' ss' : List ℕ) (hits' : ℕ) : Type 0 where
  pub moved : (later : List Pair)
      → TestsMoved ls (with_each row.place row.first ys₀ ++ later) (with_each row.place row.first ys ++ later) steps (length fs) fs ss hits fs' ss' hits'
  pub handed_at : (later : List Pair)
      → HandedAt ls row.place (with_each row.place row.first ys₀ ++ later) (with_each row.place row.first ys ++ later) (length fs) hits hits'
  pub still : steps ≡ 0 → hits' ≡ hits
  pub first_long : length fs' ≡ length fs
  pub second_long : length ss' ≡ length fs

pub scanning_none : (ls : Lines) (row : Row) (ys : List ℕ) (fs ss : List ℕ) (hits : ℕ) → length ss ≡ length fs → hits ≤ length fs → Scanning ls row ys ys 0 fs ss hits fs ss hits
scanning_none ls row ys fs ss hits e h =
    record {
      moved = λ later. moved_none ls (length fs) (with_each row.place row.first ys ++ later) fs ss hits h;
      handed_at = λ later. at_none ls (length fs) row.place (with_each row.place row.first ys ++ later) hits;
      still = λ z. refl;
      first_long = refl;
      second_long = e;
    }

module _ (ls : Lines) (row : Row) (ys₀ ys : List ℕ) (steps : ℕ) (fs ss : List ℕ) (hits : ℕ) (fs' ss' : List ℕ) (hits' : ℕ) (s : Scanning ls row ys₀ ys steps fs ss hits fs' ss' hits')
    (h : hits' < length fs) (b : ℕ) (bs : List ℕ) (e : ys ≡ b ∷ bs) (t : Test) (m : Some t ≡ next_step ls (with_each row.place row.first ys)) where
  one : Pair
  one = pair row.place row.first b

  test_is : t ≡ test_of ls one
  unfolding one
  test_is = made_is ls row.place row.first t ys b bs e m

  begins : (later : List Pair) → with_each row.place row.first ys ++ later ≡ one ∷ (with_each row.place row.first bs ++ later)
  unfolding one
  begins later = rw (e, with_cons)

  pub scanning_hit : t.overlap ≡ true → Scanning ls row ys₀ bs (steps + 1) fs ss hits (set fs' hits' t.first) (set ss' hits' t.second) (hits' + 1)
  unfolding one
  scanning_hit o =
      let o₁ : overlap ls row.first b ≡ true = sym (ap (λ (x : Test). x.overlap) test_is) ∙ o in
      let k : (later : List Pair) → TestsMoved ls (with_each row.place row.first ys ++ later) (with_each row.place row.first bs ++ later) 1 (length fs) fs' ss' hits' (set fs' hits' t.first) (set ss' hits' t.second) (hits' + 1) =
      λ later. rw (begins later, test_is) (moved_hit ls (length fs) one (with_each row.place row.first bs ++ later) fs' ss' hits' h s.first_long s.second_long o₁) in
      let x : (later : List Pair) → HandedAt ls row.place (with_each row.place row.first ys ++ later) (with_each row.place row.first bs ++ later) (length fs) hits' (hits' + 1) =
      λ later. rw (begins later) (at_hit ls (length fs) row.place one (with_each row.place row.first bs ++ later) hits' h refl o₁) in
      record {
        moved = λ later. moved_then ls (length fs) _ _ _ steps 1 fs ss hits fs' ss' hits' _ _ _ (s.moved later) (k later);
        handed_at = λ later. at_then ls (length fs) row.place _ _ _ hits hits' _ (s.handed_at later) (x later);
        still = λ z. absurd (omega arith);
        first_long = length-set fs' hits' t.first ∙ s.first_long;
        second_long = length-set ss' hits' t.second ∙ s.second_long;
      }

  pub scanning_miss : t.overlap ≡ false → Scanning ls row ys₀ bs (steps + 1) fs ss hits (set fs' hits' t.first) (set ss' hits' t.second) hits'
  unfolding one
  scanning_miss o =
      let o₁ : overlap ls row.first b ≡ false = sym (ap (λ (x : Test). x.overlap) test_is) ∙ o in
      let k : (later : List Pair) → TestsMoved ls (with_each row.place row.first ys ++ later) (with_each row.place row.first bs ++ later) 1 (length fs) fs' ss' hits' (set fs' hits' t.first) (set ss' hits' t.second) hits' =
      λ later. rw (begins later, test_is) (moved_miss ls (length fs) one (with_each row.place row.first bs ++ later) fs' ss' hits' h s.first_long s.second_long o₁) in
      let x : (later : List Pair) → HandedAt ls row.place (with_each row.place row.first ys ++ later) (with_each row.place row.first bs ++ later) (length fs) hits' hits' =
      λ later. rw (begins later) (at_miss ls (length fs) row.place one (with_each row.place row.first bs ++ later) hits' h refl o₁) in
      record {
        moved = λ later. moved_then ls (length fs) _ _ _ steps 1 fs ss hits fs' ss' hits' _ _ _ (s.moved later) (k later);
        handed_at = λ later. at_then ls (length fs) row.place _ _ _ hits hits' _ (s.handed_at later) (x later);
        still = λ z. absurd (omega arith);
        first_long = length-set fs' hits' t.first ∙ s.first_long;
        second_long = length-set ss' hits' t.second ∙ s.second_long;
      }

-- ---- the scan of a list: from entry j₀ to entry j

pub record ListScan (ls : Lines) (row : Row) (xs : List ℕ) (j₀ j : ℕ) (fs ss : List ℕ) (hits : ℕ) (fs' ss' : List ℕ) (hits' : ℕ) : Type 0 where
  pub from : j₀ ≤ j
  pub to : j ≤ length xs
  pub along : Scanning ls row (drop j₀ xs) (drop j xs) (j - j₀) fs ss hits fs' ss' hits'

pub list_scan : (ls : Lines) (row : Row) (xs : List ℕ) (j : ℕ) (fs ss : List ℕ) (hits : ℕ) → ListAsks ls row xs j fs ss hits → ListScan ls row xs j j fs ss hits fs ss hits
list_scan ls row xs j fs ss hits a =
    let z : j - j ≡ 0 = omega arith in
    record {
      from = omega arith;
      to = a.at;
      along = rw z (scanning_none ls row (drop j xs) fs ss hits a.outputs.same a.outputs.in_room);
    }

module _ (ls : Lines) (row : Row) (xs : List ℕ) (j₀ j : ℕ) (fs ss : List ℕ) (hits : ℕ) (fs' ss' : List ℕ) (hits' : ℕ) (s : ListScan ls row xs j₀ j fs ss hits fs' ss' hits') where
  module _ (t : Test) (m : Some t ≡ next_step ls (with_each row.place row.first (drop j xs))) where
    pub list_some : j < length xs
    list_some = go (dec_lt j (length xs))
      where
        go : Dec (j < length xs) → j < length xs
        go (yes h) = h
        go (no h) = absurd (made_some ls row.place row.first t (drop j xs) m (drop_of_length-le xs {i = j} (omega arith)))

    at_j : drop j xs ≡ get_or xs j 0 ∷ drop (j + 1) xs
    at_j = rw add-one (drop-cons xs j 0 list_some)

    more : (j + 1) - j₀ ≡ (j - j₀) + 1
    more = omega (arith, s.from)

    pub list_hit : hits' < length fs → t.overlap ≡ true → ListScan ls row xs j₀ (j + 1) fs ss hits (set fs' hits' t.first) (set ss' hits' t.second) (hits' + 1)
    list_hit h o =
        record {
          from = omega (arith, s.from);
          to = omega (arith, list_some);
          along = rw more (scanning_hit ls row (drop j₀ xs) (drop j xs) (j - j₀) fs ss hits fs' ss' hits' s.along h (get_or xs j 0) (drop (j + 1) xs) at_j t m o);
        }

    pub list_miss : hits' < length fs → t.overlap ≡ false → ListScan ls row xs j₀ (j + 1) fs ss hits (set fs' hits' t.first) (set ss' hits' t.second) hits'
    list_miss h o =
        record {
          from = omega (arith, s.from);
          to = omega (arith, list_some);
          along = rw more (scanning_miss ls row (drop j₀ xs) (drop j xs) (j - j₀) fs ss hits fs' ss' hits' s.along h (get_or xs j 0) (drop (j + 1) xs) at_j t m o);
        }

  still : j ≡ j₀ → hits' ≡ hits
  still e = s.along.still (omega arith)

  -- the outputs are full
  pub list_full : length fs ≤ hits' → InList ls row xs j₀ fs ss hits fs' ss' (record { j = j; hits = hits' })
  list_full f =
      record {
        from = s.from;
        to = s.to;
        moved = s.along.moved;
        handed_at = s.along.handed_at;
        some = λ h k. go h (ℕ_discrete j j₀);
      }
    where
      go : hits < length fs → Dec (j ≡ j₀) → j₀ < j
      go h (yes e) = absurd (omega (arith, still e))
      go h (no e) = omega (arith, s.from)

  -- the list is done
  pub list_over : None ≡ next_step ls (with_each row.place row.first (drop j xs)) → InList ls row xs j₀ fs ss hits fs' ss' (record { j = j; hits = hits' })
  list_over m =
      let z : length (drop j xs) ≡ 0 = ap length (end_none ls row.place row.first (drop j xs) m) in
      record {
        from = s.from;
        to = s.to;
        moved = s.along.moved;
        handed_at = s.along.handed_at;
        some = λ h k. omega (arith, length-drop j xs);
      }

-- ---- the scan of a run of lines: from line k₀ to line k

pub record LinesScan (ls : Lines) (row : Row) (stop k₀ k : ℕ) (fs ss : List ℕ) (hits : ℕ) (fs' ss' : List ℕ) (hits' : ℕ) : Type 0 where
  pub from : k₀ ≤ k
  pub to : k ≤ stop
  pub along : Scanning ls row (numbers (stop - k₀) k₀) (numbers (stop - k) k) (k - k₀) fs ss hits fs' ss' hits'

pub lines_scan : (ls : Lines) (row : Row) (k stop : ℕ) (fs ss : List ℕ) (hits : ℕ) → LinesAsk ls row k stop fs ss hits → LinesScan ls row stop k k fs ss hits fs ss hits
lines_scan ls row k stop fs ss hits a =
    let z : k - k ≡ 0 = omega arith in
    record {
      from = omega arith;
      to = a.at;
      along = rw z (scanning_none ls row (numbers (stop - k) k) fs ss hits a.outputs.same a.outputs.in_room);
    }

module _ (ls : Lines) (row : Row) (stop k₀ k : ℕ) (fs ss : List ℕ) (hits : ℕ) (fs' ss' : List ℕ) (hits' : ℕ) (s : LinesScan ls row stop k₀ k fs ss hits fs' ss' hits') where
  module _ (t : Test) (m : Some t ≡ next_step ls (with_each row.place row.first (numbers (stop - k) k))) where
    pub lines_some : k < stop
    lines_some = go (dec_lt k stop)
      where
        go : Dec (k < stop) → k < stop
        go (yes h) = h
        go (no h) = absurd (made_some ls row.place row.first t (numbers (stop - k) k) m (numbers_none stop k (omega arith)))

    k_more : (k + 1) - k₀ ≡ (k - k₀) + 1
    k_more = omega (arith, s.from)

    pub lines_hit : hits' < length fs → t.overlap ≡ true → LinesScan ls row stop k₀ (k + 1) fs ss hits (set fs' hits' t.first) (set ss' hits' t.second) (hits' + 1)
    lines_hit h o =
        record {
          from = omega (arith, s.from);
          to = omega (arith, lines_some);
          along = rw k_more (scanning_hit ls row (numbers (stop - k₀) k₀) (numbers (stop - k) k) (k - k₀) fs ss hits fs' ss' hits' s.along h k (numbers (stop - (k + 1)) (k + 1)) (numbers_some stop k lines_some) t m o);
        }

    pub lines_miss : hits' < length fs → t.overlap ≡ false → LinesScan ls row stop k₀ (k + 1) fs ss hits (set fs' hits' t.first) (set ss' hits' t.second) hits'
    lines_miss h o =
        record {
          from = omega (arith, s.from);
          to = omega (arith, lines_some);
          along = rw k_more (scanning_miss ls row (numbers (stop - k₀) k₀) (numbers (stop - k) k) (k - k₀) fs ss hits fs' ss' hits' s.along h k (numbers (stop - (k + 1)) (k + 1)) (numbers_some stop k lines_some) t m o);
        }

  -- the outputs are full
  pub lines_full : length fs ≤ hits' → InLines ls row k₀ stop fs ss hits fs' ss' (record { k = k; hits = hits' })
  lines_full f =
      record {
        from = s.from;
        to = s.to;
        moved = s.along.moved;
        handed_at = s.along.handed_at;
        some = λ h l. go h (ℕ_discrete k k₀);
      }
    where
      go : hits < length fs → Dec (k ≡ k₀) → k₀ < k
      go h (yes e) = absurd (omega (arith, s.along.still (omega arith)))
      go h (no e) = omega (arith, s.from)

  -- the run is done
  pub lines_over : None ≡ next_step ls (with_each row.place row.first (numbers (stop - k) k)) → InLines ls row k₀ stop fs ss hits fs' ss' (record { k = k; hits = hits' })
  lines_over m =
      let z : length (numbers (stop - k) k) ≡ 0 = ap length (end_none ls row.place row.first (numbers (stop - k) k) m) in
      record {
        from = s.from;
        to = s.to;
        moved = s.along.moved;
        handed_at = s.along.handed_at;
        some = λ h l. omega (arith, length_numbers (stop - k) k);
      }

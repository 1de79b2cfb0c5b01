-- On tables that fit, from the cursor of a bookmark, the tests that are left are those that are left at the bookmark; so `next` makes, hands out and
-- answers what a batch does, and cursor and bookmark stay in step. Assumes nothing.
use Rattle.std.specs.Prelude.{Ok, Err, Result}
use Rattle.refusals.specs.declared.Refusal.{Refusal}
use Rattle.refusals.specs.Refusals.{Check}
use Rattle.resume.specs.declared.Went.{Went}
use mathlib.Core.Path.{◌≡◌, refl, sym, ap, subst, ◌∙◌}
use mathlib.Core.Bool.{Bool, true, false}
use mathlib.Core.List.{List, [], ◌∷◌, ◌++◌}
use Prim.Native.Nat.{ℕ, zero, suc, ◌+◌, ◌-◌, ◌*◌, ◌≤◌, ◌<◌}
use native.Mathlib.Nat.{sub-zero}
use native.Mathlib.Decide.{dec_lt}
use native.Mathlib.Omega.{arith}
use lib.ListN.{length, get_or, take, drop, length-append, drop_of_length-le}
use lib.Seq.{drop-append-le, length-take-le, get_or-take, take-take, drop-drop}
use borrow.Author.Tests.{lt-ltb, le-ltb, le-leb}
use Rattle.slices.specs.Lists.{elem}
use Rattle.tables.specs.Tables.{Tables, cells, list_in}
use Rattle.tables.specs.Fit.{TablesFit}
use Rattle.tables.proofs.Facts.{says_increases, all_within}
use Rattle.seek.specs.declared.Place.{Place}
use Rattle.seek.specs.declared.Place.TheVariants.{Global}
use Rattle.seek.specs.Tests.{Pair, pair, with_each, pairs, place_of, cell_tests, others, global_tests, tests_of}
use Rattle.seek.specs.Cursors.{rest_in, globals_rest}
use Rattle.seek.proofs.Clauses.{drop_past, with_cons, length_with, drop_with, pairs_nil, pairs_cons, cells_zero, cells_suc, globals_zero, globals_suc, grest_suc, others_zero, others_in, others_out}
use Rattle.refusals.specs.Refusals.{unless, and_then, Answer, gives, ◌then◌}
use Rattle.refusals.proofs.Checks.{and_then_left, and_then_right, and_then_fine}
use Rattle.grid.specs.declared.Grid.{Grid}
use Rattle.grid.specs.Domain.{Lines, count, lines_check, lengths_check, count_check}
use Rattle.seek.specs.Bookmarks.{visit_check, bookmark_check, tests_from}
use Rattle.visit.specs.Entries.{outputs_check, batch_tests, pairs_left, tally_of}
use Rattle.visit.specs.Batches.{made, firsts, seconds}
use Rattle.seek.proofs.Standing.{stands, cells_few}
use Rattle.seek.proofs.GlobalRests.{globals_begin, globals_done}
use Rattle.listed.specs.Lists.{list_if, list_by, list_from, tests_of_cells, cells_from}
use Rattle.through.specs.Runs.{outputs_lines_check}
use Rattle.resume.specs.Answers.{next_tests, NextIs}
use Rattle.resume.specs.AsTheyAre.{cells_looked_at, cells_to_look, list_as, globals_by, globals_as}
use Rattle.resume.specs.Cursors.{cursor, globals_from, left_from, cursor_of}
use Rattle.resume_laws.specs.Words.{cursor_at}
use Rattle.listed.proofs.ListLaws.{from_later}
use Rattle.listed.proofs.CellLaws.{of_zero, of_suc, from_at, from_done}
use Rattle.resume.proofs.CursorLaws.{settled_cell, cursor_global, cursor_end}

-- ---- tables that fit are all looked at, as they stand

if_taken : (b : Bool) (xs : List ℕ) → b ≡ true → list_if b xs ≡ xs
unfolding list_if
if_taken b xs e = rw e

module _ (t : Tables) (f : TablesFit t) where
  pub list_same : (c : ℕ) → c < cells t → list_as t c ≡ list_in t.offsets t.items c
  unfolding list_by
  list_same c h =
      if_taken _ (list_in t.offsets t.items c)
      (rw (
        le-leb (get_or t.offsets c 0) (get_or t.offsets (suc c) 0) (f.lists.rises c h),
        le-leb (get_or t.offsets (suc c) 0) (length t.items) (all_within (cells t) t.lines t.offsets t.items f.lists (suc c) h),
        says_increases t.lines (list_in t.offsets t.items c) (f.lists.lists c h),
      ))

  pub globals_same : globals_as t ≡ take t.global_count t.globals
  unfolding globals_by
  globals_same = if_taken _ (take t.global_count t.globals) (rw (le-leb t.global_count (length t.globals) f.counted, says_increases t.lines (take t.global_count t.globals) f.globals))

  pub reach_same : cells t ≤ 1002001 → cells_to_look t ≡ cells t
  unfolding cells_looked_at
  reach_same h = omega (arith, f.long)

  cells_same : (left c : ℕ) → c + left ≤ cells t → cell_tests t.cols t.offsets t.items left c ≡ tests_of_cells t.cols (list_as t) left c
  cells_same zero c h = cells_zero t.cols t.offsets t.items c ∙ sym (of_zero t.cols (list_as t) c)
  cells_same (suc left) c h =
      cells_suc t.cols t.offsets t.items left c
      ∙ ap (λ (l : List ℕ). pairs (place_of t.cols c) l ++ cell_tests t.cols t.offsets t.items left (suc c)) (sym (list_same c (omega arith)))
      ∙ ap (λ (l : List Pair). pairs (place_of t.cols c) (list_as t c) ++ l) (cells_same left (suc c) (omega arith))
      ∙ sym (of_suc t.cols (list_as t) left c)

-- ---- where a test of a list stands

pub record Spot (pl : Place) (xs : List ℕ) (rest : List Pair) : Type 0 where
  pub i : ℕ
  pub j : ℕ
  pub later : i < j
  pub inside : j < length xs
  pub is : rest ≡ rest_in pl xs i j

rest_more : (pl : Place) (x : ℕ) (xs : List ℕ) (i j : ℕ) → rest_in pl (x ∷ xs) (suc i) (suc j) ≡ rest_in pl xs i j
unfolding rest_in
rest_more pl x xs i j = refl

first_row : (pl : Place) (x : ℕ) (xs : List ℕ) (b : ℕ) → b < length xs → drop b (pairs pl (x ∷ xs)) ≡ rest_in pl (x ∷ xs) 0 (suc b)
unfolding rest_in
first_row pl x xs b h =
    ap (drop b) (pairs_cons pl x xs) ∙ drop-append-le b (with_each pl x xs) (pairs pl xs) (rw (length_with pl x xs) (omega arith))
    ∙ ap (λ (l : List Pair). l ++ pairs pl xs) (drop_with pl x b xs)

pub spot_in_list : (pl : Place) (xs : List ℕ) (b : ℕ) → b < length (pairs pl xs) → Spot pl xs (drop b (pairs pl xs))
spot_in_list pl [] b h = absurd (omega (arith, ap length (pairs_nil pl)))
spot_in_list pl (x ∷ xs) b h =
    go (dec_lt b (length xs)) (λ k. spot_in_list pl xs (b - length xs) (omega (arith, ap length (pairs_cons pl x xs), length-append (with_each pl x xs) (pairs pl xs), length_with pl x xs)))
  where
    go : Dec (b < length xs) → ((b < length xs → ⊥) → Spot pl xs (drop (b - length xs) (pairs pl xs))) → Spot pl (x ∷ xs) (drop b (pairs pl (x ∷ xs)))
    go (yes k) later = here k
      where
        here : b < length xs → Spot pl (x ∷ xs) (drop b (pairs pl (x ∷ xs)))
        here k = record { i = 0; j = suc b; later = omega arith; inside = omega arith; is = first_row pl x xs b k }
    go (no k) later = further (later k)
      where
        further : Spot pl xs (drop (b - length xs) (pairs pl xs)) → Spot pl (x ∷ xs) (drop b (pairs pl (x ∷ xs)))
        further s =
            record {
              i = suc s.i;
              j = suc s.j;
              later = omega (arith, s.later);
              inside = omega (arith, s.inside);
              is = ap (drop b) (pairs_cons pl x xs) ∙ drop_past b (length xs) (with_each pl x xs) (pairs pl xs) (length_with pl x xs) (omega arith) ∙ s.is ∙ sym (rest_more pl x xs s.i s.j);
            }

-- ---- where a test of the cells stands

pub record CellSpot (cols m : ℕ) (L : ℕ → List ℕ) (rest : List Pair) : Type 0 where
  pub c : ℕ
  pub i : ℕ
  pub j : ℕ
  pub cell : c < m
  pub later : i < j
  pub inside : j < length (L c)
  pub is : rest ≡ cells_from cols L (m - c) c i j

pub spot_in_cells : (cols m : ℕ) (L : ℕ → List ℕ) (left c b : ℕ) → c + left ≡ m → b < length (tests_of_cells cols L left c) → CellSpot cols m L (drop b (tests_of_cells cols L left c))
spot_in_cells cols m L zero c b e h = absurd (omega (arith, ap length (of_zero cols L c)))
spot_in_cells cols m L (suc left) c b e h =
    go (dec_lt b (length (pairs (place_of cols c) (L c))))
    (λ k. spot_in_cells cols m L left (suc c) (b - length (pairs (place_of cols c) (L c))) (omega arith) (omega (arith, ap length (of_suc cols L left c), length-append (pairs (place_of cols c) (L c)) (tests_of_cells cols L left (suc c)))))
  where
    go : Dec (b < length (pairs (place_of cols c) (L c))) → ((b < length (pairs (place_of cols c) (L c)) → ⊥) → CellSpot cols m L (drop (b - length (pairs (place_of cols c) (L c))) (tests_of_cells cols L left (suc c))))
        → CellSpot cols m L (drop b (tests_of_cells cols L (suc left) c))
    go (yes k) later = here (spot_in_list (place_of cols c) (L c) b k)
      where
        here : Spot (place_of cols c) (L c) (drop b (pairs (place_of cols c) (L c))) → CellSpot cols m L (drop b (tests_of_cells cols L (suc left) c))
        here s =
            let z : m - suc c ≡ left = omega arith in
            record {
              c = c;
              i = s.i;
              j = s.j;
              cell = omega arith;
              later = s.later;
              inside = s.inside;
              is = ap (drop b) (of_suc cols L left c) ∙ drop-append-le b (pairs (place_of cols c) (L c)) (tests_of_cells cols L left (suc c)) (omega arith)
                  ∙ ap (λ (l : List Pair). l ++ tests_of_cells cols L left (suc c)) (s.is ∙ sym (from_later (place_of cols c) (L c) s.i s.j s.later))
                  ∙ sym (from_at cols L m c (omega arith) s.i s.j ∙ ap (λ (n : ℕ). list_from (place_of cols c) (L c) s.i s.j ++ tests_of_cells cols L n (suc c)) z);
            }
    go (no k) later = further (later k)
      where
        further : CellSpot cols m L (drop (b - length (pairs (place_of cols c) (L c))) (tests_of_cells cols L left (suc c))) → CellSpot cols m L (drop b (tests_of_cells cols L (suc left) c))
        further s =
            record {
              c = s.c;
              i = s.i;
              j = s.j;
              cell = s.cell;
              later = s.later;
              inside = s.inside;
              is = ap (drop b) (of_suc cols L left c) ∙ drop_past b (length (pairs (place_of cols c) (L c))) (pairs (place_of cols c) (L c)) (tests_of_cells cols L left (suc c)) refl (omega arith) ∙ s.is;
            }

-- ---- where a test of the globals stands

-- the line of the first of the lines ys that are left of those before E
pub record LineSpot (xs : List ℕ) (E : ℕ) (ys : List ℕ) : Type 0 where
  pub k : ℕ
  pub more : List ℕ
  pub to : k < E
  pub is : ys ≡ others xs (E - k) k
  pub begins : ys ≡ k ∷ more

pub spot_in_others : (xs : List ℕ) (left k b : ℕ) → b < length (others xs left k) → LineSpot xs (k + left) (drop b (others xs left k))
spot_in_others xs zero k b h = absurd (omega (arith, ap length (others_zero xs k)))
spot_in_others xs (suc left) k b h =
    go (elem k xs) refl b h (λ b' h'. subst (λ (E : ℕ). LineSpot xs E (drop b' (others xs left (suc k)))) (sym (add_suc_left k left)) (spot_in_others xs left (suc k) b' h'))
  where
    add_suc_left : (a c : ℕ) → a + suc c ≡ suc a + c
    add_suc_left a c = omega arith

    go : (v : Bool) → elem k xs ≡ v → (b : ℕ) → b < length (others xs (suc left) k)
        → ((b' : ℕ) → b' < length (others xs left (suc k)) → LineSpot xs (k + suc left) (drop b' (others xs left (suc k)))) → LineSpot xs (k + suc left) (drop b (others xs (suc left) k))
    go true e b h s = rw (others_in xs left k e) (s b (omega (arith, ap length (others_in xs left k e))))
    go false e zero h s =
        let z : k + suc left - k ≡ suc left = omega arith in
        record { k = k; more = others xs left (suc k); to = omega arith; is = sym (rw z); begins = others_out xs left k e }
    go false e (suc b) h s = rw (others_out xs left k e) (s b (omega (arith, ap length (others_out xs left k e))))

pub record GlobalSpot (n m : ℕ) (globals : List ℕ) (rest : List Pair) : Type 0 where
  pub p : ℕ
  pub k : ℕ
  pub more : List Pair
  pub at : p < m
  pub is : rest ≡ globals_rest n globals (m - p) p k
  pub begins : rest ≡ pair (Global p) (get_or globals p 0) k ∷ more

pub spot_in_globals : (n m : ℕ) (globals : List ℕ) (left p b : ℕ) → p + left ≡ m → b < length (global_tests n globals left p) → GlobalSpot n m globals (drop b (global_tests n globals left p))
spot_in_globals n m globals zero p b e h = absurd (omega (arith, ap length (globals_zero n globals p)))
spot_in_globals n m globals (suc left) p b e h =
    go (dec_lt b (length (others (take (suc p) globals) n 0)))
    (λ k. spot_in_globals n m globals left (suc p) (b - length (others (take (suc p) globals) n 0)) (omega arith)
    (omega (arith, ap length (globals_suc n globals left p), length-append (with_each (Global p) (get_or globals p 0) (others (take (suc p) globals) n 0)) (global_tests n globals left (suc p)), length_with (Global p) (get_or globals p 0) (others (take (suc p) globals) n 0))))
  where
    go : Dec (b < length (others (take (suc p) globals) n 0)) → ((b < length (others (take (suc p) globals) n 0) → ⊥) → GlobalSpot n m globals (drop (b - length (others (take (suc p) globals) n 0)) (global_tests n globals left (suc p)))) → GlobalSpot n m globals (drop b (global_tests n globals (suc left) p))
    go (yes k) later = here (spot_in_others (take (suc p) globals) n 0 b k)
      where
        here : LineSpot (take (suc p) globals) (0 + n) (drop b (others (take (suc p) globals) n 0)) → GlobalSpot n m globals (drop b (global_tests n globals (suc left) p))
        here s =
            let z : m - p ≡ suc left = omega arith in
            let y : 0 + n - s.k ≡ n - s.k = omega arith in
            let q : drop b (global_tests n globals (suc left) p) ≡ with_each (Global p) (get_or globals p 0) (drop b (others (take (suc p) globals) n 0)) ++ global_tests n globals left (suc p) =
            ap (drop b) (globals_suc n globals left p) ∙ drop-append-le b (with_each (Global p) (get_or globals p 0) (others (take (suc p) globals) n 0)) (global_tests n globals left (suc p)) (rw (length_with (Global p) (get_or globals p 0) (others (take (suc p) globals) n 0)) (omega arith))
            ∙ ap (λ (l : List Pair). l ++ global_tests n globals left (suc p)) (drop_with (Global p) (get_or globals p 0) b (others (take (suc p) globals) n 0)) in
            record {
              p = p;
              k = s.k;
              more = with_each (Global p) (get_or globals p 0) s.more ++ global_tests n globals left (suc p);
              at = omega arith;
              is = q ∙ ap (λ (l : List ℕ). with_each (Global p) (get_or globals p 0) l ++ global_tests n globals left (suc p)) (s.is ∙ ap (λ (x : ℕ). others (take (suc p) globals) x s.k) y)
                  ∙ sym (ap (λ (x : ℕ). globals_rest n globals x p s.k) z ∙ grest_suc n globals left p s.k);
              begins = q ∙ ap (λ (l : List ℕ). with_each (Global p) (get_or globals p 0) l ++ global_tests n globals left (suc p)) s.begins ∙ ap (λ (l : List Pair). l ++ global_tests n globals left (suc p)) (with_cons (Global p) (get_or globals p 0) s.k s.more);
            }
    go (no k) later = further (later k)
      where
        further : GlobalSpot n m globals (drop (b - length (others (take (suc p) globals) n 0)) (global_tests n globals left (suc p))) → GlobalSpot n m globals (drop b (global_tests n globals (suc left) p))
        further s =
            let q : drop b (global_tests n globals (suc left) p) ≡ drop (b - length (others (take (suc p) globals) n 0)) (global_tests n globals left (suc p)) =
            ap (drop b) (globals_suc n globals left p) ∙ drop_past b (length (others (take (suc p) globals) n 0)) (with_each (Global p) (get_or globals p 0) (others (take (suc p) globals) n 0)) (global_tests n globals left (suc p)) (length_with (Global p) (get_or globals p 0) (others (take (suc p) globals) n 0)) (omega arith) in
            record { p = s.p; k = s.k; more = s.more; at = s.at; is = q ∙ s.is; begins = q ∙ s.begins }

-- ---- the tests that are left at a cursor

tests_take : (n m : ℕ) (globals : List ℕ) (left p : ℕ) → p + left ≤ m → global_tests n globals left p ≡ global_tests n (take m globals) left p
tests_take n m globals zero p h = globals_zero n globals p ∙ sym (globals_zero n (take m globals) p)
tests_take n m globals (suc left) p h =
    globals_suc n globals left p
    ∙ ap (λ (l : List Pair). with_each (Global p) (get_or globals p 0) (others (take (suc p) globals) n 0) ++ l) (tests_take n m globals left (suc p) (omega arith))
    ∙ ap (λ (x : ℕ). with_each (Global p) x (others (take (suc p) globals) n 0) ++ global_tests n (take m globals) left (suc p)) (sym (get_or-take m globals p 0 (omega arith)))
    ∙ ap (λ (l : List ℕ). with_each (Global p) (get_or (take m globals) p 0) (others l n 0) ++ global_tests n (take m globals) left (suc p)) (sym (take-take (suc p) m globals (omega arith)))
    ∙ sym (globals_suc n (take m globals) left p)

module _ (t : Tables) where
  left_inside : (c i j : ℕ) → c < cells_to_look t
      → left_from t (cursor c i j) ≡ cells_from t.cols (list_as t) (cells_to_look t - c) c i j ++ global_tests t.lines (globals_as t) (length (globals_as t)) 0
  unfolding left_from
  left_inside c i j h =
      let z : c - cells_to_look t ≡ 0 = omega arith in
      let e : globals_rest t.lines (globals_as t) (length (globals_as t) - 0) 0 0 ≡ global_tests t.lines (globals_as t) (length (globals_as t)) 0 =
      ap (λ (x : ℕ). globals_rest t.lines (globals_as t) x 0 0) (sub-zero (length (globals_as t))) ∙ sym (globals_begin t.lines (globals_as t) (length (globals_as t)) 0) in
      rw (z, lt-ltb c (cells_to_look t) h) (ap (λ (l : List Pair). cells_from t.cols (list_as t) (cells_to_look t - c) c i j ++ l) e)

  left_beyond : (p k : ℕ) → left_from t (cursor (cells_to_look t + p) 0 k) ≡ globals_from t.lines (globals_as t) p k
  unfolding left_from
  left_beyond p k =
      let y : cells_to_look t ≤ cells_to_look t + p = omega arith in
      let z : cells_to_look t + p - cells_to_look t ≡ p = omega arith in
      rw (from_done t.cols (list_as t) (cells_to_look t) (cells_to_look t + p) 0 k y, z, le-ltb (cells_to_look t + p) (cells_to_look t) y)

  end_none : left_from t (cursor (cells_to_look t + length (globals_as t)) 0 0) ≡ []
  end_none = left_beyond (length (globals_as t)) 0 ∙ globals_done t.lines (globals_as t) (length (globals_as t)) (length (globals_as t)) 0 (omega arith)

module _ (t : Tables) (f : TablesFit t) (few : cells t ≤ 1002001) where
  C : List Pair
  C = tests_of_cells t.cols (list_as t) (cells_to_look t) 0

  G : List Pair
  G = global_tests t.lines (globals_as t) (length (globals_as t)) 0

  count_same : length (globals_as t) ≡ t.global_count
  count_same = ap length (globals_same t f) ∙ length-take-le t.global_count t.globals f.counted

  tests_same : tests_of t ≡ C ++ G
  unfolding tests_of C G
  tests_same =
      let a : cell_tests t.cols t.offsets t.items (cells t) 0 ≡ tests_of_cells t.cols (list_as t) (cells_to_look t) 0 =
      cells_same t f (cells t) 0 (omega arith) ∙ ap (λ (x : ℕ). tests_of_cells t.cols (list_as t) x 0) (sym (reach_same t f few)) in
      let b : global_tests t.lines t.globals t.global_count 0 ≡ global_tests t.lines (globals_as t) (length (globals_as t)) 0 =
      tests_take t.lines t.global_count t.globals t.global_count 0 (omega arith)
      ∙ ap (λ (l : List ℕ). global_tests t.lines l t.global_count 0) (sym (globals_same t f))
      ∙ ap (λ (x : ℕ). global_tests t.lines (globals_as t) x 0) (sym count_same) in
      ap (λ (l : List Pair). l ++ global_tests t.lines t.globals t.global_count 0) a ∙ ap (λ (l : List Pair). tests_of_cells t.cols (list_as t) (cells_to_look t) 0 ++ l) b

  in_cells : (b : ℕ) → b < length C → left_from t (cursor_of t (drop b (C ++ G))) ≡ drop b (C ++ G)
  unfolding C G
  in_cells b h = go (spot_in_cells t.cols (cells_to_look t) (list_as t) (cells_to_look t) 0 b (omega arith) h)
    where
      go : CellSpot t.cols (cells_to_look t) (list_as t) (drop b (tests_of_cells t.cols (list_as t) (cells_to_look t) 0)) → left_from t (cursor_of t (drop b (C ++ G))) ≡ drop b (C ++ G)
      go s =
          let e : drop b (tests_of_cells t.cols (list_as t) (cells_to_look t) 0 ++ global_tests t.lines (globals_as t) (length (globals_as t)) 0)
          ≡ cells_from t.cols (list_as t) (cells_to_look t - s.c) s.c s.i s.j ++ global_tests t.lines (globals_as t) (length (globals_as t)) 0 =
          drop-append-le b (tests_of_cells t.cols (list_as t) (cells_to_look t) 0) (global_tests t.lines (globals_as t) (length (globals_as t)) 0) (omega arith) ∙ ap (λ (l : List Pair). l ++ global_tests t.lines (globals_as t) (length (globals_as t)) 0) s.is in
          let k : cursor s.c s.i s.j ≡ cursor_of t (cells_from t.cols (list_as t) (cells_to_look t - s.c) s.c s.i s.j ++ global_tests t.lines (globals_as t) (length (globals_as t)) 0) =
          settled_cell t (cells_to_look t) refl (cells_from t.cols (list_as t) (cells_to_look t - s.c) s.c s.i s.j) s.c s.i s.j (record { inside = s.cell; later = s.later; among = s.inside; is = refl }) (global_tests t.lines (globals_as t) (length (globals_as t)) 0) in
          ap (left_from t) (ap (cursor_of t) e ∙ sym k) ∙ left_inside t s.c s.i s.j s.cell ∙ sym e

  in_globals : (b : ℕ) → b < length G → left_from t (cursor_of t (drop b G)) ≡ drop b G
  unfolding G
  in_globals b h = go (spot_in_globals t.lines (length (globals_as t)) (globals_as t) (length (globals_as t)) 0 b (omega arith) h)
    where
      go : GlobalSpot t.lines (length (globals_as t)) (globals_as t) (drop b (global_tests t.lines (globals_as t) (length (globals_as t)) 0)) → left_from t (cursor_of t (drop b G)) ≡ drop b G
      go s = ap (left_from t) (ap (cursor_of t) s.begins ∙ cursor_global t s.p (get_or (globals_as t) s.p 0) s.k s.more) ∙ left_beyond t s.p s.k ∙ sym s.is

  at_end : left_from t (cursor_of t []) ≡ []
  at_end = ap (left_from t) (cursor_end t) ∙ end_none t

  -- THE REST at the cursor of a bookmark
  pub left_at : (b : ℕ) → left_from t (cursor_of t (drop b (tests_of t))) ≡ drop b (tests_of t)
  left_at b = rw tests_same (go (dec_lt b (length C)) (dec_lt (b - length C) (length G)))
    where
      go : Dec (b < length C) → Dec (b - length C < length G) → left_from t (cursor_of t (drop b (C ++ G))) ≡ drop b (C ++ G)
      go (yes h) k = in_cells b h
      go (no h) (yes k) =
          let e : drop b (C ++ G) ≡ drop (b - length C) G = drop_past b (length C) C G refl (omega arith) in
          rw e (in_globals (b - length C) k)
      go (no h) (no k) =
          let e : drop b (C ++ G) ≡ [] = drop_of_length-le (C ++ G) {i = b} (omega (arith, length-append C G)) in
          rw e at_end

-- ---- beside a batch, on tables of the cells of their grid

module _ (ls : Lines) (g : Grid) (t : Tables) (b : ℕ) (same : cells t ≡ g.rows * g.cols) (fine : visit_check ls g t ≡ (Ok tt)) (within : b ≤ length (tests_of t))
    (first second : List ℕ) where
  rest_is : left_from t (cursor_at t b) ≡ drop b (tests_of t)
  rest_is =
      let s = stands ls g t fine in
      left_at t s.tables (rw same (cells_few ls g t s)) b

  lines_pass : and_then (lengths_check ls) (count_check (count ls)) ≡ Ok tt
  unfolding visit_check lines_check
  lines_pass =
      let a : lines_check ls ≡ (Ok tt) = and_then_left _ _ fine in
      let l : lengths_check ls ≡ (Ok tt) = and_then_left _ _ a in
      let c : count_check (count ls) ≡ (Ok tt) = and_then_left _ _ (and_then_right _ _ a) in
      and_then_fine _ _ l ∙ c

  bookmark_passes : bookmark_check t b ≡ Ok tt
  unfolding bookmark_check unless
  bookmark_passes = rw (le-leb b (length (tests_of t)) within)

  outputs_then : (c : Check) (x y : Answer (List Pair)) → x ≡ y → (and_then c (Ok tt) then x) ≡ (c then y)
  unfolding ◌then◌ and_then
  outputs_then (Ok _) x y e = e
  outputs_then (Err r) x y e = refl

  passed_all : (v w : Check) (x : Answer (List Pair)) → v ≡ (Ok tt) → w ≡ (Ok tt) → (v then w then x) ≡ x
  unfolding ◌then◌
  passed_all v w x p q = rw (p, q)

  -- THE TESTS of `next` from the cursor of a bookmark are those of a batch from the bookmark. The answer and both outputs of each are one function of them.
  pub join : next_tests ls t (cursor_at t b) first second ≡ batch_tests ls g t b first second
  unfolding next_tests outputs_lines_check batch_tests tests_from
  join =
      let e : gives (left_from t (cursor_at t b)) ≡ (visit_check ls g t then bookmark_check t b then gives (drop b (tests_of t))) =
      ap gives rest_is ∙ sym (passed_all (visit_check ls g t) (bookmark_check t b) (gives (drop b (tests_of t))) fine bookmark_passes) in
      rw lines_pass (outputs_then (outputs_check first second) _ _ e)

  -- both outputs hold afterwards what a batch leaves in them
  pub join_outputs : (first' second' : List ℕ) (r : (Result Went Refusal))
      → NextIs ls t (cursor_at t b) first second first' second' r
      → (first' ≡ pairs_left ls (length first) firsts (batch_tests ls g t b first second) first)
      × (second' ≡ pairs_left ls (length first) seconds (batch_tests ls g t b first second) second)
  join_outputs first' second' r w =
      (w.first_is ∙ ap (λ (x : Answer (List Pair)). pairs_left ls (length first) firsts x first) join, w.second_is ∙ ap (λ (x : Answer (List Pair)). pairs_left ls (length first) seconds x second) join)

  -- the cursor that `next` answers is that of the bookmark that a batch answers
  pub in_step : cursor_of t (drop (length (made ls (drop b (tests_of t)) (length first))) (drop b (tests_of t)))
      ≡ cursor_of t (drop (tally_of ls (drop b (tests_of t)) b (length first)).bookmark (tests_of t))
  in_step = ap (cursor_of t) (drop-drop (length (made ls (drop b (tests_of t)) (length first))) b (tests_of t))

-- Where each test of fit tables stands, and that `start` answers it; and the law that joins `next` to a batch. Assumes nothing.
use Rattle.std.specs.Prelude.{Ok, Err, Some, None, Result, Option}
use Rattle.refusals.specs.Refusals.{Check}
use mathlib.Core.Path.{◌≡◌, refl, sym, ap, ◌∙◌}
use mathlib.Core.List.{List, [], ◌∷◌, ◌++◌}
use Prim.Native.Nat.{ℕ, zero, suc, ◌+◌, ◌≤◌, ◌<◌}
use native.Mathlib.Omega.{arith}
use lib.ListN.{length, get_or, take, drop}
use Rattle.refusals.specs.declared.Refusal.{Refusal}
use Rattle.refusals.specs.Refusals.{Answer, refused, gives, ◌then◌, answer_by}
use Rattle.grid.specs.declared.Grid.{Grid}
use Rattle.grid.specs.Domain.{Lines}
use Rattle.tables.specs.Tables.{Tables, cells, list_in}
use Rattle.seek.specs.declared.Place.{Place}
use Rattle.seek.specs.declared.Place.TheVariants.{Cell, Global}
use Rattle.visit.specs.declared.Test.{Test}
use Rattle.seek.specs.Tests.{Pair, with_each, pairs, place_of, cell_tests, others, global_tests, tests_of}
use Rattle.seek.specs.Bookmarks.{visit_check, bookmark_check, tests_from}
use Rattle.visit.specs.Entries.{next_test, test_at, test_of}
use Rattle.seek.proofs.Clauses.{cells_zero, cells_suc, with_nil, with_cons, pairs_nil, pairs_cons, globals_zero, globals_suc}
use Rattle.seek.proofs.Standing.{stands}
use Rattle.resume.specs.declared.Cursor.{Cursor}
use Rattle.resume.specs.AsTheyAre.{cells_to_look, globals_as}
use Rattle.resume.specs.Cursors.{cursor, spot_of, cursor_of}
use Rattle.resume.specs.Answers.{start_answer}
use Rattle.resume.specs.Inside.{SpotAsks}
use Rattle.resume.proofs.CursorLaws.{cursor_end}

-- ---- `start`, by what one test at the bookmark is

cursor_first : (t : Tables) (p : Pair) (ps : List Pair) → cursor_of t (p ∷ ps) ≡ spot_of t p.place p.first p.second
unfolding cursor_of
cursor_first t p ps = refl

-- what one test is
one : Lines → Answer (List Pair) → Result (Option Test) Refusal
one ls x = answer_by Err (next_test ls) x

-- the cursor of what is left
begin : Tables → Answer (List Pair) → Result Cursor Refusal
begin t x = answer_by Err (λ rest. Ok (cursor_of t rest)) x

refused_by : (ls : Lines) (t : Tables) (r : Refusal) (x : Answer (List Pair)) → Err r ≡ one ls x → Err r ≡ begin t x
unfolding one begin answer_by next_test
refused_by ls t r (refused s) h = let q : r ≡ s = cc in ap (λ (s : Refusal). Err s) q
refused_by ls t r (gives []) h = let z : ◌≡◌ {A = ℕ} 0 1 = cc in absurd (omega arith)
refused_by ls t r (gives (p ∷ ps)) h = let z : ◌≡◌ {A = ℕ} 0 1 = cc in absurd (omega arith)

made_by : (ls : Lines) (t : Tables) (x : Test) (a : Answer (List Pair)) → Ok (Some x) ≡ one ls a → Ok (spot_of t x.place x.first x.second) ≡ begin t a
unfolding one begin answer_by next_test
made_by ls t x (refused s) h = let z : ◌≡◌ {A = ℕ} 0 1 = cc in absurd (omega arith)
made_by ls t x (gives []) h = let z : ◌≡◌ {A = ℕ} 0 1 = cc in absurd (omega arith)
made_by ls t x (gives (p ∷ ps)) h = let q : x ≡ test_of ls p = cc in rw q (ap (λ (k : Cursor). Ok k) (sym (cursor_first t p ps)))

end_by : (ls : Lines) (t : Tables) (a : Answer (List Pair)) → Ok None ≡ one ls a → Ok (cursor (cells_to_look t + length (globals_as t)) 0 0) ≡ begin t a
unfolding one begin answer_by next_test
end_by ls t (refused s) h = let z : ◌≡◌ {A = ℕ} 0 1 = cc in absurd (omega arith)
end_by ls t (gives []) h = ap (λ (k : Cursor). Ok k) (sym (cursor_end t))
end_by ls t (gives (p ∷ ps)) h = let z : ◌≡◌ {A = ℕ} 0 1 = cc in absurd (omega arith)

-- ---- each test of a full visit stands in a cell or at a position within the globals

InPlace : ℕ → Place → Type 0
InPlace m (Cell row col) = Unit {0}
InPlace m (Global p) = p < m

AllIn : ℕ → List Pair → Type 0
AllIn m [] = Unit {0}
AllIn m (p ∷ ps) = InPlace m p.place × AllIn m ps

all_none : (m : ℕ) → AllIn m []
unfolding AllIn
all_none m = tt

all_append : (m : ℕ) (xs ys : List Pair) → AllIn m xs → AllIn m ys → AllIn m (xs ++ ys)
unfolding AllIn
all_append m [] ys a b = b
all_append m (x ∷ xs) ys a b = (a.0, all_append m xs ys a.1 b)

all_with : (m : ℕ) (pl : Place) (a : ℕ) (bs : List ℕ) → InPlace m pl → AllIn m (with_each pl a bs)
unfolding AllIn
all_with m pl a [] h = rw with_nil tt
all_with m pl a (b ∷ bs) h = rw with_cons (h, all_with m pl a bs h)

all_pairs : (m : ℕ) (pl : Place) (xs : List ℕ) → InPlace m pl → AllIn m (pairs pl xs)
all_pairs m pl [] h = rw pairs_nil (all_none m)
all_pairs m pl (x ∷ xs) h = rw pairs_cons (all_append m (with_each pl x xs) (pairs pl xs) (all_with m pl x xs h) (all_pairs m pl xs h))

in_cell : (m cols c : ℕ) → InPlace m (place_of cols c)
unfolding InPlace place_of
in_cell m cols c = tt

in_global : (m p : ℕ) → p < m → InPlace m (Global p)
unfolding InPlace
in_global m p h = h

all_cells : (m cols : ℕ) (offsets items : List ℕ) (left c : ℕ) → AllIn m (cell_tests cols offsets items left c)
all_cells m cols offsets items zero c = rw (cells_zero cols offsets items c) (all_none m)
all_cells m cols offsets items (suc left) c =
    rw (cells_suc cols offsets items left c)
    (all_append m (pairs (place_of cols c) (list_in offsets items c)) (cell_tests cols offsets items left (suc c)) (all_pairs m (place_of cols c) (list_in offsets items c) (in_cell m cols c)) (all_cells m cols offsets items left (suc c)))

all_globals : (m n : ℕ) (globals : List ℕ) (left p : ℕ) → p + left ≤ m → AllIn m (global_tests n globals left p)
all_globals m n globals zero p h = rw (globals_zero n globals p) (all_none m)
all_globals m n globals (suc left) p h =
    rw (globals_suc n globals left p)
    (all_append m (with_each (Global p) (get_or globals p 0) (others (take (suc p) globals) n 0)) (global_tests n globals left (suc p))
    (all_with m (Global p) (get_or globals p 0) (others (take (suc p) globals) n 0) (in_global m p (omega arith))) (all_globals m n globals left (suc p) (omega arith)))

all_tests : (t : Tables) → AllIn t.global_count (tests_of t)
unfolding tests_of
all_tests t =
    all_append t.global_count (cell_tests t.cols t.offsets t.items (cells t) 0) (global_tests t.lines t.globals t.global_count 0)
    (all_cells t.global_count t.cols t.offsets t.items (cells t) 0) (all_globals t.global_count t.lines t.globals t.global_count 0 (omega arith))

all_drop : (m b : ℕ) (xs : List Pair) → AllIn m xs → AllIn m (drop b xs)
unfolding AllIn
all_drop m zero xs a = a
all_drop m (suc b) [] a = a
all_drop m (suc b) (x ∷ xs) a = all_drop m b xs a.1

spot_asks : (globals : List ℕ) (m : ℕ) (pl : Place) → m ≤ length globals → InPlace m pl → SpotAsks globals pl
unfolding InPlace
spot_asks globals m (Cell row col) h a = tt
spot_asks globals m (Global p) h a = omega arith

in_by : (ls : Lines) (t : Tables) (x : Test) (ps : List Pair) → Ok (Some x) ≡ next_test ls ps → AllIn t.global_count ps → InPlace t.global_count x.place
unfolding next_test AllIn
in_by ls t x [] h a = let z : ◌≡◌ {A = ℕ} 0 1 = cc in absurd (omega arith)
in_by ls t x (p ∷ ps) h a = let q : x ≡ test_of ls p = cc in rw q a.0

-- what the tests are that are left at a bookmark that is not refused
from_is : (v w : Check) (xs : List Pair) (x : Answer (List Pair)) → x ≡ (v then w then gives xs) → (y : List Pair) → x ≡ gives y → (v ≡ (Ok tt)) × (y ≡ xs)
unfolding ◌then◌
from_is (Ok _) (Ok _) xs x e y k = let q : gives y ≡ gives xs = sym k ∙ e in (refl, cc)
from_is (Ok _) (Err r) xs x e y k = let q : gives y ≡ refused r = sym k ∙ e in let z : ◌≡◌ {A = ℕ} 0 1 = cc in absurd (omega arith)
from_is (Err r) w xs x e y k = let q : gives y ≡ refused r = sym k ∙ e in let z : ◌≡◌ {A = ℕ} 0 1 = cc in absurd (omega arith)

asks_by : (ls : Lines) (g : Grid) (t : Tables) (b : ℕ) (x : Test) (a : Answer (List Pair)) → a ≡ tests_from ls g t b → Ok (Some x) ≡ one ls a → SpotAsks t.globals x.place
unfolding one answer_by tests_from
asks_by ls g t b x (refused s) e h = let z : ◌≡◌ {A = ℕ} 0 1 = cc in absurd (omega arith)
asks_by ls g t b x (gives ps) e h =
    let f = from_is (visit_check ls g t) (bookmark_check t b) (drop b (tests_of t)) (gives ps) e ps refl in
    let s = stands ls g t f.0 in
    spot_asks t.globals t.global_count x.place s.tables.counted
    (in_by ls t x ps h (rw f.1 (all_drop t.global_count b (tests_of t) (all_tests t))))

module _ (ls : Lines) (g : Grid) (t : Tables) (b : ℕ) where
  pub start_refused : (r : Refusal) → Err r ≡ test_at ls g t b → Err r ≡ start_answer ls g t b
  unfolding test_at start_answer one begin
  start_refused r e = refused_by ls t r (tests_from ls g t b) e

  pub start_made : (x : Test) → Ok (Some x) ≡ test_at ls g t b → Ok (spot_of t x.place x.first x.second) ≡ start_answer ls g t b
  unfolding test_at start_answer one begin
  start_made x e = made_by ls t x (tests_from ls g t b) e

  pub start_asks : (x : Test) → Ok (Some x) ≡ test_at ls g t b → SpotAsks t.globals x.place
  unfolding test_at one
  start_asks x e = asks_by ls g t b x (tests_from ls g t b) refl e

  pub start_end : Ok None ≡ test_at ls g t b → (m n : ℕ) → m ≡ cells_to_look t → n ≡ length (globals_as t) → Ok (cursor (m + n) 0 0) ≡ start_answer ls g t b
  unfolding test_at start_answer one begin
  start_end e m n p q = rw (p, q) (end_by ls t (tests_from ls g t b) e)

-- How many tests there are. Assumes nothing.
use mathlib.Core.Path.{◌≡◌, refl, sym}
use mathlib.Core.List.{List, [], ◌∷◌}
use Prim.Native.Nat.{ℕ, zero, suc, ◌+◌, ◌-◌, ◌*◌, ◌/◌, ◌≤◌, ◌<◌, ◌^◌}
use native.Mathlib.Nat.{add-zero, zero-add, suc-mul, mul-suc, zero-mul, mul-zero, mul-le-mul_right}
use native.Mathlib.Omega.{arith}
use lib.ListN.{length, take, length-append}
use lib.Seq.{length-take-le}
use Rattle.slices.specs.Lists.{Below, Rising}
use Rattle.slices.proofs.Distinct.{length_rising}
use Rattle.grid.specs.declared.Grid.{Grid}
use Rattle.grid.specs.Domain.{Lines, count}
use Rattle.tables.specs.Tables.{Tables, cells, list_in, beside}
use Rattle.tables.specs.Fit.{Increasing}
use Rattle.seek.specs.declared.Place.{Place}
use Rattle.seek.specs.Tests.{pairs, cell_tests, others, global_tests, tests_of}
use Rattle.tables.specs.InsideFit.{GlobalsFit}
use Rattle.seek.specs.Inside.{tri}
use Rattle.seek.proofs.Clauses.{length_with, pairs_nil, pairs_cons, cells_zero, cells_suc, globals_zero, globals_suc}
use Rattle.seek.proofs.OtherLines.{others_count, rising_take, below_take}
use Rattle.tables.proofs.Parts.{fit_globals}
use Rattle.seek.proofs.Standing.{Stands}

pub tri_suc : (n : ℕ) → tri (suc n) ≡ n + tri n
unfolding tri
tri_suc n = refl

pub tri_zero : tri 0 ≡ 0
unfolding tri
tri_zero = refl

-- twice it, and n, is n squared
pub tri_twice : (n : ℕ) → tri n + tri n + n ≡ n * n
tri_twice zero = rw (tri_zero, mul-zero)
tri_twice (suc n) = rw (tri_suc, suc-mul, mul-suc) (omega (arith, tri_twice n))

pub tri_is : (n : ℕ) → (n * n - n) / 2 ≡ tri n
tri_is n = omega (arith, tri_twice n)

tri_more : (d n : ℕ) → tri n ≤ tri (d + n)
tri_more zero n = rw zero-add (omega arith)
tri_more (suc d) n = let e : suc d + n ≡ suc (d + n) = omega arith in rw (e, tri_suc) (omega (arith, tri_more d n))

pub tri_mono : (k n : ℕ) → k ≤ n → tri k ≤ tri n
tri_mono k n h = let e : (n - k) + k ≡ n = omega arith in rw e at (tri_more (n - k) k)

pub length_pairs : (pl : Place) (bs : List ℕ) → length (pairs pl bs) ≡ tri (length bs)
length_pairs pl [] = rw (pairs_nil, tri_zero)
length_pairs pl (b ∷ bs) = rw (pairs_cons, length-append, length_with, length_pairs pl bs, tri_suc)

-- the lines of the global at p
pub lines_count : (n m : ℕ) (globals : List ℕ) → GlobalsFit n m globals → (p : ℕ) → p < m → length (others (take (suc p) globals) n 0) + suc p ≡ n
lines_count n m globals t p h =
    let l : suc p ≤ length globals = omega (arith, t.long) in
    let r : Rising 0 (take (suc p) globals) = rising_take globals (suc p) 0 l (λ k. omega arith) (λ a b i j. t.rises a b i (omega arith)) in
    let b : Below n (take (suc p) globals) = below_take globals (suc p) n l (λ a i. t.below a (omega arith)) in
    omega (arith, others_count n 0 n (take (suc p) globals) (sym (zero-add n)) r b, length-take-le (suc p) globals l)

-- G (n - 1) - G (G - 1) / 2, with nothing taken away
pub length_globals : (n m : ℕ) (globals : List ℕ) → GlobalsFit n m globals → (left p : ℕ) → p + left ≤ m
    → length (global_tests n globals left p) + tri (p + left) + left ≡ left * n + tri p
length_globals n m globals t zero p h = rw (add-zero p, zero-mul, globals_zero) (omega arith)
length_globals n m globals t (suc left) p h =
    let e : p + suc left ≡ suc p + left = omega arith in
    rw (e, suc-mul, globals_suc, length-append, length_with)
    (omega (arith, length_globals n m globals t left (suc p) (omega arith), lines_count n m globals t p (omega arith), tri_suc p))

-- ---- all of them fit 64 bits

-- a list of at most 65,536 lines has fewer than 2 ^ 31 tests
pub tri_few : (k : ℕ) → k ≤ 65536 → tri k ≤ 2147450880
tri_few k h = omega (arith, tri_mono k 65536 h, tri_twice 65536)

pub length_increasing : (n : ℕ) (xs : List ℕ) → Increasing n xs → length xs ≤ n
length_increasing n xs i = omega (arith, length_rising 0 n xs (omega arith) i.rises i.below)

cells_most : (cols : ℕ) (offsets items : List ℕ) (k : ℕ) (left c : ℕ) → ((x : ℕ) → c ≤ x → x < c + left → length (list_in offsets items x) ≤ k)
    → length (cell_tests cols offsets items left c) ≤ left * tri k
cells_most cols offsets items k zero c h = rw cells_zero (omega arith)
cells_most cols offsets items k (suc left) c h =
    rw (cells_suc, length-append, length_pairs, suc-mul)
    (omega (arith, tri_mono (length (list_in offsets items c)) k (h c (omega arith) (omega arith)), cells_most cols offsets items k left (suc c) (λ x a b. h x (omega arith) (omega arith))))

-- the same over plain numbers: c cells, g globals, n lines
fits : (c g n s x y : ℕ) → c ≤ 1002001 → n ≤ 65536 → g ≤ n → x ≤ c * tri n → y ≤ g * n → s ≡ x + y → s < 2 ^ 64
fits c g n s x y hc hn hg hx hy e =
    let t : tri n ≤ 2147450880 = omega (arith, tri_mono n 65536 hn, tri_twice 65536) in
    let u : c * tri n ≤ 1002001 * tri n = mul-le-mul_right (tri n) hc in
    let v : g * n ≤ 65536 * n = mul-le-mul_right n (omega arith) in
    omega arith

pub total_fits : (ls : Lines) (g : Grid) (offsets items globals : List ℕ) (m : ℕ) → Stands ls g (beside ls g offsets items globals m)
    → length (tests_of (beside ls g offsets items globals m)) < 2 ^ 64
unfolding tests_of
total_fits ls g offsets items globals m s =
    let t : Tables = beside ls g offsets items globals m in
    let n : ℕ = count ls in
    let c = cells_most g.cols offsets items n (cells t) 0 (λ x a b. length_increasing n (list_in offsets items x) (s.tables.lists.lists x (omega arith))) in
    let k : length (take m globals) ≤ n = length_increasing n (take m globals) s.tables.globals in
    let i : m ≤ n = omega (arith, length-take-le m globals s.tables.counted) in
    let d = length_globals n m globals (fit_globals t s.tables) m 0 (omega arith) in
    fits (g.rows * g.cols) m n _ (length (cell_tests g.cols offsets items (cells t) 0)) (length (global_tests n globals m 0))
    s.grid.counts.cells s.lines.few i c (omega (arith, tri_zero))
    (length-append (cell_tests g.cols offsets items (cells t) 0) (global_tests n globals m 0))

-- The number of tests of a full visit: the sum of k (k - 1) / 2 over list lengths k, plus G (n - 1) - G (G - 1) / 2 for G globals among
-- n lines. Assumes nothing.
use mathlib.Core.Path.{◌≡◌, refl, sym, ap, ◌∙◌}
use mathlib.Core.List.{List}
use Prim.Native.Nat.{ℕ, zero, suc, ◌+◌, ◌-◌, ◌*◌, ◌≤◌}
use native.Mathlib.Nat.{add-zero, zero-add, suc-mul, mul-suc, mul-zero}
use native.Mathlib.Omega.{arith}
use lib.ListN.{length, length-append}
use lib.Seq.{length-take-le}
use Rattle.tables.specs.Tables.{Tables, cells, list_in, list_of, globals_of}
use Rattle.tables.specs.Fit.{TablesFit}
use Rattle.seek.specs.Tests.{pairs, place_of, cell_tests, global_tests, tests_of}
use Rattle.seek.specs.Inside.{tri}
use Rattle.seek.proofs.Clauses.{cells_zero, cells_suc}
use Rattle.seek.proofs.Lengths.{tri_zero, tri_suc, tri_twice, length_pairs, length_globals, length_increasing}
use Rattle.tables.proofs.Parts.{fit_globals}
use Rattle.visit.specs.Words.{half_down, sum_below}

-- k (k - 1) / 2 is what the numbers below k add up to
pub half_is : (k : ℕ) → half_down k ≡ tri k
half_is zero = sym tri_zero
half_is (suc k) =
    let e : suc k - 1 ≡ k = omega arith in
    rw (e, tri_suc) (omega (arith, tri_twice k, suc-mul k k))

pub sum_zero : (f : ℕ → ℕ) → sum_below 0 f ≡ 0
unfolding sum_below
sum_zero f = refl

pub sum_suc : (m : ℕ) (f : ℕ → ℕ) → sum_below (suc m) f ≡ sum_below m f + f m
unfolding sum_below
sum_suc m f = refl

-- a sum from its first term on
pub sum_front : (m : ℕ) (f : ℕ → ℕ) → sum_below (suc m) f ≡ f 0 + sum_below m (λ c. f (suc c))
sum_front zero f = rw (sum_suc, sum_zero, sum_zero) (omega arith)
sum_front (suc m) f = sum_suc (suc m) f ∙ rw (sum_front m f, sum_suc m (λ c. f (suc c))) (omega arith)

pub sum_same : (m : ℕ) (f g : ℕ → ℕ) → ((x : ℕ) → f x ≡ g x) → sum_below m f ≡ sum_below m g
sum_same zero f g h = simp sum_zero
sum_same (suc m) f g h = simp (sum_suc, sum_same m f g h, h m)

cells_number : (cols : ℕ) (offsets items : List ℕ) (left c : ℕ) → length (cell_tests cols offsets items left c) ≡ sum_below left (λ x. half_down (length (list_in offsets items (c + x))))
cells_number cols offsets items zero c = rw (cells_zero, sum_zero)
cells_number cols offsets items (suc left) c =
    let f : ℕ → ℕ = λ x. half_down (length (list_in offsets items (c + x))) in
    let g : ℕ → ℕ = λ x. half_down (length (list_in offsets items (suc c + x))) in
    let here : length (pairs (place_of cols c) (list_in offsets items c)) ≡ f 0 =
    length_pairs (place_of cols c) (list_in offsets items c) ∙ sym (half_is (length (list_in offsets items c))) ∙ ap (λ (y : ℕ). half_down (length (list_in offsets items y))) (sym (add-zero c)) in
    let later : sum_below left g ≡ sum_below left (λ x. f (suc x)) = sum_same left g (λ x. f (suc x)) (λ x. ap (λ (y : ℕ). half_down (length (list_in offsets items y))) (shift c x)) in
    ap length (cells_suc cols offsets items left c)
    ∙ length-append (pairs (place_of cols c) (list_in offsets items c)) (cell_tests cols offsets items left (suc c))
    ∙ omega (arith, here, cells_number cols offsets items left (suc c), later, sum_front left f)
  where
    shift : (c x : ℕ) → suc c + x ≡ c + suc x
    shift c x = omega arith

-- G (n - 1) - G (G - 1) / 2, over plain numbers
globals_number : (g n x : ℕ) → g ≤ n → x + tri g + g ≡ g * n → x ≡ g * (n - 1) - half_down g
globals_number g zero x h e = omega (arith, half_is g, mul-zero g)
globals_number g (suc n) x h e =
    let z : suc n - 1 ≡ n = omega arith in
    rw z (omega (arith, half_is g, mul-suc g n))

-- THE NUMBER OF TESTS
pub tests_number : (t : Tables) → TablesFit t
    → length (tests_of t) ≡ sum_below (cells t) (λ c. half_down (length (list_of t c))) + (t.global_count * (t.lines - 1) - half_down t.global_count)
unfolding tests_of
tests_number t f =
    let m : ℕ = t.global_count in
    let i : m ≤ t.lines = omega (arith, length_increasing t.lines (globals_of t) f.globals, length-take-le m t.globals f.counted) in
    let g = length_globals t.lines m t.globals (fit_globals t f) m 0 (omega arith) in
    let x : length (global_tests t.lines t.globals m 0) ≡ m * (t.lines - 1) - half_down m =
    globals_number m t.lines (length (global_tests t.lines t.globals m 0)) i (omega (arith, rw (zero-add m, tri_zero) at g)) in
    let c : length (cell_tests t.cols t.offsets t.items (cells t) 0) ≡ sum_below (cells t) (λ c. half_down (length (list_of t c))) =
    cells_number t.cols t.offsets t.items (cells t) 0
    ∙ sum_same (cells t) (λ x. half_down (length (list_in t.offsets t.items (0 + x)))) (λ c. half_down (length (list_of t c))) (λ x. ap (λ (y : ℕ). half_down (length (list_of t y))) (zero-add x)) in
    length-append (cell_tests t.cols t.offsets t.items (cells t) 0) (global_tests t.lines t.globals m 0) ∙ rw (c, x)

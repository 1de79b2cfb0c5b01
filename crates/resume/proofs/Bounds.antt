-- How many tests can be left of the globals: few enough to be counted in 64 bits. Assumes nothing.
use mathlib.Core.Path.{◌≡◌, refl, sym, ap, ◌∙◌}
use mathlib.Core.Bool.{Bool, true, false}
use mathlib.Core.List.{List, [], ◌++◌}
use Prim.Native.Nat.{ℕ, zero, suc, ◌-◌, ◌*◌, ◌≤◌, ◌<◌, min}
use native.Mathlib.Decide.{dec_lt}
use native.Mathlib.Omega.{arith}
use lib.ListN.{length, get_or, take, length-append}
use Rattle.slices.specs.Lists.{elem}
use Rattle.slices.proofs.Members.{below_at}
use Rattle.slices.proofs.Distinct.{rising_at}
use Rattle.tables.specs.Fit.{Increasing}
use Rattle.seek.specs.declared.Place.TheVariants.{Global}
use Rattle.seek.specs.Tests.{with_each, others, global_tests}
use Rattle.tables.specs.InsideFit.{GlobalsFit}
use Rattle.seek.specs.Cursors.{globals_rest}
use Rattle.visit.specs.Inside.{GlobalAsks}
use Rattle.seek.proofs.Clauses.{length_with, others_zero, others_in, others_out, globals_zero, globals_suc, grest_zero, grest_suc}
use Rattle.seek.proofs.Lengths.{length_increasing}
use Rattle.seek.proofs.GlobalRests.{globals_done}
use Rattle.resume.specs.Cursors.{globals_from}
use Rattle.resume.specs.Inside.{Passed}

-- ---- the globals

others_most : (xs : List ℕ) (left k : ℕ) → length (others xs left k) ≤ left
others_most xs zero k = omega (arith, ap length (others_zero xs k))
others_most xs (suc left) k = go (elem k xs) refl (others_most xs left (suc k))
  where
    go : (b : Bool) → elem k xs ≡ b → length (others xs left (suc k)) ≤ left → length (others xs (suc left) k) ≤ suc left
    go true e m = omega (arith, ap length (others_in xs left k e))
    go false e m = omega (arith, ap length (others_out xs left k e))

module _ (n : ℕ) (few : n ≤ 65536) (globals : List ℕ) where
  tests_most : (left p : ℕ) → length (global_tests n globals left p) ≤ left * 65536
  tests_most zero p = omega (arith, ap length (globals_zero n globals p))
  tests_most (suc left) p =
      omega (
        arith,
        ap length (globals_suc n globals left p),
        length-append (with_each (Global p) (get_or globals p 0) (others (take (suc p) globals) n 0)) (global_tests n globals left (suc p)),
        length_with (Global p) (get_or globals p 0) (others (take (suc p) globals) n 0),
        others_most (take (suc p) globals) n 0,
        tests_most left (suc p),
      )

  rest_most : (left p k : ℕ) → length (globals_rest n globals left p k) ≤ left * 65536
  rest_most zero p k = omega (arith, ap length (grest_zero n globals p k))
  rest_most (suc left) p k =
      omega (
        arith,
        ap length (grest_suc n globals left p k),
        length-append (with_each (Global p) (get_or globals p 0) (others (take (suc p) globals) (n - k) k)) (global_tests n globals left (suc p)),
        length_with (Global p) (get_or globals p 0) (others (take (suc p) globals) (n - k) k),
        others_most (take (suc p) globals) (n - k) k,
        tests_most left (suc p),
      )

  module _ (w : Increasing n globals) where
    pub globals_few : (p k : ℕ) → length (globals_from n globals p k) ≤ 4294967296
    globals_few p k = omega (arith, rest_most (length globals - p) p k, length_increasing n globals w)

    -- globals that increase, as the run asks for them
    pub globals_table : GlobalsFit n (length globals) globals
    globals_table =
        record {
          long = omega arith;
          rises = λ a b h k. rising_at 0 globals a b w.rises h k;
          below = λ a h. below_at n globals a w.below h;
        }

    pub globals_start : (p k q : ℕ) → p ≤ length globals → k ≤ n → Passed globals p k q → GlobalAsks n (length globals) globals p q k
    globals_start p k q hp hk s =
        record {
          table = globals_table;
          place = record { at_most = hp; q_small = s.q_small; k_small = hk; passed = s.passed; ahead = s.ahead };
        }

-- a cursor beyond the last global, or beyond the last line
clip_line : (n : ℕ) (globals : List ℕ) (left p k : ℕ) → globals_rest n globals left p (min k n) ≡ globals_rest n globals left p k
clip_line n globals left p k = go (dec_lt k n)
  where
    go : Dec (k < n) → globals_rest n globals left p (min k n) ≡ globals_rest n globals left p k
    go (yes h) = let e : min k n ≡ k = omega arith in rw e
    go (no h) =
        let e : min k n ≡ n = omega arith in
        rw e (past left)
      where
        past : (left : ℕ) → globals_rest n globals left p n ≡ globals_rest n globals left p k
        past zero = grest_zero n globals p n ∙ sym (grest_zero n globals p k)
        past (suc left) =
            let a : n - n ≡ 0 = omega arith in
            let b : n - k ≡ 0 = omega arith in
            let x : others (take (suc p) globals) (n - n) n ≡ [] = rw a (others_zero (take (suc p) globals) n) in
            let y : others (take (suc p) globals) (n - k) k ≡ [] = rw b (others_zero (take (suc p) globals) k) in
            grest_suc n globals left p n
            ∙ ap (λ (l : List ℕ). with_each (Global p) (get_or globals p 0) l ++ global_tests n globals left (suc p)) (x ∙ sym y)
            ∙ sym (grest_suc n globals left p k)

pub clip : (n : ℕ) (globals : List ℕ) (p k : ℕ) → globals_from n globals (min p (length globals)) (min k n) ≡ globals_from n globals p k
clip n globals p k = go (dec_lt p (length globals))
  where
    go : Dec (p < length globals) → globals_from n globals (min p (length globals)) (min k n) ≡ globals_from n globals p k
    go (yes h) = let e : min p (length globals) ≡ p = omega arith in rw e (clip_line n globals (length globals - p) p k)
    go (no h) =
        let e : min p (length globals) ≡ length globals = omega arith in
        rw e (globals_done n globals (length globals) (length globals) (min k n) (omega arith) ∙ sym (globals_done n globals (length globals) p k (omega arith)))

-- What is left of the globals' tests: a run of lines, a global that is passed over, the next global. Assumes nothing.
use mathlib.Core.Path.{◌≡◌, sym, ap, subst, ◌∙◌}
use mathlib.Core.Bool.{true, false}
use mathlib.Core.List.{List, [], ◌++◌, append_assoc}
use Prim.Native.Nat.{ℕ, zero, suc, ◌+◌, ◌-◌, ◌≤◌, ◌<◌}
use native.Mathlib.Nat.{sub-zero}
use native.Mathlib.Numerals.{add-one}
use native.Mathlib.Decide.{ℕ_discrete, dec_lt}
use native.Mathlib.Omega.{arith}
use lib.ListN.{length, get_or, take}
use lib.Seq.{get_or-take, length-take-le}
use borrow.Author.Tests.{le-leb, lt-leb}
use Rattle.slices.specs.Lists.{elem}
use Rattle.slices.proofs.Members.{elem_at}
use Rattle.seek.specs.declared.Place.TheVariants.{Global}
use Rattle.seek.specs.Tests.{Pair, with_each, others, global_tests}
use Rattle.tables.specs.InsideFit.{GlobalsFit}
use Rattle.seek.specs.Inside.{numbers, stop_if, stop_of}
use Rattle.seek.specs.Cursors.{globals_rest, LineFits}
use Rattle.seek.proofs.Clauses.{left_suc, with_nil, with_append, globals_suc, globals_zero, grest_suc, grest_zero, others_zero, others_in}
use Rattle.seek.proofs.OtherLines.{elem_none, others_run}

pub stop_in : (n : ℕ) (globals : List ℕ) (p q : ℕ) → q ≤ p → stop_of n globals p q ≡ get_or globals q 0
unfolding stop_of stop_if
stop_in n globals p q h = rw (le-leb q p h)

pub stop_out : (n : ℕ) (globals : List ℕ) (p q : ℕ) → p < q → stop_of n globals p q ≡ n
unfolding stop_of stop_if
stop_out n globals p q h = rw (lt-leb q p h)

module _ (n : ℕ) (globals : List ℕ) where
  pub globals_begin : (left p : ℕ) → global_tests n globals left p ≡ globals_rest n globals left p 0
  globals_begin zero p = simp (globals_zero, grest_zero)
  globals_begin (suc left) p = simp (globals_suc, grest_suc, sub-zero)

  pub globals_done : (m p k : ℕ) → m ≤ p → globals_rest n globals (m - p) p k ≡ []
  globals_done m p k h = let z : m - p ≡ 0 = omega arith in simp (z, grest_zero)

module _ (n m : ℕ) (globals : List ℕ) (t : GlobalsFit n m globals) (p q k : ℕ) (f : LineFits n m globals p q k) (h : p < m) where
  -- the lines of this global, and what comes after
  pub grest_at : (x : ℕ) → globals_rest n globals (m - p) p x ≡ with_each (Global p) (get_or globals p 0) (others (take (suc p) globals) (n - x) x) ++ global_tests n globals (m - suc p) (suc p)
  grest_at x = rw (left_suc m p h) (grest_suc n globals (m - suc p) p x)

  pub stop_most : stop_of n globals p q ≤ n
  stop_most = go (dec_lt p q)
    where
      go : Dec (p < q) → stop_of n globals p q ≤ n
      go (yes l) = omega (arith, stop_out n globals p q l)
      go (no l) =
          let l₁ : q ≤ p = omega arith in
          omega (arith, stop_in n globals p q l₁, t.below q (omega arith))

  pub k_most : k ≤ stop_of n globals p q
  k_most = go (dec_lt p q)
    where
      go : Dec (p < q) → k ≤ stop_of n globals p q
      go (yes l) = omega (arith, stop_out n globals p q l, f.k_small)
      go (no l) =
          let l₁ : q ≤ p = omega arith in
          omega (arith, stop_in n globals p q l₁, f.ahead h l₁)

  -- no line from k to before the stop is passed over
  free_at : (x a : ℕ) → k ≤ x → x < stop_of n globals p q → a < suc p → get_or globals a 0 ≡ x → Dec (a < q) → ⊥
  free_at x a b d l e (yes u) = omega (arith, f.passed a u)
  free_at x a b d l e (no u) =
      let l₁ : q ≤ p = omega arith in
      go (ℕ_discrete a q)
    where
      go : Dec (a ≡ q) → ⊥
      go (yes v) =
          let l₁ : q ≤ p = omega arith in
          let e₁ : get_or globals q 0 ≡ x = rw v at e in
          omega (arith, stop_in n globals p q l₁)
      go (no v) =
          let l₁ : q ≤ p = omega arith in
          omega (arith, stop_in n globals p q l₁, t.rises q a (omega arith) (omega arith))

  pub free : (x : ℕ) → k ≤ x → x < stop_of n globals p q → elem x (take (suc p) globals) ≡ false
  free x b d =
      let l : suc p ≤ length globals = omega (arith, t.long) in
      elem_none x (take (suc p) globals)
      (λ a i e.
      let i₁ : a < suc p = omega (arith, length-take-le (suc p) globals l) in
      free_at x a b d i₁ (sym (get_or-take (suc p) globals a 0 i₁) ∙ e) (dec_lt a q))

  -- what is left begins with the run
  pub grest_run : (stop x : ℕ) → stop ≡ stop_of n globals p q → k ≤ x → x ≤ stop
      → globals_rest n globals (m - p) p x
      ≡ with_each (Global p) (get_or globals p 0) (numbers (stop - x) x)
      ++ (with_each (Global p) (get_or globals p 0) (others (take (suc p) globals) (n - stop) stop) ++ global_tests n globals (m - suc p) (suc p))
  grest_run stop x e b d =
      let e₁ : n - x ≡ (stop - x) + (n - stop) = omega (arith, stop_most) in
      let e₂ : x + (stop - x) ≡ stop = omega arith in
      let s : others (take (suc p) globals) ((stop - x) + (n - stop)) x ≡ numbers (stop - x) x ++ others (take (suc p) globals) (n - stop) stop =
      others_run (stop - x) (n - stop) x (take (suc p) globals) (λ y i l. free y (omega arith) (omega arith))
      ∙ ap (λ (z : ℕ). numbers (stop - x) x ++ others (take (suc p) globals) (n - stop) z) e₂ in
      grest_at x
      ∙ ap (λ (l : List ℕ). with_each (Global p) (get_or globals p 0) l ++ global_tests n globals (m - suc p) (suc p))
      (ap (λ (z : ℕ). others (take (suc p) globals) z x) e₁ ∙ s)
      ∙ ap (λ (l : List Pair). l ++ global_tests n globals (m - suc p) (suc p))
      (with_append (Global p) (get_or globals p 0) (numbers (stop - x) x) (others (take (suc p) globals) (n - stop) stop))
      ∙ append_assoc (with_each (Global p) (get_or globals p 0) (numbers (stop - x) x))
      (with_each (Global p) (get_or globals p 0) (others (take (suc p) globals) (n - stop) stop)) (global_tests n globals (m - suc p) (suc p))

  -- further along the run
  pub line_further : (x : ℕ) → k ≤ x → x ≤ stop_of n globals p q → LineFits n m globals p q x
  line_further x b d =
      record {
        at_most = f.at_most;
        q_small = f.q_small;
        k_small = omega (arith, stop_most);
        passed = λ a l. omega (arith, f.passed a l);
        ahead = λ i l. omega (arith, stop_in n globals p q l);
      }

  -- a global is passed over
  module _ (l : q ≤ p) (s : get_or globals q 0 ≤ k) where
    k_is : k ≡ get_or globals q 0
    k_is = omega (arith, f.ahead h l)

    hit : elem k (take (suc p) globals) ≡ true
    hit =
        let i : q < suc p = omega arith in
        let w : suc p ≤ length globals = omega (arith, t.long) in
        let e : get_or (take (suc p) globals) q 0 ≡ k = get_or-take (suc p) globals q 0 i ∙ sym k_is in
        subst (λ (v : ℕ). elem v (take (suc p) globals) ≡ true) e (elem_at (take (suc p) globals) q (rw (length-take-le (suc p) globals w) i))

    pub pass_others : others (take (suc p) globals) (n - k) k ≡ others (take (suc p) globals) (n - (k + 1)) (k + 1)
    pass_others =
        let b : k < n = omega (arith, k_is, t.below q (omega arith)) in
        rw (left_suc n k b, add-one) (others_in (take (suc p) globals) (n - suc k) k hit)

    pub pass_same : globals_rest n globals (m - p) p k ≡ globals_rest n globals (m - p) p (k + 1)
    pass_same =
        grest_at k
        ∙ ap (λ (l : List ℕ). with_each (Global p) (get_or globals p 0) l ++ global_tests n globals (m - suc p) (suc p)) pass_others
        ∙ sym (grest_at (k + 1))

    pub pass_fits : LineFits n m globals p (q + 1) (k + 1)
    pass_fits =
        record {
          at_most = f.at_most;
          q_small = omega arith;
          k_small = omega (arith, k_is, t.below q (omega arith));
          passed = λ a i. before a (omega arith) (ℕ_discrete a q);
          ahead = λ i j. omega (arith, k_is, t.rises q (q + 1) (omega arith) (omega arith));
        }
      where
        before : (a : ℕ) → a < suc q → Dec (a ≡ q) → get_or globals a 0 < k + 1
        before a i (yes e) = rw e (omega (arith, k_is))
        before a i (no e) = omega (arith, f.passed a (omega arith))

  -- the lines of this global are done
  module _ (s : n ≤ k) where
    pub next_same : globals_rest n globals (m - p) p k ≡ globals_rest n globals (m - (p + 1)) (p + 1) 0
    next_same =
        let z : n - k ≡ 0 = omega arith in
        grest_at k ∙ rw (z, others_zero, with_nil, add-one) (globals_begin n globals (m - suc p) (suc p))

    pub next_fits : LineFits n m globals (p + 1) 0 0
    next_fits = record { at_most = omega arith; q_small = omega arith; k_small = omega arith; passed = λ a i. absurd (omega arith); ahead = λ i j. omega arith }

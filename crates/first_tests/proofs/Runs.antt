-- The tests of a global, run by run, and the globals one by one. Assumes nothing.
use mathlib.Core.Path.{◌≡◌, refl, sym, ap, subst, ◌∙◌}
use mathlib.Core.Bool.{Bool, true, false}
use mathlib.Core.List.{List, ◌∷◌, ◌++◌, append_assoc, append-nil}
use Prim.Native.Nat.{ℕ, zero, suc, ◌+◌, ◌-◌, ◌*◌, ◌≤◌, ◌<◌, ◌^◌}
use native.Mathlib.Nat.{add-zero, zero-add}
use native.Mathlib.Numerals.{add-one}
use native.Mathlib.Omega.{arith}
use lib.ListN.{length, get_or, take}
use lib.Seq.{get_or-take, length-take-le}
use Rattle.slices.specs.Lists.{elem, Below}
use Rattle.slices.proofs.Members.{elem_at}
use Rattle.seek.specs.declared.Place.TheVariants.{Global}
use Rattle.seek.specs.Tests.{Pair, pair, with_each, others, global_tests}
use Rattle.seek.specs.Inside.{numbers, stop_of}
use Rattle.seek.specs.Cursors.{LineFits}
use Rattle.seek.proofs.Clauses.{with_nil, with_append, length_with, others_zero, others_in, others_out, numbers_zero, numbers_suc, globals_zero, globals_suc}
use Rattle.seek.proofs.OtherLines.{length_numbers, others_run}
use Rattle.seek.proofs.GlobalRests.{stop_in, stop_out, k_most, free, line_further, pass_fits}
use Rattle.first_tests.specs.Firsts.{kept_by}
use Rattle.first_tests.specs.InsideScan.{HandedOut, keep_at, RowHandedOut, ScanAsks, PlaceAsks, GlobalAsks, GlobalDone, GlobalsAsk, GlobalsDone}
use Rattle.first_tests.proofs.Writes.{grown_none, grown_then, kept_few}

-- ---- the other lines, up to a line and from it on

others_split : (xs : List ℕ) (a b k : ℕ) → others xs (a + b) k ≡ others xs a k ++ others xs b (k + a)
others_split xs zero b k = rw (zero-add, others_zero, add-zero)
others_split xs (suc a) b k = go (elem k xs) refl (others_split xs a b (suc k))
  where
    e : suc a + b ≡ suc (a + b)
    e = omega arith

    e₂ : k + suc a ≡ suc k + a
    e₂ = omega arith

    go : (m : Bool) → elem k xs ≡ m → others xs (a + b) (suc k) ≡ others xs a (suc k) ++ others xs b (suc k + a)
        → others xs (suc a + b) k ≡ others xs (suc a) k ++ others xs b (k + suc a)
    go true h ih = rw (e, e₂, others_in xs (a + b) k h, others_in xs a k h) ih
    go false h ih = rw (e, e₂, others_out xs (a + b) k h, others_out xs a k h) (ap (λ (l : List ℕ). k ∷ l) ih)

-- a run of lines that are none of the list
others_more : (xs : List ℕ) (k stop : ℕ) → k ≤ stop → ((x : ℕ) → k ≤ x → x < stop → elem x xs ≡ false) → others xs k 0 ++ numbers (stop - k) k ≡ others xs stop 0
others_more xs k stop l h =
    let e : stop ≡ k + (stop - k) = omega arith in
    let r : others xs ((stop - k) + 0) k ≡ numbers (stop - k) k ++ others xs 0 (k + (stop - k)) = others_run (stop - k) 0 k xs (λ x a b. h x a (omega arith)) in
    let r₂ : others xs (stop - k) k ≡ numbers (stop - k) k = rw (add-zero, others_zero, append-nil) at r in
    sym (ap (λ (n : ℕ). others xs n 0) e ∙ others_split xs k (stop - k) 0 ∙ rw (zero-add, r₂))

-- one that is
others_over : (xs : List ℕ) (k : ℕ) → elem k xs ≡ true → others xs (k + 1) 0 ≡ others xs k 0
others_over xs k h = others_split xs k 1 0 ∙ rw (zero-add, others_in xs 0 k h, others_zero, append-nil)

below_numbers : (n d k : ℕ) → k + d ≤ n → Below n (numbers d k)
below_numbers n zero k l = rw numbers_zero tt
below_numbers n (suc d) k l = rw numbers_suc (omega arith, below_numbers n d (suc k) (omega arith))

-- ---- the runs of one global

pub record Runs (chosen : ℕ → ℕ → Bool) (N n p : ℕ) (globals starts listing counts : List ℕ) (head : ℕ) (fs₀ ss₀ : List ℕ) (hits₀ : ℕ) (fs ss : List ℕ) (hits k q : ℕ) : Type 0 where
  pub asks : GlobalAsks N n p globals starts listing counts hits₀
  pub row_is : head ≡ get_or globals p 0
  pub line : LineFits n asks.m globals p q k
  pub made : (h : PlaceAsks N starts listing counts) (keep : Pair → Bool)
      → ((b : ℕ) → keep (pair (Global p) (get_or globals p 0) b) ≡ keep_at chosen h.W h.c (get_or globals p 0) b)
      → HandedOut keep (with_each (Global p) (get_or globals p 0) (others (take (suc p) globals) k 0)) fs₀ ss₀ hits₀ fs ss hits
  pub few : hits ≤ hits₀ + k
  pub first_long : length fs ≡ length fs₀
  pub second_long : length ss ≡ length ss₀

pub global_line : {N n p : ℕ} {globals starts listing counts : List ℕ} {hits : ℕ} → GlobalAsks N n p globals starts listing counts hits → get_or globals p 0 < N
global_line {p = p} a = omega (arith, a.lines, a.fits.below p a.inside)

pub global_in : {N n p : ℕ} {globals starts listing counts : List ℕ} {hits : ℕ} → GlobalAsks N n p globals starts listing counts hits → p < length globals
global_in a = omega (arith, a.inside, a.fits.long)

pub runs_begin : {chosen : ℕ → ℕ → Bool} {N n p : ℕ} {globals starts listing counts : List ℕ} {head : ℕ} {fs ss : List ℕ} {hits : ℕ} → GlobalAsks N n p globals starts listing counts hits
    → head ≡ get_or globals p 0 → Runs chosen N n p globals starts listing counts head fs ss hits fs ss hits 0 0
runs_begin {globals = globals} a e =
    record {
      asks = a;
      row_is = e;
      line = record { at_most = omega (arith, a.inside); q_small = omega arith; k_small = omega arith; passed = λ x l. absurd (omega arith); ahead = λ i j. omega arith };
      made = λ h keep k. rw (others_zero, with_nil) grown_none;
      few = omega arith;
      first_long = refl;
      second_long = refl;
    }

module _ {chosen : ℕ → ℕ → Bool} {N n p : ℕ} {globals starts listing counts : List ℕ} {head : ℕ} {fs₀ ss₀ : List ℕ} {hits₀ : ℕ} {fs ss : List ℕ} {hits k q : ℕ}
    (s : Runs chosen N n p globals starts listing counts head fs₀ ss₀ hits₀ fs ss hits k q) where
  -- the run ends before the next global that is passed over, and the last one at the end
  module _ (l : q ≤ p) where
    pub stop_here : get_or globals q 0 ≡ stop_of n globals p q
    stop_here = sym (stop_in n globals p q l)

    pub stop_inside : q < length globals
    stop_inside = omega (arith, global_in s.asks)

    pub stop_small : q + 1 < 2 ^ 64
    stop_small = omega (arith, s.asks.most, s.asks.inside)

    pub stop_fits : get_or globals q 0 + 1 < 2 ^ 32
    stop_fits = omega (arith, s.asks.fits.below q (omega (arith, s.asks.inside)), s.asks.few)

  pub stop_last : p < q → n ≡ stop_of n globals p q
  stop_last l = sym (stop_out n globals p q l)

  module _ (stop : ℕ) (e : stop ≡ stop_of n globals p q) where
    up : k ≤ stop
    up = omega (arith, e, k_most n s.asks.m globals s.asks.fits p q k s.line s.asks.inside)

    most : stop ≤ n
    most = omega (arith, e, (line_further n s.asks.m globals s.asks.fits p q k s.line s.asks.inside stop up (omega arith)).k_small)

    pub run_scan : ScanAsks N head (numbers (stop - k) k) starts listing counts hits
    run_scan =
        record {
          place = s.asks.place;
          one = rw s.row_is (global_line s.asks);
          below = below_numbers N (stop - k) k (omega (arith, up, most, s.asks.lines));
          small = omega (arith, length_numbers (stop - k) k, s.few, up, most, s.asks.few, s.asks.small);
        }

    module _ {fs' ss' : List ℕ} {hits' : ℕ} (g : RowHandedOut chosen N head starts listing counts (numbers (stop - k) k) fs ss hits fs' ss' hits') where
      few' : hits' ≤ hits₀ + stop
      few' =
          let w = s.asks.place in
          let keep : Pair → Bool = λ x. keep_at chosen w.W w.c x.first x.second in
          let y : hits' ≡ hits + length (kept_by keep (with_each (Global p) head (numbers (stop - k) k))) = (g w (Global p) keep (λ b. refl)).hits_are in
          omega (arith, kept_few keep (with_each (Global p) head (numbers (stop - k) k)), length_with (Global p) head (numbers (stop - k) k), length_numbers (stop - k) k, s.few, up)

      made' : (h : PlaceAsks N starts listing counts) (keep : Pair → Bool)
          → ((b : ℕ) → keep (pair (Global p) (get_or globals p 0) b) ≡ keep_at chosen h.W h.c (get_or globals p 0) b)
          → HandedOut keep (with_each (Global p) (get_or globals p 0) (others (take (suc p) globals) stop 0)) fs₀ ss₀ hits₀ fs' ss' hits'
      made' h keep z =
          let r : head ≡ get_or globals p 0 = s.row_is in
          let t : HandedOut keep (with_each (Global p) head (numbers (stop - k) k)) fs ss hits fs' ss' hits' = g h (Global p) keep (λ b. subst (λ (x : ℕ). keep (pair (Global p) x b) ≡ keep_at chosen h.W h.c x b) (sym r) (z b)) in
          let u : HandedOut keep (with_each (Global p) (get_or globals p 0) (numbers (stop - k) k)) fs ss hits fs' ss' hits' = subst (λ (x : ℕ). HandedOut keep (with_each (Global p) x (numbers (stop - k) k)) fs ss hits fs' ss' hits') r t in
          let v : others (take (suc p) globals) k 0 ++ numbers (stop - k) k ≡ others (take (suc p) globals) stop 0 =
          others_more (take (suc p) globals) k stop up (λ x a b. free n s.asks.m globals s.asks.fits p q k s.line s.asks.inside x a (omega arith)) in
          rw (← v, with_append) (grown_then (s.made h keep z) u)

      -- the next run, past a global
      pub runs_next : q ≤ p → length fs' ≡ length fs → length ss' ≡ length ss → Runs chosen N n p globals starts listing counts head fs₀ ss₀ hits₀ fs' ss' hits' (stop + 1) (q + 1)
      runs_next l lf lg =
          let f = line_further n s.asks.m globals s.asks.fits p q k s.line s.asks.inside stop up (omega arith) in
          let i : stop ≡ get_or globals q 0 = e ∙ stop_in n globals p q l in
          let w : suc p ≤ length globals = omega (arith, s.asks.fits.long, s.asks.inside) in
          let y : q < suc p = omega arith in
          let o : elem stop (take (suc p) globals) ≡ true =
          subst (λ (v : ℕ). elem v (take (suc p) globals) ≡ true) (get_or-take (suc p) globals q 0 y ∙ sym i) (elem_at (take (suc p) globals) q (rw (length-take-le (suc p) globals w) y)) in
          record {
            asks = s.asks;
            row_is = s.row_is;
            line = pass_fits n s.asks.m globals s.asks.fits p q stop f s.asks.inside l (omega arith);
            made = λ h keep z. rw (others_over (take (suc p) globals) stop o) (made' h keep z);
            few = omega (arith, few');
            first_long = lf ∙ s.first_long;
            second_long = lg ∙ s.second_long;
          }

      pub runs_done : p < q → GlobalDone chosen N p globals starts listing counts fs₀ ss₀ hits₀ fs' ss' hits'
      runs_done l =
          let i : stop ≡ N = e ∙ stop_out n globals p q l ∙ s.asks.lines in
          record { made = λ h keep z. rw i at (made' h keep z); few = omega (arith, few', most, s.asks.few) }

-- ---- the globals one by one

globals_more : (n : ℕ) (globals : List ℕ) (left p : ℕ)
    → global_tests n globals left p ++ with_each (Global (p + left)) (get_or globals (p + left) 0) (others (take (suc (p + left)) globals) n 0) ≡ global_tests n globals (suc left) p
globals_more n globals zero p = rw (globals_zero, globals_suc, globals_zero, append-nil, add-zero)
globals_more n globals (suc left) p =
    let e : p + suc left ≡ suc p + left = omega arith in
    rw (e, globals_suc n globals left p, globals_suc n globals (suc left) p, append_assoc)
    (ap (λ (l : List Pair). with_each (Global p) (get_or globals p 0) (others (take (suc p) globals) n 0) ++ l) (globals_more n globals left (suc p)))

pub record Globals (chosen : ℕ → ℕ → Bool) (N n : ℕ) (globals : List ℕ) (m : ℕ) (starts listing counts fs₀ ss₀ : List ℕ) (hits₀ : ℕ) (fs ss : List ℕ) (hits p : ℕ) : Type 0 where
  pub asks : GlobalsAsk N n globals m starts listing counts hits₀
  pub at : p ≤ m
  pub made : (h : PlaceAsks N starts listing counts) (keep : Pair → Bool)
      → ((p a b : ℕ) → keep (pair (Global p) a b) ≡ keep_at chosen h.W h.c a b)
      → HandedOut keep (global_tests N globals p 0) fs₀ ss₀ hits₀ fs ss hits
  pub few : hits ≤ hits₀ + p * 65536
  pub first_long : length fs ≡ length fs₀
  pub second_long : length ss ≡ length ss₀

pub globals_begin : {chosen : ℕ → ℕ → Bool} {N n : ℕ} {globals : List ℕ} {m : ℕ} {starts listing counts fs ss : List ℕ} {hits : ℕ} → GlobalsAsk N n globals m starts listing counts hits
    → Globals chosen N n globals m starts listing counts fs ss hits fs ss hits 0
globals_begin a = record { asks = a; at = omega arith; made = λ h keep k. rw globals_zero grown_none; few = omega arith; first_long = refl; second_long = refl }

module _ {chosen : ℕ → ℕ → Bool} {N n : ℕ} {globals : List ℕ} {m : ℕ} {starts listing counts fs₀ ss₀ : List ℕ} {hits₀ : ℕ} {fs ss : List ℕ} {hits p : ℕ}
    (s : Globals chosen N n globals m starts listing counts fs₀ ss₀ hits₀ fs ss hits p) where
  pub globals_done : m ≤ p → GlobalsDone chosen N globals m starts listing counts fs₀ ss₀ hits₀ fs ss hits
  globals_done l = let e : p ≡ m = omega (arith, s.at) in record { made = rw e at s.made }

  module _ (l : p < m) where
    pub global_asks : GlobalAsks N n p globals starts listing counts hits
    global_asks =
        record {
          place = s.asks.place;
          lines = s.asks.lines;
          few = s.asks.few;
          m = m;
          most = s.asks.most;
          fits = s.asks.fits;
          inside = l;
          small = omega (arith, s.few, s.asks.small, s.asks.most);
        }

    pub globals_next : {fs' ss' : List ℕ} {hits' : ℕ} → GlobalDone chosen N p globals starts listing counts fs ss hits fs' ss' hits'
        → length fs' ≡ length fs → length ss' ≡ length ss → Globals chosen N n globals m starts listing counts fs₀ ss₀ hits₀ fs' ss' hits' (p + 1)
    globals_next {fs'} {ss'} {hits'} d lf lg =
        record {
          asks = s.asks;
          at = omega arith;
          made = λ h keep k.
              let g : HandedOut keep (with_each (Global p) (get_or globals p 0) (others (take (suc p) globals) N 0)) fs ss hits fs' ss' hits' = d.made h keep (k p (get_or globals p 0)) in
              let t : HandedOut keep (with_each (Global (0 + p)) (get_or globals (0 + p) 0) (others (take (suc (0 + p)) globals) N 0)) fs ss hits fs' ss' hits' = rw (zero-add p) g in
              rw add-one (rw (globals_more N globals p 0) at (grown_then (s.made h keep k) t));
          few = omega (arith, s.few, d.few);
          first_long = lf ∙ s.first_long;
          second_long = lg ∙ s.second_long;
        }

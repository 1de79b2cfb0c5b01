-- The loops over the offsets: running sums, with the search for a crowded cell, and the shift back. Assumes nothing.
use mathlib.Core.Path.{◌≡◌, refl, sym, ◌∙◌}
use mathlib.Core.Bool.{Bool, true, false, true≢false, ◌||◌}
use mathlib.Core.List.{List}
use Prim.Native.Nat.{ℕ, zero, suc, ◌+◌, ◌-◌, ◌≤◌, ◌<◌, ◌^◌}
use native.Mathlib.Decide.{ℕ_discrete}
use native.Mathlib.Numerals.{add-one}
use native.Mathlib.Omega.{arith}
use borrow.Author.Tests.{lt-ltb, le-ltb}
use lib.Dec.{ltb}
use lib.ListN.{length, get_or, set, length-set}
use lib.Seq.{get_or-set_same, get_or-set_other}
use Rattle.tables.specs.Lists.{sum}
use Rattle.tables.proofs.Laws.{sum_below}
use Rattle.fill.specs.Fill.{more_than}
use Rattle.fill.specs.Inside.{Summed, SumsAre, ShiftedBack}

-- ---- o₀ with the sums of its first c entries in their place

pub record Summing (o₀ : List ℕ) (cells : ℕ) (o : List ℕ) (total c : ℕ) : Type 0 where
  pub at : c ≤ cells
  pub room : cells < length o
  pub small : sum (λ k. get_or o₀ k 0) cells < 2 ^ 32
  pub len : length o ≡ length o₀
  pub done : (k : ℕ) → k < c → get_or o k 0 ≡ sum (λ k. get_or o₀ k 0) k
  pub left : (k : ℕ) → c ≤ k → get_or o k 0 ≡ get_or o₀ k 0
  pub is_sum : total ≡ sum (λ k. get_or o₀ k 0) c

pub summing_none : (o : List ℕ) (cells : ℕ) → cells < length o → sum (λ k. get_or o k 0) cells < 2 ^ 32 → Summing o cells o 0 0
unfolding sum
summing_none o cells l h =
    record { at = omega arith; room = l; small = h; len = refl; done = λ k b. absurd (omega arith); left = λ k b. refl; is_sum = refl }

module _ {o₀ : List ℕ} {cells : ℕ} {o : List ℕ} {total c : ℕ} (h : Summing o₀ cells o total c) where
  sum_at_lem : c < length o → (k : ℕ) → k < c + 1 → get_or (set o c total) k 0 ≡ sum (λ k. get_or o₀ k 0) k
  sum_at_lem l k b = go (ℕ_discrete k c)
    where
      go : Dec (k ≡ c) → get_or (set o c total) k 0 ≡ sum (λ k. get_or o₀ k 0) k
      go (yes e) = rw e (get_or-set_same o c total 0 l ∙ h.is_sum)
      go (no n) = get_or-set_other o c k total 0 n ∙ h.done k (omega arith)

  left_after : (k : ℕ) → c + 1 ≤ k → get_or (set o c total) k 0 ≡ get_or o₀ k 0
  left_after k b = get_or-set_other o c k total 0 (omega arith) ∙ h.left k (omega arith)

  pub summing_fits : c < cells → total + get_or o c 0 < 2 ^ 32
  summing_fits l = omega (arith, h.left c (omega arith), h.is_sum, h.small, sum_below (λ k. get_or o₀ k 0) c cells l)

  pub summing_more : c < cells → Summing o₀ cells (set o c total) (total + get_or o c 0) (c + 1)
  unfolding sum
  summing_more l =
      record {
        at = omega arith;
        room = simp length-set h.room;
        small = h.small;
        len = simp length-set h.len;
        done = sum_at_lem (omega (arith, h.room));
        left = left_after;
        is_sum = rw add-one (omega (arith, h.is_sum, h.left c (omega arith)));
      }

  pub summing_done : cells ≤ c → Summed o₀ (set o cells total) cells total
  summing_done l =
      let e : c ≡ cells = omega (arith, h.at) in
      rw (← e)
      (record { total = h.is_sum; sums = λ k b. sum_at_lem (omega (arith, h.room)) k (omega arith); beyond = λ k b. left_after k (omega arith) })

-- ---- o₀ with the entries from c to cells moved up by one place

pub record Shifting (o₀ : List ℕ) (cells : ℕ) (o : List ℕ) (c : ℕ) : Type 0 where
  pub at : c ≤ cells
  pub room : cells < length o
  pub len : length o ≡ length o₀
  pub low : (k : ℕ) → k ≤ c → get_or o k 0 ≡ get_or o₀ k 0
  pub mid : (k : ℕ) → c ≤ k → k < cells → get_or o (k + 1) 0 ≡ get_or o₀ k 0
  pub high : (k : ℕ) → cells < k → get_or o k 0 ≡ get_or o₀ k 0

pub shifting_none : (o : List ℕ) (cells : ℕ) → cells < length o → Shifting o cells o cells
shifting_none o cells l = record { at = omega arith; room = l; len = refl; low = λ k b. refl; mid = λ k v w. absurd (omega arith); high = λ k b. refl }

module _ {o₀ : List ℕ} {cells : ℕ} {o : List ℕ} {c : ℕ} (h : Shifting o₀ cells o c) where
  pub shifting_more : 0 < c → Shifting o₀ cells (set o c (get_or o (c - 1) 0)) (c - 1)
  shifting_more z =
      record {
        at = omega (arith, h.at);
        room = simp length-set h.room;
        len = simp length-set h.len;
        low = λ k v. get_or-set_other o c k (get_or o (c - 1) 0) 0 (omega arith) ∙ h.low k (omega arith);
        mid = λ k v w. go k v w (ℕ_discrete (c - 1) k);
        high = λ k v. get_or-set_other o c k (get_or o (c - 1) 0) 0 (omega (arith, h.at)) ∙ h.high k v;
      }
    where
      go : (k : ℕ) → c - 1 ≤ k → k < cells → Dec (c - 1 ≡ k) → get_or (set o c (get_or o (c - 1) 0)) (k + 1) 0 ≡ get_or o₀ k 0
      go k v w (yes e) =
          let e' : k + 1 ≡ c = omega arith in
          rw (e', get_or-set_same o c (get_or o (c - 1) 0) 0 (omega (arith, h.at, h.room)), e) (h.low k (omega arith))
      go k v w (no n) = get_or-set_other o c (k + 1) (get_or o (c - 1) 0) 0 (omega arith) ∙ h.mid k (omega arith) w

  pub shifting_done : c ≤ 0 → ShiftedBack o₀ (set o 0 0) cells
  shifting_done l =
      record {
        first = get_or-set_same o 0 0 0 (omega (arith, h.room));
        moved = λ k b. get_or-set_other o 0 (k + 1) 0 0 (omega arith) ∙ h.mid k (omega arith) b;
        beyond = λ k b. get_or-set_other o 0 k 0 0 (omega arith) ∙ h.high k b;
      }

-- ---- no cell below c has more than `most`

module _ (most : ℕ) (g : ℕ → ℕ) where
  pub above_none : more_than most g 0 ≡ false
  unfolding more_than
  above_none = refl

  pub above_more : (c : ℕ) → more_than most g c ≡ false → g c ≤ most → more_than most g (c + 1) ≡ false
  unfolding more_than
  above_more c h l = rw (add-one, h, le-ltb most (g c) l)

  pub above_at : (c n : ℕ) → c < n → most < g c → more_than most g n ≡ true
  unfolding more_than
  above_at c zero l h = absurd (omega arith)
  above_at c (suc n) l h = go (λ q. above_at c n q h) (ℕ_discrete c n)
    where
      or_true : (b : Bool) → (b || true) ≡ true
      or_true true = refl
      or_true false = refl

      go : (c < n → more_than most g n ≡ true) → Dec (c ≡ n) → (more_than most g n || ltb most (g n)) ≡ true
      go ih (yes e) = rw (← e, lt-ltb most (g c) h) (or_true (more_than most g c))
      go ih (no d) = rw (ih (omega arith))

  -- so it is where none can have more
  pub above_never : ((c : ℕ) → g c ≤ most) → (n : ℕ) → more_than most g n ≡ false
  unfolding more_than
  above_never h zero = refl
  above_never h (suc n) = rw (above_never h n, le-ltb most (g n) (h n))

-- ---- the sums, up to a cell that has more

module _ (most : ℕ) {o₀ : List ℕ} {cells : ℕ} {o : List ℕ} {total c : ℕ} (h : Summing o₀ cells o total c) (u : more_than most (λ k. get_or o₀ k 0) c ≡ false) where
  same_count : get_or o c 0 ≡ get_or o₀ c 0
  same_count = h.left c (omega arith)

  pub sums_crowded : c < cells → most < get_or o c 0 → SumsAre most o₀ o cells (record { crowded = true; total = total })
  sums_crowded l m = record { crowd = sym (above_at most (λ k. get_or o₀ k 0) c cells l (omega (arith, same_count))); sums = λ e. absurd (true≢false e) }

  pub sums_pass : get_or o c 0 ≤ most → more_than most (λ k. get_or o₀ k 0) (c + 1) ≡ false
  sums_pass l = above_more most (λ k. get_or o₀ k 0) c u (omega (arith, same_count))

  pub sums_end : cells ≤ c → SumsAre most o₀ (set o cells total) cells (record { crowded = false; total = total })
  sums_end l = let e : c ≡ cells = omega (arith, h.at) in record { crowd = sym (rw e at u); sums = λ _. summing_done h l }

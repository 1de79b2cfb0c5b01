-- The loops of `add`, and the laws of adding.
--     commutes                  adding is commutative, refusals and the entry named included
--     identity                  the zero table is the identity, of a table with no entry above 65,536
--     associates                both groupings give the same table, or both are refused
--     one-sum                   the promise settles the answer and every entry
-- Commutative and associative it is for tables of any lengths and entries. Assumes nothing.
use Rattle.std.specs.Prelude.{Ok, Err}
use Rattle.refusals.specs.Refusals.{Check, refusal, unless, and_then, each_from, Answer, refused, gives, ◌then◌, ◌into◌, clears, left_in}
use mathlib.Core.Path.{◌≡◌, refl, sym, ap, ◌∙◌, fun_ext}
use mathlib.Core.Bool.{false}
use mathlib.Core.List.{List}
use Prim.Native.Nat.{ℕ, ◌+◌, ◌-◌, ◌≤◌, ◌<◌}
use native.Mathlib.Nat.{add_comm, add_assoc}
use native.Mathlib.Decide.{ℕ_discrete}
use native.Mathlib.Omega.{arith}
use borrow.Author.Tests.{le-leb, lt-leb, leb-true, eqb-true, eq-eqb, ne_eqb}
use lib.Dec.{leb, eqb}
use lib.ListN.{length, get_or, set, length-set, length-replicate}
use lib.Seq.{get_or-set_same, get_or-set_other, ext_get_or, take-length}
use Rattle.slices.proofs.Clearing.{zeros_at}
use Rattle.refusals.specs.declared.Refusal.{Refusal}
use Rattle.refusals.proofs.Checks.{unless_fine, and_then_left, and_then_right, each_good, each_bad, each_over, each_says, each_fine}
use Rattle.refusals.proofs.Answers.{then_passed, into_passed, apart}
use Rattle.refusals.proofs.Leaving.{Clearing, clearing_each, left_same}
use Rattle.tables.specs.Lists.{tabulate}
use Rattle.tables.proofs.Laws.{take_tabulate, length_tabulate, get_d_tabulate}
use Rattle.counts.specs.Adding.{sum_at, sums_check, add_check, added, add_of, SumIs, SmallCounts, zeros, Agree}

pub sum_at_lem : (a b : List ℕ) (c : ℕ) → sum_at a b c ≡ get_or a c 0 + get_or b c 0
unfolding sum_at
sum_at_lem a b c = refl

-- ---- the search for a sum above 65,536: none before entry c

pub record Searching (a b : List ℕ) (c : ℕ) : Type 0 where
  pub at : c ≤ length a
  pub same : length b ≡ length a
  pub rest : sums_check a b ≡ each_from (λ c. leb (sum_at a b c) 65536) 13 (length a - c) c

pub searching_none : (a b : List ℕ) → length b ≡ length a → Searching a b 0
unfolding sums_check
searching_none a b h = let e : length a - 0 ≡ length a = omega arith in record { at = omega arith; same = h; rest = rw e }

module _ {a b : List ℕ} {c : ℕ} (h : Searching a b c) where
  pub searching_more : c < length a → get_or a c 0 + get_or b c 0 ≤ 65536 → Searching a b (c + 1)
  searching_more l s =
      record { at = omega arith; same = h.same; rest = h.rest ∙ each_good (λ c. leb (sum_at a b c) 65536) 13 (length a) c l (le-leb (sum_at a b c) 65536 (omega (arith, sum_at_lem a b c))) }

  pub searching_bad : c < length a → 65536 < get_or a c 0 + get_or b c 0 → Err (refusal 13 c) ≡ sums_check a b
  searching_bad l s = sym (h.rest ∙ each_bad (λ c. leb (sum_at a b c) 65536) 13 (length a) c l (lt-leb (sum_at a b c) 65536 (omega (arith, sum_at_lem a b c))))

  pub searching_over : length a ≤ c → Ok tt ≡ sums_check a b
  searching_over l = sym (h.rest ∙ each_over (λ c. leb (sum_at a b c) 65536) 13 (length a) c l)

-- ---- the sums written: t is a with those of its first c entries in their place

pub sums_within : (a b : List ℕ) → sums_check a b ≡ Ok tt → (c : ℕ) → c < length a → sum_at a b c ≤ 65536
unfolding sums_check
sums_within a b h c l = leb-true (sum_at a b c) 65536 (each_says (λ c. leb (sum_at a b c) 65536) 13 (length a) 0 c h (omega arith) (omega arith))

pub record Writing (a b t : List ℕ) (c : ℕ) : Type 0 where
  pub at : c ≤ length a
  pub len : length t ≡ length a
  pub same : length b ≡ length a
  pub fine : sums_check a b ≡ Ok tt
  pub done : (k : ℕ) → k < c → get_or t k 0 ≡ sum_at a b k
  pub left : (k : ℕ) → c ≤ k → get_or t k 0 ≡ get_or a k 0

pub writing_none : (a b : List ℕ) → length b ≡ length a → sums_check a b ≡ Ok tt → Writing a b a 0
writing_none a b h f = record { at = omega arith; len = refl; same = h; fine = f; done = λ k l. absurd (omega arith); left = λ k l. refl }

module _ {a b t : List ℕ} {c : ℕ} (h : Writing a b t c) where
  pub writing_sum : c < length a → get_or t c 0 + get_or b c 0 ≤ 65536
  writing_sum l = omega (arith, sums_within a b h.fine c l, sum_at_lem a b c, h.left c (omega arith))

  pub writing_more : c < length a → Writing a b (set t c (get_or t c 0 + get_or b c 0)) (c + 1)
  writing_more l =
      record {
        at = omega arith;
        len = simp length-set h.len;
        same = h.same;
        fine = h.fine;
        done = λ k m. go k m (ℕ_discrete k c);
        left = λ k m. get_or-set_other t c k (get_or t c 0 + get_or b c 0) 0 (omega arith) ∙ h.left k (omega arith);
      }
    where
      go : (k : ℕ) → k < c + 1 → Dec (k ≡ c) → get_or (set t c (get_or t c 0 + get_or b c 0)) k 0 ≡ sum_at a b k
      go k m (yes e) = rw e (get_or-set_same t c (get_or t c 0 + get_or b c 0) 0 (omega (arith, h.len)) ∙ ap (λ (n : ℕ). n + get_or b c 0) (h.left c (omega arith)) ∙ sym (sum_at_lem a b c))
      go k m (no d) = get_or-set_other t c k (get_or t c 0 + get_or b c 0) 0 d ∙ h.done k (omega arith)

  pub writing_done : length a ≤ c → t ≡ added a b
  unfolding added
  writing_done l =
      let e : length a ≡ length t = sym h.len in
      sym (take-length t) ∙ take_tabulate (sum_at a b) t (length t) (omega arith) (λ k m. h.done k (omega (arith, h.len))) ∙ ap (tabulate (sum_at a b)) h.len

-- ---- where adding is not refused

pub record Adds (a b : List ℕ) : Type 0 where
  pub same : length b ≡ length a
  pub within : (c : ℕ) → c < length a → sum_at a b c ≤ 65536

module _ (a b : List ℕ) where
  pub adds_gives : Adds a b → add_of a b ≡ gives (added a b)
  unfolding add_of add_check unless and_then sums_check ◌then◌
  adds_gives h =
      rw (eq-eqb (length b) (length a) h.same, each_fine (λ c. leb (sum_at a b c) 65536) 13 (length a) 0 (λ c _ l. le-leb (sum_at a b c) 65536 (h.within c (omega arith))))

  gives_adds : (t : List ℕ) → add_of a b ≡ gives t → Adds a b × (t ≡ added a b)
  unfolding add_of add_check
  gives_adds t h =
      let u = then_passed (add_check a b) (gives (added a b)) h in
      let v = and_then_left (unless (eqb (length b) (length a)) 3 0) (sums_check a b) u.0 in
      let w = and_then_right (unless (eqb (length b) (length a)) 3 0) (sums_check a b) u.0 in
      let s = u.1 in
      (record { same = eqb-true (length b) (length a) (unless_fine (eqb (length b) (length a)) 3 0 v); within = sums_within a b w }, cc)

  -- ---- what add leaves

  left_alone : (r : Refusal) → add_check a b ≡ Err r → clears r.number ≡ false → SumIs a b (Err r) a
  unfolding add_of ◌then◌ left_in
  left_alone r h s = record { answer = sym h; table = rw h (sym (left_same 0 r a s)) }

  pub add_unequal : (length b ≡ length a → ⊥) → SumIs a b (Err (refusal 3 0)) a
  unfolding add_check unless and_then clears
  add_unequal n = left_alone (refusal 3 0) (rw (ne_eqb (length b) (length a) n)) refl

  lengths_pass : length b ≡ length a → add_check a b ≡ sums_check a b
  unfolding add_check unless and_then
  lengths_pass e = rw (eq-eqb (length b) (length a) e)

  sums_spare : Clearing false (sums_check a b)
  unfolding sums_check clears
  sums_spare = clearing_each (λ c. leb (sum_at a b c) 65536) 13 (length a) 0 refl

  pub add_above : length b ≡ length a → (r : Refusal) → sums_check a b ≡ Err r → SumIs a b (Err r) a
  add_above e r h = left_alone r (lengths_pass e ∙ h) (sums_spare.says r h)

  pub add_done : (t : List ℕ) → length b ≡ length a → sums_check a b ≡ Ok tt → t ≡ added a b → SumIs a b (Ok tt) t
  unfolding add_of ◌then◌ left_in
  add_done t e h k = record { answer = sym (lengths_pass e ∙ h); table = rw (lengths_pass e ∙ h) k }

-- the promise settles everything
pub one_sum : {a b : List ℕ} {r r₁ : Check} {t t₁ : List ℕ} → SumIs a b r t → SumIs a b r₁ t₁ → (r ≡ r₁) × (t ≡ t₁)
one_sum h k = (h.answer ∙ sym k.answer, h.table ∙ sym k.table)

-- ---- THE LAWS OF ADDING

sum_swaps : (a b : List ℕ) → sum_at a b ≡ sum_at b a
unfolding sum_at
sum_swaps a b = fun_ext (λ c. add_comm (get_or a c 0) (get_or b c 0))

pub commutes : (a b : List ℕ) → add_of a b ≡ add_of b a
unfolding add_of add_check sums_check added unless and_then ◌then◌
commutes a b = go (ℕ_discrete (length b) (length a))
  where
    go : Dec (length b ≡ length a) → add_of a b ≡ add_of b a
    go (yes e) = rw (sum_swaps a b, e)
    go (no n) = rw (ne_eqb (length b) (length a) n, ne_eqb (length a) (length b) (λ e. n (sym e)))

sum_zero : (a : List ℕ) → sum_at a (zeros (length a)) ≡ (λ (c : ℕ). get_or a c 0)
unfolding sum_at
sum_zero a = fun_ext (λ c. rw (zeros_at (length a) c) (omega arith))

pub identity : (a : List ℕ) → SmallCounts a → add_of a (zeros (length a)) ≡ gives a
unfolding SmallCounts added
identity a s =
    adds_gives a (zeros (length a)) (record { same = length-replicate (length a) 0; within = λ c l. rw (sum_zero a) (s c) })
    ∙ rw (sum_zero a) (ap gives (sym (take_tabulate (λ c. get_or a c 0) a (length a) (omega arith) (λ c l. refl)) ∙ take-length a))

pub length_added : (a b : List ℕ) → length (added a b) ≡ length a
unfolding added
length_added a b = length_tabulate (sum_at a b) (length a)

pub get_d_added : (a b : List ℕ) (c : ℕ) → c < length a → get_or (added a b) c 0 ≡ get_or a c 0 + get_or b c 0
unfolding added
get_d_added a b c l = get_d_tabulate (sum_at a b) (length a) c l ∙ sum_at_lem a b c

-- all three at once
record Three (a b c : List ℕ) : Type 0 where
  second : length b ≡ length a
  third : length c ≡ length a
  within : (k : ℕ) → k < length a → get_or a k 0 + get_or b k 0 + get_or c k 0 ≤ 65536

abbrev all : List ℕ → List ℕ → List ℕ → List ℕ
all a b c = tabulate (λ k. get_or a k 0 + get_or b k 0 + get_or c k 0) (length a)

abbrev left : List ℕ → List ℕ → List ℕ → Answer (List ℕ)
left a b c = add_of a b into (λ t. add_of t c)

abbrev right : List ℕ → List ℕ → List ℕ → Answer (List ℕ)
right a b c = add_of b c into (λ t. add_of a t)

module _ (a b c : List ℕ) where
  left_all : added (added a b) c ≡ all a b c
  left_all =
      ext_get_or 0 (added (added a b) c) (all a b c) (length_added (added a b) c ∙ length_added a b ∙ sym (length_tabulate _ (length a)))
      (λ k l.
      let l1 : k < length (added a b) = omega (arith, length_added (added a b) c) in
      let l2 : k < length a = omega (arith, length_added a b) in
      get_d_added (added a b) c k l1 ∙ rw (get_d_added a b k l2, get_d_tabulate (λ k. get_or a k 0 + get_or b k 0 + get_or c k 0) (length a) k l2))

  right_all : length b ≡ length a → added a (added b c) ≡ all a b c
  right_all e =
      ext_get_or 0 (added a (added b c)) (all a b c) (length_added a (added b c) ∙ sym (length_tabulate _ (length a)))
      (λ k l.
      let l1 : k < length a = omega (arith, length_added a (added b c)) in
      let l2 : k < length b = omega arith in
      get_d_added a (added b c) k l1 ∙ rw (get_d_added b c k l2, get_d_tabulate (λ k. get_or a k 0 + get_or b k 0 + get_or c k 0) (length a) k l1) (sym (add_assoc (get_or a k 0) (get_or b k 0) (get_or c k 0))))

  three_left : Three a b c → left a b c ≡ gives (all a b c)
  unfolding ◌into◌
  three_left h = rw (adds_gives a b p, adds_gives (added a b) c q, left_all)
    where
      p : Adds a b
      p = record { same = h.second; within = λ k l. omega (arith, h.within k l, sum_at_lem a b k) }

      q : Adds (added a b) c
      q =
          record {
            same = h.third ∙ sym (length_added a b);
            within = λ k l. let m : k < length a = omega (arith, length_added a b) in omega (arith, h.within k m, get_d_added a b k m, sum_at_lem (added a b) c k);
          }

  three_right : Three a b c → right a b c ≡ gives (all a b c)
  unfolding ◌into◌
  three_right h = rw (adds_gives b c p, adds_gives a (added b c) q, right_all h.second)
    where
      p : Adds b c
      p = record { same = h.third ∙ sym h.second; within = λ k l. omega (arith, h.within k (omega (arith, h.second)), sum_at_lem b c k) }

      q : Adds a (added b c)
      q =
          record {
            same = length_added b c ∙ h.second;
            within = λ k l. let m : k < length b = omega (arith, h.second) in omega (arith, h.within k l, get_d_added b c k m, sum_at_lem a (added b c) k);
          }

  left_three : (t : List ℕ) → left a b c ≡ gives t → Three a b c
  left_three t h =
      into_passed (add_of a b) (λ t. add_of t c) h
      (λ u p q.
      let x = gives_adds a b u p in
      let z : Adds (added a b) c = rw x.1 at (gives_adds u c t q).0 in
      record {
        second = x.0.same;
        third = z.same ∙ length_added a b;
        within = λ k l. omega (arith, z.within k (omega (arith, length_added a b)), get_d_added a b k l, sum_at_lem (added a b) c k);
      })

  right_three : (t : List ℕ) → right a b c ≡ gives t → Three a b c
  right_three t h =
      into_passed (add_of b c) (λ t. add_of a t) h
      (λ u p q.
      let x = gives_adds b c u p in
      let z : Adds a (added b c) = rw x.1 at (gives_adds a u t q).0 in
      let e : length b ≡ length a = sym (length_added b c) ∙ z.same in
      record {
        second = e;
        third = x.0.same ∙ e;
        within = λ k l. omega (arith, z.within k l, get_d_added b c k (omega arith), sum_at_lem a (added b c) k);
      })

-- two answers agree where each gives what the other gives
pub agree_by : (x y : Answer (List ℕ)) → ((t : List ℕ) → x ≡ gives t → y ≡ gives t) → ((t : List ℕ) → y ≡ gives t → x ≡ gives t) → Agree x y
agree_by (gives t) (gives u) f g = let e : ◌≡◌ {A = Answer (List ℕ)} (gives u) (gives t) = f t refl in cc
agree_by (gives t) (refused s) f g = apart refl (f t refl)
agree_by (refused r) (gives u) f g = apart refl (g u refl)
agree_by (refused r) (refused s) f g = tt

same_given : {x : Answer (List ℕ)} {t u : List ℕ} → x ≡ gives t → x ≡ gives u → u ≡ t
same_given h k = cc

pub associates : (a b c : List ℕ) → Agree (add_of a b into (λ t. add_of t c)) (add_of b c into (λ t. add_of a t))
associates a b c =
    agree_by (left a b c) (right a b c)
    (λ t h. let k = left_three a b c t h in three_right a b c k ∙ ap gives (same_given h (three_left a b c k)))
    (λ t h. let k = right_three a b c t h in three_left a b c k ∙ ap gives (same_given h (three_right a b c k)))

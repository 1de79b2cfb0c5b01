-- Runs of consecutive numbers, and a scratch that grows by them. Assumes nothing.
use mathlib.Core.Path.{◌≡◌, refl, sym, ap, ap₂, ◌∙◌, subst}
use Prim.Native.Nat.{ℕ, zero, suc, ◌+◌, ◌-◌, ◌≤◌, ◌<◌}
use native.Mathlib.Nat.{add-zero, zero-add}
use native.Mathlib.Numerals.{add-one}
use native.Mathlib.Omega.{arith}
use mathlib.Core.List.{List, [], ◌∷◌, ◌++◌, append-nil, append_assoc}
use lib.ListN.{length, take, set, length-set, length-append}
use lib.Seq.{take-suc-set, take-take, take-append-add, length-take-le}
use Rattle.cover.specs.Rule.{run}
use Rattle.cover.specs.Inside.{Appended}

-- ---- a scratch that grows

pub none : {xs : List ℕ} {n : ℕ} → n ≤ length xs → Appended xs xs n n []
none {xs} {n} h = record { len = refl; count = omega arith; within = h; is = sym (append-nil (take n xs)) }

pub one : (xs : List ℕ) (n v : ℕ) → n < length xs → Appended xs (set xs n v) n (n + 1) (v ∷ [])
one xs n v h = record {
  len = length-set xs n v;
  count = refl;
  within = rw length-set (omega arith);
  is = rw add-one (take-suc-set xs n v h);
}

pub then : {xs ys zs : List ℕ} {n m r : ℕ} {a b : List ℕ} → Appended xs ys n m a → Appended ys zs m r b → Appended xs zs n r (a ++ b)
then {xs} {ys} {zs} {n} {m} {r} {a} {b} g h = record {
  len = h.len ∙ g.len;
  count = rw length-append (omega (arith, g.count, h.count));
  within = h.within;
  is = h.is ∙ ap (λ (l : List ℕ). l ++ b) g.is ∙ append_assoc (take n xs) a b;
}

pub same : {xs ys : List ℕ} {n r : ℕ} {a b : List ℕ} → a ≡ b → Appended xs ys n r a → Appended xs ys n r b
same {xs} {ys} {n} {r} e g = subst (λ (l : List ℕ). Appended xs ys n r l) e g

-- ---- a run, one number at a time

run_snoc : (i k : ℕ) → run i k ++ ((k + i) ∷ []) ≡ run (i + 1) k
unfolding run
run_snoc zero k = ap (λ (z : ℕ). z ∷ []) (add-zero k)
run_snoc (suc i) k =
    ap (λ (l : List ℕ). k ∷ l) (ap (λ (z : ℕ). run i (k + 1) ++ (z ∷ [])) (next k i) ∙ run_snoc i (k + 1)) ∙ sym (ap (λ (z : ℕ). run z k) (over i))
  where
    next : (k i : ℕ) → k + suc i ≡ k + 1 + i
    next k i = omega arith

    over : (i : ℕ) → suc i + 1 ≡ suc (i + 1)
    over i = omega arith

pub length_run : (n k : ℕ) → length (run n k) ≡ n
unfolding run
length_run zero k = refl
length_run (suc n) k = ap suc (length_run n (k + 1))

-- i of the k numbers from `first` on are written behind the first n of xs
pub record Running (xs : List ℕ) (n first k : ℕ) (ys : List ℕ) (m i : ℕ) : Type 0 where
  pub grown : Appended xs ys n m (run i first)
  pub at : m ≡ n + i
  pub upto : i ≤ k
  pub room : n + k ≤ length xs
  pub fits : first + k < 4294967296

pub running_start : (xs : List ℕ) (n first k : ℕ) → n + k ≤ length xs → first + k < 4294967296 → Running xs n first k xs n 0
unfolding run
running_start xs n first k h l = record { grown = none (omega arith); at = omega arith; upto = omega arith; room = h; fits = l }

pub running_more : {xs : List ℕ} {n first k : ℕ} {ys : List ℕ} {m i : ℕ} → Running xs n first k ys m i → i < k → Running xs n first k (set ys m (first + i)) (m + 1) (i + 1)
running_more {xs} {n} {first} {k} {ys} {m} {i} p h =
    let l = p.grown.len in record {
      grown = same (run_snoc i first) (then p.grown (one ys m (first + i) (omega (arith, p.at, p.room))));
      at = omega (arith, p.at);
      upto = omega arith;
      room = p.room;
      fits = p.fits;
    }

pub running_done : {xs : List ℕ} {n first k : ℕ} {ys : List ℕ} {m i : ℕ} → Running xs n first k ys m i → k ≤ i → Appended xs ys n m (run k first)
running_done {xs} {n} {first} {k} {ys} {m} {i} p h = let e : i ≡ k = omega (arith, p.upto) in same (ap (λ (z : ℕ). run z first) e) p.grown

-- ---- more than the run is written: its front is what counts

take_run : (k m f : ℕ) → k ≤ m → take k (run m f) ≡ run k f
unfolding run
take_run zero m f h = refl
take_run (suc k) zero f h = absurd (omega arith)
take_run (suc k) (suc m) f h = ap (λ (l : List ℕ). f ∷ l) (take_run k m (f + 1) (omega arith))

run_split : (a b f : ℕ) → run a f ++ run b (f + a) ≡ run (a + b) f
unfolding run
run_split zero b f = ap₂ (λ (x y : ℕ). run x y) (sym (zero-add b)) (add-zero f)
run_split (suc a) b f =
    ap (λ (l : List ℕ). f ∷ l) (ap (λ (z : ℕ). run a (f + 1) ++ run b z) (next f a) ∙ run_split a b (f + 1)) ∙ ap (λ (z : ℕ). run z f) (over a b)
  where
    next : (f a : ℕ) → f + suc a ≡ f + 1 + a
    next f a = omega arith

    over : (a b : ℕ) → suc (a + b) ≡ suc a + b
    over a b = omega arith

pub run_front : {xs ys : List ℕ} {n m : ℕ} (w f k : ℕ) → k ≤ w → n ≤ length xs → Appended xs ys n m (run w f) → Appended xs ys n (n + k) (run k f)
run_front {xs} {ys} {n} {m} w f k h l g =
    let c = g.count in
    let d : length (run w f) ≡ w = length_run w f in record {
      len = g.len;
      count = ap (λ (z : ℕ). n + z) (sym (length_run k f));
      within = omega (arith, g.within);
      is = front (omega arith);
    }
  where
    front : n + k ≤ m → take (n + k) ys ≡ take n xs ++ run k f
    front j =
        sym (take-take (n + k) m ys j) ∙ ap (take (n + k)) g.is
        ∙ ap (λ (z : ℕ). take (z + k) (take n xs ++ run w f)) (sym (length-take-le n xs l)) ∙ take-append-add (take n xs) (run w f) k
        ∙ ap (λ (l : List ℕ). take n xs ++ l) (take_run k w f h)

pub run_rest : {xs ys zs : List ℕ} {n m r : ℕ} (w f k : ℕ) → w ≤ k → Appended xs ys n m (run w f) → Appended ys zs m r (run (k - w) (f + w)) → Appended xs zs n r (run k f)
run_rest w f k h g g' = same (run_split w (k - w) f ∙ ap (λ (z : ℕ). run z f) (whole w k h)) (then g g')
  where
    whole : (w k : ℕ) → w ≤ k → w + (k - w) ≡ k
    whole w k h = omega arith

pub run_room : {xs ys : List ℕ} {n m : ℕ} (w f k : ℕ) → w ≤ k → n + k ≤ length xs → Appended xs ys n m (run w f) → m + (k - w) ≤ length ys
run_room w f k h l g = let d : length (run w f) ≡ w = length_run w f in omega (arith, g.len, g.count)

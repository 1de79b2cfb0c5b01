-- Laws of compressed tables (compressed sparse row), over any walk.
--     turn                      the next cell of a line, in either pass
--     count-step, count_fits    a turn of the first pass
--     place-step, place_inside  a turn of the second
--     so-far-none, so-far-all   before a line's first turn, and after its last
--     counts-sum, total-few     the sum of the counts
--     placed-none, table_of     where the second pass begins, and what it leaves
use mathlib.Core.Path.{◌≡◌, refl, sym, ap, ◌∙◌, fun_ext}
use mathlib.Core.Logic.{◌≢◌}
use mathlib.Core.Bool.{Bool, true, false, ◌||◌}
use mathlib.Core.List.{List, [], ◌∷◌, ◌++◌, append_assoc, append-nil}
use Prim.Native.Nat.{ℕ, zero, suc, ◌+◌, ◌≤◌, ◌<◌, ◌-◌, ◌*◌, ◌^◌}
use native.Mathlib.Nat.{zero-add, le_refl, suc-mul}
use native.Mathlib.Decide.{ℕ_discrete, le_ind, dec_lt}
use native.Mathlib.Numerals.{add-one}
use native.Mathlib.Omega.{arith}
use borrow.Author.Tests.{le-leb, lt-leb, eqb-true, eq-eqb, ne_eqb}
use lib.Dec.{eqb}
use lib.ListN.{
  length,
  get_or,
  take,
  drop,
  set,
  replicate,
  length-append,
  take-append-drop,
  length-replicate,
  get_or-replicate,
  length-take,
  length-drop,
  get_or-append,
}
use lib.Seq.{get_or-set_same, get_or-set_other, get_or_at, get_or-take, get_or-drop, take-add, ext_get_or, take-suc, take-length, drop_at, take-append_seam}
use Rattle.slices.specs.Lists.{elem, Below, Rising}
use Rattle.slices.proofs.Members.{below_at}
use Rattle.tables.specs.Lists.{Walks, only, lines_at, sum, concat, start, tabulate, items_of, offsets_of}
use Rattle.tables.specs.InsidePasses.{Line, Table, Counted, run_at, Placed}

-- ---- sums

pub sum_mono : (g : ℕ → ℕ) (a b : ℕ) → a ≤ b → sum g a ≤ sum g b
unfolding sum
sum_mono g a b h = le_ind (λ m. sum g a ≤ sum g m) (le_refl (sum g a)) (λ m k ih. omega arith) b h

pub sum_most : (g h : ℕ → ℕ) (n : ℕ) → ((c : ℕ) → c < n → g c ≤ h c) → sum g n ≤ sum h n
unfolding sum
sum_most g h zero e = omega arith
sum_most g h (suc n) e = omega (arith, sum_most g h n (λ c l. e c (omega arith)), e n (omega arith))

pub sum_same : (g h : ℕ → ℕ) (n : ℕ) → ((c : ℕ) → c < n → g c ≡ h c) → sum g n ≡ sum h n
unfolding sum
sum_same g h zero e = refl
sum_same g h (suc n) e = rw (sum_same g h n (λ c l. e c (omega arith)), e n (omega arith))

pub sum_below : (g : ℕ → ℕ) (a b : ℕ) → a < b → sum g a + g a ≤ sum g b
unfolding sum
sum_below g a b h = sum_mono g (suc a) b h

run_in : (g : ℕ → ℕ) (n c : ℕ) → c ≤ n → run_at g n c ≡ sum g c
unfolding run_at
run_in g n c l = rw (le-leb c n l)

run_out : (g : ℕ → ℕ) (n c : ℕ) → n < c → run_at g n c ≡ 0
unfolding run_at
run_out g n c l = rw (lt-leb c n l)

-- ---- one store: f' is f with i at the end of the list of the cell x

abbrev pub Pushed : (ℕ → List ℕ) → ℕ → ℕ → (ℕ → List ℕ) → Type 0
Pushed f x i f' = (c : ℕ) → f' c ≡ f c ++ only (eqb c x) i

pub record Turn (F : ℕ → List ℕ) (cells : ℕ) (f : ℕ → List ℕ) (x i : ℕ) (f' : ℕ → List ℕ) : Type 0 where
  pub push : Pushed f x i f'
  pub below : x < cells
  pub room : length (f x) < length (F x)
  pub within : (c : ℕ) → length (f c) ≤ length (F c)

module _ (F : ℕ → List ℕ) (cells : ℕ) (f : ℕ → List ℕ) (x i : ℕ) (f' : ℕ → List ℕ) (u : Turn F cells f x i f') where
  same : f' x ≡ f x ++ (i ∷ [])
  same = rw (eq-eqb x x refl) at (u.push x)

  other : (c : ℕ) → c ≢ x → f' c ≡ f c
  other c n = u.push c ∙ rw (ne_eqb c x n, append-nil)

  ptr_step : (base : ℕ → ℕ) (o : List ℕ) → x < length o → ((c : ℕ) → get_or o c 0 ≡ base c + length (f c))
      → (c : ℕ) → get_or (set o x (get_or o x 0 + 1)) c 0 ≡ base c + length (f' c)
  ptr_step base o l h c = go (ℕ_discrete c x)
    where
      go : Dec (c ≡ x) → get_or (set o x (get_or o x 0 + 1)) c 0 ≡ base c + length (f' c)
      go (yes e) = rw (e, get_or-set_same o x (get_or o x 0 + 1) 0 l, same, length-append) (omega (arith, h x))
      go (no n) = rw (get_or-set_other o x c (get_or o x 0 + 1) 0 n, other c n) (h c)

  module _ (t : List ℕ) (inside : start F x + length (f x) < length t) (h : (c k : ℕ) → k < length (f c) → get_or t (start F c + k) 0 ≡ get_or (f c) k 0) where
    put_same : (k : ℕ) → k < length (f' x) → get_or (set t (start F x + length (f x)) i) (start F x + k) 0 ≡ get_or (f' x) k 0
    put_same k l = go (dec_lt k (length (f x)))
      where
        l' : k < length (f x) + 1
        l' = simp (same, length-append) at l

        go : Dec (k < length (f x)) → get_or (set t (start F x + length (f x)) i) (start F x + k) 0 ≡ get_or (f' x) k 0
        go (yes q) =
            rw (get_or-set_other t (start F x + length (f x)) (start F x + k) i 0 (omega arith), same, get_or-append (f x) (i ∷ []) 0 k q) (h x k q)
        go (no n) =
            let e : length (f x) ≡ k = omega (arith, l') in
            rw (same, get_or_at (f x) i [] 0 k e, ← e) (get_or-set_same t (start F x + length (f x)) i 0 inside)

    -- the places of two cells are apart
    apart : (c : ℕ) → c ≢ x → (k : ℕ) → k < length (f c) → start F c + k ≢ start F x + length (f x)
    apart c n k l = go (dec_lt c x)
      where
        go : Dec (c < x) → start F c + k ≢ start F x + length (f x)
        go (yes q) = omega (arith, sum_below (λ c. length (F c)) c x q, u.within c)
        go (no q) = omega (arith, sum_below (λ c. length (F c)) x c (omega arith), u.room)

    put_step : (c k : ℕ) → k < length (f' c) → get_or (set t (start F x + length (f x)) i) (start F c + k) 0 ≡ get_or (f' c) k 0
    put_step c k l = go (ℕ_discrete c x)
      where
        go : Dec (c ≡ x) → get_or (set t (start F x + length (f x)) i) (start F c + k) 0 ≡ get_or (f' c) k 0
        go (yes e) = rw e (put_same k (rw e at l))
        go (no n) =
            let l' : k < length (f c) = rw (other c n) at l in
            rw (other c n, get_or-set_other t (start F x + length (f x)) (start F c + k) i 0 (apart c n k l')) (h c k l')

pub count_step : {F : ℕ → List ℕ} {cells : ℕ} {f : ℕ → List ℕ} {x i : ℕ} {f' : ℕ → List ℕ} {o : List ℕ} → Turn F cells f x i f' → cells ≤ length o → Counted f o → Counted f' (set o x (get_or o x 0 + 1))
count_step {F} {cells} {f} {x} {i} {f'} {o} u l h =
    record { count_is = λ c. ptr_step F cells f x i f' u (λ _. 0) o (omega (arith, u.below)) (λ c. rw zero-add (h.count_is c)) c ∙ zero-add (length (f' c)) }

place_at : {F : ℕ → List ℕ} {cells : ℕ} {f : ℕ → List ℕ} {x i : ℕ} {f' : ℕ → List ℕ} {o t : List ℕ} → Turn F cells f x i f' → Placed F cells f o t → get_or o x 0 ≡ start F x + length (f x)
place_at {F} {cells} {f} {x} u h = omega (arith, h.ptr x, run_in (λ c. length (F c)) cells x (omega (arith, u.below)))

-- the pointer stands within the items
pub place_inside : {F : ℕ → List ℕ} {cells : ℕ} {f : ℕ → List ℕ} {x i : ℕ} {f' : ℕ → List ℕ} {o t : List ℕ} → Turn F cells f x i f' → Placed F cells f o t → get_or o x 0 < start F cells
place_inside {F} {cells} {f} {x} u h = omega (arith, place_at u h, sum_below (λ c. length (F c)) x cells u.below, u.room)

pub place_step : {F : ℕ → List ℕ} {cells : ℕ} {f : ℕ → List ℕ} {x i : ℕ} {f' : ℕ → List ℕ} {o t : List ℕ} → Turn F cells f x i f' → cells < length o → start F cells ≤ length t
    → Placed F cells f o t → Placed F cells f' (set o x (get_or o x 0 + 1)) (set t (get_or o x 0) i)
place_step {F} {cells} {f} {x} {i} {f'} {o} {t} u fits space h =
    let e : get_or o x 0 ≡ start F x + length (f x) = place_at u h in
    let l : get_or o x 0 < start F cells = place_inside u h in
    record {
      ptr = ptr_step F cells f x i f' u (run_at (λ c. length (F c)) cells) o (omega (arith, u.below)) h.ptr;
      put = rw e (put_step F cells f x i f' u t (omega arith) h.put);
      rest = λ q b. get_or-set_other t (get_or o x 0) q i 0 (omega arith) ∙ h.rest q b;
    }

-- ---- the lists as a line's cells are taken one by one: `hits xs i c` has i once for each time that c is in xs

hits : List ℕ → ℕ → ℕ → List ℕ
hits [] i c = []
hits (x ∷ xs) i c = only (eqb c x) i ++ hits xs i c

hits_append : (xs ys : List ℕ) (i c : ℕ) → hits (xs ++ ys) i c ≡ hits xs i c ++ hits ys i c
unfolding hits
hits_append [] ys i c = refl
hits_append (x ∷ xs) ys i c = rw (hits_append xs ys i c, append_assoc)

hits_none : (lo : ℕ) (xs : List ℕ) (i c : ℕ) → Rising lo xs → c < lo → hits xs i c ≡ []
unfolding hits
hits_none lo [] i c h l = refl
hits_none lo (x ∷ xs) i c h l =
    let n : eqb c x ≡ false = ne_eqb c x (λ e. omega arith) in
    rw (n, hits_none (suc x) xs i c h.1 (omega arith))

-- in an increasing list a cell is found at most once
hits_only : (lo : ℕ) (xs : List ℕ) (i c : ℕ) → Rising lo xs → hits xs i c ≡ only (elem c xs) i
unfolding hits
hits_only lo [] i c h = refl
hits_only lo (x ∷ xs) i c h = go (hits_only (suc x) xs i c h.1) (eqb c x) refl
  where
    go : hits xs i c ≡ only (elem c xs) i → (b : Bool) → eqb c x ≡ b → only b i ++ hits xs i c ≡ only (b || elem c xs) i
    go ih true e = let e' : c ≡ x = eqb-true c x e in rw (hits_none (suc x) xs i c h.1 (omega arith))
    go ih false e = ih

-- the lines below i, and the line i as far as its first j cells say
pub so_far : (ℕ → List ℕ) → ℕ → ℕ → ℕ → List ℕ
so_far W i j c = lines_at W i c ++ hits (take j (W i)) i c

pub so_far_none : (W : ℕ → List ℕ) (i : ℕ) → lines_at W i ≡ so_far W i 0
unfolding so_far hits
so_far_none W i = fun_ext (λ c. sym (append-nil (lines_at W i c)))

pub so_far_all : (W : ℕ → List ℕ) (i j : ℕ) → Rising 0 (W i) → j ≡ length (W i) → so_far W i j ≡ lines_at W (i + 1)
unfolding so_far lines_at
so_far_all W i j h e = fun_ext (λ c. rw (e, take-length, add-one, hits_only 0 (W i) i c h))

so_far_more : (W : ℕ → List ℕ) (i j : ℕ) → j < length (W i) → Pushed (so_far W i j) (get_or (W i) j 0) i (so_far W i (j + 1))
unfolding so_far hits
so_far_more W i j l c =
    rw (add-one, take-suc (W i) j 0 l, hits_append (take j (W i)) (get_or (W i) j 0 ∷ []) i c, append-nil (only (eqb c (get_or (W i) j 0)) i), append_assoc)

lines_mono : (W : ℕ → List ℕ) (c i n : ℕ) → i ≤ n → length (lines_at W i c) ≤ length (lines_at W n c)
unfolding lines_at
lines_mono W c i n h =
    le_ind (λ m. length (lines_at W i c) ≤ length (lines_at W m c)) (le_refl (length (lines_at W i c))) (λ m (k : i ≤ m) ih. rw length-append (omega arith)) n h

so_far_within : (W : ℕ → List ℕ) (i n j : ℕ) → Rising 0 (W i) → i < n → (c : ℕ) → length (so_far W i j c) ≤ length (lines_at W n c)
unfolding so_far lines_at
so_far_within W i n j h l c =
    let e : hits (take j (W i) ++ drop j (W i)) i c ≡ hits (take j (W i)) i c ++ hits (drop j (W i)) i c = hits_append (take j (W i)) (drop j (W i)) i c in
    let e' : hits (W i) i c ≡ hits (take j (W i)) i c ++ hits (drop j (W i)) i c = rw take-append-drop at e in
    let e'' : only (elem c (W i)) i ≡ hits (take j (W i)) i c ++ hits (drop j (W i)) i c = sym (hits_only 0 (W i) i c h) ∙ e' in
    omega (arith, simp length-append at (lines_mono W c (suc i) n l), simp length-append at (ap length e''), length-append (lines_at W i c) (hits (take j (W i)) i c))

pub turn : {W : ℕ → List ℕ} {n cells i : ℕ} {s : List ℕ} {r j : ℕ} → Line W n cells i s r → j < r → Turn (lines_at W n) cells (so_far W i j) (get_or s j 0) i (so_far W i (j + 1))
turn {W} {n} {cells} {i} {s} {r} {j} h l =
    let e : get_or s j 0 ≡ get_or (W i) j 0 = sym (get_or-take r s j 0 l) ∙ ap (λ (z : List ℕ). get_or z j 0) h.cells_are in
    let p : Pushed (so_far W i j) (get_or s j 0) i (so_far W i (j + 1)) = rw e (so_far_more W i j (omega (arith, h.size))) in
    let x : so_far W i (j + 1) (get_or s j 0) ≡ so_far W i j (get_or s j 0) ++ (i ∷ []) = rw (eq-eqb (get_or s j 0) (get_or s j 0) refl) at (p (get_or s j 0)) in
    record {
      push = p;
      below = rw e (below_at cells (W i) j (h.walks.below i h.in_lines) (omega (arith, h.size)));
      room = omega (arith, simp length-append at (ap length x), so_far_within W i n (j + 1) (h.walks.rises i h.in_lines) h.in_lines (get_or s j 0));
      within = so_far_within W i n j (h.walks.rises i h.in_lines) h.in_lines;
    }

pub line_done : {W : ℕ → List ℕ} {n cells i : ℕ} {s : List ℕ} {r : ℕ} → Line W n cells i s r → (j : ℕ) → j ≡ r → so_far W i j ≡ lines_at W (i + 1)
line_done {W} {n} {cells} {i} h j e = so_far_all W i j (h.walks.rises i h.in_lines) (e ∙ h.size)

pub length_only : (b : Bool) (i : ℕ) → length (only b i) ≤ 1
length_only true i = omega arith
length_only false i = omega arith

-- a line is in a cell's list once at most
pub lines_few : (W : ℕ → List ℕ) (i c : ℕ) → length (lines_at W i c) ≤ i
unfolding lines_at
lines_few W zero c = omega arith
lines_few W (suc i) c = rw length-append (omega (arith, lines_few W i c, length_only (elem c (W i)) i))

pub count_fits : {W : ℕ → List ℕ} {n cells i : ℕ} {s : List ℕ} {r x : ℕ} {f f' : ℕ → List ℕ} {o : List ℕ} → Line W n cells i s r → Turn (lines_at W n) cells f x i f' → Counted f o → get_or o x 0 + 1 < 2 ^ 32
count_fits {W} {n} {x = x} l u h = omega (arith, h.count_is x, u.room, lines_few W n x, l.lines_small)

-- ---- all the lists together are no longer than the lines' cells

sum_split : (k g h : ℕ → ℕ) → ((c : ℕ) → k c ≤ g c + h c) → (n : ℕ) → sum k n ≤ sum g n + sum h n
unfolding sum
sum_split k g h e zero = omega arith
sum_split k g h e (suc n) = omega (arith, sum_split k g h e n, e n)

pub sum_zero : (g : ℕ → ℕ) (n : ℕ) → ((c : ℕ) → c < n → g c ≡ 0) → sum g n ≡ 0
unfolding sum
sum_zero g zero h = refl
sum_zero g (suc n) h = omega (arith, sum_zero g n (λ c l. h c (omega arith)), h n (omega arith))

pub sum_add : (g h : ℕ → ℕ) (n : ℕ) → sum (λ c. g c + h c) n ≡ sum g n + sum h n
unfolding sum
sum_add g h zero = refl
sum_add g h (suc n) = omega (arith, sum_add g h n)

sum_one : (x i n : ℕ) → sum (λ c. length (only (eqb c x) i)) n ≤ 1
unfolding sum
sum_one x i zero = omega arith
sum_one x i (suc n) = go (sum_one x i n) (ℕ_discrete x n)
  where
    go : sum (λ c. length (only (eqb c x) i)) n ≤ 1 → Dec (x ≡ n) → sum (λ c. length (only (eqb c x) i)) n + length (only (eqb n x) i) ≤ 1
    go ih (yes e) =
        omega (
          arith,
          length_only (eqb n x) i,
          sum_zero (λ c. length (only (eqb c x) i)) n (λ c l. rw (ne_eqb c x (λ e'. omega arith))),
        )
    go ih (no d) = rw (ne_eqb n x (λ e. d (sym e))) (omega arith)

sum_hits : (xs : List ℕ) (i n : ℕ) → sum (λ c. length (hits xs i c)) n ≤ length xs
unfolding hits
sum_hits [] i n = omega (arith, sum_zero (λ c. 0) n (λ c l. refl))
sum_hits (x ∷ xs) i n =
    omega (
      arith,
      sum_hits xs i n,
      sum_one x i n,
      sum_split (λ c. length (only (eqb c x) i ++ hits xs i c)) (λ c. length (only (eqb c x) i)) (λ c. length (hits xs i c)) (λ c. rw length-append (omega arith)) n,
    )

-- a cell that is in a list is found in it
hits_some : (xs : List ℕ) (i c : ℕ) → length (only (elem c xs) i) ≤ length (hits xs i c)
unfolding hits
hits_some [] i c = omega arith
hits_some (x ∷ xs) i c = go (hits_some xs i c) (eqb c x)
  where
    go : length (only (elem c xs) i) ≤ length (hits xs i c) → (b : Bool) → length (only (b || elem c xs) i) ≤ length (only b i ++ hits xs i c)
    go ih true = rw length-append (omega arith)
    go ih false = ih

-- of any number of cells, at most as many are in a list as it has entries
pub cells_few : (xs : List ℕ) (i n : ℕ) → sum (λ c. length (only (elem c xs) i)) n ≤ length xs
cells_few xs i n =
    omega (
      arith,
      sum_hits xs i n,
      sum_most (λ c. length (only (elem c xs) i)) (λ c. length (hits xs i c)) n (λ c l. hits_some xs i c),
    )

sums_go : (W : ℕ → List ℕ) (n cells b : ℕ) → Walks W n cells → ((i : ℕ) → i < n → length (W i) ≤ b) → (i : ℕ) → i ≤ n → sum (λ c. length (lines_at W i c)) cells ≤ i * b
unfolding lines_at
sums_go W n cells b w few zero l = omega (arith, sum_zero (λ c. 0) cells (λ c l. refl))
sums_go W n cells b w few (suc i) l =
    omega (
      arith,
      sums_go W n cells b w few i (omega arith),
      sum_hits (W i) i cells,
      few i l,
      suc-mul i b,
      sum_split (λ c. length (lines_at W i c ++ only (elem c (W i)) i)) (λ c. length (lines_at W i c)) (λ c. length (hits (W i) i c))
          (λ c. rw (length-append, hits_only 0 (W i) i c (w.rises i l)) (omega arith)) cells,
    )

pub total_few : (W : ℕ → List ℕ) (n cells b : ℕ) → Walks W n cells → ((i : ℕ) → i < n → length (W i) ≤ b) → start (lines_at W n) cells ≤ n * b
total_few W n cells b w few = sums_go W n cells b w few n (le_refl n)

-- ---- the ends of the passes

elem_beyond : (n : ℕ) (xs : List ℕ) (c : ℕ) → Below n xs → n ≤ c → elem c xs ≡ false
elem_beyond n [] c h l = refl
elem_beyond n (x ∷ xs) c h l =
    let e : eqb c x ≡ false = ne_eqb c x (λ e. omega arith) in
    rw (e, elem_beyond n xs c h.1 l)

lines_beyond : (W : ℕ → List ℕ) (n cells : ℕ) → Walks W n cells → (c : ℕ) → cells ≤ c → (i : ℕ) → i ≤ n → lines_at W i c ≡ []
unfolding lines_at
lines_beyond W n cells w c l zero b = refl
lines_beyond W n cells w c l (suc i) b = rw (lines_beyond W n cells w c l i (omega arith), elem_beyond cells (W i) c (w.below i b) l)

pub beyond : (W : ℕ → List ℕ) (n cells : ℕ) → Walks W n cells → (c : ℕ) → cells ≤ c → length (lines_at W n c) ≡ 0
beyond W n cells w c l = ap length (lines_beyond W n cells w c l n (le_refl n))

pub counted_none : (W : ℕ → List ℕ) (o : List ℕ) → ((k : ℕ) → get_or o k 0 ≡ 0) → Counted (lines_at W 0) o
unfolding lines_at
counted_none W o h = record { count_is = h }

pub counts_sum : {F : ℕ → List ℕ} {o : List ℕ} → Counted F o → (n : ℕ) → sum (λ k. get_or o k 0) n ≡ start F n
counts_sum h n = ap (λ (g : ℕ → ℕ). sum g n) (fun_ext h.count_is)

-- the running sums of the counts o₀, and items that are all 0, are where the second pass begins
pub placed_none : {W : ℕ → List ℕ} {n cells : ℕ} {o₀ o t : List ℕ} → Walks W n cells → Counted (lines_at W n) o₀
    → ((k : ℕ) → k ≤ cells → get_or o k 0 ≡ sum (λ k. get_or o₀ k 0) k) → ((k : ℕ) → cells < k → get_or o k 0 ≡ get_or o₀ k 0) → ((k : ℕ) → get_or t k 0 ≡ 0)
    → Placed (lines_at W n) cells (lines_at W 0) o t
unfolding lines_at
placed_none {W} {n} {cells} {o₀} {o} {t} w h low high zeros =
    record { ptr = λ c. go c (dec_lt cells c); put = λ c k l. absurd (omega arith); rest = λ p l. zeros p }
  where
    go : (c : ℕ) → Dec (cells < c) → get_or o c 0 ≡ run_at (λ c. length (lines_at W n c)) cells c + 0
    go c (yes l) = omega (arith, high c l, h.count_is c, beyond W n cells w c (omega arith), run_out (λ c. length (lines_at W n c)) cells c l)
    go c (no l) = omega (arith, low c (omega arith), counts_sum h c, run_in (λ c. length (lines_at W n c)) cells c (omega arith))

take_concat : (F : ℕ → List ℕ) (t : List ℕ) (n : ℕ) → start F n ≤ length t → ((c k : ℕ) → k < length (F c) → get_or t (start F c + k) 0 ≡ get_or (F c) k 0) → take (start F n) t ≡ concat F n
unfolding sum concat
take_concat F t zero l h = refl
take_concat F t (suc n) l h =
    take-add (start F n) (length (F n)) t
    ∙ rw (take_concat F t n (omega arith) h)
    (ap (λ (r : List ℕ). concat F n ++ r)
    (ext_get_or 0 (take (length (F n)) (drop (start F n) t)) (F n) (simp (length-take, length-drop) (omega arith))
    (λ k b.
    let b' : k < length (F n) = omega (arith, simp (length-take, length-drop) at b) in
    rw (get_or-take (length (F n)) (drop (start F n) t) k 0 b', get_or-drop) (h n k b'))))

pub drop_zeros : (t : List ℕ) (n : ℕ) → n ≤ length t → ((p : ℕ) → n ≤ p → get_or t p 0 ≡ 0) → drop n t ≡ replicate (length t - n) 0
drop_zeros t n l z =
    ext_get_or 0 (drop n t) (replicate (length t - n) 0) (simp (length-drop, length-replicate))
    (λ k b. rw (get_or-drop, z (n + k) (omega arith), get_or-replicate {A = ℕ} (length t - n) k 0 0 (rw length-drop at b)))

pub take_tabulate : (g : ℕ → ℕ) (o : List ℕ) (n : ℕ) → n ≤ length o → ((c : ℕ) → c < n → get_or o c 0 ≡ g c) → take n o ≡ tabulate g n
unfolding tabulate
take_tabulate g o zero l h = refl
take_tabulate g o (suc n) l h = rw (take-suc o n 0 l, take_tabulate g o n (omega arith) (λ c b. h c (omega arith)), h n (omega arith))

-- what the second pass leaves, with the pointers moved back by one place, is the table
pub table_of : {W : ℕ → List ℕ} {n cells : ℕ} {o o' t : List ℕ} → Walks W n cells → cells < length o' → start (lines_at W n) cells ≤ length t → Placed (lines_at W n) cells (lines_at W n) o t
    → get_or o' 0 0 ≡ 0 → ((k : ℕ) → k < cells → get_or o' (k + 1) 0 ≡ get_or o k 0) → ((k : ℕ) → cells < k → get_or o' k 0 ≡ get_or o k 0) → Table (lines_at W n) cells o' t
unfolding sum items_of offsets_of
table_of {W} {n} {cells} {o} {o'} {t} w fits space h first mid high =
    record {
      items_are =
          sym (take-append-drop (start F cells) t)
          ∙ rw (take_concat F t cells space h.put, drop_zeros t (start F cells) space h.rest);
      offsets_are =
          sym (take-append-drop (suc cells) o')
          ∙ rw (take_tabulate (start F) o' (suc cells) fits (λ c l. at_start c (omega arith)), drop_zeros o' (suc cells) fits at_end);
    }
  where
    F : ℕ → List ℕ
    F = lines_at W n

    at_start : (c : ℕ) → c ≤ cells → get_or o' c 0 ≡ start F c
    at_start zero l = first
    at_start (suc c) l =
        rw (← add-one c) (mid c l ∙ h.ptr c ∙ ap (λ (n : ℕ). n + length (F c)) (run_in (λ c. length (F c)) cells c (omega arith)))

    at_end : (c : ℕ) → cells < c → get_or o' c 0 ≡ 0
    at_end c l = omega (arith, high c l, h.ptr c, run_out (λ c. length (F c)) cells c l, beyond W n cells w c (omega arith))

-- ---- reading a table

pub length_tabulate : (g : ℕ → ℕ) (n : ℕ) → length (tabulate g n) ≡ n
unfolding tabulate
length_tabulate g zero = refl
length_tabulate g (suc n) = rw (length-append, length_tabulate g n) (omega arith)

pub get_d_tabulate : (g : ℕ → ℕ) (n c : ℕ) → c < n → get_or (tabulate g n) c 0 ≡ g c
unfolding tabulate
get_d_tabulate g zero c l = absurd (omega arith)
get_d_tabulate g (suc n) c l = go (λ q. get_d_tabulate g n c q) (dec_lt c n)
  where
    go : (c < n → get_or (tabulate g n) c 0 ≡ g c) → Dec (c < n) → get_or (tabulate g n ++ (g n ∷ [])) c 0 ≡ g c
    go ih (yes q) = get_or-append (tabulate g n) (g n ∷ []) 0 c (omega (arith, length_tabulate g n)) ∙ ih q
    go ih (no q) =
        let e : n ≡ c = omega arith in
        get_or_at (tabulate g n) (g n) [] 0 c (length_tabulate g n ∙ e) ∙ ap g e

pub length_concat : (F : ℕ → List ℕ) (n : ℕ) → length (concat F n) ≡ start F n
unfolding concat sum
length_concat F zero = refl
length_concat F (suc n) = rw (length-append, length_concat F n)

concat_split : (F : ℕ → List ℕ) (c n : ℕ) → c < n → (r : List ℕ) × (concat F n ≡ concat F c ++ (F c ++ r))
unfolding concat
concat_split F c n l =
    le_ind (λ m. (r : List ℕ) × (concat F m ≡ concat F c ++ (F c ++ r))) ([], rw append-nil)
    (λ m _ ih. (ih.0 ++ F m, rw (ih.1, append_assoc, append_assoc))) n l

-- the offsets and the items keep the length of their slice, where it has room
pub length_offsets : (F : ℕ → List ℕ) (cells len : ℕ) → suc cells ≤ len → length (offsets_of F cells len) ≡ len
unfolding offsets_of
length_offsets F cells len l = rw (length-append, length_tabulate (start F) (suc cells), length-replicate) (omega arith)

pub length_items : (F : ℕ → List ℕ) (cells len : ℕ) → start F cells ≤ len → length (items_of F cells len) ≡ len
unfolding items_of
length_items F cells len l = rw (length-append, length_concat F cells, length-replicate) (omega arith)

-- so they are a table
pub table_made : {F : ℕ → List ℕ} {cells a b : ℕ} {o t : List ℕ} → suc cells ≤ a → start F cells ≤ b → o ≡ offsets_of F cells a → t ≡ items_of F cells b → Table F cells o t
table_made {F} {cells} {a} {b} l m x y =
    record {
      items_are = rw (y, length_items F cells b m);
      offsets_are = rw (x, length_offsets F cells a l);
    }

-- where the list of the cell c begins, and where the last ends
pub table_offset : {F : ℕ → List ℕ} {cells : ℕ} {o t : List ℕ} → Table F cells o t → (c : ℕ) → c ≤ cells → get_or o c 0 ≡ start F c
unfolding offsets_of
table_offset {F} {cells} {o} h c l =
    ap (λ (z : List ℕ). get_or z c 0) h.offsets_are
    ∙ get_or-append (tabulate (start F) (suc cells)) (replicate (length o - suc cells) 0) 0 c (omega (arith, length_tabulate (start F) (suc cells)))
    ∙ get_d_tabulate (start F) (suc cells) c (omega arith)

-- the list of the cell c stands there
pub table_list : {F : ℕ → List ℕ} {cells : ℕ} {o t : List ℕ} → Table F cells o t → (c : ℕ) → c < cells → take (length (F c)) (drop (start F c) t) ≡ F c
unfolding items_of concat
table_list {F} {cells} {o} {t} h c l =
    let s = concat_split F c cells l in
    let z : List ℕ = replicate (length t - start F cells) 0 in
    let e : t ≡ concat F c ++ (F c ++ (s.0 ++ z)) = h.items_are ∙ rw (s.1, append_assoc, append_assoc) in
    ap (λ (y : List ℕ). take (length (F c)) (drop (start F c) y)) e
    ∙ rw (drop_at (concat F c) (F c ++ (s.0 ++ z)) (start F c) (length_concat F c), take-append_seam)

-- so the k-th line of the cell c is the item at the cell's offset and k
pub table_item : {F : ℕ → List ℕ} {cells : ℕ} {o t : List ℕ} → Table F cells o t → (c : ℕ) → c < cells → (k : ℕ) → k < length (F c) → get_or t (get_or o c 0 + k) 0 ≡ get_or (F c) k 0
table_item {F} {cells} {o} {t} h c l k b =
    rw (table_offset h c (omega arith)) (sym (get_or-drop (start F c) t k 0) ∙ sym (get_or-take (length (F c)) (drop (start F c) t) k 0 b) ∙ ap (λ (y : List ℕ). get_or y k 0) (table_list h c l))

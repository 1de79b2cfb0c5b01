-- Lines shared among benches.
--     sharing                   the added tables of the benches are the table of a single count, or both are refused
--     never-refused             where a single count is not refused, neither is any bench nor any adding
--     globals-shared            the benches' numbers of global lines add up to that of a single count
--     listed-shared             and so do the sums of their counts
-- Each sum over the lines of all benches is a sum over all lines (`shared_sum`): the rest is that rule for "is in the list of the cell c". Assumes nothing.
use mathlib.Core.Path.{◌≡◌, refl, sym, ap, ap₂, ◌∙◌, fun_ext}
use mathlib.Core.Bool.{Bool, true, false}
use mathlib.Core.List.{List, [], ◌∷◌}
use Prim.Native.Nat.{ℕ, zero, suc, ◌+◌, ◌*◌, ◌≤◌, ◌<◌}
use native.Mathlib.Nat.{add-mul, one-mul}
use native.Mathlib.Decide.{dec_lt, ℕ_discrete}
use native.Mathlib.Omega.{arith}
use borrow.Author.Tests.{eq-eqb, ne_eqb}
use lib.Dec.{eqb}
use lib.Ieee.{Float, nan}
use lib.ListN.{length, get_or, length-append}
use lib.Seq.{ext_get_or}
use Rattle.slices.specs.Lists.{elem}
use Rattle.refusals.specs.Refusals.{gives, ◌into◌}
use Rattle.refusals.proofs.Answers.{then_passed, then_fine, into_passed}
use Rattle.grid.specs.declared.Grid.{Grid}
use Rattle.grid.specs.Domain.{Lines, count, segment_at, Alike, line_fits, fit}
use Rattle.walk.specs.declared.Mode.{Mode}
use Rattle.tables.specs.Lists.{long, local, only, lines_at, global_lines, sum}
use Rattle.tables.proofs.Laws.{sum_same, lines_few, sum_add}
use Rattle.fill.specs.OnGrid.{grid_cells, walk_on, completes, cells_on, list_on, globals_on, total, counts_on, one_if}
use Rattle.fill.specs.Checks.{counting_check}
use Rattle.counts.specs.Adding.{add_of, added, Agree}
use Rattle.counts.specs.Sharing.{entries, taken, Benches, bench, both, times_counted, times_on, Shared, table_of, table_by, globals_on_all, listed_by}
use Rattle.counts.proofs.AddLaws.{sum_at_lem, adds_gives, length_added, get_d_added, agree_by}
use Rattle.counts.proofs.Passing.{Passes, fine_passes, passes_fine, table_with, length_table, table_in, table_out, counts_with}

-- ---- sums over the lines of benches

over : (ℕ → ℕ) → List ℕ → ℕ
over f [] = 0
over f (i ∷ is) = f i + over f is

over_on : (ℕ → ℕ) → Benches → ℕ
over_on f (bench is) = over f is
over_on f (both a b) = over_on f a + over_on f b

module _ (f : ℕ → ℕ) where
  sum_first : (n : ℕ) → sum f (suc n) ≡ f 0 + sum (λ k. f (suc k)) n
  unfolding sum
  sum_first zero = omega arith
  sum_first (suc n) = omega (arith, sum_first n)

-- over a list, place by place
over_places : (f : ℕ → ℕ) (is : List ℕ) → sum (λ k. f (get_or is k 0)) (length is) ≡ over f is
unfolding over sum
over_places f [] = refl
over_places f (i ∷ is) = sum_first (λ k. f (get_or (i ∷ is) k 0)) (length is) ∙ ap (λ (n : ℕ). f i + n) (over_places f is)

-- a sum to which x alone contributes
sum_only : (f : ℕ → ℕ) (x n : ℕ) → x < n → sum (λ i. one_if (eqb i x) * f i) n ≡ f x
unfolding sum
sum_only f x zero l = absurd (omega arith)
sum_only f x (suc n) l = go (λ k. sum_only f x n k) (ℕ_discrete n x)
  where
    none : (m : ℕ) → m ≤ x → sum (λ i. one_if (eqb i x) * f i) m ≡ 0
    none zero k = refl
    none (suc m) k = let e : eqb m x ≡ false = ne_eqb m x (λ e. omega arith) in rw (none m (omega arith), e) (omega arith)

    go : (x < n → sum (λ i. one_if (eqb i x) * f i) n ≡ f x) → Dec (n ≡ x) → sum (λ i. one_if (eqb i x) * f i) n + one_if (eqb n x) * f n ≡ f x
    go ih (yes e) = rw (none n (omega arith), eq-eqb n x e, e) (omega arith)
    go ih (no d) = rw (ih (omega arith), ne_eqb n x d) (omega arith)

-- a list of numbers below n, by how often each is there
over_times : (f : ℕ → ℕ) (n : ℕ) (is : List ℕ) → ((i : ℕ) → n ≤ i → times_counted i is ≡ 0) → over f is ≡ sum (λ i. times_counted i is * f i) n
unfolding over times_counted sum
over_times f n [] h = sym (nothing n)
  where
    nothing : (m : ℕ) → sum (λ i. 0 * f i) m ≡ 0
    nothing zero = refl
    nothing (suc m) = rw (nothing m) (omega arith)
over_times f n (x ∷ xs) h =
    let l : x < n = first (dec_lt x n) in
    let ih = over_times f n xs (λ i k. let z = h i k in omega arith) in
    ap₂ ◌+◌ (sym (sum_only f x n l)) ih
    ∙ sym (sum_add (λ i. one_if (eqb i x) * f i) (λ i. times_counted i xs * f i) n)
    ∙ sum_same (λ i. one_if (eqb i x) * f i + times_counted i xs * f i) (λ i. (one_if (eqb i x) + times_counted i xs) * f i) n (λ i _. sym (add-mul (one_if (eqb i x)) (times_counted i xs) (f i)))
  where
    first : Dec (x < n) → x < n
    first (yes l) = l
    first (no l) = let z = rw (eq-eqb x x refl) at (h x (omega arith)) in absurd (omega arith)

over_all : (f : ℕ → ℕ) (n : ℕ) (bs : Benches) → ((i : ℕ) → n ≤ i → times_on i bs ≡ 0) → over_on f bs ≡ sum (λ i. times_on i bs * f i) n
unfolding over_on times_on
over_all f n (bench is) h = over_times f n is h
over_all f n (both a b) h =
    ap₂ ◌+◌ (over_all f n a (λ i k. let z = h i k in omega arith)) (over_all f n b (λ i k. let z = h i k in omega arith))
    ∙ sym (sum_add (λ i. times_on i a * f i) (λ i. times_on i b * f i) n)
    ∙ sum_same (λ i. times_on i a * f i + times_on i b * f i) (λ i. (times_on i a + times_on i b) * f i) n (λ i _. sym (add-mul (times_on i a) (times_on i b) (f i)))

-- a sum over the lines of all benches is a sum over all lines
shared_sum : (f : ℕ → ℕ) (n : ℕ) (bs : Benches) → Shared n bs → over_on f bs ≡ sum f n
shared_sum f n bs h = over_all f n bs h.others ∙ sum_same (λ i. times_on i bs * f i) f n (λ i l. rw (h.once i l) (one-mul (f i)))

-- ---- the lines of a bench

module _ (ls : Lines) (is : List ℕ) where
  entries_count : (xs : List Float) (is : List ℕ) → length (entries xs is) ≡ length is
  unfolding entries
  entries_count xs [] = refl
  entries_count xs (i ∷ is) = ap suc (entries_count xs is)

  entries_at : (xs : List Float) (is : List ℕ) (j : ℕ) → j < length is → get_or (entries xs is) j nan ≡ get_or xs (get_or is j 0) nan
  unfolding entries
  entries_at xs [] j l = absurd (omega arith)
  entries_at xs (i ∷ is) zero l = refl
  entries_at xs (i ∷ is) (suc j) l = entries_at xs is j (omega arith)

  taken_count : count (taken ls is) ≡ length is
  unfolding taken
  taken_count = entries_count ls.start_x is

  taken_alike : Alike (taken ls is)
  unfolding taken
  taken_alike =
      record {
        «start_y» = entries_count ls.start_y is ∙ sym (entries_count ls.start_x is);
        «end_x» = entries_count ls.end_x is ∙ sym (entries_count ls.start_x is);
        «end_y» = entries_count ls.end_y is ∙ sym (entries_count ls.start_x is);
      }

  taken_at : (j : ℕ) → j < length is → segment_at (taken ls is) j ≡ segment_at ls (get_or is j 0)
  unfolding taken
  taken_at j l =
      rw (entries_at ls.start_x is j l, entries_at ls.start_y is j l, entries_at ls.end_x is j l, entries_at ls.end_y is j l)

  taken_fits : (j : ℕ) → j < length is → line_fits (taken ls is) j ≡ line_fits ls (get_or is j 0)
  unfolding line_fits
  taken_fits j l = rw (taken_at j l)

  taken_walk : (mode : Mode) (g : Grid) (j : ℕ) → j < length is → walk_on mode g (taken ls is) j ≡ walk_on mode g ls (get_or is j 0)
  unfolding walk_on
  taken_walk mode g j l = rw (taken_at j l)

-- the length of a list that grows by its own place where a test holds
length_only : (b : Bool) (i : ℕ) → length (only b i) ≡ one_if b
length_only true i = refl
length_only false i = refl

list_length : (W : ℕ → List ℕ) (n c : ℕ) → length (lines_at W n c) ≡ sum (λ i. one_if (elem c (W i))) n
unfolding lines_at sum
list_length W zero c = refl
list_length W (suc n) c = rw (length-append, list_length W n c, length_only (elem c (W n)) n)

globals_length : (W : ℕ → List ℕ) (n : ℕ) → length (global_lines W n) ≡ sum (λ i. one_if (long (W i))) n
unfolding global_lines sum
globals_length W zero = refl
globals_length W (suc n) = rw (length-append, globals_length W n, length_only (long (W n)) n)

module _ (mode : Mode) (g : Grid) (ls : Lines) where
  -- 1 where the cell c lists line i; where line i is global
  lists : ℕ → ℕ → ℕ
  lists c i = one_if (elem c (local (cells_on mode g ls) i))

  is_global : ℕ → ℕ
  is_global i = one_if (long (cells_on mode g ls i))

  taken_cells : (is : List ℕ) (j : ℕ) → j < length is → cells_on mode g (taken ls is) j ≡ cells_on mode g ls (get_or is j 0)
  unfolding cells_on
  taken_cells is j l = rw (taken_walk ls is mode g j l)

  taken_listed : (is : List ℕ) (c : ℕ) → length (list_on mode g (taken ls is) c) ≡ over (lists c) is
  unfolding list_on lists local
  taken_listed is c =
      list_length (local (cells_on mode g (taken ls is))) (count (taken ls is)) c
      ∙ rw (taken_count ls is) (sum_same (λ j. one_if (elem c (local (cells_on mode g (taken ls is)) j))) (λ j. lists c (get_or is j 0)) (length is) (λ j l. rw (taken_cells is j l)))
      ∙ over_places (lists c) is

  taken_globals : (is : List ℕ) → length (globals_on mode g (taken ls is)) ≡ over is_global is
  unfolding globals_on is_global
  taken_globals is =
      globals_length (cells_on mode g (taken ls is)) (count (taken ls is))
      ∙ rw (taken_count ls is) (sum_same (λ j. one_if (long (cells_on mode g (taken ls is) j))) (λ j. is_global (get_or is j 0)) (length is) (λ j l. rw (taken_cells is j l)))
      ∙ over_places is_global is

  module _ (bs : Benches) (h : Shared (count ls) bs) where
    shared_listed : (c : ℕ) → over_on (lists c) bs ≡ length (list_on mode g ls c)
    unfolding list_on lists
    shared_listed c = shared_sum (lists c) (count ls) bs h ∙ sym (list_length (local (cells_on mode g ls)) (count ls) c)

    shared_globals : over_on is_global bs ≡ length (globals_on mode g ls)
    unfolding globals_on is_global
    shared_globals = shared_sum is_global (count ls) bs h ∙ sym (globals_length (cells_on mode g ls) (count ls))

-- ---- tables of functions, added

module _ (g : Grid) (room : ℕ) (l : grid_cells g + 1 ≤ room) (f h : ℕ → ℕ) (few : (c : ℕ) → f c + h c ≤ 65536) where
  abbrev F : List ℕ
  F = table_with f g room

  abbrev H : List ℕ
  H = table_with h g room

  abbrev FH : List ℕ
  FH = table_with (λ c. f c + h c) g room

  entry_adds : (c : ℕ) → get_or F c 0 + get_or H c 0 ≡ get_or FH c 0
  entry_adds c = go (dec_lt c (grid_cells g))
    where
      go : Dec (c < grid_cells g) → get_or F c 0 + get_or H c 0 ≡ get_or FH c 0
      go (yes k) = rw (table_in f g room c k, table_in h g room c k, table_in (λ c. f c + h c) g room c k)
      go (no k) = rw (table_out f g room c (omega arith), table_out h g room c (omega arith), table_out (λ c. f c + h c) g room c (omega arith))

  entry_few : (c : ℕ) → get_or FH c 0 ≤ 65536
  entry_few c = go (dec_lt c (grid_cells g))
    where
      go : Dec (c < grid_cells g) → get_or FH c 0 ≤ 65536
      go (yes k) = rw (table_in (λ c. f c + h c) g room c k) (few c)
      go (no k) = rw (table_out (λ c. f c + h c) g room c (omega arith)) (omega arith)

  tables_add : add_of F H ≡ gives FH
  tables_add =
      adds_gives F H (record { same = length_table h g room l ∙ sym (length_table f g room l); within = λ c k. omega (arith, sum_at_lem F H c, entry_adds c, entry_few c) })
      ∙ ap gives
      (ext_get_or 0 (added F H) FH (length_added F H ∙ length_table f g room l ∙ sym (length_table (λ c. f c + h c) g room l))
      (λ c k. get_d_added F H c (omega (arith, length_added F H)) ∙ entry_adds c))

-- ---- which lines are counted: line i can be, and every bench's can be

module _ (mode : Mode) (g : Grid) (room scratch : ℕ) (ls : Lines) where
  record Counts (i : ℕ) : Type 0 where
    fits : line_fits ls i ≡ true
    ended : completes (walk_on mode g ls i) ≡ true

  -- what does not depend on the lines
  record Common : Type 0 where
    space : 16384 ≤ scratch
    fits : fit g ≡ true
    roomy : grid_cells g + 1 ≤ room

  there : (is : List ℕ) (j : ℕ) → j < length is → 1 ≤ times_counted (get_or is j 0) is
  unfolding times_counted
  there [] j l = absurd (omega arith)
  there (i ∷ is) zero l = rw (eq-eqb i i refl) (omega arith)
  there (i ∷ is) (suc j) l = omega (arith, there is j (omega arith))

  found : (P : ℕ → Type 0) (is : List ℕ) → ((j : ℕ) → j < length is → P (get_or is j 0)) → (i : ℕ) → 1 ≤ times_counted i is → P i
  unfolding times_counted
  found P [] h i l = absurd (omega arith)
  found P (x ∷ xs) h i l = go (ℕ_discrete i x) (found P xs (λ j k. h (suc j) (omega arith)) i)
    where
      go : Dec (i ≡ x) → (1 ≤ times_counted i xs → P i) → P i
      go (yes e) later = rw e (h 0 (omega arith))
      go (no d) later = later (let z : 1 ≤ one_if false + times_counted i xs = rw (ne_eqb i x d) at l in omega arith)

  bench_passes : (is : List ℕ) → Common → length is ≤ 65536 → ((i : ℕ) → 1 ≤ times_counted i is → Counts i) → Passes mode g (taken ls is) room scratch
  bench_passes is c few h =
      record {
        space = c.space;
        same = taken_alike ls is;
        few = rw (taken_count ls is) few;
        each = λ j l. let k : j < length is = omega (arith, taken_count ls is) in taken_fits ls is j k ∙ (h (get_or is j 0) (there is j k)).fits;
        fits = c.fits;
        roomy = c.roomy;
        ended = λ j l. let k : j < length is = omega (arith, taken_count ls is) in ap completes (taken_walk ls is mode g j k) ∙ (h (get_or is j 0) (there is j k)).ended;
      }

  passes_bench : (is : List ℕ) → Passes mode g (taken ls is) room scratch → Common × ((i : ℕ) → 1 ≤ times_counted i is → Counts i)
  passes_bench is p = (
    record { space = p.space; fits = p.fits; roomy = p.roomy },
    found Counts is (λ j l. let k : j < count (taken ls is) = omega (arith, taken_count ls is) in
        record { fits = sym (taken_fits ls is j l) ∙ p.each j k; ended = sym (ap completes (taken_walk ls is mode g j l)) ∙ p.ended j k }),
  )

  -- ---- all benches

  table_given : (qs : Lines) → Passes mode g qs room scratch → table_of mode g room scratch qs ≡ gives (counts_on mode g qs room)
  unfolding table_of
  table_given qs p = then_fine (counting_check mode g qs room scratch) (gives (counts_on mode g qs room)) (passes_fine mode g qs room scratch p)

  table_passes : (qs : Lines) (t : List ℕ) → table_of mode g room scratch qs ≡ gives t → Passes mode g qs room scratch
  unfolding table_of
  table_passes qs t h = fine_passes mode g qs room scratch (then_passed (counting_check mode g qs room scratch) (gives (counts_on mode g qs room)) h).0

  over_ones : (is : List ℕ) → over (λ _. 1) is ≡ length is
  unfolding over
  over_ones [] = refl
  over_ones (i ∷ is) = omega (arith, over_ones is)

  given_by : (bs : Benches) → Common → over_on (λ _. 1) bs ≤ 65536 → ((c : ℕ) → over_on (lists mode g ls c) bs ≤ 65536) → ((i : ℕ) → 1 ≤ times_on i bs → Counts i)
      → table_by mode g room scratch ls bs ≡ gives (table_with (λ c. over_on (lists mode g ls c) bs) g room)
  unfolding table_by over_on times_on ◌into◌
  given_by (bench is) k many few h =
      table_given (taken ls is) (bench_passes is k (omega (arith, over_ones is)) h)
      ∙ ap gives (counts_with mode g (taken ls is) room ∙ ap (λ (f : ℕ → ℕ). table_with f g room) (fun_ext (taken_listed mode g ls is)))
  given_by (both a b) k many few h =
      rw (given_by a k (omega arith) (λ c. let z = few c in omega arith) (λ i l. h i (omega arith)), given_by b k (omega arith) (λ c. let z = few c in omega arith) (λ i l. h i (omega arith)))
      (tables_add g room k.roomy (λ c. over_on (lists mode g ls c) a) (λ c. over_on (lists mode g ls c) b) few)

  by_given : (bs : Benches) (t : List ℕ) → table_by mode g room scratch ls bs ≡ gives t → Common × ((i : ℕ) → 1 ≤ times_on i bs → Counts i)
  unfolding table_by times_on
  by_given (bench is) t h = passes_bench is (table_passes (taken ls is) t h)
  by_given (both a b) t h =
      into_passed (table_by mode g room scratch ls a) (λ t. table_by mode g room scratch ls b into (λ u. add_of t u)) h
      (λ u p q.
      into_passed (table_by mode g room scratch ls b) (λ v. add_of u v) q
      (λ v r _.
      let x = by_given a u p in
      let y = by_given b v r in
      (x.0, λ i l. go i l x.1 y.1 (dec_lt 0 (times_on i a)))))
    where
      go : (i : ℕ) → 1 ≤ times_on i a + times_on i b → ((i : ℕ) → 1 ≤ times_on i a → Counts i) → ((i : ℕ) → 1 ≤ times_on i b → Counts i) → Dec (0 < times_on i a) → Counts i
      go i l x y (yes k) = x i (omega arith)
      go i l x y (no k) = y i (omega arith)

  module _ (bs : Benches) (alike : Alike ls) (few : count ls ≤ 65536) (h : Shared (count ls) bs) where
    single_passes : Common → ((i : ℕ) → 1 ≤ times_on i bs → Counts i) → Passes mode g ls room scratch
    single_passes c k =
        record {
          space = c.space;
          same = alike;
          few = few;
          each = λ i l. (k i (omega (arith, h.once i l))).fits;
          fits = c.fits;
          roomy = c.roomy;
          ended = λ i l. (k i (omega (arith, h.once i l))).ended;
        }

    within : (i : ℕ) → 1 ≤ times_on i bs → Dec (i < count ls) → i < count ls
    within i l (yes k) = k
    within i l (no k) = absurd (omega (arith, h.others i (omega arith)))

    ones : (n : ℕ) → sum (λ _. 1) n ≡ n
    unfolding sum
    ones zero = refl
    ones (suc n) = omega (arith, ones n)

    few_at : (c : ℕ) → length (list_on mode g ls c) ≤ count ls
    unfolding list_on
    few_at c = lines_few (local (cells_on mode g ls)) (count ls) c

    shared_given : Passes mode g ls room scratch → table_by mode g room scratch ls bs ≡ gives (counts_on mode g ls room)
    shared_given p =
        given_by bs (record { space = p.space; fits = p.fits; roomy = p.roomy })
        (omega (arith, shared_sum (λ _. 1) (count ls) bs h, ones (count ls)))
        (λ c. omega (arith, shared_listed mode g ls bs h c, few_at c))
        (λ i l. let k = within i l (dec_lt i (count ls)) in record { fits = p.each i k; ended = p.ended i k })
        ∙ ap gives (ap (λ (f : ℕ → ℕ). table_with f g room) (fun_ext (shared_listed mode g ls bs h)) ∙ sym (counts_with mode g ls room))

    -- what benches come to is the table of a single count
    pub shared_counts : (t : List ℕ) → table_by mode g room scratch ls bs ≡ gives t → (Passes mode g ls room scratch) × (t ≡ counts_on mode g ls room)
    shared_counts t k =
        let x = by_given bs t k in
        let p = single_passes x.0 x.1 in
        let e = sym k ∙ shared_given p in
        (p, cc)

    -- WHERE A SINGLE COUNT IS NOT REFUSED, NEITHER IS ANY BENCH NOR ANY ADDING, and the table is the same
    pub never_refused : (t : List ℕ) → table_of mode g room scratch ls ≡ gives t → table_by mode g room scratch ls bs ≡ gives t
    never_refused t k = shared_given (table_passes ls t k) ∙ sym (table_given ls (table_passes ls t k)) ∙ k

    -- HOWEVER SHARED, ADDING GIVES THE TABLE OF A SINGLE COUNT, or both are refused
    pub sharing : Agree (table_by mode g room scratch ls bs) (table_of mode g room scratch ls)
    sharing =
        agree_by (table_by mode g room scratch ls bs) (table_of mode g room scratch ls)
        (λ t k. let x = shared_counts t k in table_given ls x.0 ∙ ap gives (sym x.1)) never_refused

-- ---- the two numbers

module _ (mode : Mode) (g : Grid) (ls : Lines) where
  globals_by : (bs : Benches) → globals_on_all mode g ls bs ≡ over_on (is_global mode g ls) bs
  unfolding globals_on_all over_on
  globals_by (bench is) = taken_globals mode g ls is
  globals_by (both a b) = ap₂ ◌+◌ (globals_by a) (globals_by b)

  listed_by_lem : (bs : Benches) → listed_by mode g ls bs ≡ sum (λ c. over_on (lists mode g ls c) bs) (grid_cells g)
  unfolding listed_by over_on total
  listed_by_lem (bench is) = sum_same (λ c. length (list_on mode g (taken ls is) c)) (λ c. over (lists mode g ls c) is) (grid_cells g) (λ c _. taken_listed mode g ls is c)
  listed_by_lem (both a b) =
      ap₂ ◌+◌ (listed_by_lem a) (listed_by_lem b) ∙ sym (sum_add (λ c. over_on (lists mode g ls c) a) (λ c. over_on (lists mode g ls c) b) (grid_cells g))

  module _ (bs : Benches) (h : Shared (count ls) bs) where
    pub globals_shared : globals_on_all mode g ls bs ≡ length (globals_on mode g ls)
    globals_shared = globals_by bs ∙ shared_globals mode g ls bs h

    pub listed_shared : listed_by mode g ls bs ≡ total mode g ls
    unfolding total
    listed_shared = listed_by_lem bs ∙ sum_same (λ c. over_on (lists mode g ls c) bs) (λ c. length (list_on mode g ls c)) (grid_cells g) (λ c _. shared_listed mode g ls bs h c)

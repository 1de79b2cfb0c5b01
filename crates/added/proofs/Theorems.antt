-- What follows from the promise of the entries alone: it settles everything; and a line that is added to standing tables leaves standing tables, of one line
-- more. Assumes nothing.
use Rattle.std.specs.Prelude.{Ok, Result}
use Rattle.refusals.specs.declared.Refusal.{Refusal}
use mathlib.Core.Path.{◌≡◌, refl, sym, ap, ◌∙◌}
use mathlib.Core.List.{List}
use Prim.Native.Nat.{ℕ, zero, suc, ◌*◌, ◌≤◌, ◌<◌}
use native.Mathlib.Omega.{arith}
use native.Mathlib.Decide.{ℕ_discrete}
use borrow.Author.Tests.{leb-true}
use lib.ListN.{length, length-append, length-replicate}
use Rattle.refusals.specs.Refusals.{Answer, refused, gives, ◌then◌, answer_by, zero_beyond}
use Rattle.refusals.proofs.Checks.{unless_fine, and_then_left, and_then_right}
use Rattle.refusals.proofs.Answers.{then_passed, into_passed}
use Rattle.grid.specs.declared.Grid.{Grid}
use Rattle.grid.specs.declared.Segment.{Segment}
use Rattle.grid.proofs.Bools.{and_left}
use Rattle.walk.specs.declared.Mode.{Mode}
use Rattle.walk.specs.Segment.{segment_of}
use Rattle.walk.proofs.Visits.{segment_visits}
use Rattle.tables.specs.Tables.{Tables, tables, cells}
use Rattle.tables.specs.Lists.{Walks, local, local_lines, lines_at, global_lines, concat, tabulate, start, items_of, offsets_of}
use Rattle.tables.specs.Stands.{Stands}
use Rattle.tables.proofs.Laws.{sum_same, table_made, length_offsets, length_items}
use Rattle.tables.proofs.Standing.{laid_stands}
use Rattle.added.specs.declared.Added.{Added}
use Rattle.added.specs.Added.{listing, list_with, globals_with, total_with, edge_check, ask_check, space_with_check, room_for, add_end, added_of, kept_in, AddIs}
use Rattle.added.specs.Inside.{Placeable}
use Rattle.added.proofs.Asking.{asked}

-- ---- the promise settles everything

pub record Identical (r r₁ : Result Added Refusal) (o o₁ t t₁ gs gs₁ s s₁ : List ℕ) : Type 0 where
  pub answer : r ≡ r₁
  pub offsets : o ≡ o₁
  pub items : t ≡ t₁
  pub globals : gs ≡ gs₁
  pub scratch : s ≡ s₁

-- any two outcomes that it admits are identical
pub one_outcome : {t : Tables} {a : Answer (List ℕ)} {s : List ℕ} {left : List ℕ → List ℕ} {r r₁ : Result Added Refusal} {o o₁ xs xs₁ gs gs₁ z z₁ : List ℕ}
    → AddIs t a s left r o xs gs z → AddIs t a s left r₁ o₁ xs₁ gs₁ z₁ → Identical r r₁ o o₁ xs xs₁ gs gs₁ z z₁
one_outcome h k =
    record {
      answer = h.answer ∙ sym k.answer;
      offsets = h.offsets_are ∙ sym k.offsets_are;
      items = h.items_are ∙ sym k.items_are;
      globals = h.globals_are ∙ sym k.globals_are;
      scratch = h.scratch_is ∙ sym k.scratch_is;
    }

-- ---- a line that was added

-- the cells that it visits, what was checked, and what the tables hold
pub record Success (mode : Mode) (g : Grid) (line : Segment) (t : Tables) (s : List ℕ) (found : ℕ) (o xs gs : List ℕ) : Type 0 where
  pub visited : List ℕ
  pub walked : segment_of mode g line ≡ gives visited
  pub asks : Placeable g line t s
  pub room : total_with t visited ≤ length t.items
  pub fits : length (globals_with t visited) ≤ length t.globals
  pub found_is : found ≡ length (globals_with t visited)
  pub offsets_are : o ≡ offsets_of (list_with t visited) (cells t) (length t.offsets)
  pub items_are : xs ≡ items_of (list_with t visited) (cells t) (length t.items)
  pub globals_are : gs ≡ zero_beyond 0 (length t.globals) (globals_with t visited)

record Given (t : Tables) (a : Answer (List ℕ)) (found : ℕ) (o xs gs : List ℕ) : Type 0 where
  visited : List ℕ
  is : a ≡ gives visited
  found_is : found ≡ length (globals_with t visited)
  offsets_are : o ≡ offsets_of (list_with t visited) (cells t) (length t.offsets)
  items_are : xs ≡ items_of (list_with t visited) (cells t) (length t.items)
  globals_are : gs ≡ zero_beyond 0 (length t.globals) (globals_with t visited)

given_by : {t : Tables} (a : Answer (List ℕ)) {s : List ℕ} {left : List ℕ → List ℕ} {i j l : ℕ} {o xs gs z : List ℕ} → AddIs t a s left (Ok (record { cells = i; items = j; globals = l })) o xs gs z → Given t a l o xs gs
unfolding answer_by added_of kept_in
given_by (refused why) h = let x : ◌≡◌ {A = ℕ} 0 1 = cc h.answer in absurd (omega arith)
given_by {t} (gives v) {i = i} {j = j} {l = l} h =
    let e : record { cells = i; items = j; globals = l } ≡ record { cells = length (listing v); items = total_with t v; globals = length (globals_with t v) } = cc h.answer in
    record { visited = v; is = refl; found_is = ap (λ (d : Added). d.globals) e; offsets_are = h.offsets_are; items_are = h.items_are; globals_are = h.globals_are }

pub success : (mode : Mode) (g : Grid) (line : Segment) {t : Tables} {s : List ℕ} {left : List ℕ → List ℕ} {r : Result Added Refusal} {i j l : ℕ} {o xs gs z : List ℕ}
    → AddIs t (add_end mode g line t (length s)) s left r o xs gs z → r ≡ Ok (record { cells = i; items = j; globals = l }) → Success mode g line t s l o xs gs
unfolding add_end room_for space_with_check
success mode g line {t} {s} {left} {r} {i} {j} {l} {o} {xs} {gs} {z} h ok =
    let k : AddIs t (add_end mode g line t (length s)) s left (Ok (record { cells = i; items = j; globals = l })) o xs gs z = rw ok at h in
    let f = given_by (add_end mode g line t (length s)) k in
    let p = then_passed (ask_check g line t (length s)) (edge_check g line then room_for mode g line t) f.is in
    let q = then_passed (edge_check g line) (room_for mode g line t) p.1 in
    into_passed (segment_of mode g line) (λ v. space_with_check t v then gives v) q.1
    (λ v e d.
    let u = then_passed (space_with_check t v) (gives v) d in
    let same : v ≡ f.visited = cc u.1 in
    record {
      visited = v;
      walked = e;
      asks = asked p.0;
      room = leb-true _ _ (and_left _ _ (unless_fine _ 5 (total_with t v) (and_then_left _ _ u.0)));
      fits = leb-true _ _ (unless_fine _ 6 (length (globals_with t v)) (and_then_right _ _ u.0));
      found_is = rw same f.found_is;
      offsets_are = rw same f.offsets_are;
      items_are = rw same f.items_are;
      globals_are = rw same f.globals_are;
    })

-- ---- lists that are the same on the grid are laid out the same

concat_same : (F G : ℕ → List ℕ) (m : ℕ) → ((c : ℕ) → c < m → F c ≡ G c) → concat F m ≡ concat G m
unfolding concat
concat_same F G zero e = refl
concat_same F G (suc m) e = rw (concat_same F G m (λ c l. e c (omega arith)), e m (omega arith))

tabulate_same : (f g : ℕ → ℕ) (m : ℕ) → ((c : ℕ) → c < m → f c ≡ g c) → tabulate f m ≡ tabulate g m
unfolding tabulate
tabulate_same f g zero e = refl
tabulate_same f g (suc m) e = rw (tabulate_same f g m (λ c l. e c (omega arith)), e m (omega arith))

module _ (F G : ℕ → List ℕ) (m : ℕ) (e : (c : ℕ) → c < m → F c ≡ G c) where
  start_same : (c : ℕ) → c ≤ m → start F c ≡ start G c
  start_same c l = sum_same (λ d. length (F d)) (λ d. length (G d)) c (λ d k. ap length (e d (omega arith)))

  items_same : (len : ℕ) → items_of F m len ≡ items_of G m len
  unfolding items_of
  items_same len = rw (concat_same F G m e, start_same m (omega arith))

  offsets_same : (len : ℕ) → offsets_of F m len ≡ offsets_of G m len
  unfolding offsets_of
  offsets_same len = rw (tabulate_same (start F) (start G) (suc m) (λ c l. start_same c (omega arith)))

-- ---- THE LAW: of standing tables, the line added leaves standing tables of one line more

module _ (W : ℕ → List ℕ) (mode : Mode) (g : Grid) (line : Segment) (n : ℕ) {o xs gs : List ℕ} {count : ℕ} {s : List ℕ} {found : ℕ} {o' xs' gs' : List ℕ}
    (st : Stands W n g (tables g n o xs gs count)) (h : Success mode g line (tables g n o xs gs count) s found o' xs' gs') (is : W n ≡ h.visited) where
  abbrev m : ℕ
  m = g.rows * g.cols

  abbrev F : ℕ → List ℕ
  F = list_with (tables g n o xs gs count) h.visited

  lists_more : (c : ℕ) → c < m → F c ≡ local_lines W (suc n) c
  unfolding list_with listing lines_at local
  lists_more c l = rw (st.lists c l, is)

  globals_more : globals_with (tables g n o xs gs count) h.visited ≡ global_lines W (suc n)
  unfolding globals_with global_lines
  globals_more = rw (st.globals, is)

  walks_more : Walks W (suc n) m
  walks_more =
      let v = segment_visits mode g line st.grid_fit h.visited h.walked in
      record {
        rises = λ i l. elim (ℕ_discrete i n) [
          | yes e ↦ rw (e, is) v.rising
          | no d ↦ st.walks.rises i (omega (arith, d))
        ];
        below = λ i l. elim (ℕ_discrete i n) [
          | yes e ↦ rw (e, is) v.inside
          | no d ↦ st.walks.below i (omega (arith, d))
        ];
      }

  total_more : start (local_lines W (suc n)) m ≤ length xs
  unfolding total_with
  total_more = let r = h.room in omega (arith, start_same F (local_lines W (suc n)) m lists_more m (omega arith))

  -- THE SLICES ARE THOSE OF ALL LINES, laid out anew in slices of their lengths
  pub offsets_laid : o' ≡ offsets_of (local_lines W (suc n)) m (length o)
  offsets_laid = h.offsets_are ∙ offsets_same F (local_lines W (suc n)) m lists_more (length o)

  pub items_laid : xs' ≡ items_of (local_lines W (suc n)) m (length xs)
  items_laid = h.items_are ∙ items_same F (local_lines W (suc n)) m lists_more (length xs)

  pub globals_laid : gs' ≡ zero_beyond 0 (length gs) (global_lines W (suc n))
  globals_laid = h.globals_are ∙ rw globals_more

  pub found_laid : found ≡ length (global_lines W (suc n))
  found_laid = h.found_is ∙ ap length globals_more

  pub add_stands : Stands W (suc n) g (tables g (suc n) o' xs' gs' found)
  unfolding zero_beyond
  add_stands =
      let l : suc m ≤ length o = omega (arith, st.tables_fit_lem.long) in
      let p : length o' ≡ length o = ap length offsets_laid ∙ length_offsets (local_lines W (suc n)) m (length o) l in
      let q : length xs' ≡ length xs = ap length items_laid ∙ length_items (local_lines W (suc n)) m (length xs) total_more in
      let k : length (global_lines W (suc n)) ≤ length gs = rw globals_more at h.fits in
      let v : length gs' ≡ length gs = ap length globals_laid ∙ rw (length-append, length-replicate) (omega arith) in
      laid_stands
      (record {
        grid_fit = st.grid_fit;
        few = h.asks.few;
        walks = walks_more;
        room = omega (arith, l);
        space = rw q total_more;
        table = table_made l total_more offsets_laid items_laid;
        found_is = found_laid;
        globe = rw v globals_laid;
      })

-- tables that stand for a walk stand for one that is the same below the number of lines
pub stands_alike : {W X : ℕ → List ℕ} {n : ℕ} {g : Grid} {t : Tables} → ((i : ℕ) → i < n → W i ≡ X i) → Stands W n g t → Stands X n g t
unfolding lines_at local global_lines
stands_alike {W} {X} {n} e st =
    record {
      on_grid = st.on_grid;
      grid_fit = st.grid_fit;
      few = st.few;
      walks = record { rises = λ i l. rw (← e i l) (st.walks.rises i l); below = λ i l. rw (← e i l) (st.walks.below i l) };
      tables_fit_lem = st.tables_fit_lem;
      lists = λ c l. st.lists c l ∙ local_alike n (λ i k. e i k) c;
      globals = st.globals ∙ global_alike n (λ i k. e i k);
    }
  where
    local_alike : (m : ℕ) → ((i : ℕ) → i < m → W i ≡ X i) → (c : ℕ) → local_lines W m c ≡ local_lines X m c
    local_alike zero h c = refl
    local_alike (suc m) h c = rw (local_alike m (λ i k. h i (omega arith)) c, h m (omega arith))

    global_alike : (m : ℕ) → ((i : ℕ) → i < m → W i ≡ X i) → global_lines W m ≡ global_lines X m
    global_alike zero h = refl
    global_alike (suc m) h = rw (global_alike m (λ i k. h i (omega arith)), h m (omega arith))

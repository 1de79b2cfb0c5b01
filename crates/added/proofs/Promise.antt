-- From what the private functions leave to the promise of the entries. Assumes nothing.
use Rattle.std.specs.Prelude.{Ok, Err, Result}
use mathlib.Core.Path.{◌≡◌, refl, sym, ap, ◌∙◌}
use mathlib.Core.Bool.{Bool, true, false, ◌&&◌}
use mathlib.Core.List.{List, []}
use Prim.Native.Nat.{ℕ, ◌+◌, ◌*◌, ◌≤◌, ◌<◌}
use native.Mathlib.Omega.{arith}
use borrow.Author.Tests.{leb-true}
use lib.Dec.{leb}
use lib.ListN.{length, get_or, take, replicate, length-append}
use lib.Seq.{length-take-le}
use Rattle.slices.specs.Slices.{cleared_from}
use Rattle.slices.specs.Lists.{Below, Rising}
use Rattle.refusals.specs.declared.Refusal.{Refusal}
use Rattle.refusals.specs.Refusals.{Check, refusal, Answer, refused, gives, ◌then◌, ◌into◌, answer_by, left_by, left_in, zero_beyond}
use Rattle.refusals.proofs.Checks.{unless_fine, and_then_left, and_then_right}
use Rattle.refusals.proofs.Answers.{then_refused, then_fine}
use Rattle.refusals.proofs.Leaving.{left_zero, left_same, Clearing, clearing_unless, clearing_then, clears_then, clears_gives, in_alike, numbers_clear, numbers_below, numbers_above}
use Rattle.grid.specs.declared.Grid.{Grid}
use Rattle.grid.specs.declared.Segment.{Segment}
use Rattle.grid.specs.Domain.{scratch_check, segment_check}
use Rattle.grid.proofs.Bools.{and_left, and_right}
use Rattle.grid.proofs.Shapes.{shape_says, fit_shape}
use Rattle.walk.specs.declared.Mode.{Mode}
use Rattle.walk.specs.Segment.{segment_of}
use Rattle.walk.proofs.Visits.{segment_visits}
use Rattle.tables.specs.Tables.{Tables, tables, cells}
use Rattle.tables.specs.Lists.{long, only, items_of, offsets_of}
use Rattle.tables.specs.Fit.{tables_check}
use Rattle.added.specs.declared.Added.{Added}
use Rattle.added.specs.Added.{
  listing,
  list_with,
  globals_with,
  total_with,
  below_check,
  cells_check,
  edge_check,
  ask_check,
  space_with_check,
  room_for,
  add_end,
  added_of,
  kept_in,
  cleared,
  front,
  AddIs,
}
use Rattle.added.specs.Inside.{Went, Insertable, Inserted, globals_left, space_by, Puttable, Placeable}
use Rattle.added.proofs.Laid.{totalled}

-- ---- the promise, by how the call ends

module _ (t : Tables) (s : List ℕ) (left : List ℕ → List ℕ) {a : Answer (List ℕ)} where
  pub is_refused : {r : Refusal} {z : List ℕ} → a ≡ refused r → z ≡ left_by 0 r s → AddIs t a s left (Err r) t.offsets t.items t.globals z
  unfolding kept_in answer_by left_in
  is_refused e h = rw e (record { answer = refl; offsets_are = refl; items_are = refl; globals_are = refl; scratch_is = h })

  pub is_made : (visited : List ℕ) {r : Result Added Refusal} {o xs gs z : List ℕ} → a ≡ gives visited → r ≡ added_of t visited
      → o ≡ offsets_of (list_with t visited) (cells t) (length t.offsets)
      → xs ≡ items_of (list_with t visited) (cells t) (length t.items)
      → gs ≡ zero_beyond 0 (length t.globals) (globals_with t visited)
      → z ≡ left visited
      → AddIs t a s left r o xs gs z
  unfolding kept_in answer_by left_in
  is_made visited e h x y u v = rw e (record { answer = h; offsets_are = x; items_are = y; globals_are = u; scratch_is = v })

-- ---- what the line adds

length_only : (b : Bool) (i j : ℕ) → length (only b i) ≡ length (only b j)
length_only true i j = refl
length_only false i j = refl

only_more : (b : Bool) (i : ℕ) → only b i ≡ replicate (length (only b 0)) i
only_more true i = refl
only_more false i = refl

only_few : (b : Bool) → length (only b 0) ≤ 1
only_few true = omega arith
only_few false = omega arith

-- the cells that list a line are those that it visits, or none
pub by_listing : (P : List ℕ → Type 0) (xs : List ℕ) → P [] → P xs → P (listing xs)
unfolding listing
by_listing P xs none all = go (long xs)
  where
    go : (b : Bool) → P (Rattle.tables.specs.Lists.none_if b xs)
    go true = none
    go false = all

module _ {t : Tables} {s : List ℕ} {k m : ℕ} (w : Puttable t s k m) where
  abbrev v : List ℕ
  v = w.visited

  pub put_more : m ≤ 1
  put_more = omega (arith, w.kind, only_few (long v))

  pub put_end : cells t < length t.offsets
  put_end = omega (arith, w.tables_fit_lem.long)

  pub put_count : t.global_count ≤ length t.globals
  put_count = w.tables_fit_lem.counted

  -- the new numbers
  total_is : total_with t v ≡ get_or t.offsets (cells t) 0 + k
  unfolding total_with list_with
  total_is = totalled t.lines (listing v) t.offsets t.items w.tables_fit_lem.lists w.order w.below ∙ ap (λ (z : ℕ). get_or t.offsets (cells t) 0 + z) (sym w.size)

  found_is : length (globals_with t v) ≡ t.global_count + m
  unfolding globals_with
  found_is =
      let l = length-take-le t.global_count t.globals put_count in
      omega (arith, length-append (take t.global_count t.globals) (only (long v) t.lines), length_only (long v) t.lines 0, w.kind)

  -- in numbers
  abbrev room : Check
  room = space_by (get_or t.offsets (cells t) 0 + k) (length t.items) (t.global_count + m) (length t.globals)

  space_is : room ≡ space_with_check t v
  unfolding space_by space_with_check
  space_is = rw (total_is, found_is)

  space_clears : Clearing true (space_with_check t v)
  unfolding space_with_check
  space_clears =
      clearing_then (clearing_unless _ 5 (total_with t v) (numbers_clear 5 (omega arith) (omega arith)))
      (clearing_unless _ 6 (length (globals_with t v)) (numbers_clear 6 (omega arith) (omega arith)))

  module _ {q : Check} (a : q ≡ room) where
    -- 5 and 6
    pub put_refused : {r : Refusal} {z : List ℕ} → q ≡ Err r → z ≡ replicate (length s) 0 → AddIs t (space_with_check t v then gives v) s (front s) (Err r) t.offsets t.items t.globals z
    put_refused {r} b h =
        let d : space_with_check t v ≡ Err r = sym space_is ∙ sym a ∙ b in
        is_refused t s (front s) (then_refused (space_with_check t v) (gives v) r d) (h ∙ sym (left_zero 0 r s (space_clears.says r d)))

    module _ (b : q ≡ Ok tt) where
      fine : room ≡ Ok tt
      fine = sym a ∙ b

      room_passed : (leb (get_or t.offsets (cells t) 0 + k) (length t.items) && leb (get_or t.offsets (cells t) 0 + k) 4294967295) ≡ true
      unfolding space_by
      room_passed = unless_fine _ 5 (get_or t.offsets (cells t) 0 + k) (and_then_left _ _ fine)

      pub put_fits : t.global_count + m ≤ length t.globals
      unfolding space_by
      put_fits = leb-true _ _ (unless_fine _ 6 (t.global_count + m) (and_then_right _ _ fine))

      pub put_insert : Insertable (take k s) (cells t) (get_or t.offsets (cells t) 0) t.offsets t.items
      put_insert =
          let x : get_or t.offsets (cells t) 0 + k ≤ length t.items = leb-true _ _ (and_left _ _ room_passed) in
          let y : get_or t.offsets (cells t) 0 + k ≤ 4294967295 = leb-true _ _ (and_right (leb (get_or t.offsets (cells t) 0 + k) (length t.items)) _ room_passed) in
          let z : length (take k s) ≡ k = length-take-le k s w.within in
          record {
            lines = t.lines;
            lists = w.tables_fit_lem.lists;
            long = put_end;
            few = w.cells_few;
            last = refl;
            order = rw w.at_front w.order;
            below = rw w.at_front w.below;
            room = omega arith;
            small = omega arith;
          }

      pub put_globals : (m ≤ 1) × (t.global_count + m ≤ length t.globals)
      put_globals = (put_more, put_fits)

      -- the line in its lists
      pub put_made : {o' xs' gs' z : List ℕ} → Inserted t.lines (take k s) (cells t) t.offsets t.items o' xs' → gs' ≡ globals_left t.lines m t.global_count t.globals → z ≡ cleared_from k s
          → AddIs t (space_with_check t v then gives v) s (front s) (Ok (record { cells = k; items = (get_or t.offsets (cells t) 0 + k); globals = (t.global_count + m) })) o' xs' gs' z
      unfolding list_with globals_with globals_left added_of front zero_beyond cleared_from
      put_made {o'} {xs'} i h c =
          let d : space_with_check t v ≡ Ok tt = sym space_is ∙ fine in
          let j : Inserted t.lines (listing v) (cells t) t.offsets t.items o' xs' = rw w.at_front at i in
          is_made t s (front s) v (then_fine (space_with_check t v) (gives v) d)
          (rw (← w.size, total_is, found_is))
          j.offsets_are
          j.items_are
          (h ∙ rw (only_more (long v) t.lines, ← w.kind))
          (c ∙ rw (w.at_front, ← w.size))

-- ---- where the walk comes to cells

module _ (mode : Mode) {g : Grid} {line : Segment} {n : ℕ} {o xs gs : List ℕ} {count : ℕ} {s s₁ : List ℕ} {k m : ℕ}
    (p : Placeable g line (tables g n o xs gs count) s) (w : Went (segment_of mode g line) s s₁ k m) where
  pub place_asks : Puttable (tables g n o xs gs count) s₁ k m
  place_asks =
      let v = segment_visits mode g line p.walkable.fits w.visited w.is in
      record {
        visited = w.visited;
        size = w.size;
        few = w.few;
        within = w.within;
        at_front = w.at_front;
        kind = w.kind;
        order = by_listing (λ z. Rising 0 z) w.visited tt v.rising;
        below = by_listing (λ z. Below (g.rows * g.cols) z) w.visited tt v.inside;
        tables_fit_lem = p.tables_fit_lem;
        cells_few = (shape_says g.cols g.rows (fit_shape g p.walkable.fits)).cells;
        lines_few = p.few;
      }

  pub place_put : {r : Result Added Refusal} {o' xs' gs' z : List ℕ}
      → ((h : Puttable (tables g n o xs gs count) s₁ k m) → AddIs (tables g n o xs gs count) (space_with_check (tables g n o xs gs count) h.visited then gives h.visited) s₁ (front s₁) r o' xs' gs' z)
      → AddIs (tables g n o xs gs count) (room_for mode g line (tables g n o xs gs count)) s (front s) r o' xs' gs' z
  unfolding room_for ◌into◌ front place_asks
  place_put h =
      let i = h place_asks in
      let e = in_alike 0 (space_with_check (tables g n o xs gs count) w.visited then gives w.visited) s s₁ (λ l x. zero_beyond 0 l (listing x)) (clears_then (space_clears place_asks) clears_gives) w.same in
      rw w.is (record { answer = i.answer; offsets_are = i.offsets_are; items_are = i.items_are; globals_are = i.globals_are; scratch_is = i.scratch_is ∙ e })

-- 7
pub place_over : (mode : Mode) (g : Grid) (line : Segment) (t : Tables) (s : List ℕ) {s₁ : List ℕ} → (segment_of mode g line ≡ refused (refusal 7 0)) × (s₁ ≡ replicate (length s) 0)
    → AddIs t (room_for mode g line t) s (front s) (Err (refusal 7 0)) t.offsets t.items t.globals s₁
unfolding room_for ◌into◌
place_over mode g line t s h =
    is_refused t s (front s) (rw h.0) (h.1 ∙ sym (left_zero 0 (refusal 7 0) s (numbers_clear 7 (omega arith) (omega arith))))

-- ---- 3, 2, 1, 8, 10, then 14: these leave all as it was

ask_spares : (g : Grid) (line : Segment) (t : Tables) (n : ℕ) → Clearing false (ask_check g line t n)
unfolding ask_check scratch_check below_check segment_check cells_check tables_check
ask_spares g line t n =
    clearing_then (clearing_unless _ 3 0 (numbers_below 3 (omega arith)))
    (clearing_then (clearing_unless _ 2 t.lines (numbers_below 2 (omega arith)))
    (clearing_then (clearing_unless _ 1 0 (numbers_below 1 (omega arith)))
    (clearing_then (clearing_unless _ 8 0 (numbers_above 8 (omega arith))) (clearing_unless _ 10 0 (numbers_above 10 (omega arith))))))

edge_spares : (g : Grid) (line : Segment) → Clearing false (edge_check g line)
unfolding edge_check
edge_spares g line = clearing_unless _ 14 0 (numbers_above 14 (omega arith))

module _ (mode : Mode) (g : Grid) (line : Segment) (t : Tables) (s : List ℕ) where
  pub list_asked : {r : Refusal} → ask_check g line t (length s) ≡ Err r → AddIs t (add_end mode g line t (length s)) s (front s) (Err r) t.offsets t.items t.globals s
  unfolding add_end
  list_asked {r} e =
      is_refused t s (front s) (then_refused (ask_check g line t (length s)) (edge_check g line then room_for mode g line t) r e)
      (sym (left_same 0 r s ((ask_spares g line t (length s)).says r e)))

  module _ (a : ask_check g line t (length s) ≡ Ok tt) where
    past_asked : add_end mode g line t (length s) ≡ (edge_check g line then room_for mode g line t)
    unfolding add_end
    past_asked = then_fine (ask_check g line t (length s)) (edge_check g line then room_for mode g line t) a

    pub list_edge : {r : Refusal} → edge_check g line ≡ Err r → AddIs t (add_end mode g line t (length s)) s (front s) (Err r) t.offsets t.items t.globals s
    list_edge {r} e =
        is_refused t s (front s) (past_asked ∙ then_refused (edge_check g line) (room_for mode g line t) r e) (sym (left_same 0 r s ((edge_spares g line).says r e)))

    pub list_placed : {r : Result Added Refusal} {o xs gs z : List ℕ} → edge_check g line ≡ Ok tt → AddIs t (room_for mode g line t) s (front s) r o xs gs z
        → AddIs t (add_end mode g line t (length s)) s (front s) r o xs gs z
    list_placed e h = rw (past_asked ∙ then_fine (edge_check g line) (room_for mode g line t) e) h

-- ---- the scratch cleared

pub cleared_refused : {t : Tables} {a : Answer (List ℕ)} {s : List ℕ} {r : Refusal} {o xs gs z : List ℕ} → AddIs t a s (front s) (Err r) o xs gs z → AddIs t a s (cleared s) (Err r) o xs gs z
unfolding answer_by added_of left_in
cleared_refused {a = refused why} k =
    record { answer = k.answer; offsets_are = k.offsets_are; items_are = k.items_are; globals_are = k.globals_are; scratch_is = k.scratch_is }
cleared_refused {a = gives v} k = let x : ◌≡◌ {A = ℕ} 0 1 = cc k.answer in absurd (omega arith)

pub cleared_made : {t : Tables} {a : Answer (List ℕ)} {s : List ℕ} {d : Added} {o xs gs y z : List ℕ} → AddIs t a s (front s) (Ok d) o xs gs y → length y ≡ length s → z ≡ replicate (length y) 0
    → AddIs t a s (cleared s) (Ok d) o xs gs z
unfolding answer_by left_in cleared
cleared_made {a = refused why} k m c = let x : ◌≡◌ {A = ℕ} 0 1 = cc k.answer in absurd (omega arith)
cleared_made {a = gives v} k m c =
    record { answer = k.answer; offsets_are = k.offsets_are; items_are = k.items_are; globals_are = k.globals_are; scratch_is = c ∙ ap (λ (n : ℕ). replicate {A = ℕ} n 0) m }

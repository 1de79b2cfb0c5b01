-- From what the calls leave to the promise: refused before the tables are asked, refused with them, and made.
--     one-outcome               the promise settles the answer and every entry
--     kept-own                  after a line was added the summary is the new tables' own
-- Assumes nothing.
use Rattle.std.specs.Prelude.{Ok, Err, Result}
use mathlib.Core.Path.{◌≡◌, refl, sym, ap, ◌∙◌}
use mathlib.Core.Bool.{◌&&◌}
use mathlib.Core.List.{List}
use Prim.Native.Nat.{ℕ, ◌-◌, ◌*◌, ◌≤◌, ◌<◌}
use native.Mathlib.Omega.{arith}
use borrow.Author.Tests.{leb-true, ltb-true}
use lib.Dec.{leb, ltb}
use lib.ListN.{length, take, replicate, length-append}
use lib.Seq.{take-append_seam}
use Rattle.slices.specs.Slices.{cleared_from}
use Rattle.slices.specs.Lists.{Below, Rising}
use Rattle.refusals.specs.declared.Refusal.{Refusal}
use Rattle.refusals.specs.Refusals.{Answer, refused, gives, ◌then◌, answer_by, left_in, zero_beyond}
use Rattle.refusals.proofs.Checks.{unless_fine, and_then_left, and_then_right}
use Rattle.refusals.proofs.Answers.{then_passed, into_passed}
use Rattle.refusals.proofs.Leaving.{left_same}
use Rattle.grid.specs.declared.Grid.{Grid}
use Rattle.grid.specs.declared.Segment.{Segment}
use Rattle.grid.specs.Domain.{fit}
use Rattle.grid.proofs.Bools.{and_right}
use Rattle.walk.specs.declared.Mode.{Mode}
use Rattle.walk.specs.Segment.{segment_of}
use Rattle.walk.proofs.Visits.{segment_visits}
use Rattle.tables.specs.Tables.{Tables, tables}
use Rattle.tables.specs.Fit.{TablesFit}
use Rattle.blocks.specs.Blocks.{blocks, block_totals, Own}
use Rattle.blocks.proofs.Owns.{own_says}
use Rattle.blocks.proofs.Laws.{numbers_own}
use Rattle.added.specs.declared.Added.{Added}
use Rattle.added.specs.Added.{listing, globals_with, total_with, cells_check, edge_check, ask_check, space_with_check, room_for, add_end, added_of, kept_in, cleared, front, AddIs}
use Rattle.added.proofs.Asking.{asked}
use Rattle.added.proofs.Promise.{is_refused, cleared_refused, cleared_made}
use Rattle.blocks_added.specs.Beside.{beside_end, offsets_with, BesideIs}
use Rattle.blocks_added.specs.Inside.{first_check, RaiseAsks, Raised}
use Rattle.blocks_added.proofs.Ends.{first_refused, first_spares, first_room, first_own, ends_alike}
use Rattle.blocks_added.proofs.Grows.{listing_rises, listing_below, raise_asks, grown}

module _ (mode : Mode) (g : Grid) (line : Segment) (n : ℕ) (o xs gs : List ℕ) (found : ℕ) (kept s : List ℕ) where
  abbrev t : Tables
  t = tables g n o xs gs found

  abbrev end : Answer (List ℕ)
  end = add_end mode g line t (length s)

  -- 3, 2, 1, 8, and 10 of the summary
  pub kept_refused : (r : Refusal) → first_check g line n o kept (length s) ≡ Err r → BesideIs mode g line t kept s (Err r) o xs gs kept s
  unfolding kept_in answer_by
  kept_refused r e =
      let d = first_refused mode g line n o xs gs found kept s r e in
      record {
        tables_are = is_refused t s (cleared s) d (sym (left_same 0 r s ((first_spares mode g line n o xs gs found kept s).says r e)));
        summary_is = rw d;
      }

  module _ (f : first_check g line n o kept (length s) ≡ Ok tt) where
    alike : beside_end mode g line t kept (length s) ≡ end
    alike = ends_alike mode g line n o xs gs found kept s f

    stays : {r : Refusal} {o' xs' gs' z : List ℕ} (puts : List ℕ → List ℕ) (a : Answer (List ℕ)) → AddIs t a s (front s) (Err r) o' xs' gs' z → kept ≡ kept_in kept a puts
    unfolding kept_in answer_by added_of
    stays puts (refused why) k = refl
    stays puts (gives v) k = let x : ◌≡◌ {A = ℕ} 0 1 = cc k.answer in absurd (omega arith)

    -- 10 of the tables, 14, 7, 5, 6
    pub list_refused : {r : Refusal} {o' xs' gs' z : List ℕ} → AddIs t end s (front s) (Err r) o' xs' gs' z → BesideIs mode g line t kept s (Err r) o' xs' gs' kept z
    list_refused h =
        record {
          tables_are = rw alike (cleared_refused h);
          summary_is = rw alike (stays (λ visited. zero_beyond 0 (length kept) (block_totals g (offsets_with t visited))) end h);
        }

    -- ---- the line is in its lists, and the cells that list it are at the front of the scratch y

    pub record Went (i : ℕ) (y : List ℕ) : Type 0 where
      pub visited : List ℕ
      pub is : end ≡ gives visited
      pub size : i ≡ length (listing visited)
      pub within : i ≤ length y
      pub at_front : take i y ≡ listing visited
      pub tables_fit_lem : TablesFit t
      pub order : Rising 0 (listing visited)
      pub below : Below (g.rows * g.cols) (listing visited)
      pub some : 0 < g.cols
      pub small : total_with t visited ≤ 4294967295
      pub own : Own g o kept

    front_is : (i : ℕ) (v y : List ℕ) → i ≡ length v → y ≡ zero_beyond 0 (length s) v → take i y ≡ v
    unfolding zero_beyond
    front_is i v y e h = rw (h, e) (take-append_seam v (replicate {A = ℕ} (length s - length v) 0))

    front_within : (i : ℕ) (v y : List ℕ) → i ≡ length v → y ≡ zero_beyond 0 (length s) v → i ≤ length y
    unfolding zero_beyond
    front_within i v y e h = rw (h, e, length-append) (omega arith)

    some_cells : ask_check g line t (length s) ≡ Ok tt → 0 < g.cols
    unfolding ask_check cells_check
    some_cells a =
        ltb-true 0 g.cols
        (and_right (fit g) (ltb 0 g.cols) (unless_fine (fit g && ltb 0 g.cols) 8 0 (and_then_left _ _ (and_then_right _ _ (and_then_right _ _ (and_then_right _ _ a))))))

    pub went : {i j l : ℕ} {o' xs' gs' y : List ℕ} → AddIs t end s (front s) (Ok (record { cells = i; items = j; globals = l })) o' xs' gs' y → Went i y
    unfolding answer_by added_of left_in front add_end room_for space_with_check
    went {i} {j} {l} {o'} {xs'} {gs'} {y} h = go end refl h
      where
        go : (a : Answer (List ℕ)) → end ≡ a → AddIs t a s (front s) (Ok (record { cells = i; items = j; globals = l })) o' xs' gs' y → Went i y
        go (refused why) d k = let x : ◌≡◌ {A = ℕ} 0 1 = cc k.answer in absurd (omega arith)
        go (gives v) d k =
            let made : ◌≡◌ {A = Added} (record { cells = i; items = j; globals = l }) (record { cells = length (listing v); items = total_with t v; globals = length (globals_with t v) }) = cc k.answer in
            let size : i ≡ length (listing v) = ap (λ (x : Added). x.cells) made in
            let p = then_passed (ask_check g line t (length s)) (edge_check g line then room_for mode g line t) d in
            let u = then_passed (edge_check g line) (room_for mode g line t) p.1 in
            let a = asked {g = g} {line = line} {t = t} {s = s} p.0 in
            into_passed (segment_of mode g line) (λ w. space_with_check t w then gives w) u.1
            (λ w m x.
            let z = then_passed (space_with_check t w) (gives w) x in
            let same : w ≡ v = cc z.1 in
            let c = segment_visits mode g line a.walkable.fits w m in
            record {
              visited = v;
              is = d;
              size = size;
              within = front_within i (listing v) y size k.scratch_is;
              at_front = front_is i (listing v) y size k.scratch_is;
              tables_fit_lem = a.tables_fit_lem;
              order = rw same at (listing_rises w c.rising);
              below = rw same at (listing_below (g.rows * g.cols) w c.inside);
              some = some_cells p.0;
              small = rw same at (leb-true (total_with t w) 4294967295 (and_right (leb (total_with t w) (length xs)) (leb (total_with t w) 4294967295) (unless_fine _ 5 (total_with t w) (and_then_left _ _ z.0))));
              own = own_says g o kept (first_own mode g line n o xs gs found kept s f p.0);
            })

    module _ {i : ℕ} {y : List ℕ} (w : Went i y) where
      pub went_asks : RaiseAsks g.cols (take i y) kept
      went_asks =
          rw w.at_front
          (raise_asks g n o xs gs found w.tables_fit_lem w.visited w.order w.below kept w.own (first_room mode g line n o xs gs found kept s f) w.some w.small)

      went_grown : {mid now : List ℕ} → Raised g.cols (take i y) kept mid → (m : ℕ) → m ≡ blocks g → now ≡ cleared_from m mid
          → now ≡ zero_beyond 0 (length kept) (block_totals g (offsets_with t w.visited))
      went_grown {mid} {now} h m e c =
          grown g n o xs gs found w.tables_fit_lem w.visited w.order w.below kept w.own (first_room mode g line n o xs gs found kept s f) mid (rw w.at_front at h) m e now c

      -- the line in its lists, and in its blocks
      pub list_made : {j l : ℕ} {o' xs' gs' z mid now : List ℕ} → AddIs t end s (front s) (Ok (record { cells = i; items = j; globals = l })) o' xs' gs' y → length y ≡ length s
          → Raised g.cols (take i y) kept mid → (m : ℕ) → m ≡ blocks g → now ≡ cleared_from m mid → z ≡ replicate (length y) 0
          → BesideIs mode g line t kept s (Ok (record { cells = i; items = j; globals = l })) o' xs' gs' now z
      unfolding kept_in answer_by
      list_made h same raised m b c d =
          record {
            tables_are = rw alike (cleared_made h same d);
            summary_is = rw (alike ∙ w.is) (went_grown raised m b c);
          }

-- ---- the promise

pub record Identical (r r₁ : Result Added Refusal) (o o₁ xs xs₁ gs gs₁ kept kept₁ s s₁ : List ℕ) : Type 0 where
  pub answer : r ≡ r₁
  pub offsets : o ≡ o₁
  pub items : xs ≡ xs₁
  pub globals : gs ≡ gs₁
  pub summary : kept ≡ kept₁
  pub scratch : s ≡ s₁

-- any two outcomes that it admits are identical
pub one_outcome : {mode : Mode} {g : Grid} {line : Segment} {t : Tables} {kept s : List ℕ} {r r₁ : Result Added Refusal} {o o₁ xs xs₁ gs gs₁ k k₁ z z₁ : List ℕ}
    → BesideIs mode g line t kept s r o xs gs k z → BesideIs mode g line t kept s r₁ o₁ xs₁ gs₁ k₁ z₁ → Identical r r₁ o o₁ xs xs₁ gs gs₁ k k₁ z z₁
one_outcome h k =
    record {
      answer = h.tables_are.answer ∙ sym k.tables_are.answer;
      offsets = h.tables_are.offsets_are ∙ sym k.tables_are.offsets_are;
      items = h.tables_are.items_are ∙ sym k.tables_are.items_are;
      globals = h.tables_are.globals_are ∙ sym k.tables_are.globals_are;
      summary = h.summary_is ∙ sym k.summary_is;
      scratch = h.tables_are.scratch_is ∙ sym k.tables_are.scratch_is;
    }

-- AFTER A LINE WAS ADDED EACH NUMBER IS WHAT THE NEW OFFSETS SAY
pub kept_own : {mode : Mode} {g : Grid} {line : Segment} {t : Tables} {kept s : List ℕ} {i j l : ℕ} {o xs gs k z : List ℕ} → BesideIs mode g line t kept s (Ok (record { cells = i; items = j; globals = l })) o xs gs k z → Own g o k
unfolding kept_in answer_by added_of
kept_own {mode} {g} {line} {t} {kept} {s} {i} {j} {l} {o} {xs} {gs} {k} {z} h = go (beside_end mode g line t kept (length s)) h.tables_are h.summary_is
  where
    go : (a : Answer (List ℕ)) → AddIs t a s (cleared s) (Ok (record { cells = i; items = j; globals = l })) o xs gs z → k ≡ kept_in kept a (λ visited. zero_beyond 0 (length kept) (block_totals g (offsets_with t visited))) → Own g o k
    go (refused why) a b = let x : ◌≡◌ {A = ℕ} 0 1 = cc a.answer in absurd (omega arith)
    go (gives v) a b = rw (b, a.offsets_are) (numbers_own g (offsets_with t v) (length kept))

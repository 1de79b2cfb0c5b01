-- A row's line with its box, and the boxes of a list that stand ready. Assumes nothing.
use Rattle.std.specs.Prelude.{Ok}
use mathlib.Core.Path.{◌≡◌, refl, sym, ◌∙◌}
use mathlib.Core.Bool.{Bool, true, false}
use mathlib.Core.List.{List}
use Prim.Native.Nat.{ℕ, ◌+◌, ◌*◌, ◌≤◌, ◌<◌}
use native.Mathlib.Nat.{add-zero}
use native.Mathlib.Decide.{ℕ_discrete}
use native.Mathlib.Omega.{arith}
use lib.Ieee.{Float, nan}
use lib.ListN.{length, get_or, set, length-set}
use lib.Seq.{get_or-set_same, get_or-set_other}
use Rattle.slices.proofs.Members.{below_at}
use Rattle.grid.specs.declared.Box.{Box}
use Rattle.grid.specs.Domain.{Lines, count, segment_at, lines_check}
use Rattle.grid.specs.Boxes.{box_of, overlaps}
use Rattle.visit.specs.Overlap.{overlap}
use Rattle.visit.specs.Inside.{LineAsks}
use Rattle.by_line.specs.First.{first_by}
use Rattle.first_tests.specs.InsideScan.{keep_at, PlaceAsks, RowsDone}
use Rattle.first_tests.specs.InsideMarked.{MarkedPair, MarkedRows}
use Rattle.first_tests.proofs.Passing.{marked_far, marked_near}
use Rattle.short_lists.specs.Short.{ready_box, ready, pair_outputs, short_fits, short_rows}
use Rattle.once.proofs.Deciding.{short_done}
use Rattle.once.specs.declared.rows.Row.{Row}
use Rattle.once.specs.Inside.{row_of, RowHeld, with_ready, BoxesAsk, Boxed}

-- ---- rows

pub row_first : {row other : Row} → row ≡ other → row.first ≡ other.first
row_first e = rw e

pub row_sure : {row other : Row} → row ≡ other → row.sure ≡ other.sure
row_sure e = rw e

pub row_held : {ls : Lines} {row : Row} {a sure : ℕ} {A : Type 0} → row ≡ row_of ls a sure → lines_check ls ≡ Ok tt → sure ≤ 1 → A → RowHeld ls row A
row_held e f l x = record { fine = f; held = rw e; most = rw e l; asks = x }

pub line_asks : {ls : Lines} {a : ℕ} → lines_check ls ≡ Ok tt → a < count ls → LineAsks ls a
line_asks f l = record { fine = f; one = l }

pub held_other : {ls : Lines} {row : Row} {A B : Type 0} → RowHeld ls row A → B → RowHeld ls row B
held_other h x = record { fine = h.fine; held = h.held; most = h.most; asks = x }

-- one test, of two lines that the marks do not pass over
module _ {ls : Lines} {row : Row} {b common : ℕ} {starts listing counts : List ℕ}
    (a : RowHeld ls row (MarkedPair (count ls) row.first b common row.sure starts listing counts)) (h : PlaceAsks (count ls) starts listing counts)
    {other : Box} (e : other ≡ box_of (segment_at ls b)) {near : Bool} (q : near ≡ overlaps row.bounds other) where
  is : near ≡ overlap ls row.first b
  unfolding overlap
  is = q ∙ rw (a.held, e)

  pub test_far : near ≡ false → false ≡ keep_at (overlap ls) h.W h.c row.first b
  test_far n = marked_far a.asks h (overlap ls) is n

  pub test_near : near ≡ true → {r : Bool} → r ≡ first_by common row.sure row.first b starts listing counts → r ≡ keep_at (overlap ls) h.W h.c row.first b
  test_near n f = marked_near a.asks h (overlap ls) is n f

-- ---- boxes that stand ready

module _ (s : List Float) (u : ℕ) (b : Box) where
  abbrev s₁ : List Float
  s₁ = set s (u * 4) b.min_x

  abbrev s₂ : List Float
  s₂ = set s₁ (u * 4 + 1) b.min_y

  abbrev s₃ : List Float
  s₃ = set s₂ (u * 4 + 2) b.max_x

  with_long : length (with_ready s u b) ≡ length s
  with_long = simp length-set

  with_other : (t k : ℕ) → (t ≡ u → ⊥) → k < 4 → get_or (with_ready s u b) (t * 4 + k) nan ≡ get_or s (t * 4 + k) nan
  with_other t k n l =
      get_or-set_other s₃ (u * 4 + 3) (t * 4 + k) b.max_y nan (λ e. omega (arith, n, e))
      ∙ get_or-set_other s₂ (u * 4 + 2) (t * 4 + k) b.max_x nan (λ e. omega (arith, n, e))
      ∙ get_or-set_other s₁ (u * 4 + 1) (t * 4 + k) b.min_y nan (λ e. omega (arith, n, e))
      ∙ get_or-set_other s (u * 4) (t * 4 + k) b.min_x nan (λ e. omega (arith, n, e))

  module _ (l : u * 4 + 4 ≤ length s) where
    with_0 : get_or (with_ready s u b) (u * 4) nan ≡ b.min_x
    with_0 =
        get_or-set_other s₃ (u * 4 + 3) (u * 4) b.max_y nan (λ e. omega (arith, e))
        ∙ get_or-set_other s₂ (u * 4 + 2) (u * 4) b.max_x nan (λ e. omega (arith, e))
        ∙ get_or-set_other s₁ (u * 4 + 1) (u * 4) b.min_y nan (λ e. omega (arith, e))
        ∙ get_or-set_same s (u * 4) b.min_x nan (omega arith)

    with_1 : get_or (with_ready s u b) (u * 4 + 1) nan ≡ b.min_y
    with_1 =
        get_or-set_other s₃ (u * 4 + 3) (u * 4 + 1) b.max_y nan (λ e. omega (arith, e))
        ∙ get_or-set_other s₂ (u * 4 + 2) (u * 4 + 1) b.max_x nan (λ e. omega (arith, e))
        ∙ get_or-set_same s₁ (u * 4 + 1) b.min_y nan (simp length-set (omega arith))

    with_2 : get_or (with_ready s u b) (u * 4 + 2) nan ≡ b.max_x
    with_2 =
        get_or-set_other s₃ (u * 4 + 3) (u * 4 + 2) b.max_y nan (λ e. omega (arith, e))
        ∙ get_or-set_same s₂ (u * 4 + 2) b.max_x nan (simp length-set (omega arith))

    with_3 : get_or (with_ready s u b) (u * 4 + 3) nan ≡ b.max_y
    with_3 = get_or-set_same s₃ (u * 4 + 3) b.max_y nan (simp length-set (omega arith))

    with_same : ready_box (with_ready s u b) u ≡ b
    with_same = rw (with_0, with_1, with_2, with_3)

    with_apart : (t : ℕ) → (t ≡ u → ⊥) → ready_box (with_ready s u b) t ≡ ready_box s t
    with_apart t n =
        let z : get_or (with_ready s u b) (t * 4) nan ≡ get_or s (t * 4) nan = rw add-zero at (with_other t 0 n (omega arith)) in
        rw (z, with_other t 1 n (omega arith), with_other t 2 n (omega arith), with_other t 3 n (omega arith))

pub record Gathering (ls : Lines) (xs : List ℕ) (s₀ s : List Float) (u : ℕ) : Type 0 where
  pub fine : lines_check ls ≡ Ok tt
  pub asks : BoxesAsk ls xs s₀
  pub to : u ≤ length xs
  pub done : Boxed ls xs u s
  pub long : length s ≡ length s₀

pub gather_begin : {ls : Lines} {xs : List ℕ} {s : List Float} → lines_check ls ≡ Ok tt → BoxesAsk ls xs s → Gathering ls xs s s 0
gather_begin f a = record { fine = f; asks = a; to = omega arith; done = record { each = λ u l. absurd (omega arith) }; long = refl }

module _ {ls : Lines} {xs : List ℕ} {s₀ s : List Float} {u : ℕ} (g : Gathering ls xs s₀ s u) where
  pub gather_end : length xs ≤ u → Boxed ls xs (length xs) s
  gather_end l = let e : u ≡ length xs = omega (arith, g.to) in rw e at g.done

  module _ (l : u < length xs) where
    pub gather_line : LineAsks ls (get_or xs u 0)
    gather_line = record { fine = g.fine; one = below_at (count ls) xs u g.asks.below l }

    pub gather_room : u * 4 + 4 ≤ length s
    gather_room = omega (arith, g.asks.room, g.long)

    pub gather_more : {b : Box} → b ≡ box_of (segment_at ls (get_or xs u 0)) → {s' : List Float} → s' ≡ with_ready s u b → Gathering ls xs s₀ s' (u + 1)
    gather_more {b} e {s'} q =
        rw q
        (record {
          fine = g.fine;
          asks = g.asks;
          to = omega arith;
          done = record { each = λ t k. each t k (ℕ_discrete t u) };
          long = with_long s u b ∙ g.long;
        })
      where
        each : (t : ℕ) → t < u + 1 → Dec (t ≡ u) → ready_box (with_ready s u b) t ≡ box_of (segment_at ls (get_or xs t 0))
        each t k (yes d) = rw d (with_same s u b gather_room ∙ e)
        each t k (no n) = with_apart s u b gather_room t n ∙ g.done.each t (omega (arith, k, n))

-- the rows of a short list, by its boxes
pub boxed_done : {ls : Lines} {xs marks : List ℕ} {s : List Float} {starts listing counts : List ℕ} {hits : ℕ} {fs ss fs' ss' : List ℕ} {hits' long : ℕ} {r : Bool}
    → MarkedRows (count ls) 1 xs marks starts listing counts hits → Boxed ls xs (length xs) s → length s ≡ long
    → r ≡ short_fits (length xs) (length marks) long hits → r ≡ true
    → pair_outputs fs' ss' hits' ≡ short_rows (ready xs marks s starts listing counts) (pair_outputs fs ss hits)
    → RowsDone (overlap ls) (count ls) starts listing counts xs fs ss hits fs' ss' hits'
unfolding overlap
boxed_done {ls} {xs} {marks} {s} {starts} {listing} {counts} {hits} m b l q y e =
    short_done (overlap ls) (count ls) xs marks s starts listing counts hits m (λ i j p d. rw (b.each i p, b.each j d)) (rw l (sym q ∙ y)) e

-- ---- room for boxes, beside what is held of the cells

pub record WithRoom (room : ℕ) (s : List Float) (A : Type 0) : Type 0 where
  pub long : length s ≡ room
  pub held : A

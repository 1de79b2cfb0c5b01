-- The loops over the cells of one line, in either pass. Assumes nothing.
use mathlib.Core.Path.{◌≡◌, refl}
use mathlib.Core.List.{List}
use Prim.Native.Nat.{ℕ, ◌+◌, ◌≤◌, ◌<◌, ◌^◌}
use native.Mathlib.Omega.{arith}
use lib.ListN.{length, get_or, set, length-set}
use Rattle.tables.specs.Lists.{lines_at}
use Rattle.tables.specs.InsidePasses.{Counted, Placed, CanCount, CanPlace}
use Rattle.tables.proofs.Laws.{so_far, so_far_none, turn, line_done, count_step, count_fits, place_step, place_inside}

-- ---- the first pass: j of the n cells at the front of s are counted

pub record Counting (s : List ℕ) (n : ℕ) (o₀ o : List ℕ) (j : ℕ) : Type 0 where
  pub some : CanCount o₀ s n
  pub at : j ≤ n
  pub len : length o ≡ length o₀
  pub all : (h : CanCount o₀ s n) → Counted (so_far h.W h.i j) o

pub counting_none : {s : List ℕ} {n : ℕ} {o : List ℕ} → CanCount o s n → Counting s n o o 0
counting_none h = record { some = h; at = omega arith; len = refl; all = λ k. rw (so_far_none k.W k.i) at k.counted }

module _ {s : List ℕ} {n : ℕ} {o₀ o : List ℕ} {j : ℕ} (k : Counting s n o₀ o j) where
  pub counting_read : j ≤ n → j < n → j < length s
  counting_read _ l = omega (arith, k.some.line.fits)

  pub counting_cell : j < n → get_or s j 0 < length o
  counting_cell l = omega (arith, (turn k.some.line l).below, k.some.room, k.len)

  pub counting_fits : j < n → get_or o (get_or s j 0) 0 + 1 < 2 ^ 32
  counting_fits l = count_fits k.some.line (turn k.some.line l) (k.all k.some)

  pub counting_more : j < n → Counting s n o₀ (set o (get_or s j 0) (get_or o (get_or s j 0) 0 + 1)) (j + 1)
  counting_more l =
      record {
        some = k.some;
        at = omega arith;
        len = simp length-set k.len;
        all = λ h. count_step (turn h.line l) (omega (arith, h.room, k.len)) (k.all h);
      }

  pub counting_done : n ≤ j → (h : CanCount o₀ s n) → Counted (lines_at h.W (h.i + 1)) o
  counting_done l h = rw (line_done h.line j (omega (arith, k.at))) at (k.all h)

-- ---- the second pass: j of the n cells are placed

pub record Placing (i : ℕ) (s : List ℕ) (n : ℕ) (o₀ t₀ o t : List ℕ) (line j : ℕ) : Type 0 where
  pub some : CanPlace i o₀ t₀ s n
  pub is : line ≡ i
  pub at : j ≤ n
  pub len : length o ≡ length o₀
  pub len_items : length t ≡ length t₀
  pub all : (h : CanPlace i o₀ t₀ s n) → Placed (lines_at h.W h.lines) h.cells (so_far h.W i j) o t

pub placing_none : {i : ℕ} {s : List ℕ} {n : ℕ} {o t : List ℕ} {line : ℕ} → line ≡ i → CanPlace i o t s n → Placing i s n o t o t line 0
placing_none {i} e h =
    record { some = h; is = e; at = omega arith; len = refl; len_items = refl; all = λ k. rw (so_far_none k.W i) at k.placed }

module _ {i : ℕ} {s : List ℕ} {n : ℕ} {o₀ t₀ o t : List ℕ} {line j : ℕ} (k : Placing i s n o₀ t₀ o t line j) where
  pub placing_read : j < n → j < length s
  placing_read l = omega (arith, k.some.line.fits)

  pub placing_cell : j < n → get_or s j 0 < length o
  placing_cell l = omega (arith, (turn k.some.line l).below, k.some.room, k.len)

  pub placing_item : j < n → get_or o (get_or s j 0) 0 < length t
  placing_item l = omega (arith, place_inside (turn k.some.line l) (k.all k.some), k.some.space, k.len_items)

  pub placing_fits : j < n → get_or o (get_or s j 0) 0 + 1 < 2 ^ 32
  placing_fits l = omega (arith, place_inside (turn k.some.line l) (k.all k.some), k.some.small)

  pub placing_more : j < n → Placing i s n o₀ t₀ (set o (get_or s j 0) (get_or o (get_or s j 0) 0 + 1)) (set t (get_or o (get_or s j 0) 0) line) line (j + 1)
  placing_more l =
      record {
        some = k.some;
        is = k.is;
        at = omega arith;
        len = simp length-set k.len;
        len_items = simp length-set k.len_items;
        all = λ h. rw k.is (place_step (turn h.line l) (omega (arith, h.room, k.len)) (omega (arith, h.space, k.len_items)) (k.all h));
      }

  pub placing_done : n ≤ j → (h : CanPlace i o₀ t₀ s n) → Placed (lines_at h.W h.lines) h.cells (lines_at h.W (i + 1)) o t
  placing_done l h = rw (line_done h.line j (omega (arith, k.at))) at (k.all h)

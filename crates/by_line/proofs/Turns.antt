-- The two passes over the cells: from a cell's list to the next, and from the counts to the lists by line. Assumes nothing.
use mathlib.Core.Path.{◌≡◌, refl, ap, ◌∙◌}
use mathlib.Core.List.{List}
use Prim.Native.Nat.{ℕ, ◌+◌, ◌≤◌, ◌<◌, ◌^◌}
use native.Mathlib.Omega.{arith}
use lib.ListN.{length, get_or, replicate}
use lib.Seq.{take-length}
use Rattle.slices.proofs.Distinct.{length_rising}
use Rattle.slices.proofs.Clearing.{zeros_at}
use Rattle.tables.specs.Tables.{list_in}
use Rattle.tables.specs.Lists.{lines_at, sum, items_of, offsets_of}
use Rattle.tables.specs.InsidePasses.{Line, Table, Counted, Placed, CanCount, CanPlace}
use Rattle.tables.proofs.Laws.{counts_sum, placed_none, table_of}
use Rattle.fill.specs.Inside.{Summed, ShiftedBack}
use Rattle.by_line.specs.Inside.{TurnAsks, ListCountAsks, ListPlaceAsks, MakeAsks, Made}

-- ---- the list of a cell

-- the list of a cell is the walk of that cell through the lines
pub line_of : {m n : ℕ} {offsets items : List ℕ} {c : ℕ} {s : List ℕ} → TurnAsks m n offsets items → c < m → s ≡ list_in offsets items c
    → Line (list_in offsets items) m n c s (length s)
line_of {m} {n} {offsets} {items} {c} {s} a h e =
    record {
      walks = a.walks;
      in_lines = h;
      lines_small = a.few_cells;
      cells_small = a.few_lines;
      few = omega (arith, a.few_lines, rw (← e) at (length_rising 0 n (list_in offsets items c) (omega arith) (a.walks.rises c h) (a.walks.below c h)));
      fits = omega arith;
      size = ap length e;
      cells_are = take-length s ∙ e;
    }

-- ---- counting

pub record Counting (m n : ℕ) (offsets items counts₀ counts : List ℕ) (c : ℕ) : Type 0 where
  pub table : TurnAsks m n offsets items
  pub at : c ≤ m
  pub len : length counts ≡ length counts₀
  pub room : n ≤ length counts
  pub counted : Counted (lines_at (list_in offsets items) c) counts

pub counting_none : {m n : ℕ} {offsets items counts : List ℕ} → ListCountAsks m n offsets items counts → Counting m n offsets items counts counts 0
counting_none a = record { table = a.table; at = omega arith; len = refl; room = a.room; counted = a.counted }

module _ {m n : ℕ} {offsets items counts₀ counts : List ℕ} {c : ℕ} (k : Counting m n offsets items counts₀ counts c) where
  pub counting_can : {s : List ℕ} → c < m → s ≡ list_in offsets items c → CanCount counts s (length s)
  counting_can l e =
      record { W = list_in offsets items; lines = m; cells = n; i = c; line = line_of k.table l e; room = k.room; counted = k.counted }

  pub counting_more : {s counts' : List ℕ} → (l : c < m) → (e : s ≡ list_in offsets items c) → length counts' ≡ length counts
      → ((h : CanCount counts s (length s)) → Counted (lines_at h.W (h.i + 1)) counts') → Counting m n offsets items counts₀ counts' (c + 1)
  unfolding counting_can
  counting_more l e f g =
      record { table = k.table; at = omega arith; len = f ∙ k.len; room = omega (arith, k.room); counted = g (counting_can l e) }

  pub counting_done : m ≤ c → Counted (lines_at (list_in offsets items) m) counts
  counting_done l = let e : c ≡ m = omega (arith, k.at) in rw e at k.counted

-- ---- placing

pub record Placing (m n : ℕ) (offsets items starts₀ listing₀ starts listing : List ℕ) (c : ℕ) : Type 0 where
  pub asks : ListPlaceAsks m n offsets items starts₀ listing₀
  pub at : c ≤ m
  pub len : length starts ≡ length starts₀
  pub len_listing : length listing ≡ length listing₀
  pub placed : Placed (lines_at (list_in offsets items) m) n (lines_at (list_in offsets items) c) starts listing

pub placing_none : {m n : ℕ} {offsets items starts listing : List ℕ} → ListPlaceAsks m n offsets items starts listing → Placing m n offsets items starts listing starts listing 0
placing_none a = record { asks = a; at = omega arith; len = refl; len_listing = refl; placed = a.placed }

module _ {m n : ℕ} {offsets items starts₀ listing₀ starts listing : List ℕ} {c : ℕ} (k : Placing m n offsets items starts₀ listing₀ starts listing c) where
  pub placing_can : {s : List ℕ} → c < m → s ≡ list_in offsets items c → CanPlace c starts listing s (length s)
  placing_can l e =
      record {
        W = list_in offsets items;
        lines = m;
        cells = n;
        line = line_of k.asks.table l e;
        room = omega (arith, k.asks.room, k.len);
        space = omega (arith, k.asks.space, k.len_listing);
        small = k.asks.small;
        placed = k.placed;
      }

  pub placing_more : {s starts' listing' : List ℕ} → (l : c < m) → (e : s ≡ list_in offsets items c) → length starts' ≡ length starts → length listing' ≡ length listing
      → ((h : CanPlace c starts listing s (length s)) → Placed (lines_at h.W h.lines) h.cells (lines_at h.W (c + 1)) starts' listing')
      → Placing m n offsets items starts₀ listing₀ starts' listing' (c + 1)
  unfolding placing_can
  placing_more l e f g p =
      record { asks = k.asks; at = omega arith; len = f ∙ k.len; len_listing = g ∙ k.len_listing; placed = p (placing_can l e) }

  pub placing_done : m ≤ c → Placed (lines_at (list_in offsets items) m) n (lines_at (list_in offsets items) m) starts listing
  placing_done l = let e : c ≡ m = omega (arith, k.at) in rw e at k.placed

-- ---- from the counts to the lists

-- nothing is counted in a slice that is zero
pub counted_none : (W : ℕ → List ℕ) (n : ℕ) {counts : List ℕ} → counts ≡ replicate n 0 → Counted (lines_at W 0) counts
unfolding lines_at
counted_none W n e = record { count_is = λ c. rw e (zeros_at n c) }

module _ {m n : ℕ} {offsets items starts listing : List ℕ} (a : MakeAsks m n offsets items starts listing) where
  pub make_counts : {s : List ℕ} → s ≡ replicate (length starts) 0 → length s ≡ length starts → ListCountAsks m n offsets items s
  make_counts e l = record { table = a.table; room = omega (arith, a.room); counted = counted_none (list_in offsets items) (length starts) e }

  module _ {s₁ : List ℕ} (k : Counted (lines_at (list_in offsets items) m) s₁) (l₁ : length s₁ ≡ length starts) where
    pub make_sums : (n < length s₁) × (sum (λ k. get_or s₁ k 0) n < 2 ^ 32)
    make_sums = (omega (arith, a.room), omega (arith, counts_sum k n, a.small))

    module _ {s₂ : List ℕ} {all : ℕ} (q : Summed s₁ s₂ n all) (l₂ : length s₂ ≡ length s₁) where
      pub make_place : {t : List ℕ} → t ≡ replicate (length listing) 0 → length t ≡ length listing → ListPlaceAsks m n offsets items s₂ t
      make_place {t} z lt =
          record {
            table = a.table;
            room = omega (arith, a.room);
            space = omega (arith, a.space);
            small = a.small;
            placed = placed_none a.table.walks k q.sums q.beyond (λ p. rw z (zeros_at (length listing) p));
          }

      pub make_done : {s₃ s₄ t : List ℕ} → Placed (lines_at (list_in offsets items) m) n (lines_at (list_in offsets items) m) s₃ t → ShiftedBack s₃ s₄ n
          → length s₄ ≡ length starts → length t ≡ length listing → Made m n offsets items starts listing s₄ t
      make_done {s₃} {s₄} {t} p b ls lt =
          let tab : Table (lines_at (list_in offsets items) m) n s₄ t =
          table_of a.table.walks (omega (arith, a.room)) (omega (arith, a.space)) p b.first b.moved b.beyond in
          record {
            starts_are = tab.offsets_are ∙ ap (λ (x : ℕ). offsets_of (lines_at (list_in offsets items) m) n x) ls;
            listing_is = tab.items_are ∙ ap (λ (x : ℕ). items_of (lines_at (list_in offsets items) m) n x) lt;
          }

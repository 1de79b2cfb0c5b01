-- Document 02, 12, as laws of a line that was added with its summary.
--     as_added                  the tables are as document 02, 11 has them: the call without a summary ends alike
--     blocks-stay               a block that holds no cell which the line visits keeps its number
-- That each number is then what the new offsets say is `kept_own` in `Kept.antt`. Assumes nothing.
use Rattle.std.specs.Prelude.{Ok}
use mathlib.Core.Path.{◌≡◌, refl, sym, ap, ◌∙◌}
use mathlib.Core.Bool.{Bool, true, false, true≢false}
use mathlib.Core.List.{List}
use Prim.Native.Nat.{ℕ, ◌*◌, ◌<◌}
use native.Mathlib.Omega.{arith}
use lib.ListN.{length, get_or}
use Rattle.slices.specs.Lists.{elem}
use Rattle.refusals.specs.Refusals.{Answer, refused, gives, ◌then◌, answer_by}
use Rattle.refusals.proofs.Checks.{unless_fine}
use Rattle.refusals.proofs.Answers.{then_fine, then_passed, into_passed}
use Rattle.grid.specs.declared.Grid.{Grid}
use Rattle.grid.specs.declared.Segment.{Segment}
use Rattle.walk.specs.declared.Mode.{Mode}
use Rattle.walk.specs.Segment.{segment_of}
use Rattle.walk.proofs.Visits.{segment_visits}
use Rattle.tables.specs.Tables.{Tables, tables}
use Rattle.tables.specs.Lists.{long, none_if}
use Rattle.blocks.specs.Blocks.{blocks, block_of, said, own, summary_check}
use Rattle.blocks.proofs.Owns.{own_says}
use Rattle.added.specs.Added.{listing, edge_check, ask_check, space_with_check, room_for, add_end, added_of, kept_in, cleared, AddIs}
use Rattle.added.proofs.Asking.{asked}
use Rattle.blocks_added.specs.Beside.{own_check, beside_end, BesideIs}
use Rattle.blocks_added.proofs.Grows.{listing_rises, listing_below, others_stay}
use Rattle.blocks_added.proofs.Kept.{kept_own}

listed_visited : (c : ℕ) (xs : List ℕ) → elem c (listing xs) ≡ true → elem c xs ≡ true
unfolding listing
listed_visited c xs h = go (long xs) h
  where
    go : (b : Bool) → elem c (none_if b xs) ≡ true → elem c xs ≡ true
    go true e = absurd (true≢false (sym e))
    go false e = e

-- a line that is added with its summary: the checks that it passed, and the cells that it visits
record Passed (mode : Mode) (g : Grid) (line : Segment) (t : Tables) (kept s v : List ℕ) : Type 0 where
  asks : ask_check g line t (length s) ≡ Ok tt
  own_is : own_check g t.offsets kept ≡ Ok tt
  walked : segment_of mode g line ≡ gives v
  ends : add_end mode g line t (length s) ≡ gives v

passed : (mode : Mode) (g : Grid) (line : Segment) (t : Tables) (kept s v : List ℕ) → beside_end mode g line t kept (length s) ≡ gives v → Passed mode g line t kept s v
unfolding beside_end add_end room_for
passed mode g line t kept s v e =
    let a = then_passed (summary_check g (length kept)) _ e in
    let b = then_passed (ask_check g line t (length s)) _ a.1 in
    let c = then_passed (own_check g t.offsets kept) _ b.1 in
    let d = then_passed (edge_check g line) _ c.1 in
    into_passed (segment_of mode g line) (λ w. space_with_check t w then gives w) d.1
    (λ w m x.
    let z = then_passed (space_with_check t w) (gives w) x in
    let same : w ≡ v = cc z.1 in
    record { asks = b.0; own_is = c.0; walked = rw same at m; ends = then_fine (ask_check g line t (length s)) _ b.0 ∙ c.1 })

module _ {mode : Mode} {g : Grid} {line : Segment} {t : Tables} {kept s : List ℕ} {i j l : ℕ} {o xs gs k z : List ℕ}
    (h : BesideIs mode g line t kept s (Ok (record { cells = i; items = j; globals = l })) o xs gs k z) where
  -- THE TABLES ARE AS WITHOUT A SUMMARY
  pub as_added : AddIs t (add_end mode g line t (length s)) s (cleared s) (Ok (record { cells = i; items = j; globals = l })) o xs gs z
  unfolding answer_by added_of
  as_added = go (beside_end mode g line t kept (length s)) refl h.tables_are
    where
      go : (a : Answer (List ℕ)) → beside_end mode g line t kept (length s) ≡ a → AddIs t a s (cleared s) (Ok (record { cells = i; items = j; globals = l })) o xs gs z
          → AddIs t (add_end mode g line t (length s)) s (cleared s) (Ok (record { cells = i; items = j; globals = l })) o xs gs z
      go (refused why) e a = let x : ◌≡◌ {A = ℕ} 0 1 = cc a.answer in absurd (omega arith)
      go (gives v) e a = rw (passed mode g line t kept s v e).ends a

module _ {mode : Mode} {g : Grid} {line : Segment} {n : ℕ} {o₀ xs₀ gs₀ : List ℕ} {found : ℕ} {kept s : List ℕ} {i j l : ℕ} {o xs gs k z : List ℕ}
    (h : BesideIs mode g line (tables g n o₀ xs₀ gs₀ found) kept s (Ok (record { cells = i; items = j; globals = l })) o xs gs k z) where
  -- ONLY BLOCKS THAT HOLD CELLS WHICH THE LINE VISITS CHANGE
  pub blocks_stay : (visited : List ℕ) → segment_of mode g line ≡ gives visited → (b : ℕ) → b < blocks g
      → ((c : ℕ) → elem c visited ≡ true → block_of g.cols c ≡ b → ⊥) → get_or k b 0 ≡ get_or kept b 0
  unfolding answer_by added_of kept_in own_check
  blocks_stay visited w b inside apart = go (beside_end mode g line (tables g n o₀ xs₀ gs₀ found) kept (length s)) refl h.tables_are
    where
      go : (a : Answer (List ℕ)) → beside_end mode g line (tables g n o₀ xs₀ gs₀ found) kept (length s) ≡ a
          → AddIs (tables g n o₀ xs₀ gs₀ found) a s (cleared s) (Ok (record { cells = i; items = j; globals = l })) o xs gs z → get_or k b 0 ≡ get_or kept b 0
      go (refused why) e a = let x : ◌≡◌ {A = ℕ} 0 1 = cc a.answer in absurd (omega arith)
      go (gives v) e a =
          let p = passed mode g line (tables g n o₀ xs₀ gs₀ found) kept s v e in
          let q = asked {g = g} {line = line} {t = tables g n o₀ xs₀ gs₀ found} {s = s} p.asks in
          let c = segment_visits mode g line q.walkable.fits v p.walked in
          let same : v ≡ visited = cc (p.walked, w) in
          let was = own_says g o₀ kept (unless_fine (own g o₀ kept) 10 0 p.own_is) in
          (kept_own h).at b inside
          ∙ ap (λ (os : List ℕ). said g os b) a.offsets_are
          ∙ others_stay g n o₀ xs₀ gs₀ found q.tables_fit_lem v (listing_rises v c.rising) (listing_below (g.rows * g.cols) v c.inside) b
          (λ d m. apart d (rw same at (listed_visited d v m)))
          ∙ sym (was.at b inside)

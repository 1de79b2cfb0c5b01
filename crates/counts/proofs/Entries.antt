-- The entries: from what `fill` answers to the promises of `count` and `tables_on`, and from the checks to that of `agreed_grid`. Assumes nothing.
use Rattle.std.specs.Prelude.{Ok, Err, Result}
use Rattle.refusals.specs.Refusals.{Check, and_then, Answer, refused, gives, ◌then◌, answer_by, left_in}
use mathlib.Core.Path.{◌≡◌, refl, sym, ap, ◌∙◌}
use mathlib.Core.Bool.{false, cond}
use mathlib.Core.List.{List}
use Prim.Native.Nat.{ℕ, ◌≤◌, ◌<◌, ◌^◌}
use native.Mathlib.Omega.{arith}
use lib.ListN.{length, get_or}
use Rattle.refusals.specs.declared.Refusal.{Refusal}
use Rattle.grid.specs.declared.Grid.{Grid}
use Rattle.grid.specs.declared.Segment.{Segment}
use Rattle.grid.specs.Domain.{Lines, count, segment_check}
use Rattle.walk.specs.declared.Mode.{Mode}
use Rattle.tables.specs.Lists.{local, sum}
use Rattle.tables.proofs.Laws.{sum_same, lines_few}
use Rattle.sizing.specs.declared.Sizing.{Sizing}
use Rattle.fill.specs.declared.Filled.{Filled}
use Rattle.fill.specs.OnGrid.{grid_cells, cells_on, list_on, globals_on, total, counts_on}
use Rattle.fill.specs.Checks.{counting_check, space_check}
use Rattle.fill.specs.Fill.{count_of, CountIs, more_than, crowded, made, filling_of, filled_of, written_in, FillIs}
use Rattle.fill.proofs.Lines.{total_small}
use Rattle.fill.proofs.Sums.{above_never}
use Rattle.counts.specs.declared.Counted.{Counted}
use Rattle.counts.specs.OnGrid.{CountingIs, tabled_by, tables_room_check, tables_of, TablesAre}
use Rattle.counts.specs.Agreed.{bounds_of, agreed_on, agreed_of}
use Rattle.counts.proofs.Passing.{Passes, fine_passes, table_with, table_in, length_table}

-- ---- the count

-- where a count answers a number nothing was refused
of_passed : (k : Check) (m n : ℕ) → Ok n ≡ answer_by Err Ok (k then gives m) → (k ≡ Ok tt) × (n ≡ m)
unfolding ◌then◌ answer_by
of_passed (Ok _) m n h = (refl, cc)
of_passed (Err r) m n h = let z : ◌≡◌ {A = ℕ} 0 1 = cc in absurd (omega arith)

refused_answer : (r : Refusal) (listed : ℕ) (a : Answer ℕ) → ◌≡◌ {A = Result ℕ Refusal} (Err r) (answer_by Err Ok a)
    → ◌≡◌ {A = Result Counted Refusal} (Err r) (answer_by Err (λ globals. Ok (record { listed = listed; globals = globals })) a)
unfolding answer_by
refused_answer r listed (refused q) h = ap Err cc
refused_answer r listed (gives n) h = let z : ◌≡◌ {A = ℕ} 0 1 = cc in absurd (omega arith)

module _ {mode : Mode} {g : Grid} {ls : Lines} {o s : List ℕ} {r : Result ℕ Refusal} {o' s' : List ℕ} (h : CountIs mode g ls o s r o' s' (count_of mode g ls (length o) (length s))) where
  module _ (n : ℕ) (e : r ≡ Ok n) where
    counted_passed : (counting_check mode g ls (length o) (length s) ≡ Ok tt) × (n ≡ length (globals_on mode g ls))
    unfolding count_of
    counted_passed = of_passed (counting_check mode g ls (length o) (length s)) (length (globals_on mode g ls)) n (sym e ∙ h.answer)

    counted_passes : Passes mode g ls (length o) (length s)
    counted_passes = fine_passes mode g ls (length o) (length s) counted_passed.0

    counted_table : o' ≡ table_with (λ c. length (list_on mode g ls c)) g (length o)
    unfolding count_of ◌then◌ left_in counts_on
    counted_table = rw counted_passed.0 at h.counts_are

    counted_sum : sum (λ k. get_or o' k 0) (grid_cells g) ≡ total mode g ls
    unfolding total
    counted_sum =
        sum_same (λ k. get_or o' k 0) (λ c. length (list_on mode g ls c)) (grid_cells g)
        (λ c l. ap (λ (t : List ℕ). get_or t c 0) counted_table ∙ table_in (λ c. length (list_on mode g ls c)) g (length o) c l)

    pub sum_asks : (m : ℕ) → m ≡ grid_cells g → (m ≤ length o') × (sum (λ k. get_or o' k 0) m < 2 ^ 32)
    sum_asks m d =
        let p = counted_passes in
        let l = ap length counted_table ∙ length_table (λ c. length (list_on mode g ls c)) g (length o) p.roomy in
        rw d (omega (arith, p.roomy, l), rw counted_sum (total_small mode g ls p.few p.fits))

    pub count_made : (m t : ℕ) → m ≡ grid_cells g → t ≡ sum (λ k. get_or o' k 0) m → CountingIs mode g ls o s (Ok (record { listed = t; globals = n })) o' s' (count_of mode g ls (length o) (length s))
    unfolding count_of ◌then◌ answer_by
    count_made m t d k =
        let q = counted_passed in
        let all : t ≡ total mode g ls = k ∙ (rw d counted_sum) in
        record { answer = rw (q.0, all, q.1); counts_are = h.counts_are; scratch_is = h.scratch_is }

  pub count_refused : (q : Refusal) → r ≡ Err q → CountingIs mode g ls o s (Err q) o' s' (count_of mode g ls (length o) (length s))
  count_refused q e =
      record {
        answer = refused_answer q (total mode g ls) (count_of mode g ls (length o) (length s)) (sym e ∙ h.answer);
        counts_are = h.counts_are;
        scratch_is = h.scratch_is;
      }

-- ---- the tables

-- no cell lists more than 65,536 lines
never_crowded : (mode : Mode) (g : Grid) (ls : Lines) → count ls ≤ 65536 → more_than 65536 (λ c. length (list_on mode g ls c)) (grid_cells g) ≡ false
unfolding list_on
never_crowded mode g ls few = above_never 65536 (λ c. length (list_on mode g ls c)) (λ c. omega (arith, lines_few (local (cells_on mode g ls)) (count ls) c)) (grid_cells g)

module _ {mode : Mode} {g : Grid} {ls : Lines} {o t gs s : List ℕ} {r : Result Filled Refusal} {o' t' gs' s' : List ℕ} where
  fill_refused : (q : Refusal) → FillIs mode g ls o t gs s r o' t' gs' s' (refused q) → TablesAre mode g ls o t gs s (tabled_by r) o' t' gs' s' (refused q)
  unfolding answer_by left_in
  fill_refused q h =
      record { answer = rw h.answer; offsets_are = h.offsets_are; items_are = h.items_are; globals_are = h.globals_are; scratch_is = h.scratch_is }

  fill_made : FillIs mode g ls o t gs s r o' t' gs' s' (gives made) → TablesAre mode g ls o t gs s (tabled_by r) o' t' gs' s' (gives g)
  unfolding answer_by left_in filled_of written_in
  fill_made h =
      record { answer = rw h.answer; offsets_are = h.offsets_are; items_are = h.items_are; globals_are = h.globals_are; scratch_is = h.scratch_is }

  pub tables_made : FillIs mode g ls o t gs s r o' t' gs' s' (filling_of mode g ls 65536 (length o) (length t) (length gs) (length s))
      → TablesAre mode g ls o t gs s (tabled_by r) o' t' gs' s' (tables_of mode g ls (length o) (length t) (length gs) (length s))
  unfolding filling_of tables_of tables_room_check ◌then◌ and_then
  tables_made = go (counting_check mode g ls (length o) (length s)) refl (space_check mode g ls (length t) (length gs))
    where
      go : (a : Check) → counting_check mode g ls (length o) (length s) ≡ a → (b : Check)
          → FillIs mode g ls o t gs s r o' t' gs' s' (a then cond (more_than 65536 (λ c. length (list_on mode g ls c)) (grid_cells g)) (gives crowded) (b then gives made))
          → TablesAre mode g ls o t gs s (tabled_by r) o' t' gs' s' (and_then a b then gives g)
      go (Err q) e b h = fill_refused q h
      go (Ok _) e (Err q) h = fill_refused q (rw (never_crowded mode g ls (fine_passes mode g ls (length o) (length s) e).few) at h)
      go (Ok _) e (Ok _) h = fill_made (rw (never_crowded mode g ls (fine_passes mode g ls (length o) (length s) e).few) at h)

-- ---- the agreed grid

module _ (z : Sizing) (c : Segment) (n : ℕ) where
  pub agreed_refused : (r : Refusal) → segment_check c ≡ Err r → Err r ≡ answer_by Err Ok (agreed_of z c n)
  unfolding agreed_of ◌then◌ answer_by
  agreed_refused r h = rw h

  pub agreed_on_lem : (g : Grid) → segment_check c ≡ Ok tt → g ≡ agreed_on z (bounds_of c) n → Ok g ≡ answer_by Err Ok (agreed_of z c n)
  unfolding agreed_of ◌then◌ answer_by
  agreed_on_lem g h e = rw h (ap Ok e)

-- The entries case by case: their checks in their order, and what each answers and leaves. Assumes nothing.
use Rattle.std.specs.Prelude.{Ok, Err}
use mathlib.Core.Path.{◌≡◌, refl, sym, ap, ◌∙◌}
use mathlib.Core.Bool.{false, ◌&&◌}
use mathlib.Core.List.{List}
use Prim.Native.Nat.{ℕ, ◌*◌, ◌≤◌, ◌<◌}
use native.Mathlib.Omega.{arith}
use borrow.Author.Tests.{leb-true, ltb-true}
use lib.Dec.{leb, ltb}
use lib.ListN.{length, replicate, length-replicate, take-append-drop}
use Rattle.refusals.specs.declared.Refusal.{Refusal}
use Rattle.refusals.specs.Refusals.{Check, and_then, Answer, gives, ◌then◌, answer_by, clears, left_in, zero_beyond}
use Rattle.refusals.proofs.Checks.{unless_fine, and_then_left, and_then_right}
use Rattle.refusals.proofs.Answers.{then_refused, then_fine, then_and_then}
use Rattle.refusals.proofs.Leaving.{left_same, Clearing, clearing_unless, clearing_then}
use Rattle.grid.specs.declared.Grid.{Grid}
use Rattle.grid.specs.Domain.{fit, count_check, grid_check}
use Rattle.grid.proofs.Fine.{grid_spares}
use Rattle.grid.proofs.Bools.{and_left, and_right}
use Rattle.tables.specs.Tables.{Tables}
use Rattle.tables.specs.Fit.{tables_check, standing_check}
use Rattle.tables.proofs.Laws.{take_tabulate, drop_zeros, length_tabulate}
use Rattle.tables.proofs.Checking.{standing_says}
use Rattle.blocks.specs.declared.Block.{Block}
use Rattle.blocks.specs.Blocks.{along, blocks, said, block_totals, summary_check, make_end, make_answer, MakeIs}
use Rattle.blocks.specs.Query.{items_in, block_check, count_end, count_answer}
use Rattle.blocks.specs.Inside.{Fills, Told, BlocksFilled, BlocksAsk}
use Rattle.blocks.proofs.Places.{few_blocks}
use Rattle.blocks.proofs.Telling.{told_none, said_beyond}

pub length_numbers : (g : Grid) (offsets : List ℕ) → length (block_totals g offsets) ≡ blocks g
unfolding block_totals
length_numbers g offsets = length_tabulate (said g offsets) (blocks g)

-- ---- the summary

-- 3, 2, 8, 10
abbrev pub make_checks : Grid → Tables → ℕ → Check
make_checks g t len = and_then (summary_check g len) (standing_check g t)

module _ (g : Grid) (t : Tables) (was : List ℕ) where
  end_is : make_end g t (length was) ≡ (make_checks g t (length was) then gives (block_totals g t.offsets))
  unfolding make_end
  end_is = sym (then_and_then _ _ _)

  -- no refusal clears the summary
  checks_spare : Clearing false (make_checks g t (length was))
  unfolding summary_check standing_check count_check tables_check clears
  checks_spare =
      clearing_then (clearing_unless _ 3 0 refl)
      (clearing_then (clearing_unless _ 2 t.lines refl) (clearing_then (grid_spares g) (clearing_unless _ 10 0 refl)))

  pub make_refused : (r : Refusal) → make_checks g t (length was) ≡ Err r → MakeIs g t was (Err r) was
  unfolding make_answer answer_by left_in
  make_refused r e =
      let d = end_is ∙ then_refused _ _ r e in
      record { answer = rw d; left = rw d (sym (left_same 0 r was (checks_spare.says r e))) }

  module _ (f : make_checks g t (length was) ≡ Ok tt) where
    room_says : blocks g ≤ length was
    unfolding summary_check
    room_says = leb-true (blocks g) (length was) (unless_fine (leb (blocks g) (length was)) 3 0 (and_then_left _ _ f))

    -- a summary of zeros is what there is to begin with
    pub make_asks : t.cols ≡ g.cols → t.rows ≡ g.rows → (zeros : List ℕ) → zeros ≡ replicate {A = ℕ} (length was) 0
        → Fills g.cols g.rows t.offsets zeros × Told g.cols t.offsets 0 zeros
    unfolding blocks
    make_asks p q zeros z =
        let s = standing_says g t (and_then_right _ _ f) in
        let l : length zeros ≡ length was = ap (λ (xs : List ℕ). length xs) z ∙ length-replicate {A = ℕ} (length was) 0 in
        let lists = rw (p, q) at s.tables.lists in (
          record {
            rises = lists.rises;
            long = rw (p, q) at s.tables.long;
            few = s.grid.counts.cells;
            room = rw l room_says;
          },
          rw z (told_none g.cols t.offsets (length was)),
        )

    pub make_done : (zeros : List ℕ) → zeros ≡ replicate {A = ℕ} (length was) 0 → (now : List ℕ) → BlocksFilled g.cols t.offsets (g.rows * g.cols) zeros now
        → (n : ℕ) → n ≡ blocks g → MakeIs g t was (Ok n) now
    unfolding make_answer answer_by left_in zero_beyond block_totals blocks
    make_done zeros z now h n e =
        let d = end_is ∙ then_fine _ _ f in
        record {
          answer = rw d (ap Ok (e ∙ sym (length_numbers g t.offsets)));
          left = rw d written;
        }
      where
        same : length now ≡ length was
        same = h.len ∙ ap (λ (xs : List ℕ). length xs) z ∙ length-replicate {A = ℕ} (length was) 0

        written : now ≡ zero_beyond 0 (length was) (block_totals g t.offsets)
        written =
            let m = along g.rows * along g.cols in
            let l : m ≤ length now = omega (arith, room_says, same) in
            sym (take-append-drop m now)
            ∙ rw (
              take_tabulate (said g t.offsets) now m l (λ b _. h.told.at b),
              drop_zeros now m l (λ b k. h.told.at b ∙ said_beyond g.cols g.rows t.offsets b k),
              length_tabulate (said g t.offsets) m,
              same,
            )

-- ---- the query

-- 3, 8, 9 of the lower corner, 9 of the upper
abbrev pub query_checks : Grid → ℕ → Block → Block → Check
query_checks g len low high = and_then (summary_check g len) (and_then (grid_check g) (and_then (block_check g low) (block_check g high)))

-- a block that is there
record There (g : Grid) (b : Block) : Type 0 where
  pub row : b.row < along g.rows
  pub col : b.col < along g.cols

there_says : (g : Grid) (b : Block) → block_check g b ≡ Ok tt → There g b
unfolding block_check
there_says g b h =
    let p = ltb b.row (along g.rows) in
    let q = ltb b.col (along g.cols) in
    let u = unless_fine (p && q) 9 b.row h in
    record {
      row = ltb-true b.row (along g.rows) (and_left p q u);
      col = ltb-true b.col (along g.cols) (and_right p q u);
    }

module _ (g : Grid) (s : List ℕ) (low high : Block) where
  query_is : count_end g s low high ≡ (query_checks g (length s) low high then gives (items_in g s low high))
  unfolding count_end
  query_is =
      sym (then_and_then _ _ _
      ∙ ap (λ (a : Answer ℕ). summary_check g (length s) then a) (then_and_then _ _ _
      ∙ ap (λ (a : Answer ℕ). grid_check g then a) (then_and_then _ _ _)))

  pub query_refused : (r : Refusal) → query_checks g (length s) low high ≡ Err r → Err r ≡ count_answer g s low high
  unfolding count_answer answer_by
  query_refused r e = sym (ap (answer_by Err Ok) (query_is ∙ then_refused _ _ r e))

  module _ (f : query_checks g (length s) low high ≡ Ok tt) where
    pub query_asks : BlocksAsk (along g.cols) (along g.rows) s low high
    unfolding summary_check grid_check blocks
    query_asks =
        let a = and_then_right _ _ f in
        let b = and_then_right _ _ a in
        let p = there_says g low (and_then_left _ _ b) in
        let q = there_says g high (and_then_right _ _ b) in
        record {
          room = leb-true (blocks g) (length s) (unless_fine (leb (blocks g) (length s)) 3 0 (and_then_left _ _ f));
          few = few_blocks g (unless_fine (fit g) 8 0 (and_then_left _ _ a));
          «low-row» = p.row;
          «low-col» = p.col;
          «high-row» = q.row;
          «high-col» = q.col;
        }

    pub query_done : (n : ℕ) → n ≡ items_in g s low high → Ok n ≡ count_answer g s low high
    unfolding count_answer answer_by
    query_done n e = ap Ok e ∙ sym (ap (answer_by Err Ok) (query_is ∙ then_fine _ _ f))

-- `capi::visiting::mt_cell_list` meets its contract: an `out` that is short, words that are too few, or the list's start and length handed over. Assumes nothing.
use Prim.Native.Nat.{ℕ, suc, ◌+◌, ◌*◌}
use mathlib.Core.Path.{◌≡◌, refl, ◌∙◌}
use lib.ListN.{length, get_or}
use Rattle.grid.specs.declared.Grid.{Grid}
use Rattle.tables.specs.Tables.{Tables, tables}
use Rattle.seek.specs.declared.Place.TheVariants.{Cell}
use Rattle.seek.specs.Places.{list_check, list_at}
use Rattle.seek.proofs.PlaceLaws.{cell_ends}
use Rattle.replies.specs.Answers.{of_part}
use Rattle.replies.proofs.Handing.{short_replies}
use Rattle.capi.proofs.Handing.{few_replies, asked, part_ends}
use Rattle.capi.proofs.visiting.mt_cell_list.Goals as goal

of_cell : (g : Grid) (t : Tables) → t.rows ≡ g.rows → t.cols ≡ g.cols → (row col : ℕ) {cell from : ℕ} → cell ≡ row * t.cols + col → from ≡ get_or t.offsets cell 0 →
    of_part (list_check g t (Cell row col)) from (from + length (list_at t (Cell row col)))
    ≡ of_part (list_check g t (Cell row col)) (get_or t.offsets (row * t.cols + col) 0) (get_or t.offsets (suc (row * t.cols + col)) 0)
of_cell g t rows cols row col {cell} {from} e f =
    let h : from ≡ get_or t.offsets (row * t.cols + col) 0 = f ∙ rw e in
    rw h (part_ends (list_check g t (Cell row col)) _ _ _ (cell_ends g t rows cols row col))

pub returns-then-out-lt2 : goal.returns-then-out-lt2
returns-then-out-lt2 c = short_replies 2 _ _ c.if-out-lt2.true

pub returns-then-grid-lt-WORDS : goal.returns-then-grid-lt-WORDS
returns-then-grid-lt-WORDS c = few_replies 2 _ _ _ c.if-out-lt2.false c.if-grid-lt-WORDS.true

pub returns : goal.returns
returns c =
    let a = c.args in
    let g = c.grid_by-by_words.result in
    let t = tables g a.lines a.offsets.now a.items.now a.globals.now a.global_count in
    rw (← c.grid_by-by_words.ensures)
    (asked 2 _ c.if-grid-lt-WORDS.false
    (of_cell g t refl refl a.row a.col c.cell_number.ensures c.entry-from.ensures) c.listed.ensures)

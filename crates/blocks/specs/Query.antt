-- Document 02, 12: "A query, from grid and summary alone, adds the numbers over a rectangle of whole blocks, both corners included; corners out of order
-- give 0." Definitions only.
use Rattle.refusals.specs.declared.Refusal.{Refusal}
use Rattle.std.specs.Prelude.{Ok, Err, Result, Bool, cond, ◌&&◌, List, ℕ, ◌/◌, ◌%◌, leb, ltb, length, get_or}
use Rattle.refusals.specs.Refusals.{Check, unless, Answer, gives, ◌then◌, answer_by}
use Rattle.grid.specs.declared.Grid.{Grid}
use Rattle.grid.specs.Domain.{grid_check}
use Rattle.tables.specs.Lists.{sum}
use Rattle.blocks.specs.declared.Block.{Block}
use Rattle.blocks.specs.Blocks.{along, blocks, summary_check}

abbrev pub within : ℕ → ℕ → ℕ → Bool
within low high n = leb low n && leb n high

-- the row r and the column c of blocks are in the rectangle from the lower corner to the upper; where the corners are out of order, none are
abbrev pub inside : Block → Block → ℕ → ℕ → Bool
inside low high r c = within low.row high.row r && within low.col high.col c

-- the numbers of those blocks of the rectangle that are below n, added up; a row has `width` blocks
unfoldable pub added_below : ℕ → List ℕ → Block → Block → ℕ → ℕ
added_below width summary low high n = sum (λ b. cond (inside low high (b / width) (b % width)) (get_or summary b 0) 0) n

-- the numbers of all blocks of the rectangle, added up
unfoldable pub items_in : Grid → List ℕ → Block → Block → ℕ
items_in g summary low high = added_below (along g.cols) summary low high (blocks g)

-- 9: a block beyond the end; the value is its row of blocks
unfoldable pub block_check : Grid → Block → Check
block_check g b = unless (ltb b.row (along g.rows) && ltb b.col (along g.cols)) 9 b.row

-- after refusals 3, 8 and 9, which is asked of the lower corner first
unfoldable pub count_end : Grid → List ℕ → Block → Block → Answer ℕ
count_end g summary low high =
    summary_check g (length summary)
    then grid_check g
    then block_check g low
    then block_check g high
    then gives (items_in g summary low high)

unfoldable pub count_answer : Grid → List ℕ → Block → Block → Result ℕ Refusal
count_answer g summary low high = answer_by Err Ok (count_end g summary low high)

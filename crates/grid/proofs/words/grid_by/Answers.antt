-- `grid::words::grid_by` meets its contract. Assumes nothing.
use Rattle.grid.proofs.Saying.{by_words}
use Rattle.grid.proofs.words.grid_by.Goals as goal

pub returns : goal.returns
returns c =
    let w1 = c.word.ensures in
    let f1 = c.from_bits.ensures in
    let w2 = c.word-2.ensures in
    let f2 = c.from_bits-2.ensures in
    let w3 = c.word-3.ensures in
    let f3 = c.from_bits-3.ensures in
    let w4 = c.word-4.ensures in
    let f4 = c.from_bits-4.ensures in
    let w5 = c.word-5.ensures in
    let n5 = c.count.ensures in
    by_words _ w1 w2 w3 w4 w5 c.word-6.ensures f1 f2 f3 f4 n5 c.count-2.ensures

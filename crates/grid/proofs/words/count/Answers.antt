-- `grid::words::count` meets its contract. Assumes nothing.
use Rattle.grid.proofs.Saying.{count_small, count_large}
use Rattle.grid.proofs.words.count.Goals as goal

pub returns-then-word-lt4294967295 : goal.returns-then-word-lt4294967295
returns-then-word-lt4294967295 c = count_small _ c.if-word-lt4294967295.true

pub returns : goal.returns
returns c = count_large _ c.if-word-lt4294967295.false

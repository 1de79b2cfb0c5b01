-- `grid::axes::side_of` meets its contract. Assumes nothing.
use Rattle.grid.specs.Axes.{side_of}
use Rattle.grid.proofs.axes.side_of.Goals as goal

pub returns-then-v-round_half_away : goal.returns-then-v-round_half_away
unfolding side_of
returns-then-v-round_half_away c = rw (← c.near_whole.ensures, c.if-near_whole.true, ← c.round_half_away.ensures, c.if-v-round_half_away.true)

pub returns-then-near_whole : goal.returns-then-near_whole
unfolding side_of
returns-then-near_whole c = rw (← c.near_whole.ensures, c.if-near_whole.true, ← c.round_half_away.ensures, c.if-v-round_half_away.false)

pub returns : goal.returns
unfolding side_of
returns c = rw (← c.near_whole.ensures, c.if-near_whole.false)

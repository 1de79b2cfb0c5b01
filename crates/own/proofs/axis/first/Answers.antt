-- `own::axis::first` meets its contract: by the guess where that is settled, else by the search about it. Assumes nothing.
use Rattle.std.proofs.Common.{arith}
use Rattle.own.proofs.Halving.{empty_axis}
use Rattle.own.proofs.axis.first.Goals as goal

pub returns-then-axis-eq0 : goal.returns-then-axis-eq0
returns-then-axis-eq0 c = empty_axis c.args.axis c.args.p c.if-axis-eq0.true

pub returns-then-settled : goal.returns-then-settled
returns-then-settled c = c.settled.ensures c.if-settled.true

pub searched-requires : goal.searched-requires
searched-requires c = record { searchable = c.requires; some_cells = omega arith; guess_within = c.guessed-guess.ensures }

pub returns : goal.returns
returns c = c.searched.ensures

-- `grid::checks::check_coordinates` meets its contract. Assumes nothing.
use mathlib.Core.Path.{sym, ap, ◌∙◌}
use borrow.Author.Tests.{not-true, not-false}
use native.Mathlib.Omega.{arith}
use Rattle.grid.specs.Domain.{segment, line_fits}
use Rattle.grid.proofs.Fine.{searched_none, searched_more, searched_bad, searched_over}
use Rattle.grid.proofs.checks.check_coordinates.Goals as goal

pub all_obey-requires : goal.all_obey-requires
all_obey-requires c = c.requires

pub returns-then-all_obey : goal.returns-then-all_obey
returns-then-all_obey c = c.all_obey.ensures c.if-all_obey.true

pub loop-i-init : goal.loop-i-init
loop-i-init c = searched_none _ c.requires

pub returns-then-not-is_segment : goal.returns-then-not-is_segment
unfolding line_fits
returns-then-not-is_segment c = searched_bad c.loop-i.invariant (omega arith) (ap segment (sym c.segment_at.ensures) ∙ sym c.is_segment.ensures ∙ not-true _ c.if-not-is_segment.true-raw)

pub loop-i-preserved : goal.loop-i-preserved
unfolding line_fits
loop-i-preserved c = searched_more c.loop-i.invariant (omega arith) (ap segment (sym c.segment_at.ensures) ∙ sym c.is_segment.ensures ∙ not-false _ c.if-not-is_segment.false-raw)

pub returns : goal.returns
returns c = searched_over c.loop-i.invariant (omega arith)

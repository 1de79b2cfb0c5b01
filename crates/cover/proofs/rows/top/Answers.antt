-- `cover::rows::top` meets its contract. Assumes nothing.
use mathlib.Core.Path.{sym, ◌∙◌}
use Rattle.cover.proofs.Sides.{top_before}
use Rattle.cover.proofs.rows.top.Goals as goal

pub returns : goal.returns
returns c = c.lesser.ensures ∙ sym (top_before _ _ _ c.requires.before_last)

-- `through::scan::ask` meets its contract. Assumes nothing.
use Rattle.through.proofs.ScanTurns.{asked_inner, asked_bytes}
use Rattle.through.proofs.scan.ask.Goals as goal

pub returns-then-overlaps_with : goal.returns-then-overlaps_with
returns-then-overlaps_with c = asked_inner _ _ _ _ _ c.requires _ c.inner_in-inner.ensures _ c.overlaps_with.ensures c.if-overlaps_with.true

pub returns : goal.returns
returns c = asked_bytes _ _ _ _ _ c.requires _ c.mark.ensures _ c.whole.ensures

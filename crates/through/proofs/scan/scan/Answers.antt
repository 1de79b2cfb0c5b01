-- `through::scan::scan` meets its contract. Assumes nothing.
use Rattle.through.proofs.ScanTurns.{scan_puts, scanned, scanned_whole}
use Rattle.through.proofs.scan.scan.Goals as goal

pub returns-then-ask : goal.returns-then-ask
returns-then-ask c = scanned_whole _ _ _ _ _ _ _ _ _ c.requires _ c.box_at-bounds.ensures _ _ c.ask.ensures c.if-ask.true _ _ _ c.put_whole.ensures

pub put_some-requires : goal.put_some-requires
put_some-requires c = scan_puts _ _ _ _ _ _ _ _ _ c.requires _ c.box_at-bounds.ensures _ _ c.ask.ensures c.if-ask.false

pub returns : goal.returns
returns c = scanned _ _ _ _ _ _ _ _ _ c.requires _ c.box_at-bounds.ensures _ _ c.ask.ensures c.if-ask.false _ _ _ c.put_some.ensures

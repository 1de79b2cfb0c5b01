-- `clean_bytes::text::put_point` meets its contract. Assumes nothing.
use Rattle.clean_bytes.proofs.Texts.{point_kept, point_dropped}
use Rattle.clean_bytes.proofs.text.put_point.Goals as goal

pub returns-then-reason-eq0 : goal.returns-then-reason-eq0
returns-then-reason-eq0 c = point_kept _ _ _ _ c.if-reason-eq0.true

pub returns : goal.returns
returns c = point_dropped _ _ _ c.if-reason-eq0.false c.dropped_line.ensures

-- `clean_bytes::put_input` meets its contract. Assumes nothing.
use Rattle.clean_bytes.proofs.Keeping.{short_refused, long_refused, sizes_right}
use Rattle.clean_bytes.proofs.put_input.Goals as goal

pub returns-then-file-lt65545 : goal.returns-then-file-lt65545
returns-then-file-lt65545 c = short_refused _ _ c.if-file-lt65545.true c.refuse.ensures

pub returns-then-bytes-gt65536 : goal.returns-then-bytes-gt65536
returns-then-bytes-gt65536 c = long_refused _ _ c.if-file-lt65545.false c.if-bytes-gt65536.true c.refuse_cleared.ensures

pub returns : goal.returns
returns c = sizes_right _ _ c.if-file-lt65545.false c.if-bytes-gt65536.false c.widen-n.ensures c.put_first.ensures

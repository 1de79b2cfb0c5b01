-- `clean_bytes::clean_bytes` meets its contract. Assumes nothing.
use Rattle.clean_bytes.proofs.Keeping.{text_end, text_cleared}
use Rattle.clean_bytes.proofs.clean_bytes.Goals as goal

pub slice_bounds-clear-count : goal.slice_bounds-clear-count
slice_bounds-clear-count c = text_end c.put_input-ends.ensures c.put_input-ends.auto.text

pub slice_bounds-clear-start : goal.slice_bounds-clear-start
slice_bounds-clear-start c = text_end c.put_input-ends.ensures c.put_input-ends.auto.text

pub returns : goal.returns
returns c = text_cleared c.put_input-ends.ensures c.put_input-ends.auto.text c.clear.ensures

-- `clean_bytes::either::widen` meets its contract. Assumes nothing.
use lib.ListN.{length-replicate}
use Rattle.wkb.specs.Reading.{nought}
use Rattle.clean_bytes.proofs.Reading.{line_found, line_none, widened_line, widened_same}
use Rattle.clean_bytes.proofs.either.widen.Goals as goal

pub returns-in-Ok : goal.returns-in-Ok
returns-in-Ok c = widened_line (line_found c.read_line_string-read.ensures c.in-Ok.is) c.put_bytes.ensures c.put_bytes-in-Ok.ensures

pub returns-in-Err : goal.returns-in-Err
returns-in-Err c = widened_same (line_none c.read_line_string-read.ensures c.in-Err.is (length-replicate 1024 nought) (length-replicate 1024 nought)) c.put_bytes-in-Err.ensures

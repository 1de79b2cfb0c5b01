-- `members::bytes::put_8` meets its contract: the 4 low bytes, then the 4 high ones. Assumes nothing.
use Rattle.members.proofs.Putting.{put_eight}
use Rattle.members.proofs.bytes.put_8.Goals as goal

pub returns : goal.returns
returns c =
    let a = c.args in
    put_eight a.v c.put_4.ensures c.put_4-2.ensures

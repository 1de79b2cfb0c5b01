-- `clean_bytes::put_multi` meets its contract. Assumes nothing.
use Prim.Native.Nat.{ℕ}
use lib.ListN.{length-replicate}
use Rattle.clean_bytes.proofs.Loading.{asked, members_read}
use Rattle.clean_bytes.proofs.Keeping.{unread_refused, read_cleaned}
use Rattle.clean_bytes.proofs.put_multi.Goals as goal

pub put_part-requires : goal.put_part-requires
put_part-requires c =
    let q = members_read c.read_multi_line_string-read.ensures (length-replicate {A = ℕ} 4096 0) (length-replicate {A = ℕ} 4096 0) (length-replicate {A = ℕ} 4096 0) c.requires.0 c.in-Ok.is in
    (q.load.parts, asked q.load q.few c.requires.1)

pub returns-in-Err : goal.returns-in-Err
returns-in-Err c = unread_refused c.read_multi_line_string-read.ensures (length-replicate {A = ℕ} 4096 0) (length-replicate {A = ℕ} 4096 0) (length-replicate {A = ℕ} 4096 0) c.requires.0 c.in-Err.is c.refuse.ensures

pub returns-in-Ok : goal.returns-in-Ok
returns-in-Ok c = read_cleaned c.read_multi_line_string-read.ensures (length-replicate {A = ℕ} 4096 0) (length-replicate {A = ℕ} 4096 0) (length-replicate {A = ℕ} 4096 0) c.requires.0 c.in-Ok.is c.put_part.ensures

-- `clean_bytes::put_found` meets its contract. Assumes nothing.
use Prim.Native.Nat.{ℕ}
use lib.ListN.{length-replicate}
use Rattle.clean_bytes.proofs.Keeping.{all_right, always_cleans, kept_load, kept_fits, reasons_there, cleans}
use Rattle.clean_bytes.proofs.put_found.Goals as goal

pub write_kept-bytes-requires : goal.write_kept-bytes-requires
write_kept-bytes-requires c =
    let a = c.requires in
    let k = c.clean-answer.ensures in
    let e = c.in-Ok.is in
    ((kept_load a k e).parts, kept_fits a k e)

pub put_members-end-requires : goal.put_members-end-requires
put_members-end-requires c =
    let a = c.requires in
    (all_right a, reasons_there a c.clean-answer.ensures c.in-Ok.is)

pub returns-in-Err : goal.returns-in-Err
returns-in-Err c = always_cleans c.requires c.clean-answer.ensures c.in-Err.is (length-replicate {A = ℕ} 4096 0) (length-replicate {A = ℕ} 4096 0) (length-replicate {A = ℕ} 2048 0) (length-replicate {A = ℕ} 4096 0)

pub returns-in-Ok : goal.returns-in-Ok
returns-in-Ok c = cleans c.requires c.clean-answer.ensures c.in-Ok.is c.write_kept-bytes.ensures c.put_members-end.ensures

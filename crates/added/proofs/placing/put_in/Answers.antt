-- `added::placing::put_in` meets its contract. Assumes nothing.
use mathlib.Core.Path.{sym}
use native.Mathlib.Omega.{arith}
use lib.Seq.{length-take-le}
use Rattle.added.proofs.Promise.{put_more, put_count, put_refused, put_insert, put_globals, put_made}
use Rattle.added.proofs.placing.put_in.Goals as goal

pub overflow_add-found : goal.overflow_add-found
overflow_add-found c = let h = put_more c.requires in let l = put_count c.requires in omega arith

pub returns-in-Err : goal.returns-in-Err
returns-in-Err c h = put_refused h c.check_room-room.ensures c.in-Err.is c.clear.ensures

pub slice_bounds-insert-end-2 : goal.slice_bounds-insert-end-2
slice_bounds-insert-end-2 c = sym (length-take-le _ c.args.scratch.now c.requires.within)

pub insert-requires : goal.insert-requires
insert-requires c = put_insert c.requires c.check_room-room.ensures c.in_default.is

pub list_global-requires : goal.list_global-requires
list_global-requires c = put_globals c.requires c.check_room-room.ensures c.in_default.is

pub returns : goal.returns
returns c h = put_made h c.check_room-room.ensures c.in_default.is c.insert.ensures c.list_global.ensures c.clear_from.ensures

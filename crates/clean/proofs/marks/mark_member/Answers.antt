-- `clean::marks::mark_member` meets its contract. The invariant: the pieces before `start`, and the points between them, are marked. Assumes nothing.
use mathlib.Core.Path.{◌∙◌}
use Prim.Native.Nat.{◌<◌}
use native.Mathlib.Omega.{arith}
use Rattle.wkb.proofs.Stores.{put_length, fill_length}
use Rattle.clean.proofs.Walking.{in_first, in_lies, in_room, in_piece, in_few, in_last, in_inside, in_next}
use Rattle.clean.proofs.marks.mark_member.Goals as goal

pub loop-from-init : goal.loop-from-init
loop-from-init c = let p = c.requires in in_first p.0 p.1 p.2

pub piece_end-to-requires : goal.piece_end-to-requires
piece_end-to-requires c = in_lies c.loop-from.invariant

pub mark_piece-at-requires : goal.mark_piece-at-requires
mark_piece-at-requires c =
    let m = c.loop-from.invariant in
    let e = c.piece_end-to.ensures in
    (in_piece m e, in_few m e, in_room m)

pub shape_of-reasons-then-to-end : goal.shape_of-reasons-then-to-end
shape_of-reasons-then-to-end c = put_length c.mark_piece-at.ensures.in_reasons ∙ fill_length c.loop-from.invariant.whys

pub shape_of-lengths-then-to-end : goal.shape_of-lengths-then-to-end
shape_of-lengths-then-to-end c = put_length c.mark_piece-at.ensures.in_lengths ∙ fill_length c.loop-from.invariant.lens

pub returns-then-to-end : goal.returns-then-to-end
returns-then-to-end c = in_last c.loop-from.invariant c.piece_end-to.ensures c.mark_piece-at.ensures c.if-to-end.true

pub bounds-reasons-to : goal.bounds-reasons-to
bounds-reasons-to c =
    let goes : c.piece_end-to.result < c.args.end = let e = c.piece_end-to.ensures in omega (arith, e.within) in
    in_inside c.loop-from.invariant c.piece_end-to.ensures c.mark_piece-at.ensures goes

pub overflow_add-start : goal.overflow_add-start
overflow_add-start c =
    let goes : c.piece_end-to.result < c.args.end = let e = c.piece_end-to.ensures in omega (arith, e.within) in
    let g = goes in omega arith

pub loop-from-smaller : goal.loop-from-smaller
loop-from-smaller c =
    let goes : c.piece_end-to.result < c.args.end = let e = c.piece_end-to.ensures in omega (arith, e.within) in
    let g = goes in let e = c.piece_end-to.ensures in omega (arith, e.up)

pub loop-from-preserved : goal.loop-from-preserved
loop-from-preserved c =
    let goes : c.piece_end-to.result < c.args.end = let e = c.piece_end-to.ensures in omega (arith, e.within) in
    in_next c.loop-from.invariant c.piece_end-to.ensures c.mark_piece-at.ensures goes

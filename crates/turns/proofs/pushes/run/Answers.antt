-- `turns::pushes::run` meets its contract. Assumes nothing.
use Rattle.std.proofs.Common.{refl, ◌∙◌, arith}
use borrow.Author.Tests.{not-true, not-false}
use Rattle.turns.proofs.Loop.{going_is, again, done, over}
use Rattle.turns.proofs.pushes.run.Goals as goal

pub loop-way-init : goal.loop-way-init
loop-way-init c = (record { size = c.requires.room; room = omega arith; is = refl }, refl)

pub shape_of-s-then-not-goes : goal.shape_of-s-then-not-goes
shape_of-s-then-not-goes c = c.loop-way.invariant.1

pub returns-then-not-goes : goal.returns-then-not-goes
returns-then-not-goes c = done c.loop-way.invariant.0 (going_is _ _ _ _ c.turn-k.ensures c.goes.ensures ∙ not-true _ c.if-not-goes.true-raw)

pub shape_of-s-then-left-eq0 : goal.shape_of-s-then-left-eq0
shape_of-s-then-left-eq0 c = c.loop-way.invariant.1

pub returns-then-left-eq0 : goal.returns-then-left-eq0
returns-then-left-eq0 c = over c.loop-way.invariant.0 (going_is _ _ _ _ c.turn-k.ensures c.goes.ensures ∙ not-false _ c.if-not-goes.false-raw) c.if-left-eq0.true

pub stride-next-requires : goal.stride-next-requires
stride-next-requires c =
    let g = c.loop-way.invariant.0 in
    record { room = omega (arith, g.room, g.size); few_cells = c.requires.few_cells }

pub loop-way-preserved : goal.loop-way-preserved
loop-way-preserved c =
    let l = c.loop-way in
    let p = c.stride-next.ensures in (
      again l.invariant.0 _ _ _ c.turn-k.ensures c.goes.ensures
          (not-false _ c.if-not-goes.false-raw) (omega arith) p,
      p.1.len ∙ l.invariant.1,
    )

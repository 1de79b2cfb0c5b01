-- `clean::marks::mark_piece` meets its contract: a piece of no points, one that is dropped, or one that is kept. Assumes nothing.
use Prim.Native.Nat.{◌<◌}
use native.Mathlib.Omega.{arith}
use Rattle.clean.proofs.Parts.{did_none, did_short, did_long, one_more, marked_most}
use Rattle.clean.proofs.marks.mark_piece.Goals as goal

pub returns-then-from-to : goal.returns-then-from-to
returns-then-from-to c = let p = c.requires in did_none _ _ _ _ p.0 c.if-from-to.true p.2

pub returns-then-n-lt2 : goal.returns-then-n-lt2
returns-then-n-lt2 c =
    let some : let a = c.args in a.from < a.to = let p = c.requires.0 in omega (arith, p.up) in
    let p = c.requires in did_short _ _ _ _ p.0 some p.2 c.mark_repeats-n.ensures c.if-n-lt2.true

pub overflow_cast-lengths : goal.overflow_cast-lengths
overflow_cast-lengths c =
    let some : let a = c.args in a.from < a.to = let p = c.requires.0 in omega (arith, p.up) in
    let p = c.requires in
    let m = marked_most _ _ _ _ p.0 some c.mark_repeats-n.ensures in
    omega (arith, p.1)

pub bounds-lengths-at : goal.bounds-lengths-at
bounds-lengths-at c =
    let some : let a = c.args in a.from < a.to = let p = c.requires.0 in omega (arith, p.up) in
    let p = c.requires in one_more _ _ _ _ p.0 some p.2 c.mark_repeats-n.ensures c.if-n-lt2.false

pub returns : goal.returns
returns c =
    let some : let a = c.args in a.from < a.to = let p = c.requires.0 in omega (arith, p.up) in
    let p = c.requires in did_long _ _ _ _ p.0 some p.2 c.mark_repeats-n.ensures c.if-n-lt2.false

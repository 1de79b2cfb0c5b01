-- `resume::settle::stop_at` meets its contract. Assumes nothing.
use native.Mathlib.Omega.{arith}
use mathlib.Core.Path.{sym}
use Rattle.seek.proofs.GlobalRests.{stop_in, stop_out}
use Rattle.resume.proofs.settle.stop_at.Goals as goal

pub offset_bounds-globals-q : goal.offset_bounds-globals-q
offset_bounds-globals-q c = omega (arith, c.requires.inside c.if-q-p.true)

pub bounds-globals-q : goal.bounds-globals-q
bounds-globals-q c = c.requires.inside c.if-q-p.true

pub returns-then-q-p : goal.returns-then-q-p
returns-then-q-p c = sym (stop_in c.args.lines _ _ _ c.if-q-p.true)

pub returns : goal.returns
returns c = sym (stop_out _ c.args.globals.now _ _ c.if-q-p.false)

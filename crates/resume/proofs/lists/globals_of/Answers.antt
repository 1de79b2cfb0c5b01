-- `resume::lists::globals_of` meets its contract. Assumes nothing.
use mathlib.Core.Path.{sym}
use lib.Seq.{length-take-le}
use Rattle.resume.proofs.AsIs.{globals_beyond, globals_fit, globals_unfit}
use Rattle.resume.proofs.lists.globals_of.Goals as goal

pub returns-then-globals-count : goal.returns-then-globals-count
returns-then-globals-count c =
    let a = c.args in
    globals_beyond a.lines a.globals.now a.count c.if-globals-count.true

pub slice_bounds-is_increasing-end : goal.slice_bounds-is_increasing-end
slice_bounds-is_increasing-end c = sym (length-take-le _ _ c.if-globals-count.false)

pub slice_bounds-result-end-then-is_increasing : goal.slice_bounds-result-end-then-is_increasing
slice_bounds-result-end-then-is_increasing c = sym (length-take-le _ _ c.if-globals-count.false)

pub returns-then-is_increasing : goal.returns-then-is_increasing
returns-then-is_increasing c =
    let a = c.args in
    globals_fit a.lines a.globals.now a.count c.if-globals-count.false _ c.is_increasing.ensures c.if-is_increasing.true

pub returns : goal.returns
returns c =
    let a = c.args in
    globals_unfit a.lines a.globals.now a.count c.if-globals-count.false _ c.is_increasing.ensures c.if-is_increasing.false

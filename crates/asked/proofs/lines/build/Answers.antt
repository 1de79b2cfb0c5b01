-- `asked::lines::build` meets its contract. Assumes nothing.
use mathlib.Core.Path.{sym}
use native.Mathlib.Omega.{arith}
use lib.Seq.{length-take-le}
use Rattle.asked.proofs.Lending.{none, also, build_lent, build_no_offsets, build_no_items, build_no_globals, build_no_scratch}
use Rattle.asked.proofs.lines.build.Goals as goal

pub returns-then-offsets_lent-gt4096 : goal.returns-then-offsets_lent-gt4096
returns-then-offsets_lent-gt4096 c = none _ (build_no_offsets _ c.lent-offsets_lent.ensures c.if-offsets_lent-gt4096.true)

pub returns-then-items_lent-gt8192 : goal.returns-then-items_lent-gt8192
returns-then-items_lent-gt8192 c = none _ (build_no_items _ c.lent-offsets_lent.ensures c.if-offsets_lent-gt4096.false c.lent-items_lent.ensures c.if-items_lent-gt8192.true)

pub returns-then-globals_lent-gt64 : goal.returns-then-globals_lent-gt64
returns-then-globals_lent-gt64 c = none _ (build_no_globals _ c.lent-offsets_lent.ensures c.if-offsets_lent-gt4096.false c.lent-items_lent.ensures c.if-items_lent-gt8192.false c.lent-globals_lent.ensures c.if-globals_lent-gt64.true)

pub returns-then-scratch_lent-gt16384 : goal.returns-then-scratch_lent-gt16384
returns-then-scratch_lent-gt16384 c = none _ (build_no_scratch _ c.lent-offsets_lent.ensures c.if-offsets_lent-gt4096.false c.lent-items_lent.ensures c.if-items_lent-gt8192.false c.lent-globals_lent.ensures c.if-globals_lent-gt64.false c.lent-scratch_lent.ensures c.if-scratch_lent-gt16384.true)

pub slice_bounds-built-end-2 : goal.slice_bounds-built-end-2
slice_bounds-built-end-2 c = sym (length-take-le _ _ (omega arith))

pub slice_bounds-built-end-3 : goal.slice_bounds-built-end-3
slice_bounds-built-end-3 c = sym (length-take-le _ _ (omega arith))

pub slice_bounds-built-end-4 : goal.slice_bounds-built-end-4
slice_bounds-built-end-4 c = sym (length-take-le _ _ (omega arith))

pub slice_bounds-built-end-5 : goal.slice_bounds-built-end-5
slice_bounds-built-end-5 c = sym (length-take-le _ _ (omega arith))

pub returns : goal.returns
returns c =
    also c.built.ensures
    (build_lent _
    c.lent-offsets_lent.ensures c.if-offsets_lent-gt4096.false
    c.lent-items_lent.ensures c.if-items_lent-gt8192.false
    c.lent-globals_lent.ensures c.if-globals_lent-gt64.false
    c.lent-scratch_lent.ensures c.if-scratch_lent-gt16384.false)

-- `tables::rising::lists_rise` meets its contract. The invariant: the lists before that of `cell`, and the entries before `k`, were looked at. Assumes nothing.
use native.Mathlib.Omega.{arith}
use Rattle.tables.proofs.Breaks.{all_rise, none_rise, no_lines, cut_at, blocks_none, block_entries, block_lists, block_seen, blocks_all}
use Rattle.tables.proofs.rising.lists_rise.Goals as goal

pub returns-then-items-eq0 : goal.returns-then-items-eq0
returns-then-items-eq0 c =
    none_rise c.args.cells c.args.offsets.now c.args.items.now c.requires c.args.lines c.if-items-eq0.true

pub returns-then-lines-eq0 : goal.returns-then-lines-eq0
returns-then-lines-eq0 c =
    no_lines c.args.cells c.args.offsets.now c.args.items.now c.requires c.args.lines c.if-lines-eq0.true (omega arith)

pub loop-cell-init : goal.loop-cell-init
loop-cell-init c =
    blocks_none c.least_32-most.result c.args.cells c.args.offsets.now c.args.items.now (record { laid = c.requires; some = omega arith })

pub count_breaks-breaks-requires : goal.count_breaks-breaks-requires
count_breaks-breaks-requires c =
    let l = c.loop-cell in
    block_entries c.least_32-most.result c.args.cells c.args.offsets.now c.args.items.now l.invariant (omega arith) (omega arith) c.one_at_least-to.ensures

pub count_begins-begins-requires : goal.count_begins-begins-requires
count_begins-begins-requires c =
    let l = c.loop-cell in
    block_lists c.least_32-most.result c.args.cells c.args.offsets.now c.args.items.now l.invariant (omega arith) (omega arith) c.one_at_least-to.ensures

pub loop-cell-preserved : goal.loop-cell-preserved
loop-cell-preserved c =
    let l = c.loop-cell in
    block_seen c.least_32-most.result c.args.cells c.args.offsets.now c.args.items.now l.invariant (omega arith) (omega arith) c.one_at_least-to.ensures c.count_breaks-breaks.ensures c.count_begins-begins.ensures

pub returns : goal.returns
returns c =
    let most = c.least_32-most in
    let known = c.shared_slice_known-2-1.given in
    let both = blocks_all most.result c.args.cells c.args.offsets.now c.args.items.now c.loop-cell-test.false c.loop-cell.invariant in
    rw (both.0, both.1)
    (all_rise c.args.cells c.args.offsets.now c.args.items.now c.requires most.result c.args.lines (λ j l. cut_at c.args.lines most.result _ (omega arith) (known j).fits most.ensures))

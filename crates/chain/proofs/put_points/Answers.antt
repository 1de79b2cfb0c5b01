-- `chain::put_points` meets its contract. Assumes nothing.
use mathlib.Core.Path.{sym, ap}
use native.Mathlib.Omega.{arith}
use lib.Seq.{length-take-le}
use Rattle.report.proofs.Putting.{puts_text}
use Rattle.chain.specs.Printed.{printed_lines}
use Rattle.chain.proofs.Chains.{chain_parts}
use Rattle.chain.proofs.put_points.Goals as goal

pub slice_bounds-put_lines-end : goal.slice_bounds-put_lines-end
slice_bounds-put_lines-end c = sym (length-take-le _ c.args.x.now (omega arith))

pub slice_bounds-put_lines-end-2 : goal.slice_bounds-put_lines-end-2
slice_bounds-put_lines-end-2 c = sym (length-take-le _ c.args.y.now (omega arith))

pub returns : goal.returns
returns c =
    puts_text (ap (printed_lines c.args.plan) (chain_parts c.args.n c.args.x.now c.args.y.now c.requires.0 c.requires.1 c.requires.2)) c.put_lines.ensures

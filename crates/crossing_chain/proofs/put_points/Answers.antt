-- `crossing_chain::put_points` meets its contract. Assumes nothing.
use Rattle.std.proofs.Common.{sym, ap, arith, length-take-le}
use Rattle.report.proofs.Putting.{puts_text}
use Rattle.chain.proofs.Chains.{chain_parts}
use Rattle.crossing_chain.specs.Printed.{crossings_of_lines}
use Rattle.crossing_chain.proofs.Answers.{held}
use Rattle.crossing_chain.proofs.put_points.Goals as goal

pub slice_bounds-put_lines-end : goal.slice_bounds-put_lines-end
slice_bounds-put_lines-end c = sym (length-take-le _ c.args.x.now (omega arith))

pub slice_bounds-put_lines-end-2 : goal.slice_bounds-put_lines-end-2
slice_bounds-put_lines-end-2 c = sym (length-take-le _ c.args.y.now (omega arith))

pub put_lines-requires : goal.put_lines-requires
put_lines-requires c = let s = c.requires in held c.args.n _ _ s.0 s.1 s.2 s.3

pub returns : goal.returns
returns c =
    let s = c.args in
    let p = c.requires in
    puts_text (ap (crossings_of_lines s.plan) (chain_parts s.n s.x.now s.y.now p.0 p.2 p.3)) c.put_lines.ensures

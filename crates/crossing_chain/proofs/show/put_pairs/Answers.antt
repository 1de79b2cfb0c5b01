-- `crossing_chain::show::put_pairs` meets its contract. The invariant: the lines of the first i pairs are put. Assumes nothing.
use Rattle.std.proofs.Common.{◌≡◌, ℕ, take, refl, ap, ◌∙◌, arith}
use Rattle.report.proofs.Putting.{puts_text}
use Rattle.crossing_chain.specs.Printed.{pair_lines}
use Rattle.crossing_chain.proofs.Answers.{pairs_none, puts_pair}
use Rattle.crossing_chain.proofs.show.put_pairs.Goals as goal

pub loop-i-init : goal.loop-i-init
loop-i-init c = (omega arith, omega arith, omega arith, refl, pairs_none _)

pub loop-i-preserved : goal.loop-i-preserved
loop-i-preserved c =
    let l = c.loop-i in
    let a = c.args in
    (omega arith, l.invariant.1, l.invariant.2, c.pair_line-at.auto.out ∙ l.invariant.3, puts_pair a.first.now a.second.now l.i (omega arith) (omega arith) l.invariant.4 c.pair_line-at.ensures)

pub shape_of-out : goal.shape_of-out
shape_of-out c = c.loop-i.invariant.3

pub returns : goal.returns
returns c =
    let a = c.args in
    let l = c.loop-i in
    let e : l.i ≡ a.n = omega arith in
    puts_text (ap (λ (k : ℕ). pair_lines (take k a.first.now) (take k a.second.now)) e) l.invariant.4

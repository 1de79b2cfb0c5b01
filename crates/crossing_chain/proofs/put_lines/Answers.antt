-- `crossing_chain::put_lines` meets its contract. Assumes nothing.
use Rattle.std.proofs.Common.{refl}
use Rattle.report.proofs.Putting.{puts_text}
use Rattle.crossing_chain.proofs.Answers.{wholes_took, wholes_size, lines_samples}
use Rattle.crossing_chain.proofs.put_lines.Goals as goal

pub slice_bounds-put_samples-end : goal.slice_bounds-put_samples-end
slice_bounds-put_samples-end c = wholes_size c.wholes_of.ensures refl

pub slice_bounds-put_samples-end-2 : goal.slice_bounds-put_samples-end-2
slice_bounds-put_samples-end-2 c = wholes_size c.wholes_of-2.ensures c.requires.in_y₀

pub slice_bounds-put_samples-end-3 : goal.slice_bounds-put_samples-end-3
slice_bounds-put_samples-end-3 c = wholes_size c.wholes_of-3.ensures c.requires.in_x₁

pub slice_bounds-put_samples-end-4 : goal.slice_bounds-put_samples-end-4
slice_bounds-put_samples-end-4 c = wholes_size c.wholes_of-4.ensures c.requires.in_y₁

pub returns : goal.returns
returns c =
    let h = c.requires in
    puts_text
    (lines_samples _ _ _ _ _ (wholes_took c.wholes_of.ensures refl) (wholes_took c.wholes_of-2.ensures h.in_y₀) (wholes_took c.wholes_of-3.ensures h.in_x₁) (wholes_took c.wholes_of-4.ensures h.in_y₁))
    c.put_samples.ensures

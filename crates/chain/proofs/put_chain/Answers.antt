-- `chain::put_chain` meets its contract. Assumes nothing.
use mathlib.Core.Path.{◌∙◌}
use lib.ListN.{length-replicate}
use Rattle.wkb.specs.Reading.{nought}
use Rattle.report.proofs.Putting.{puts_text}
use Rattle.chain.specs.Printed.{refused_text, printed_lines}
use Rattle.chain.proofs.Chains.{points_read, refused_read, printed_by}
use Rattle.chain.proofs.put_chain.Goals as goal

pub put_points-requires : goal.put_points-requires
put_points-requires c =
    let p = points_read _ _ _ _ _ (length-replicate 1024 nought) (length-replicate 1024 nought) _ (rw c.in-Ok.is at c.read_line_string-read.ensures) in
    (p.some, p.in_x, p.in_y)

pub returns-in-Err : goal.returns-in-Err
returns-in-Err c =
    puts_text
    (refused_read _ _ _ _ _ (length-replicate 1024 nought) (length-replicate 1024 nought) _ (rw c.in-Err.is at c.read_line_string-read.ensures) refused_text _ ∙ printed_by _ _)
    c.refused_line.ensures

pub returns-in-Ok : goal.returns-in-Ok
returns-in-Ok c =
    puts_text
    ((points_read _ _ _ _ _ (length-replicate 1024 nought) (length-replicate 1024 nought) _ (rw c.in-Ok.is at c.read_line_string-read.ensures)).said refused_text (printed_lines _) ∙ printed_by _ _)
    c.put_points.ensures

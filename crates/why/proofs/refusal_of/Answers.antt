use mathlib.Core.Path.{◌∙◌}
use lib.ListN.{length-replicate}
use Rattle.wkb.specs.Reading.{nought}
use Rattle.why.specs.Why.{of_lines}
use Rattle.chain.proofs.Chains.{points_read, refused_read}
use Rattle.why.proofs.Cases.{refusal_by}
use Rattle.why.proofs.refusal_of.Goals as goal

pub of_points-requires : goal.of_points-requires
of_points-requires c =
    let p = points_read _ _ _ _ _ (length-replicate 1024 nought) (length-replicate 1024 nought) _ (rw c.in-Ok.is at c.read_line_string-read.ensures) in
    (p.some, p.in_x, p.in_y)

pub returns-in-Err : goal.returns-in-Err
returns-in-Err c = refused_read _ _ _ _ _ (length-replicate 1024 nought) (length-replicate 1024 nought) _ (rw c.in-Err.is at c.read_line_string-read.ensures) (λ r. r) _ ∙ refusal_by _ _

pub returns-in-Ok : goal.returns-in-Ok
returns-in-Ok c =
    let p = points_read _ _ _ _ _ (length-replicate 1024 nought) (length-replicate 1024 nought) _ (rw c.in-Ok.is at c.read_line_string-read.ensures) in
    c.of_points.ensures ∙ (p.said (λ r. r) (of_lines _) ∙ refusal_by _ _)

-- `counts::tabled_by` meets its contract. Assumes nothing.
use Rattle.std.specs.Prelude.{Ok}
use mathlib.Core.Path.{◌≡◌, ap, ◌∙◌}
use Rattle.fill.specs.declared.Filled.TheVariants.{Tables, Crowded}
use Rattle.counts.proofs.tabled_by.Goals as goal

pub returns-in-Ok-Tables : goal.returns-in-Ok-Tables
returns-in-Ok-Tables c =
    let f : c.in-Ok-Tables.field-0 ≡ Tables c.in-Ok-Tables.items c.in-Ok-Tables.globals = rw c.in-Ok-Tables.is at c.in-Ok-Tables.field-0-is in
    let e : c.args.filled ≡ Ok (Tables c.in-Ok-Tables.items c.in-Ok-Tables.globals) = c.in-Ok-Tables.is ∙ ap Ok f in
    rw e

pub returns-in-Ok-Crowded : goal.returns-in-Ok-Crowded
returns-in-Ok-Crowded c =
    let f : c.in-Ok-Crowded.field-0 ≡ Crowded = rw c.in-Ok-Crowded.is at c.in-Ok-Crowded.field-0-is in
    let e : c.args.filled ≡ Ok Crowded = c.in-Ok-Crowded.is ∙ ap Ok f in
    rw e

pub returns-in-Err : goal.returns-in-Err
returns-in-Err c = rw c.in-Err.is

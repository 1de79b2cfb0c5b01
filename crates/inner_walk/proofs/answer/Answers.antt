-- `inner_walk::answer` meets its contract. Assumes nothing.
use Rattle.std.specs.Prelude.{Ok}
use mathlib.Core.Path.{◌≡◌, ap, ◌∙◌}
use Rattle.walk.specs.declared.Reached.TheVariants.{Found, Everywhere}
use Rattle.inner_walk.proofs.Reply.{found_said, everywhere_said, refused_said}
use Rattle.inner_walk.proofs.answer.Goals as goal

pub returns-in-Ok-Found : goal.returns-in-Ok-Found
returns-in-Ok-Found c =
    let f : c.in-Ok-Found.field-0 ≡ Found c.in-Ok-Found.n = rw c.in-Ok-Found.is at c.in-Ok-Found.field-0-is in
    let e : c.args.r ≡ Ok (Found c.in-Ok-Found.n) = c.in-Ok-Found.is ∙ ap Ok f in
    found_said c.args.out.now _ e c.put.ensures

pub returns-in-Ok-Everywhere : goal.returns-in-Ok-Everywhere
returns-in-Ok-Everywhere c =
    let f : c.in-Ok-Everywhere.field-0 ≡ Everywhere = rw c.in-Ok-Everywhere.is at c.in-Ok-Everywhere.field-0-is in
    let e : c.args.r ≡ Ok Everywhere = c.in-Ok-Everywhere.is ∙ ap Ok f in
    everywhere_said c.args.out.now e c.put-in-Ok-Everywhere.ensures

pub returns-in-Err : goal.returns-in-Err
returns-in-Err c = refused_said c.args.out.now _ c.in-Err.is c.put-in-Err.ensures

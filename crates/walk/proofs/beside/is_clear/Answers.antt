-- `walk::beside::is_clear` meets its contract. Assumes nothing.
use mathlib.Core.Bool.{true≢false}
use mathlib.Core.Path.{◌≡◌, sym, subst}
use Rattle.grid.specs.declared.Axis.{Axis}
use Rattle.grid.specs.declared.Side.TheVariants.{Off}
use Rattle.grid.specs.Axes.{side_on}
use Rattle.walk.proofs.beside.is_clear.Goals as goal

pub returns-then-is_between-3 : goal.returns-then-is_between-3
returns-then-is_between-3 c =
    λ h.
    let l = c.args.line in
    let x = c.x_axis-x.ensures in
    let y = c.y_axis-y.ensures in
    record {
      start_x = subst (λ (a : Axis). side_on a l.start_x ≡ Off) x (c.is_between.ensures c.if-is_between.true);
      start_y = subst (λ (a : Axis). side_on a l.start_y ≡ Off) y (c.is_between-then-is_between.ensures c.if-is_between-2.true);
      end_x = subst (λ (a : Axis). side_on a l.end_x ≡ Off) x (c.is_between-then-is_between-2.ensures c.if-is_between-3.true);
      end_y = subst (λ (a : Axis). side_on a l.end_y ≡ Off) y (c.is_between-then-is_between-3.ensures h);
    }

pub returns-then-is_between-2 : goal.returns-then-is_between-2
returns-then-is_between-2 c = λ h. absurd (true≢false (sym h))

pub returns-then-is_between : goal.returns-then-is_between
returns-then-is_between c = λ h. absurd (true≢false (sym h))

pub returns : goal.returns
returns c = λ h. absurd (true≢false (sym h))

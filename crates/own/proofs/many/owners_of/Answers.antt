-- `own::many::owners_of` meets its contract: the first check that refuses gives the answer, else every answer is written. Assumes nothing.
use Rattle.std.proofs.lemmas.Result.{err_from_is_err_and}
use Rattle.std.proofs.Common.{sym}
use Rattle.own.proofs.ManyEnds.{lengths, unlike, bad_point, unfit, checked, all_told}
use Rattle.own.proofs.many.owners_of.Goals as goal

pub returns-in_err-check_alike : goal.returns-in_err-check_alike
returns-in_err-check_alike c = let exit = err_from_is_err_and c.from_residual.result c.from_residual.ensures.1 in rw (exit.1, exit.2) (unlike _ _ _ _ _ (sym c.in_err-check_alike.ensures))

pub check_points-requires : goal.check_points-requires
check_points-requires c = (lengths _ _ _ (sym c.in_ok-check_alike.ensures)).0

pub returns-in_err-check_points : goal.returns-in_err-check_points
returns-in_err-check_points c = let exit = err_from_is_err_and c.from_residual-in_err-check_points.result c.from_residual-in_err-check_points.ensures.1 in rw (exit.1, exit.2) (bad_point _ _ _ _ (sym c.in_ok-check_alike.ensures) _ (sym c.in_err-check_points.ensures))

pub returns-in_err-check_grid : goal.returns-in_err-check_grid
returns-in_err-check_grid c = let exit = err_from_is_err_and c.from_residual-in_err-check_grid.result c.from_residual-in_err-check_grid.ensures.1 in rw (exit.1, exit.2) (unfit _ _ _ _ (sym c.in_ok-check_alike.ensures) (sym c.in_ok-check_points.ensures) _ (sym c.in_err-check_grid.ensures))

pub write_owners-requires : goal.write_owners-requires
write_owners-requires c = checked _ _ _ _ (sym c.in_ok-check_alike.ensures) (sym c.in_ok-check_points.ensures) (sym c.in_ok-check_grid.ensures)

pub returns : goal.returns
returns c = all_told _ _ _ _ (sym c.in_ok-check_alike.ensures) (sym c.in_ok-check_points.ensures) (sym c.in_ok-check_grid.ensures) c.write_owners.ensures

-- `walk::beside::nothing` meets its contract. Assumes nothing.
use Rattle.walk.proofs.Added.{one_lower, one_upper, nothing_shared, x_shared, y_shared}
use Rattle.walk.proofs.beside.nothing.Goals as goal

pub returns-in-None-y : goal.returns-in-None-y
returns-in-None-y c = nothing_shared _ _ c.in-None.is c.in-None-y.is

pub returns-in-Lower-y : goal.returns-in-Lower-y
returns-in-Lower-y c = y_shared _ _ (one_lower c.in-Lower-y.is)

pub returns-in-Upper-y : goal.returns-in-Upper-y
returns-in-Upper-y c = y_shared _ _ (one_upper c.in-Upper-y.is)

pub returns-in-Lower : goal.returns-in-Lower
returns-in-Lower c = x_shared _ _ (one_lower c.in-Lower.is)

pub returns-in-Upper : goal.returns-in-Upper
returns-in-Upper c = x_shared _ _ (one_upper c.in-Upper.is)

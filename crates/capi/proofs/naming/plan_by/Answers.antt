-- `capi::naming::plan_by` meets its contract. Assumes nothing.
use Rattle.capi.proofs.naming.plan_by.Goals as goal

pub returns : goal.returns
returns c = rw (c.sizing_by.ensures, c.mode_by.ensures)

-- `build::build` meets its contract. Assumes nothing.
use Rattle.build.proofs.build.Goals as goal

pub returns-then-start_x-eq0 : goal.returns-then-start_x-eq0
returns-then-start_x-eq0 c = c.build_none.ensures

-- `added::placing::place` meets its contract. Assumes nothing.
use Rattle.added.proofs.Promise.{place_asks, place_put, place_over}
use Rattle.added.proofs.placing.place.Goals as goal

pub put_in-requires : goal.put_in-requires
put_in-requires c = place_asks _ c.requires (rw c.in-Some.is at c.goes_to-goes.ensures)

pub returns-in-None : goal.returns-in-None
returns-in-None c = place_over _ _ _ _ _ (rw c.in-None.is at c.goes_to-goes.ensures)

pub returns-in-Some : goal.returns-in-Some
returns-in-Some c = place_put _ c.requires (rw c.in-Some.is at c.goes_to-goes.ensures) c.put_in.ensures

-- `turns::moves::near` meets its contract. Assumes nothing.
use Rattle.turns.specs.Turns.{finite_of, near_of}
use Rattle.turns.proofs.Floats.{all_true, first_false, last_false}
use Rattle.turns.proofs.moves.near.Goals as goal

pub returns-then-is_finite : goal.returns-then-is_finite
unfolding near_of
returns-then-is_finite c = rw (← c.is_finite-then-is_finite.ensures, ← c.is_finite.ensures, ← c.magnitude.ensures) (all_true _ _ _ c.if-magnitude-tol.true c.if-is_finite.true)

pub returns-then-magnitude-tol : goal.returns-then-magnitude-tol
unfolding near_of
returns-then-magnitude-tol c = rw (← c.is_finite.ensures) (first_false _ (finite_of c.args.ty) _ c.if-is_finite.false)

pub returns : goal.returns
unfolding near_of
returns c = rw (← c.magnitude.ensures) (last_false (finite_of c.args.tx) (finite_of c.args.ty) _ c.if-magnitude-tol.false)

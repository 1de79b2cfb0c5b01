-- `clean::values::put_if` meets its contract. Assumes nothing.
use mathlib.Core.Path.{refl}
use native.Mathlib.Omega.{arith}
use borrow.Author.Tests.{le-leb, lt-leb}
use Rattle.wkb.proofs.Stores.{put_none, put_one}
use Rattle.clean.specs.Inside.{value_if}
use Rattle.clean.proofs.values.put_if.Goals as goal

pub returns-then-reason-le0 : goal.returns-then-reason-le0
unfolding value_if
returns-then-reason-le0 c = rw (le-leb _ _ c.if-reason-le0.true) (put_one _ _ _ c.requires, refl)

pub returns : goal.returns
unfolding value_if
returns c = rw (lt-leb _ _ c.if-reason-le0.false) (put_none _ _ (omega arith), omega arith)

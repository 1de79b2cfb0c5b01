-- `blocks::owning::never_fall` meets its contract: no offset before c falls. Assumes nothing.
use Prim.Native.Nat.{suc}
use native.Mathlib.Numerals.{add-one}
use native.Mathlib.Omega.{arith}
use borrow.Author.Tests.{le-leb, lt-leb}
use lib.Dec.{leb}
use lib.ListN.{get_or}
use Rattle.blocks.proofs.Owns.{testing_none, testing_more, testing_bad, testing_done}
use Rattle.blocks.proofs.owning.never_fall.Goals as goal

pub loop-c-init : goal.loop-c-init
loop-c-init c = testing_none _ _

pub returns-then-offsets-c : goal.returns-then-offsets-c
returns-then-offsets-c c = let o = c.args.offsets.now in testing_bad (λ k. leb (get_or o k 0) (get_or o (suc k) 0)) _ c.loop-c.c (omega arith) (rw (← add-one c.loop-c.c) (lt-leb _ _ c.if-offsets-c.true))

pub loop-c-preserved : goal.loop-c-preserved
loop-c-preserved c = testing_more c.loop-c.invariant (omega arith) (rw (← add-one c.loop-c.c) (le-leb _ _ c.if-offsets-c.false))

pub returns : goal.returns
returns c = testing_done c.loop-c.invariant (omega arith)

-- `records::questions::all_shorts` meets its contract. The invariant: the first i entries are the words' numbers of 32 bits. Assumes nothing.
use Prim.Native.Nat.{ℕ}
use native.Mathlib.Omega.{arith}
use lib.ListN.{length-replicate}
use Rattle.records.specs.Questions.{short_by, short_at}
use Rattle.records.proofs.Parts.{filled_none, filled_more, filled_all}
use Rattle.records.proofs.questions.all_shorts.Goals as goal

pub loop-i-init : goal.loop-i-init
unfolding short_at
loop-i-init c = filled_none short_by _ _ _ (length-replicate {A = ℕ} 16384 0)

pub offset_bounds-out-i : goal.offset_bounds-out-i
unfolding short_at
offset_bounds-out-i c = omega arith

pub bounds-out-i : goal.bounds-out-i
unfolding short_at
bounds-out-i c = omega arith

pub loop-i-preserved : goal.loop-i-preserved
unfolding short_at
loop-i-preserved c = filled_more short_by c.loop-i.invariant (omega arith) c.short.ensures

pub returns : goal.returns
unfolding short_at
returns c = filled_all short_by c.loop-i.invariant (omega arith)

-- `records::answers::listed` meets its contract. The invariant: beyond i entries there is nothing to list. Assumes nothing.
use mathlib.Core.Path.{◌≡◌, sym, ap, ◌∙◌}
use Prim.Native.Nat.{ℕ, ◌+◌, ◌-◌}
use native.Mathlib.Omega.{arith}
use lib.ListN.{take}
use lib.Seq.{take-length}
use Rattle.records.specs.Answers.{listed_of}
use Rattle.records.proofs.Puts.{listed_none, listed_less, listed_all}
use Rattle.records.proofs.answers.listed.Goals as goal

pub loop-i-init : goal.loop-i-init
loop-i-init c = (omega arith, ap listed_of (sym (take-length _)))

pub returns-then-s-i-ne0 : goal.returns-then-s-i-ne0
returns-then-s-i-ne0 c = let l = c.loop-i in let e : l.i - 1 + 1 ≡ l.i = omega arith in rw e (sym (l.invariant.1 ∙ listed_all c.args.s.now c.loop-i.i (c.loop-i.i - 1) (omega arith) (omega arith) c.if-s-i-ne0.true), omega arith)

pub loop-i-preserved : goal.loop-i-preserved
loop-i-preserved c = let i = c.loop-i.invariant in (omega arith, i.1 ∙ listed_less c.args.s.now c.loop-i.i (c.loop-i.i - 1) (omega arith) (omega arith) c.if-s-i-ne0.false)

pub returns : goal.returns
returns c = let e : c.loop-i.i ≡ 0 = omega arith in (sym (c.loop-i.invariant.1 ∙ ap (λ (n : ℕ). listed_of (take n c.args.s.now)) e ∙ listed_none), omega arith)

-- `records::words::same_to` meets its contract. The invariant: the words up to i are the same, so i and what is the same from there on make up
-- the whole. Assumes nothing.
use mathlib.Core.Path.{◌≡◌, ◌∙◌}
use mathlib.Core.List.{List}
use Prim.Native.Nat.{ℕ, ◌+◌, ◌<◌}
use native.Mathlib.Omega.{arith}
use native.Mathlib.Numerals.{add-one}
use lib.ListN.{length, drop, get_or}
use Rattle.records.specs.Words.{same_to}
use Rattle.records.proofs.Sameness.{same_next, same_end, past_one}
use Rattle.records.proofs.words.same_to.Invariants.{Same}
use Rattle.records.proofs.words.same_to.Goals as goal

more : {a b : List ℕ} {i : ℕ} → Same a b i → i < length a → i < length b → get_or a i 0 ≡ get_or b i 0 → Same a b (i + 1)
more {a} {b} {i} s h k e = record {
  in_a = omega arith;
  in_b = omega arith;
  rest = rw (add-one i) (let n = same_next a b i h k e in let r = s.rest in omega (arith, n, r));
}

ended : {a b : List ℕ} {i : ℕ} → Same a b i → same_to (drop i a) (drop i b) ≡ 0 → i ≡ same_to a b
ended s z = let r = s.rest in omega (arith, r, z)

pub loop-i-init : goal.loop-i-init
loop-i-init c = record { in_a = omega arith; in_b = omega arith; rest = omega arith }

pub returns-then-a-i : goal.returns-then-a-i
returns-then-a-i c = let l = c.loop-i in ended l.invariant (same_end _ _ l.i (omega arith) (omega arith) c.if-a-i.true)

pub loop-i-preserved : goal.loop-i-preserved
loop-i-preserved c = more c.loop-i.invariant (omega arith) (omega arith) c.if-a-i.false

pub returns : goal.returns
returns c =
    let l = c.loop-i in
    let e : l.i ≡ c.least-n.result = omega arith in
    rw e at (ended l.invariant (past_one _ _ l.i (e ∙ c.least-n.ensures)))

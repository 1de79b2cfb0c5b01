-- `numbers::root::long_root` meets its contract: what is left is a * 4 ^ i without the square, and at most twice the root. Assumes nothing.
use Rattle.std.proofs.Common.{◌≡◌, ℕ, ◌+◌, ◌*◌, ◌^◌, ap, ◌∙◌, inl, inr, lt_of_le_of_lt, arith}
use Rattle.numbers.proofs.Squares.{sq1, digit}
use Rattle.numbers.proofs.root.long_root.Goals as goal
use Rattle.numbers.proofs.root.long_root.Goals.{then-t-rest, else-t-rest}

pub overflow_mul-rest : goal.overflow_mul-rest
overflow_mul-rest c = record { fits = lt_of_le_of_lt c.whole_root-r.ensures.0 (omega arith) }

pub loop-i-init : goal.loop-i-init
loop-i-init c =
    let n = sq1 c.whole_root-r.result in
    omega arith

pub loop-i-preserved : goal.loop-i-preserved
loop-i-preserved c =
    let at = c.loop-i in
    digit c.args.a at._i at.r at.rest c.if-t-rest.r c.if-t-rest.rest (omega arith) (omega arith) at.invariant
    (elim c.if-t-rest.branch [ then-t-rest w ↦ inl (omega arith, omega arith, omega arith) | else-t-rest w ↦ inr (omega arith, omega arith, omega arith) ])

pub returns : goal.returns
returns c =
    let at = c.loop-i in
    let e : at._i ≡ 27 = omega arith in
    let d : at.r * at.r + at.rest ≡ c.args.a * 4 ^ 27 = at.invariant.1 ∙ ap (λ (k : ℕ). c.args.a * 4 ^ k) e in
    let n = sq1 at.r in
    omega arith

-- `numbers::root::pattern_root` meets its contract. Assumes nothing.
use Rattle.std.proofs.Common.{◌≡◌, ℕ, ◌*◌, ◌%◌, ◌^◌, ap, ◌∙◌, arith}
use Rattle.numbers.specs.Root.{nearest_root}
use Rattle.numbers.proofs.RootCases.{normal_case, subnormal_case, power_left, doubled}
use Rattle.numbers.proofs.root.pattern_root.Goals as goal

pub returns-then-field-gt0 : goal.returns-then-field-gt0
returns-then-field-gt0 c = (c.normal_root.ensures.0, c.normal_root.ensures.1 ∙ normal_case c.args.b c.if-field-gt0.true (omega arith))

pub loop-m-init : goal.loop-m-init
loop-m-init c =
    let e : c.args.b % 4503599627370496 ≡ c.args.b = omega arith in
    (omega arith, omega arith, omega arith, omega arith, ap (λ (x : ℕ). x * 2 ^ 1074) e)

pub loop-m-preserved : goal.loop-m-preserved
loop-m-preserved c =
    let at = c.loop-m in
    let b = c.args.b in
    let l = power_left at.m at.e b (omega arith) c.loop-m-test.true at.invariant.4 in
    (omega arith, omega arith, omega arith, omega arith, doubled at.m at.e (b * 2 ^ 1074) (omega arith) at.invariant.4)

pub returns : goal.returns
returns c =
    let b = c.args.b in (
      c.normal_root-2.ensures.0,
      c.normal_root-2.ensures.1 ∙ ap nearest_root c.loop-m.invariant.4 ∙ subnormal_case b (omega arith) (omega arith),
    )

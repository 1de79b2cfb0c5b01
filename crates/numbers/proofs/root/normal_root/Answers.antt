-- `numbers::root::normal_root` meets its contract. Assumes nothing.
use Rattle.std.proofs.Common.{◌≡◌, ◌≤◌, ◌%◌, ℕ, ◌*◌, ◌^◌, ◌<◌, sym, subst, arith}
use Rattle.numbers.proofs.Squares.{IsRoot}
use Rattle.numbers.proofs.RootCases.{Rooted, even_part, odd_part, root_high, pattern_root_at}
use Rattle.numbers.proofs.root.normal_root.Goals as goal
use Rattle.numbers.proofs.root.normal_root.Goals.{then-e-eq0, else-e-eq0}

even : (m e r : ℕ) → (2 ^ 52 ≤ m) × (m < 2 ^ 53) × (1022 ≤ e) × (e < 3120) → e % 2 ≡ 0 → IsRoot (m * 4 ^ 27) r → Rooted m e r
even m e r h two is = record { a = m; lo = omega arith; hi = omega arith; same = even_part m e two; is = is }

odd : (m e r : ℕ) → (2 ^ 52 ≤ m) × (m < 2 ^ 53) × (1022 ≤ e) × (e < 3120) → (e % 2 ≡ 0 → ⊥) → IsRoot (m * 2 * 4 ^ 27) r → Rooted m e r
odd m e r h two is = record { a = m * 2; lo = omega arith; hi = omega arith; same = odd_part m e two; is = is }

pub overflow_add-result : goal.overflow_add-result
overflow_add-result c =
    let g : Rooted c.args.m c.args.e c.if-e-eq0.r = elim c.if-e-eq0.branch [ then-e-eq0 w ↦ even _ _ _ c.requires w.if-e-eq0.true (subst (λ (r : ℕ). IsRoot (c.args.m * 4 ^ 27) r) (sym w.r-is) w.long_root-r.ensures) | else-e-eq0 w ↦ odd _ _ _ c.requires w.if-e-eq0.false (subst (λ (r : ℕ). IsRoot (c.args.m * 2 * 4 ^ 27) r) (sym w.r-is) w.long_root-r-else-e-eq0.ensures) ] in
    omega (arith, root_high g.a c.if-e-eq0.r g.hi g.is)

pub returns : goal.returns
returns c =
    let g : Rooted c.args.m c.args.e c.if-e-eq0.r = elim c.if-e-eq0.branch [ then-e-eq0 w ↦ even _ _ _ c.requires w.if-e-eq0.true (subst (λ (r : ℕ). IsRoot (c.args.m * 4 ^ 27) r) (sym w.r-is) w.long_root-r.ensures) | else-e-eq0 w ↦ odd _ _ _ c.requires w.if-e-eq0.false (subst (λ (r : ℕ). IsRoot (c.args.m * 2 * 4 ^ 27) r) (sym w.r-is) w.long_root-r-else-e-eq0.ensures) ] in
    let m = c.args.m in
    let e = c.args.e in
    let s = root_high g.a c.if-e-eq0.r g.hi g.is in
    (omega arith, pattern_root_at m e g.a c.if-e-eq0.r g.lo g.hi (omega arith) (omega arith) g.same g.is)

-- `crossing_chain::whole::wholes_of` meets its contract. The invariant: the first i entries are the whole numbers, and the others as they were. Assumes nothing.
use Rattle.std.proofs.Common.{◌≡◌, List, length, set, ℤ, refl, ap, ◌∙◌, zero-le, arith, length-set, take_all, to_z-of_z, w32, to_z, of_z}
use Rattle.crossing_chain.proofs.Wholes.{store_more}
use Rattle.crossing_chain.proofs.whole.wholes_of.Goals as goal

pub loop-i-init : goal.loop-i-init
loop-i-init c = (refl, zero-le, refl)

pub bounds-to-i : goal.bounds-to-i
bounds-to-i c = let l = c.loop-i in omega (arith, c.requires)

pub loop-i-preserved : goal.loop-i-preserved
loop-i-preserved c =
    let l = c.loop-i in (
      ap (λ (t : List ℤ). set t l.i (to_z w32 (of_z w32 c.whole_of.result))) l.invariant.0 ∙ store_more _ _ l.i _ (omega arith) (omega (arith, c.requires)) (to_z-of_z {w = w32} (record { sfits = c.whole_of.type_inv }) ∙ c.whole_of.ensures),
      omega arith,
      simp length-set l.invariant.2,
    )

pub shape_of-to : goal.shape_of-to
shape_of-to c = c.loop-i.invariant.2

pub returns : goal.returns
returns c =
    let from = c.args.from.now in
    let i = c.loop-i.i in
    let e : i ≡ length from = omega arith in
    record { are = c.loop-i.invariant.0 ∙ rw (e, take_all (length from) from (omega arith)) }

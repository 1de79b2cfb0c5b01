-- `walk::beside::added` meets its contract. Assumes nothing.
use mathlib.Core.Path.{ap}
use Prim.Native.Nat.{ℕ, ◌*◌}
use native.Mathlib.Omega.{arith}
use Rattle.walk.proofs.Spread.{lower_share, rows_share, nothing_covers, rows_cover, besides_cover, spread_covers}
use Rattle.walk.proofs.beside.added.Goals as goal

pub rows-requires : goal.rows-requires
rows-requires c =
    let q = ap (λ (k : ℕ). c.args.n * k) (rows_share _ c.args.y c.in-None.is) in
    record { room = omega (arith, c.requires.room); all_inside = c.requires.all_inside }

pub spread-requires : goal.spread-requires
spread-requires c =
    let q = ap (λ (k : ℕ). c.args.n * k) (lower_share c.in-Lower.is c.in-None-y-2.is) in
    record { room = omega (arith, c.requires.room); some_columns = c.requires.all_inside.most.some }

pub returns-in-None-y : goal.returns-in-None-y
returns-in-None-y c = nothing_covers _ _ _ _ c.in-None.is c.in-None-y.is (omega arith)

pub returns-in_default : goal.returns-in_default
returns-in_default c = rows_cover _ _ _ _ c.in-None.is (omega arith) c.rows.ensures

pub returns-in-None-y-2 : goal.returns-in-None-y-2
returns-in-None-y-2 c = spread_covers _ _ _ _ _ c.in-Lower.is c.in-None-y-2.is c.spread.ensures

pub returns-in_default-y : goal.returns-in_default-y
returns-in_default-y c = besides_cover _ _ _ _ (omega arith) c.besides.ensures

pub returns-in-Upper : goal.returns-in-Upper
returns-in-Upper c = besides_cover _ _ _ _ (omega arith) c.besides-in-Upper.ensures

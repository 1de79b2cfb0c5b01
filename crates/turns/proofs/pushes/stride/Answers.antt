-- `turns::pushes::stride` meets its contract. Assumes nothing.
use Rattle.std.proofs.Common.{true, arith}
use Rattle.turns.proofs.Loop.{sides_le, strode, both_sides, no_sides, not_both_x, not_both_y}
use Rattle.turns.proofs.pushes.stride.Goals as goal

pub arrive-requires : goal.arrive-requires
arrive-requires c =
    let p = c.sides-a.ensures in
    (omega (arith, p.count, p.len, c.requires.room, sides_le true c.args.cols c.args.rows c.args.way c.args.w), c.requires.few_cells)

-- both ways
pub returns-then-k-2 : goal.returns-then-k-2
returns-then-k-2 c =
    let a = c.args in
    strode _ _ _ _ _ _ _ c.moved.ensures
    (both_sides a.k a.cols a.rows a.way a.w c.if-k.true c.if-k-2.true c.sides-a.ensures) c.arrive.ensures

-- in x
pub returns-then-k : goal.returns-then-k
returns-then-k c =
    let k = c.args.k in
    strode _ _ _ _ _ _ _ c.moved-then-k.ensures
    (no_sides k c.args.cols c.args.rows c.args.way c.args.w (not_both_y k c.if-k.true c.if-k-2.false) (omega (arith, c.requires.room)))
    c.arrive-then-k.ensures

-- in y
pub returns : goal.returns
returns c =
    let k = c.args.k in
    strode _ _ _ _ _ _ _ c.moved-2.ensures
    (no_sides k c.args.cols c.args.rows c.args.way c.args.w (not_both_x k c.if-k.false) (omega (arith, c.requires.room)))
    c.arrive-2.ensures

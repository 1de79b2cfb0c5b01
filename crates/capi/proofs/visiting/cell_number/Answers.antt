-- `capi::visiting::cell_number` meets its contract. Assumes nothing.
use Prim.Native.Nat.{ℕ, ◌+◌, ◌*◌, ◌^◌, ◌≤◌, ◌<◌}
use mathlib.Core.Path.{refl}
use native.Mathlib.Omega.{arith}
use native.Mathlib.Nat.{mul-le-mul_right}
use Rattle.grid.proofs.Shapes.{wide_product}
use Rattle.capi.proofs.visiting.cell_number.Goals as goal

-- of any two counts and a column
number_fits : (a b d : ℕ) → a < 2 ^ 32 → b < 2 ^ 32 → d < 2 ^ 32 → a * b + d < 2 ^ 64
number_fits a b d h k l =
    let u : a * b ≤ 4294967295 * b = mul-le-mul_right b (omega arith) in
    omega arith

pub overflow_mul-result : goal.overflow_mul-result
overflow_mul-result c = record { fits = wide_product c.args.row c.args.cols c.ranges.row.fits c.ranges.cols.fits }

pub overflow_add-result : goal.overflow_add-result
overflow_add-result c = record { fits = number_fits c.args.row c.args.cols c.args.col c.ranges.row.fits c.ranges.cols.fits c.ranges.col.fits }

pub returns : goal.returns
returns c = refl

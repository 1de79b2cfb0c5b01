-- `crossings::cells::list_of` meets its contract. Assumes nothing.
use mathlib.Core.Path.{refl}
use Prim.Native.Nat.{◌+◌}
use native.Mathlib.Omega.{arith}
use Rattle.tables.proofs.Parts.{part_is, part_rises, part_within}
use Rattle.crossings.proofs.cells.list_of.Goals as goal

pub overflow_cast-from : goal.overflow_cast-from
overflow_cast-from c = let g = c.shared_slice_known-1.given c.args.cell in omega arith

pub overflow_cast-to : goal.overflow_cast-to
overflow_cast-to c = let g = c.shared_slice_known-2-1.given (c.args.cell + 1) in omega arith

pub offset_bounds-items-from : goal.offset_bounds-items-from
offset_bounds-items-from c = omega (arith, part_rises c.requires, part_within c.requires)

pub slice_bounds-result-count : goal.slice_bounds-result-count
slice_bounds-result-count c = part_rises c.requires

pub slice_bounds-result-start : goal.slice_bounds-result-start
slice_bounds-result-start c = part_rises c.requires

pub slice_bounds-result-end : goal.slice_bounds-result-end
slice_bounds-result-end c = part_within c.requires

pub returns : goal.returns
returns c = let a = c.args in part_is a.offsets.now a.items.now a.cell _ _ refl refl

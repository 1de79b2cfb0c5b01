-- `through::rows::scan_part` meets its contract. Assumes nothing.
use native.Mathlib.Omega.{arith}
use Rattle.through.proofs.RowTurns.{part_inside, part_scan_part, part_is_part, part_same_part}
use Rattle.through.proofs.rows.scan_part.Goals as goal

pub offset_bounds-list-i : goal.offset_bounds-list-i
offset_bounds-list-i c = omega (arith, c.requires.later, c.requires.window.inside, c)

pub overflow_add-j : goal.overflow_add-j
overflow_add-j c = omega (arith, part_inside _ _ _ _ _ _ _ _ _ _ _ c.requires _ _ c.window_at-window.ensures _ c.least-many.ensures, c)

pub offset_bounds-list-j : goal.offset_bounds-list-j
offset_bounds-list-j c = omega (arith, c.requires.window.inside, c)

pub scan-found-requires : goal.scan-found-requires
scan-found-requires c = part_scan_part _ _ _ _ _ _ _ _ _ _ _ c.requires _ _ c.window_at-window.ensures _ c.least-many.ensures (omega arith)

pub returns : goal.returns
returns c = record { part = part_is_part _ _ _ _ _ _ _ _ _ _ _ c.requires _ _ c.window_at-window.ensures _ c.least-many.ensures (omega arith) _ _ _ _ c.scan-found.ensures; same_scratch = part_same_part _ _ _ _ _ _ _ _ _ _ _ c.requires _ _ c.window_at-window.ensures _ c.least-many.ensures (omega arith) _ _ _ _ c.scan-found.ensures }

-- `through::boxes::window_at` meets its contract. Assumes nothing.
use native.Mathlib.Omega.{arith}
use Rattle.through.proofs.RowTurns.{window_gathers_part, window_moves_part}
use Rattle.through.proofs.boxes.window_at.Goals as goal

pub gather-requires : goal.gather-requires
gather-requires c = window_gathers_part _ _ _ _ _ _ c.requires _ c.least-many.ensures (omega arith)

pub returns : goal.returns
returns c = window_moves_part _ _ _ _ _ _ c.requires _ c.least-many.ensures (omega arith) _ c.gather.ensures

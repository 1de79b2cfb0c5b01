-- `capi::snapping::mt_snap` meets its contract: an `out` that is short, or the entry's answer handed over. Assumes nothing.
use mathlib.Core.Path.{ap}
use Rattle.replies.specs.Answers.{of_snap}
use Rattle.replies.proofs.Handing.{short_replies, replied}
use Rattle.capi.proofs.snapping.mt_snap.Goals as goal

pub returns-then-out-lt2 : goal.returns-then-out-lt2
returns-then-out-lt2 c = short_replies 2 _ _ c.if-out-lt2.true

pub returns : goal.returns
returns c = replied 2 (ap of_snap c.snap_point.ensures) c.snapped.ensures

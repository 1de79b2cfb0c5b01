-- `capi::visiting::listed` meets its contract: a list that has lines, and one that is empty or refused. Assumes nothing.
use Rattle.refusals.specs.Refusals.{Check}
use mathlib.Core.Path.{ap, ◌∙◌}
use lib.ListN.{length}
use Prim.Native.Nat.{◌+◌}
use Rattle.tables.specs.Tables.{tables}
use Rattle.seek.specs.Places.{list_check, list_at}
use Rattle.seek.proofs.PlaceLaws.{part_is}
use Rattle.replies.specs.Answers.{of_part}
use Rattle.replies.proofs.Handing.{replied}
use Rattle.capi.proofs.Handing.{list_some, list_part}
use Rattle.capi.proofs.visiting.listed.Goals as goal

pub returns-then-len-gt0 : goal.returns-then-len-gt0
returns-then-len-gt0 c =
    let a = c.args in
    let t = tables a.grid a.lines a.offsets.now a.items.now a.globals.now a.global_count in
    let k = list_check a.grid t a.place in
    replied 2 (list_some k a.from (list_at t a.place) _ (c.list_at-list.ensures ∙ part_is a.grid t a.place) c.if-len-gt0.true) c.part.ensures

pub returns : goal.returns
returns c =
    let a = c.args in
    let t = tables a.grid a.lines a.offsets.now a.items.now a.globals.now a.global_count in
    let k = list_check a.grid t a.place in
    let l = c.list_at-list.result.now in
    replied 2 (ap (λ (k : Check). of_part k a.from (a.from + length l)) c.list_check.ensures ∙ list_part k a.from (list_at t a.place) l (c.list_at-list.ensures ∙ part_is a.grid t a.place)) c.part-2.ensures

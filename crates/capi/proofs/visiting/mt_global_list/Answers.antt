-- `capi::visiting::mt_global_list` meets its contract: an `out` that is short, words that are too few, or the list's start and length handed over. Assumes nothing.
use Rattle.tables.specs.Tables.{tables}
use Rattle.seek.specs.declared.Place.TheVariants.{Global}
use Rattle.seek.specs.Places.{list_check}
use Rattle.seek.proofs.PlaceLaws.{global_ends}
use Rattle.replies.proofs.Handing.{short_replies}
use Rattle.capi.proofs.Handing.{few_replies, asked, part_ends}
use Rattle.capi.proofs.visiting.mt_global_list.Goals as goal

pub returns-then-out-lt2 : goal.returns-then-out-lt2
returns-then-out-lt2 c = short_replies 2 _ _ c.if-out-lt2.true

pub returns-then-grid-lt-WORDS : goal.returns-then-grid-lt-WORDS
returns-then-grid-lt-WORDS c = few_replies 2 _ _ _ c.if-out-lt2.false c.if-grid-lt-WORDS.true

pub returns : goal.returns
returns c =
    let a = c.args in
    let g = c.grid_by.result in
    let t = tables g a.lines a.offsets.now a.items.now a.globals.now a.global_count in
    rw (← c.grid_by.ensures)
    (asked 2 _ c.if-grid-lt-WORDS.false
    (part_ends (list_check g t (Global a.position)) a.position _ _ (global_ends g t a.position)) c.listed.ensures)

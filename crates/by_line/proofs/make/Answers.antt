-- `by_line::make` meets its contract. Assumes nothing.
use mathlib.Core.Path.{◌∙◌}
use Rattle.by_line.proofs.Turns.{make_counts, make_sums, make_place, make_done}
use Rattle.by_line.proofs.make.Goals as goal

pub count_all-requires : goal.count_all-requires
count_all-requires c = make_counts c.requires c.clear.ensures c.clear.auto.s

pub running_sums-requires : goal.running_sums-requires
running_sums-requires c = make_sums c.requires c.count_all.ensures (c.count_all.auto.counts ∙ c.clear.auto.s)

pub place_all-requires : goal.place_all-requires
place_all-requires c = make_place c.requires c.count_all.ensures (c.count_all.auto.counts ∙ c.clear.auto.s) c.running_sums.ensures c.running_sums.auto.starts c.clear-2.ensures c.clear-2.auto.s

pub returns : goal.returns
returns c =
    let l = c.count_all.auto.counts ∙ c.clear.auto.s in
    let s = c.running_sums in
    let p = c.place_all in
    make_done c.requires c.count_all.ensures l s.ensures s.auto.starts p.ensures c.shift_back.ensures (c.shift_back.auto.starts ∙ p.auto.starts ∙ s.auto.starts ∙ l) (p.auto.listing ∙ c.clear-2.auto.s)

-- `lent::check_lent` meets its contract. Assumes nothing.
use mathlib.Core.Path.{◌∙◌}
use Rattle.lent.proofs.Beginning.{lent_outputs, lent_starts, lent_listing, lent_counts}
use Rattle.lent.proofs.check_lent.Goals as goal

pub returns-then-first-second : goal.returns-then-first-second
returns-then-first-second c = let a = c.args in c.refuse_unless.ensures ∙ lent_outputs a.lines a.items a.first a.second a.starts a.listing a.counts c.if-first-second.true

pub returns-then-starts-lines : goal.returns-then-starts-lines
returns-then-starts-lines c = let a = c.args in c.refuse_unless-then-starts-lines.ensures ∙ lent_starts a.lines a.items a.first a.second a.starts a.listing a.counts c.if-first-second.false c.if-starts-lines.true

pub returns-then-listing-items : goal.returns-then-listing-items
returns-then-listing-items c = let a = c.args in c.refuse_unless-then-listing-items.ensures ∙ lent_listing a.lines a.items a.first a.second a.starts a.listing a.counts c.if-first-second.false c.if-starts-lines.false c.if-listing-items.true

pub returns : goal.returns
returns c = let a = c.args in c.refuse_unless-2.ensures ∙ lent_counts a.lines a.items a.first a.second a.starts a.listing a.counts c.if-first-second.false c.if-starts-lines.false c.if-listing-items.false

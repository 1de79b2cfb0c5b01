-- `listed::boxes::inner_of` meets its contract. Assumes nothing.
use mathlib.Core.Path.{◌∙◌}
use Rattle.listed.proofs.BoxLaws.{inner_few, inner_many, inner_short, inner_is, inner_not}
use Rattle.listed.proofs.boxes.inner_of.Goals as goal

pub returns-then-many-lt8 : goal.returns-then-many-lt8
returns-then-many-lt8 c = c.none.ensures ∙ inner_few _ _ _ c.if-many-lt8.true

pub returns-then-many-gt513 : goal.returns-then-many-gt513
returns-then-many-gt513 c = c.none-then-many-gt513.ensures ∙ inner_many _ _ _ c.if-many-lt8.false c.if-many-gt513.true

pub returns-then-room-lt2052 : goal.returns-then-room-lt2052
returns-then-room-lt2052 c = c.none-then-room-lt2052.ensures ∙ inner_short _ _ _ c.if-many-lt8.false c.if-many-gt513.false c.if-room-lt2052.true

pub returns-then-is_inner : goal.returns-then-is_inner
returns-then-is_inner c = inner_is _ _ _ c.if-many-lt8.false c.if-many-gt513.false c.if-room-lt2052.false _ c.is_inner.ensures c.if-is_inner.true

pub returns : goal.returns
returns c = c.none-2.ensures ∙ inner_not _ _ _ c.if-many-lt8.false c.if-many-gt513.false c.if-room-lt2052.false _ c.is_inner.ensures c.if-is_inner.false

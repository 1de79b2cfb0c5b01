-- `samples::share_point` meets its contract. Assumes nothing.
use mathlib.Core.Path.{◌≡◌, sym, ◌∙◌}
use mathlib.Core.Bool.{true, false, not}
use borrow.Author.Tests.{not-true, not-false}
use Rattle.samples.specs.declared.Raised.{Raised}
use Rattle.samples.specs.Samples.{sampled}
use Rattle.samples.specs.Sharing.{boxes_overlap, aside, sharing}
use Rattle.samples.proofs.share_point.Goals as goal

-- the answers, one after the other
apart : (a b : Raised) → boxes_overlap a b ≡ false → false ≡ sharing a b
unfolding sharing
apart a b h = rw h

first_none : (a b : Raised) → boxes_overlap a b ≡ true → sampled a ≡ false → false ≡ sharing a b
unfolding sharing
first_none a b h k = rw (h, k)

second_none : (a b : Raised) → boxes_overlap a b ≡ true → sampled a ≡ true → sampled b ≡ false → false ≡ sharing a b
unfolding sharing
second_none a b h k l = rw (h, k, l)

parted : (a b : Raised) → boxes_overlap a b ≡ true → sampled a ≡ true → sampled b ≡ true → aside a b ≡ true → false ≡ sharing a b
unfolding sharing
parted a b h k l m = rw (h, k, l, m)

last : (a b : Raised) → boxes_overlap a b ≡ true → sampled a ≡ true → sampled b ≡ true → aside a b ≡ false → not (aside b a) ≡ sharing a b
unfolding sharing
last a b h k l m = rw (h, k, l, m)

pub returns-then-not-boxes_overlap : goal.returns-then-not-boxes_overlap
returns-then-not-boxes_overlap c = apart _ _ (sym c.boxes_overlap.ensures ∙ not-true _ c.if-not-boxes_overlap.true-raw)

pub returns-then-not-is_sampled : goal.returns-then-not-is_sampled
returns-then-not-is_sampled c = first_none _ _ (sym c.boxes_overlap.ensures ∙ not-false _ c.if-not-boxes_overlap.false-raw) (sym c.is_sampled.ensures ∙ not-true _ c.if-not-is_sampled.true-raw)

pub returns-then-not-is_sampled-2 : goal.returns-then-not-is_sampled-2
returns-then-not-is_sampled-2 c =
    second_none _ _ (sym c.boxes_overlap.ensures ∙ not-false _ c.if-not-boxes_overlap.false-raw)
    (sym c.is_sampled.ensures ∙ not-false _ c.if-not-is_sampled.false-raw) (sym c.is_sampled-2.ensures ∙ not-true _ c.if-not-is_sampled-2.true-raw)

pub both_aside-requires : goal.both_aside-requires
both_aside-requires c = record { a_sampled = sym c.is_sampled.ensures ∙ not-false _ c.if-not-is_sampled.false-raw; b_sampled = sym c.is_sampled-2.ensures ∙ not-false _ c.if-not-is_sampled-2.false-raw }

pub returns-then-both_aside : goal.returns-then-both_aside
returns-then-both_aside c =
    parted _ _ (sym c.boxes_overlap.ensures ∙ not-false _ c.if-not-boxes_overlap.false-raw)
    (sym c.is_sampled.ensures ∙ not-false _ c.if-not-is_sampled.false-raw) (sym c.is_sampled-2.ensures ∙ not-false _ c.if-not-is_sampled-2.false-raw)
    (sym c.both_aside.ensures ∙ c.if-both_aside.true)

pub both_aside-requires-2 : goal.both_aside-requires-2
both_aside-requires-2 c =
    record { a_sampled = sym c.is_sampled-2.ensures ∙ not-false _ c.if-not-is_sampled-2.false-raw; b_sampled = sym c.is_sampled.ensures ∙ not-false _ c.if-not-is_sampled.false-raw }

pub returns : goal.returns
returns c =
    rw c.both_aside-2.ensures
    (last _ _ (sym c.boxes_overlap.ensures ∙ not-false _ c.if-not-boxes_overlap.false-raw)
    (sym c.is_sampled.ensures ∙ not-false _ c.if-not-is_sampled.false-raw) (sym c.is_sampled-2.ensures ∙ not-false _ c.if-not-is_sampled-2.false-raw)
    (sym c.both_aside.ensures ∙ c.if-both_aside.false))

-- `capi_pairs::listing::mt_lists_by_line` meets its contract. Assumes nothing.
use mathlib.Core.Path.{refl, ap}
use native.Mathlib.Omega.{arith}
use Rattle.replies.proofs.Handing.{short_replies, handed_replies}
use Rattle.capi.proofs.Handing.{few_replies, asked}
use Rattle.capi_pairs.specs.Answers.{of_by_line}
use Rattle.capi_pairs.proofs.listing.mt_lists_by_line.Goals as goal

pub returns-then-out-lt1 : goal.returns-then-out-lt1
returns-then-out-lt1 c =
    let s = c.if-out-lt1.true in
    record { replies = short_replies 1 _ _ s; called = λ h k. absurd (omega (arith, h)); short = λ h. (refl, refl); few = λ h. (refl, refl) }

pub returns-then-grid-lt-WORDS : goal.returns-then-grid-lt-WORDS
returns-then-grid-lt-WORDS c =
    let s = c.if-grid-lt-WORDS.true in
    record { replies = few_replies 1 _ _ _ c.if-out-lt1.false s; called = λ h k. absurd (omega (arith, k)); short = λ h. (refl, refl); few = λ h. (refl, refl) }

pub returns : goal.returns
returns c =
    let h = c.if-out-lt1.false in
    let k = c.if-grid-lt-WORDS.false in
    let e = c.lists_by_line.ensures in
    rw (← c.grid_by.ensures)
    (record {
      replies = asked 1 _ k (ap of_by_line e.answers) (handed_replies 1 h c.by_line.ensures);
      called = λ _ _. record { answers = refl; starts_are = e.starts_are; listing_is = e.listing_is };
      short = λ s. absurd (omega (arith, s));
      few = λ s. absurd (omega (arith, s));
    })

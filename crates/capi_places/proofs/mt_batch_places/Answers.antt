-- `capi_places::mt_batch_places` meets its contract: an `out` that is short, words that are too few, or what the entry answers and leaves. Assumes nothing.
use mathlib.Core.Path.{refl, ap}
use native.Mathlib.Omega.{arith}
use Rattle.replies.specs.Answers.{of_batch}
use Rattle.replies.proofs.Handing.{short_replies}
use Rattle.capi.proofs.Handing.{few_replies, asked}
use Rattle.capi_places.proofs.mt_batch_places.Goals as goal

pub returns-then-out-lt3 : goal.returns-then-out-lt3
returns-then-out-lt3 c =
    let s = c.if-out-lt3.true in
    record { replies = short_replies 3 _ _ s; called = λ h k. absurd (omega (arith, h)); short = λ h. (refl, refl, refl); few = λ h. (refl, refl, refl) }

pub returns-then-grid-lt-WORDS : goal.returns-then-grid-lt-WORDS
returns-then-grid-lt-WORDS c =
    let s = c.if-grid-lt-WORDS.true in
    record { replies = few_replies 3 _ _ _ c.if-out-lt3.false s; called = λ h k. absurd (omega (arith, k)); short = λ h. (refl, refl, refl); few = λ h. (refl, refl, refl) }

pub returns : goal.returns
returns c =
    let h = c.if-out-lt3.false in
    let k = c.if-grid-lt-WORDS.false in
    let e = c.batch_with_places.ensures in
    rw (← c.grid_by.ensures)
    (record {
      replies = asked 3 _ k (ap of_batch e.answers) c.batch.ensures;
      called = λ _ _. record { answers = refl; first_is = e.first_is; second_is = e.second_is; places_are = e.places_are };
      short = λ s. absurd (omega (arith, s));
      few = λ s. absurd (omega (arith, s));
    })

-- The words of each answer, by the places at which the question is read. Assumes nothing.
use Prim.Native.Nat.{ℕ}
use mathlib.Core.Path.{◌≡◌, ◌∙◌}
use mathlib.Core.Bool.{cond}
use mathlib.Core.List.{List, [], ◌∷◌}
use lib.Dec.{leb}
use lib.ListN.{get_or}
use Rattle.grid.specs.Words.{grid_by}
use Rattle.own.specs.Own.{point_answer, overlap_answer}
use Rattle.own.specs.Owner.{owner_answer}
use Rattle.snap.specs.Snap.{snap_answer}
use Rattle.snap.specs.Strategies.{agreement_answer}
use Rattle.replies.specs.Answers.{of_owned, of_owner_answer, of_snap, of_agreement}
use Rattle.capi.specs.Few.{unless_few}
use Rattle.records.specs.Questions.{short_at, float_at, slice_place, words_in}
use Rattle.records.proofs.Reading.{word_read, short_read, float_read, words_read}
use Rattle.asked_points.specs.Replying.{reply_words}
use Rattle.asked_points.specs.Asked.{number_by, number_words, point_owned_words, overlap_owned_words, owner_words, snap_words, strategies_words}

pub number_words_lem : (q : List ℕ) → let f = get_or q 0 0 in number_words q ≡ cond (leb 1 f) (cond (leb f 8) (number_by f (float_at q 1) (get_or q 2 0) ∷ []) []) []
unfolding number_words
number_words_lem q = word_read q 0 _ ∙ float_read q 1 _ ∙ word_read q 2 _

pub point_owned_words_lem : (q : List ℕ) → let w = words_in q 4 0 in
    point_owned_words q ≡ reply_words 1 (unless_few w (of_owned (point_answer (grid_by w) (short_at q 0) (short_at q 1) (float_at q 2) (float_at q 3))))
unfolding point_owned_words slice_place
point_owned_words_lem q = short_read q 0 _ ∙ short_read q 1 _ ∙ float_read q 2 _ ∙ float_read q 3 _ ∙ words_read q 4 0 _

pub overlap_owned_words_lem : (q : List ℕ) → let w = words_in q 6 0 in
    overlap_owned_words q ≡ reply_words 1 (unless_few w (of_owned (overlap_answer (grid_by w) (short_at q 0) (short_at q 1) (float_at q 2) (float_at q 3) (float_at q 4) (short_at q 5))))
unfolding overlap_owned_words slice_place
overlap_owned_words_lem q = short_read q 0 _ ∙ short_read q 1 _ ∙ float_read q 2 _ ∙ float_read q 3 _ ∙ float_read q 4 _ ∙ short_read q 5 _ ∙ words_read q 6 0 _

pub owner_words_lem : (q : List ℕ) → let w = words_in q 2 0 in
    owner_words q ≡ reply_words 3 (unless_few w (of_owner_answer (owner_answer (grid_by w) (float_at q 0) (float_at q 1))))
unfolding owner_words slice_place
owner_words_lem q = float_read q 0 _ ∙ float_read q 1 _ ∙ words_read q 2 0 _

pub snap_words_lem : (q : List ℕ) → snap_words q ≡ reply_words 2 (of_snap (snap_answer (float_at q 0) (float_at q 1) (float_at q 2) (short_at q 3)))
unfolding snap_words
snap_words_lem q = float_read q 0 _ ∙ float_read q 1 _ ∙ float_read q 2 _ ∙ short_read q 3 _

pub strategies_words_lem : (q : List ℕ) → strategies_words q ≡ reply_words 1 (of_agreement (agreement_answer (float_at q 0) (float_at q 1)))
unfolding strategies_words
strategies_words_lem q = float_read q 0 _ ∙ float_read q 1 _

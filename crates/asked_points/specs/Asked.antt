-- The words of the answer to a question q about numbers or one point, by its kind: what the exported function answers. The question is read in order, as
-- compare/REPLAY.md has its form. Definitions only.
use Rattle.std.specs.Prelude.{ℕ, cond, List, [], ◌∷◌, eqb, leb, Float}
use Rattle.std.specs.Float.{binary64}
use Rattle.std.specs.Float.Ieee.{to_bits}
use Rattle.numbers.specs.Order.{least_of, greatest_of, magnitude_of}
use Rattle.numbers.specs.Floor.{floor_of, clamped_floor}
use Rattle.numbers.specs.Ceiling.{ceiling_of}
use Rattle.numbers.specs.Away.{round_away}
use Rattle.numbers.specs.Root.{root}
use Rattle.grid.specs.Words.{grid_by}
use Rattle.own.specs.Own.{point_answer, overlap_answer}
use Rattle.own.specs.Owner.{owner_answer}
use Rattle.snap.specs.Snap.{snap_answer}
use Rattle.snap.specs.Strategies.{agreement_answer}
use Rattle.replies.specs.Answers.{of_owned, of_owner_answer, of_snap, of_agreement}
use Rattle.capi.specs.Few.{unless_few}
use Rattle.records.specs.Questions.{short_by, float_by, read_word, read_short, read_float, read_words}
use Rattle.asked_points.specs.Replying.{reply_words}

-- ---- kind 1

-- what the function f from 1 to 8 answers of v and the word w, as 64 bits
unfoldable pub number_by : ℕ → Float → ℕ → ℕ
number_by f v w =
    cond (eqb f 1) (to_bits binary64 (least_of v (float_by w)))
    (cond (eqb f 2) (to_bits binary64 (greatest_of v (float_by w)))
    (cond (eqb f 3) (to_bits binary64 (magnitude_of v))
    (cond (eqb f 4) (to_bits binary64 (floor_of v))
    (cond (eqb f 5) (clamped_floor v (short_by w))
    (cond (eqb f 6) (ceiling_of v)
    (cond (eqb f 7) (to_bits binary64 (round_away v)) (to_bits binary64 (root v))))))))

unfoldable pub number_words : List ℕ → List ℕ
number_words q =
    read_word q λ f q.
    read_float q λ v q.
    read_word q λ w _. cond (leb 1 f) (cond (leb f 8) (number_by f v w ∷ []) []) []

-- ---- kinds 6 to 10

unfoldable pub point_owned_words : List ℕ → List ℕ
point_owned_words q =
    read_short q λ row q.
    read_short q λ col q.
    read_float q λ x q.
    read_float q λ y q.
    read_words q λ w _. reply_words 1 (unless_few w (of_owned (point_answer (grid_by w) row col x y)))

unfoldable pub overlap_owned_words : List ℕ → List ℕ
overlap_owned_words q =
    read_short q λ row q.
    read_short q λ col q.
    read_float q λ x q.
    read_float q λ y q.
    read_float q λ size q.
    read_short q λ strategy q.
    read_words q λ w _. reply_words 1 (unless_few w (of_owned (overlap_answer (grid_by w) row col x y size strategy)))

unfoldable pub owner_words : List ℕ → List ℕ
owner_words q =
    read_float q λ x q.
    read_float q λ y q.
    read_words q λ w _. reply_words 3 (unless_few w (of_owner_answer (owner_answer (grid_by w) x y)))

unfoldable pub snap_words : List ℕ → List ℕ
snap_words q =
    read_float q λ x q.
    read_float q λ y q.
    read_float q λ size q.
    read_short q λ strategy _. reply_words 2 (of_snap (snap_answer x y size strategy))

unfoldable pub strategies_words : List ℕ → List ℕ
strategies_words q =
    read_float q λ v q.
    read_float q λ size _. reply_words 1 (of_agreement (agreement_answer v size))

-- ---- by kind: no word where the kind is none of these

unfoldable pub words_for : ℕ → List ℕ → List ℕ
words_for kind q =
    cond (eqb kind 1) (number_words q)
    (cond (eqb kind 6) (point_owned_words q)
    (cond (eqb kind 7) (overlap_owned_words q)
    (cond (eqb kind 8) (owner_words q)
    (cond (eqb kind 9) (snap_words q)
    (cond (eqb kind 10) (strategies_words q) [])))))

-- What the private functions of a walk by turns promise to one another, and what their laws speak of. Definitions only.
use Rattle.std.specs.Prelude.{◌≡◌, ℕ, ◌+◌, ◌≤◌, Bool, true, false, cond, ◌&&◌, ◌⊎◌, List, length, take, negsuc, Float, Option, Some, None}
use Rattle.std.specs.Float.{fin}
use Rattle.std.specs.Float.Ieee.{lt, le, eq}
use Rattle.numbers.specs.Arithmetic.{◌+₆₄◌, ◌*₆₄◌}
use Rattle.numbers.specs.Order.{greatest_of}
use Rattle.refusals.specs.Refusals.{refusal, refused, gives}
use Rattle.turns.specs.declared.Course.{Course}
use Rattle.turns.specs.declared.Position.{Position}
use Rattle.turns.specs.declared.Walk.{Walk}
use Rattle.turns.specs.declared.Way.{Way}
use Rattle.turns.specs.Turns.{nought, one, infinite}
use Rattle.turns.specs.Pushes.{Outcome}
use Rattle.turns.specs.InsideModular.{advanced_by}

-- The tolerance by the greater t_max, and whether a turn is plain: the lesser t_max is above 0 and at most 1 + tolerance, and `gap`, by which the two
-- differ, is more than the tolerance; or the greater is infinite.
abbrev pub wide : Float → Float
wide far = fin false 1 (negsuc 48) *₆₄ greatest_of one far

unfoldable pub plainly : Float → Float → Float → Bool
plainly near far gap = lt nought near && cond (lt (wide far) gap) (le near (one +₆₄ wide far)) (eq far infinite)

-- what a run leaves: the cells at the front of s, or refusal 7
abbrev pub RanTo : Outcome → Option ℕ → List ℕ → Type 0
RanTo (refused why) (Some r) s = ⊥
RanTo (refused why) None s = why ≡ refusal 7 0
RanTo (gives xs) (Some r) s = (r ≤ length s) × (take r s ≡ xs)
RanTo (gives xs) None s = ⊥

abbrev pub RanWithin : Option ℕ → ℕ → Type 0
RanWithin (Some r) b = r ≤ b
RanWithin None b = Unit {0}

-- a run, and how much it pushes behind the n that were there: at most three a turn
pub record Runs (o : Outcome) (n : ℕ) (r : Option ℕ) (s : List ℕ) : Type 0 where
  pub ran : RanTo o r s
  pub all : RanWithin r (n + 15000)

-- on an axis with d = 0 no boundary is ever reached
pub record Far (c : Course) (p : Position) : Type 0 where
  pub max : p.t_max ≡ infinite
  pub delta : c.t_delta ≡ infinite

-- a line along an axis
abbrev pub Straight : Way → Walk → Type 0
Straight way w = Far way.x w.x ⊎ Far way.y w.y

-- a single point: no move changes the state
pub record Still (way : Way) (w : Walk) : Type 0 where
  pub x : advanced_by true way.x w.x ≡ w.x
  pub y : advanced_by true way.y w.y ≡ w.y

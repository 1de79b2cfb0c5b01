-- From what an entry answers to the promise of an exported function. Assumes nothing.
use Rattle.std.specs.Prelude.{Ok, Err}
use Rattle.refusals.specs.Refusals.{Check}
use Prim.Native.Nat.{ℕ, ◌+◌, ◌≤◌, ◌<◌}
use mathlib.Core.Path.{◌≡◌, refl, sym, ap, ◌∙◌}
use mathlib.Core.List.{List, []}
use lib.ListN.{length}
use borrow.Author.Tests.{le-leb, lt-leb}
use Rattle.seek.proofs.PlaceLaws.{given, part_some, part_whole}
use Rattle.grid.specs.Words.{grid_words}
use Rattle.replies.specs.Replies.{Reply, Replies}
use Rattle.replies.specs.Answers.{of_part}
use Rattle.replies.proofs.Handing.{bare_replies, replied}
use Rattle.capi.specs.Few.{unless_few}
use Rattle.capi.specs.Unknown.{unless_above}

-- ---- words that are too few to say a grid, and words that say one

few_answer : (words : List ℕ) (a : Reply) → length words < grid_words → record { number = 101; values = [] } ≡ unless_few words a
unfolding unless_few
few_answer words a h = rw (lt-leb grid_words (length words) h)

grid_answer : (words : List ℕ) (a : Reply) → grid_words ≤ length words → a ≡ unless_few words a
unfolding unless_few
grid_answer words a h = rw (le-leb grid_words (length words) h)

-- the entry is not called
pub few_replies : (n : ℕ) (words : List ℕ) (a : Reply) (out : List ℕ) → n ≤ length out → length words < grid_words → Replies n (unless_few words a) out 101 out
few_replies n words a out h k = replied n (few_answer words a k) (bare_replies n 101 out h)

-- the entry answered a, by the name b
pub asked : (n : ℕ) (words : List ℕ) {a b : Reply} {out : List ℕ} {r : ℕ} {out' : List ℕ} →
    grid_words ≤ length words → b ≡ a → Replies n b out r out' → Replies n (unless_few words a) out r out'
asked n words {a} k e d = replied n (e ∙ grid_answer words a k) d

-- ---- a number that names nothing, and one that names something

module _ (last number n : ℕ) where
  above_answer : (a : Reply) → last < n → record { number = number; values = [] } ≡ unless_above last number n a
  unfolding unless_above
  above_answer a h = rw (lt-leb n last h)

  pub named_answer : (a : Reply) → n ≤ last → a ≡ unless_above last number n a
  unfolding unless_above
  named_answer a h = rw (le-leb n last h)

  pub above_replies : (long : ℕ) (a : Reply) (out : List ℕ) → long ≤ length out → last < n → Replies long (unless_above last number n a) out number out
  above_replies long a out h k = replied long (above_answer a k) (bare_replies long number out h)

-- ---- a list by its place: `list` is what was returned for it, and xs the list at the place. Where a list ends counts only where it is given.

pub part_ends : (check : Check) (from to to₁ : ℕ) → (check ≡ Ok tt → to ≡ to₁) → of_part check from to ≡ of_part check from to₁
unfolding of_part
part_ends (Ok _) from to to₁ h = rw (h refl)
part_ends (Err r) from to to₁ h = refl

module _ (check : Check) (from : ℕ) (xs list : List ℕ) (e : list ≡ given check xs) where
  pub list_part : of_part check from (from + length list) ≡ of_part check from (from + length xs)
  list_part = part_ends check from _ _ (λ f. rw (part_whole check xs list e f))

  -- one that has lines was not refused
  pub list_some : 0 < length list → of_part (Ok tt) from (from + length list) ≡ of_part check from (from + length xs)
  list_some h = ap (λ (k : Check). of_part k from (from + length list)) (sym (part_some check xs list e h)) ∙ list_part

-- The answer in numbers, case by case. Assumes nothing.
use Rattle.std.specs.Prelude.{Ok, Err, Result}
use mathlib.Core.Path.{◌≡◌, refl, ap, ◌∙◌, subst}
use Prim.Native.Nat.{ℕ}
use native.Mathlib.Omega.{arith}
use mathlib.Core.List.{List, [], ◌∷◌}
use lib.ListN.{length, set}
use Rattle.refusals.specs.declared.Refusal.{Refusal}
use Rattle.grid.specs.declared.Grid.{Grid}
use Rattle.grid.specs.declared.Segment.{Segment}
use Rattle.walk.specs.declared.Mode.{Mode}
use Rattle.walk.specs.declared.Reached.{Reached}
use Rattle.walk.specs.declared.Reached.TheVariants.{Found, Everywhere}
use Rattle.walk.specs.Segment.{everywhere_in, as_is_of, Walked}
use Rattle.inner_walk.specs.Replies.{reach_number, reach_value, InnerReplies}

-- nothing is written where there is no entry
pub none_set : (xs : List ℕ) (v : ℕ) → length xs ≡ 0 → xs ≡ set xs 0 v
none_set [] v e = refl
none_set (x ∷ xs) v e = absurd (omega arith)

-- ---- by case

module _ {R : Result Reached Refusal} (out : List ℕ) {out' : List ℕ} where
  pub found_said : (n : ℕ) → R ≡ Ok (Found n) → out' ≡ set out 0 n → (0 ≡ reach_number R) × (out' ≡ set out 0 (reach_value R))
  unfolding reach_number reach_value
  found_said n e h = rw e (refl, h)

  pub everywhere_said : R ≡ Ok Everywhere → out' ≡ set out 0 0 → (16 ≡ reach_number R) × (out' ≡ set out 0 (reach_value R))
  unfolding reach_number reach_value
  everywhere_said e h = rw e (refl, h)

  pub refused_said : (r : Refusal) → R ≡ Err r → out' ≡ set out 0 r.value → (r.number ≡ reach_number R) × (out' ≡ set out 0 (reach_value R))
  unfolding reach_number reach_value
  refused_said r e h = rw e (refl, h)

-- ---- of the walk

pub replies : {mode : Mode} {g : Grid} {line : Segment} {was now out out' : List ℕ} {R : Result Reached Refusal} {r : ℕ} → Walked (everywhere_in mode g line) (as_is_of mode (length was) g line) was R now
    → (r ≡ reach_number R) × (out' ≡ set out 0 (reach_value R)) → InnerReplies mode g line was out r now out'
replies {mode} {g} {line} {was} {now} {out} w k =
    record {
      number = k.0 ∙ ap reach_number w.answer;
      value = k.1 ∙ ap (λ (R : Result Reached Refusal). set out 0 (reach_value R)) w.answer;
      walked = subst (λ (R : Result Reached Refusal). Walked (everywhere_in mode g line) (as_is_of mode (length was) g line) was R now) w.answer w;
    }

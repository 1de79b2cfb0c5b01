-- The refusal, case by case of what the calls answered. Assumes nothing.
use Rattle.std.specs.Prelude.{Ok, Err, Result}
use mathlib.Core.Path.{◌≡◌, refl}
use mathlib.Core.List.{List}
use Prim.Native.Nat.{ℕ}
use lib.ListN.{length}
use Rattle.refusals.specs.declared.Refusal.{Refusal}
use Rattle.refusals.specs.Refusals.{Answer, refused, gives, answer_by}
use Rattle.grid.specs.declared.Grid.{Grid}
use Rattle.grid.specs.Domain.{Lines}
use Rattle.wkb.specs.Reading.{found}
use Rattle.build.specs.declared.Plan.{Plan}
use Rattle.build.specs.Build.{end_of, built_on, answer_of, BuildIs}
use Rattle.build.specs.declared.Standing.{Standing}
use Rattle.chain.proofs.Chains.{lines_of}
use Rattle.why.specs.Why.{nothing, of_lines, of_points, refusal_of}

-- ---- the build

-- what an answer of a build has of a refusal
refusal_in : Result Standing Refusal → Refusal
refusal_in (Err q) = q
refusal_in (Ok st) = nothing

module _ (plan : Plan) (ls : Lines) {o i gs s o' i' gs' s' : List ℕ} {r : Result Standing Refusal} (eo : length o ≡ 4096) (ei : length i ≡ 4096) (eg : length gs ≡ 64) (es : length s ≡ 16384) where
  in_answer : (e : Answer Grid) → BuildIs plan.mode ls o i gs s r o' i' gs' s' e → refusal_in r ≡ answer_by (λ q. q) (λ g. nothing) e
  unfolding answer_of answer_by built_on refusal_in
  in_answer (refused p) b = rw b.answer
  in_answer (gives g) b = rw b.answer

  in_build : BuildIs plan.mode ls o i gs s r o' i' gs' s' (end_of plan ls (length o) (length i) (length gs) (length s)) → refusal_in r ≡ of_lines plan ls
  unfolding of_lines
  in_build b = rw (eo, ei, eg, es) at (in_answer _ b)

  pub build_refused : BuildIs plan.mode ls o i gs s r o' i' gs' s' (end_of plan ls (length o) (length i) (length gs) (length s)) → {q : Refusal} → r ≡ Err q → q ≡ of_lines plan ls
  unfolding refusal_in
  build_refused b x = rw x at (in_build b)

  pub build_made : BuildIs plan.mode ls o i gs s r o' i' gs' s' (end_of plan ls (length o) (length i) (length gs) (length s)) → {st : Standing} → r ≡ Ok st → nothing ≡ of_lines plan ls
  unfolding refusal_in
  build_made b x = rw x at (in_build b)

-- ---- the reader

-- the refusal of the bytes, by the lines of points
pub refusal_by : (plan : Plan) (bs : List ℕ) → answer_by (λ r. r) (λ ps. of_lines plan (lines_of ps)) (found bs) ≡ refusal_of plan bs
unfolding refusal_of of_points
refusal_by plan bs = refl

-- A full visit of standing tables hands out two different lines each time that they are tested if their boxes overlap, and else never. Of any
-- walk. Assumes nothing.
use Rattle.std.specs.Prelude.{Ok, Result}
use Rattle.refusals.specs.declared.Refusal.{Refusal}
use Rattle.visit.specs.declared.Tally.{Tally}
use mathlib.Core.Path.{◌≡◌, refl, ap, subst, ◌∙◌}
use mathlib.Core.Bool.{Bool, true, false, cond}
use mathlib.Core.List.{List, [], ◌∷◌}
use Prim.Native.Nat.{ℕ, ◌+◌, ◌-◌, ◌*◌, ◌<◌}
use native.Mathlib.Nat.{zero-add}
use native.Mathlib.Omega.{arith}
use lib.ListN.{length}
use Rattle.grid.specs.declared.Grid.{Grid}
use Rattle.grid.specs.Domain.{Lines, lines_check}
use Rattle.tables.specs.Tables.{Tables, cells, list_of, globals_of}
use Rattle.tables.specs.Stands.{Stands}
use Rattle.seek.specs.Tests.{Pair, tests_of}
use Rattle.visit.specs.Overlap.{overlap}
use Rattle.visit.specs.Batches.{made, overlapping, firsts, seconds}
use Rattle.visit.specs.Entries.{tally_of, BatchIs}
use Rattle.visit.specs.Words.{half_down, sum_below, one_where, test_of_both, times}
use Rattle.visit.proofs.Often.{handed_often, handed_never}
use Rattle.demands.specs.Words.{due}
use Rattle.demands.specs.Calls.{Call, FullVisit, firsts_of, seconds_of, tests_in, handed_out}
use Rattle.demands.proofs.Refusals.{batch_made}
use Rattle.demands.proofs.Often.{tested}
use Rattle.demands.proofs.Count as count-laws
use Rattle.demands.proofs.Calls.{visit_firsts, visit_seconds, visit_tests, made_all}

-- how often two lines stand beside each other in the two outputs is how often they are among the pairs
pub pairs_times : (a b : ℕ) (ps : List Pair) → handed_out a b (firsts ps) (seconds ps) ≡ times a b ps
unfolding handed_out times test_of_both
pairs_times a b [] = refl
pairs_times a b (p ∷ ps) = ap (λ (n : ℕ). one_where (test_of_both a b p) + n) (pairs_times a b ps)

module _ {W : ℕ → List ℕ} {n : ℕ} {g : Grid} {t : Tables} (s : Stands W n g t) (ls : Lines) where
  -- HANDED OUT EACH TIME that they are tested if their boxes overlap, and else never
  pub handed_out_lem : (cs : List Call) → FullVisit ls g t cs → (a b : ℕ) → (a ≡ b → ⊥) → a < n → b < n
      → handed_out a b (firsts_of cs) (seconds_of cs) ≡ cond (overlap ls a b) (due g W a b) 0
  handed_out_lem cs h a b d la lb =
      rw (visit_firsts ls g t cs h, visit_seconds ls g t cs h, pairs_times a b (overlapping ls (tests_of t))) (go (overlap ls a b) refl)
    where
      go : (x : Bool) → overlap ls a b ≡ x → times a b (overlapping ls (tests_of t)) ≡ cond x (due g W a b) 0
      go true e = handed_often ls a b (tests_of t) e ∙ tested s a b d la lb
      go false e = handed_never ls a b (tests_of t) e

  -- THE TEST COUNT of a full visit
  pub tests_made : (cs : List Call) → FullVisit ls g t cs
      → tests_in cs ≡ sum_below (cells t) (λ c. half_down (length (list_of t c))) + (length (globals_of t) * (n - 1) - half_down (length (globals_of t)))
  tests_made cs h = visit_tests ls g t cs h ∙ count-laws.number s

  -- ONE BATCH IS A FULL VISIT, if its outputs have one length and more room than there are overlaps
  pub one_batch : lines_check ls ≡ Ok tt
      → {first second first' second' : List ℕ} {r : (Result Tally Refusal)} → BatchIs ls g t 0 first second first' second' r
      → length first ≡ length second → length (overlapping ls (tests_of t)) < length first
      → FullVisit ls g t (record { «lent-first» = first; «lent-second» = second; first = first'; second = second'; tally = tally_of ls (tests_of t) 0 (length first) } ∷ [])
  one_batch passed {first} {second} {first'} {second'} {r} h e l = (
    subst (λ (x : (Result Tally Refusal)). BatchIs ls g t 0 first second first' second' x) (batch_made s ls passed h e (omega arith)) h,
    zero-add (length (made ls (tests_of t) (length first))) ∙ ap length (made_all ls (tests_of t) (length first) l),
  )

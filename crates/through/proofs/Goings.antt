-- From where some tests were left to where others are: none, one after another, a part of a row. Assumes nothing.
use mathlib.Core.Path.{refl, sym, ap, ◌∙◌}
use mathlib.Core.List.{List, ◌++◌}
use Prim.Native.Nat.{ℕ, ◌+◌, ◌≤◌}
use lib.ListN.{length, drop}
use lib.Seq.{drop-drop, drop-append_seam}
use Rattle.grid.specs.Domain.{Lines}
use Rattle.seek.specs.declared.Place.{Place}
use Rattle.seek.specs.Tests.{Pair, with_each}
use Rattle.visit.specs.Inside.{TestsMoved}
use Rattle.seek.proofs.Clauses.{length_with}
use Rattle.visit.proofs.Moves.{moved_none, moved_then}
use Rattle.through.specs.Inside.{Goes}

module _ (ls : Lines) (room : ℕ) where
  pub goes_none : (rest : List Pair) (fs ss : List ℕ) (hits : ℕ) → hits ≤ room → Goes ls rest rest 0 room fs ss hits fs ss hits
  goes_none rest fs ss hits h = record { moved = moved_none ls room rest fs ss hits h; left = refl }

  module _ {a b d : List Pair} {s₁ s₂ : ℕ} {fs ss : List ℕ} {h : ℕ} {fs₁ ss₁ : List ℕ} {h₁ : ℕ} {fs₂ ss₂ : List ℕ} {h₂ : ℕ} where
    pub goes_then : Goes ls a b s₁ room fs ss h fs₁ ss₁ h₁ → Goes ls b d s₂ room fs₁ ss₁ h₁ fs₂ ss₂ h₂ → Goes ls a d (s₁ + s₂) room fs ss h fs₂ ss₂ h₂
    goes_then m k =
        record {
          moved = moved_then ls room a b d s₁ s₂ fs ss h fs₁ ss₁ h₁ fs₂ ss₂ h₂ m.moved k.moved;
          left = k.left ∙ ap (drop s₂) m.left ∙ drop-drop s₂ s₁ a;
        }

  -- one line with each of a list
  pub goes_row : (pl : Place) (line : ℕ) (xs : List ℕ) (later : List Pair) (fs ss : List ℕ) (hits : ℕ) (fs' ss' : List ℕ) (hits' : ℕ)
      → TestsMoved ls (with_each pl line xs ++ later) later (length xs) room fs ss hits fs' ss' hits'
      → Goes ls (with_each pl line xs ++ later) later (length xs) room fs ss hits fs' ss' hits'
  goes_row pl line xs later fs ss hits fs' ss' hits' m =
      record { moved = m; left = sym (ap (λ (n : ℕ). drop n (with_each pl line xs ++ later)) (sym (length_with pl line xs)) ∙ drop-append_seam (with_each pl line xs) later) }

-- Five values stored at the start of `out`. Assumes nothing.
use Prim.Native.Nat.{ℕ, ◌≤◌}
use mathlib.Core.Path.{◌≡◌, refl}
use mathlib.Core.List.{List, [], ◌∷◌, ◌++◌}
use native.Mathlib.Omega.{arith}
use lib.ListN.{length, drop, set}

pub stored_five : (out : List ℕ) (a b c d e : ℕ) → 5 ≤ length out →
    set (set (set (set (set out 0 a) 1 b) 2 c) 3 d) 4 e ≡ (a ∷ b ∷ c ∷ d ∷ e ∷ []) ++ drop 5 out
stored_five [] a b c d e h = absurd (omega arith)
stored_five (x ∷ []) a b c d e h = absurd (omega arith)
stored_five (x ∷ y ∷ []) a b c d e h = absurd (omega arith)
stored_five (x ∷ y ∷ z ∷ []) a b c d e h = absurd (omega arith)
stored_five (x ∷ y ∷ z ∷ u ∷ []) a b c d e h = absurd (omega arith)
stored_five (x ∷ y ∷ z ∷ u ∷ v ∷ xs) a b c d e h = refl

-- Laws of what is lent, and of what stands beside the words of a question. Assumes nothing.
use Prim.Native.Nat.{ℕ, zero, suc, ◌≤◌}
use native.Mathlib.Omega.{arith}
use mathlib.Core.Path.{◌≡◌, refl, ap, ◌∙◌}
use mathlib.Core.List.{List, ◌∷◌, map}
use lib.Ieee.{Float}
use lib.ListN.{length, take, replicate}
use Rattle.records.specs.Questions.{float_by, short_by, beside_slice, floats_in, shorts_in, first_words}
use Rattle.records.proofs.Parts.{beside_all}

-- a part of zeros
pub part_of_zeros : (n m : ℕ) → n ≤ m → take n (replicate {A = ℕ} m 0) ≡ replicate {A = ℕ} n 0
part_of_zeros zero m h = refl
part_of_zeros (suc n) zero h = absurd (omega arith)
part_of_zeros (suc n) (suc m) h = ap (λ (l : List ℕ). 0 ∷ l) (part_of_zeros n m (omega arith))

-- the entries of a slice, as floats and as numbers of 32 bits, where all words stand as such beside the question
pub floats_in_lem : (q : List ℕ) (numbers k : ℕ) {all r : List Float} → length q ≤ 16384 → all ≡ map float_by (first_words 16384 q) → r ≡ beside_slice q numbers k all → r ≡ floats_in q numbers k
unfolding floats_in
floats_in_lem q numbers k h e f = f ∙ ap (beside_slice q numbers k) e ∙ beside_all float_by 16384 q numbers k h

pub shorts_in_lem : (q : List ℕ) (numbers k : ℕ) {all r : List ℕ} → length q ≤ 16384 → all ≡ map short_by (first_words 16384 q) → r ≡ beside_slice q numbers k all → r ≡ shorts_in q numbers k
unfolding shorts_in
shorts_in_lem q numbers k h e f = f ∙ ap (beside_slice q numbers k) e ∙ beside_all short_by 16384 q numbers k h

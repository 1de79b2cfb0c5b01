-- What every cell of a list gives, one after the other: laws of `flat_map` over lists of numbers. Assumes nothing.
use mathlib.Core.Path.{◌≡◌, refl, sym, ap, ◌∙◌}
use Prim.Native.Nat.{ℕ, ◌*◌, ◌≤◌, ◌<◌}
use native.Mathlib.Nat.{suc-mul}
use native.Mathlib.Omega.{arith}
use mathlib.Core.Bool.{Bool, true, false, cond, ◌||◌}
use mathlib.Core.List.{List, [], ◌∷◌, ◌++◌, flat_map, append-nil, append_assoc}
use lib.ListN.{length, length-append}
use Rattle.slices.specs.Lists.{any, Below}
use Rattle.slices.proofs.Members.{any_append, below_append}

pub flat_append : (g : ℕ → List ℕ) (xs : List ℕ) (c : ℕ) → flat_map g (xs ++ (c ∷ [])) ≡ flat_map g xs ++ g c
unfolding flat_map
flat_append g [] c = append-nil (g c)
flat_append g (x ∷ xs) c = ap (λ (l : List ℕ). g x ++ l) (flat_append g xs c) ∙ sym (append_assoc (g x) (flat_map g xs) (g c))

pub flat_none : (g : ℕ → List ℕ) → ((c : ℕ) → g c ≡ []) → (xs : List ℕ) → flat_map g xs ≡ []
unfolding flat_map
flat_none g h [] = refl
flat_none g h (x ∷ xs) = rw (h x, flat_none g h xs)

pub flat_same : (g h : ℕ → List ℕ) → ((c : ℕ) → g c ≡ h c) → (xs : List ℕ) → flat_map g xs ≡ flat_map h xs
unfolding flat_map
flat_same g h e [] = refl
flat_same g h e (x ∷ xs) = rw (e x, flat_same g h e xs)

pub flat_le : (g : ℕ → List ℕ) (k : ℕ) → ((c : ℕ) → length (g c) ≤ k) → (xs : List ℕ) → length (flat_map g xs) ≤ length xs * k
unfolding flat_map
flat_le g k h [] = omega arith
flat_le g k h (x ∷ xs) = rw (length-append, suc-mul (length xs) k) (omega (arith, h x, flat_le g k h xs))

pub flat_below : (n : ℕ) (g : ℕ → List ℕ) → ((c : ℕ) → c < n → Below n (g c)) → (xs : List ℕ) → Below n xs → Below n (flat_map g xs)
unfolding flat_map
flat_below n g h [] b = tt
flat_below n g h (x ∷ xs) b = below_append n (g x) (flat_map g xs) (h x b.0) (flat_below n g h xs b.1)

-- one list or another
pub cond_below : (n : ℕ) (b : Bool) (xs ys : List ℕ) → (b ≡ true → Below n xs) → (b ≡ false → Below n ys) → Below n (cond b xs ys)
cond_below n true xs ys h k = h refl
cond_below n false xs ys h k = k refl

pub any_flat : (f : ℕ → Bool) (g : ℕ → List ℕ) (xs : List ℕ) → any f (flat_map g xs) ≡ any (λ c. any f (g c)) xs
unfolding flat_map
any_flat f g [] = refl
any_flat f g (x ∷ xs) = any_append f (g x) (flat_map g xs) ∙ ap (λ (b : Bool). any f (g x) || b) (any_flat f g xs)

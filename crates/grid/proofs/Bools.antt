-- What a conjunction and a disjunction of tests say of each. Assumes nothing.
use mathlib.Core.Path.{◌≡◌, refl, sym}
use mathlib.Core.Logic.{◌⊎◌, inl, inr}
use mathlib.Core.Bool.{Bool, true, false, ◌&&◌, ◌||◌}

pub and_left : (p q : Bool) → (p && q) ≡ true → p ≡ true
and_left true q h = refl
and_left false q h = h

pub and_right : (p q : Bool) → (p && q) ≡ true → q ≡ true
and_right true q h = h
and_right false true h = refl
and_right false false h = h

pub and_both : (p q : Bool) → p ≡ true → q ≡ true → (p && q) ≡ true
and_both p q h k = rw (h, k)

pub and_says : (p q : Bool) → (p && q) ≡ true → (p ≡ true) × (q ≡ true)
and_says p q h = (and_left p q h, and_right p q h)

pub and_off : (p q : Bool) → q ≡ false → (p && q) ≡ false
and_off true q h = h
and_off false q h = refl

pub or_says : (p q : Bool) → (p || q) ≡ true → (p ≡ true) ⊎ (q ≡ true)
or_says true q h = inl refl
or_says false q h = inr h

pub or_left : (p q : Bool) → p ≡ true → (p || q) ≡ true
or_left p q h = rw h

pub or_right : (p q : Bool) → q ≡ true → (p || q) ≡ true
or_right true q h = refl
or_right false q h = h

-- each passes where the other does
pub both_ways : (p q : Bool) → (p ≡ true → q ≡ true) → (q ≡ true → p ≡ true) → p ≡ q
both_ways true q f g = sym (f refl)
both_ways false true f g = g refl
both_ways false false f g = refl

-- A float as a whole number: what the tests of `whole_of` say. `Within v` says that v is finite and of magnitude at most 2^29. Assumes nothing.
use Rattle.std.proofs.Common.{◌≡◌, ℕ, zero, suc, ◌+◌, ◌-◌, ◌*◌, ◌/◌, ◌%◌, ◌^◌, ◌<◌, ◌≤◌, min, Bool, true, false, cond, ◌&&◌, ◌||◌, T, eqb, ltb, leb, ◌⊎◌, List, [], ◌∷◌, ◌++◌, map, length, get_or, take, drop, set, ℤ, pos, neg_ℤ, sym, refl, ap, ◌∙◌, inl, inr, true≢false, mul-le-mul_right, mul_assoc, mul_comm, div-add-mod', zero-mul, mul-one, div-mul-le_self, add-one, arith, w32, w64, SFits, le-ltb, lt-ltb, eq-eqb, ne_eqb, eqb-true, le-leb, leb-true}
use mathlib.Core.Bool.{beq, false≢true}
use native.Mathlib.Nat.{eq_of_mul-eq-mul_right}
use native.Mathlib.Decide.{dec_le}
use lib.Ieee.{Float, nan, inf, fin, binary64, up, down, lt, le, eq, of_int, to_signed}
use lib.Ieee.Exact.{HasValue}
use lib.Ieee.Fits.{down_pos}
use lib.Ieee.Back.{round_whole}
use Rattle.numbers.proofs.Tests.{holds, or_left}
use Rattle.grid.proofs.Bools.{and_left, and_right}
use Rattle.crossing_chain.specs.Whole.{is_whole, whole_of}

-- ---- tests

both_eq : (a b : ℕ) (c : Bool) → (eqb a b && c) ≡ true → a ≡ b
both_eq a b c h = eqb-true a b (and_left (eqb a b) c h)

-- a is below b or another test holds
or_le : (a b : ℕ) (x : Bool) → (x ≡ true → a ≤ b) → (ltb a b || x) ≡ true → a ≤ b
or_le a b x k h = elim (dec_le a b) [ yes l ↦ l | no l ↦ k (sym (rw (le-ltb a b (omega arith))) ∙ h) ]

-- at most, as two floats of one sign are compared: the second of them is b above zero, and a below it
le_above : (a b : ℕ) (c : Bool) → (ltb a b || (eqb a b && c)) ≡ true → a ≤ b
le_above a b c h = or_le a b (eqb a b && c) (λ k. let q : a ≡ b = both_eq a b c k in omega arith) h

le_below : (a b : ℕ) (c : Bool) → (ltb a b || (eqb b a && c)) ≡ true → a ≤ b
le_below a b c h = or_le a b (eqb b a && c) (λ k. let q : b ≡ a = both_eq b a c k in omega arith) h

-- and where they are not
or_gt : (a b : ℕ) (x : Bool) → (a ≡ b → x ≡ true) → (ltb a b || x) ≡ false → b < a
or_gt a b x k h = elim (dec_le a b) [ yes l ↦ absurd (true≢false (sym (holds l) ∙ h)) | no l ↦ omega arith ]
  where
    or_right : (u w : Bool) → w ≡ true → (u || w) ≡ true
    or_right true w e = refl
    or_right false w e = e

    holds : a ≤ b → (ltb a b || x) ≡ true
    holds l = elim (dec_le b a) [ yes g ↦ or_right (ltb a b) x (k (omega arith)) | no g ↦ rw (lt-ltb a b (omega arith)) ]

gt_above : (a b : ℕ) → (ltb a b || (eqb a b && true)) ≡ false → b < a
gt_above a b h = or_gt a b (eqb a b && true) (λ e. rw (eq-eqb a b e)) h

gt_below : (a b : ℕ) → (ltb a b || (eqb b a && true)) ≡ false → b < a
gt_below a b h = or_gt a b (eqb b a && true) (λ e. rw (eq-eqb b a (sym e))) h

-- what is above zero is so said
not_nothing : (n : ℕ) (x : Bool) → 0 < n → (ltb 0 n || x) ≡ false → ⊥
not_nothing n x p h = true≢false (sym (rw (lt-ltb 0 n p)) ∙ h)

-- ---- a float within 2^29

abbrev pub Within : Float → Type 0
Within nan = ⊥
Within (inf s) = ⊥
Within (fin s m e) = m * up e ≤ 536870912 * down e

abbrev pub low : Float
low = fin true 1 (pos 29)

abbrev pub high : Float
high = fin false 1 (pos 29)

pub within : (v : Float) → le low v ≡ true → le v high ≡ true → Within v
unfolding le lt eq
within nan a b = true≢false (sym b)
within (inf true) a b = true≢false (sym a)
within (inf false) a b = true≢false (sym b)
within (fin true m e) a b = let h = le_below (m * up e * 1) (1 * 2 ^ 29 * down e) _ a in omega arith
within (fin false m e) a b = let h = le_above (m * up e * 1) (1 * 2 ^ 29 * down e) _ b in omega arith

-- the whole part, which is at most 2^29
part_most : (X D : ℕ) → 0 < D → X ≤ 536870912 * D → X / D ≤ 536870912
part_most X D p h =
    let l = div-mul-le_self X D in
    elim (dec_le (X / D) 536870912) [ yes k ↦ k | no k ↦ absurd (let g : 536870913 ≤ X / D = omega arith in let m = mul-le-mul_right D g in omega arith) ]

-- a whole number of magnitude at most 2^29 is within it
whole_within : (m : ℕ) (e : ℤ) → is_whole m e ≡ true → m * up e ≤ 536870912 * down e
unfolding is_whole
whole_within m e h = go (m * up e) (down e) h
  where
    go : (X D : ℕ) → (eqb (X % D) 0 && leb (X / D) 536870912) ≡ true → X ≤ 536870912 * D
    go X D h =
        let z = both_eq (X % D) 0 (leb (X / D) 536870912) h in
        let l : X / D ≤ 536870912 = leb-true (X / D) 536870912 (and_right (eqb (X % D) 0) (leb (X / D) 536870912) h) in
        let s = div-add-mod' X D in
        let u = mul-le-mul_right D l in
        omega arith

none_of : (b : Bool) (z : ℤ) → (b ≡ true → ⊥) → pos 536870913 ≡ cond b z (pos 536870913)
none_of true z h = absurd (h refl)
none_of false z h = refl

pub none_low : (v : Float) → le low v ≡ false → pos 536870913 ≡ whole_of v
unfolding le lt eq whole_of
none_low nan h = refl
none_low (inf s) h = refl
none_low (fin false m e) h = absurd (let p = down_pos e in not_nothing (1 * 2 ^ 29 * down e + m * up e * 1) _ (omega arith) h)
none_low (fin true m e) h =
    none_of (is_whole m e) _ (λ k. let w = whole_within m e k in let g = gt_below (m * up e * 1) (1 * 2 ^ 29 * down e) h in omega arith)

pub none_high : (v : Float) → le v high ≡ false → pos 536870913 ≡ whole_of v
unfolding le lt eq whole_of
none_high nan h = refl
none_high (inf s) h = refl
none_high (fin true m e) h = absurd (let p = down_pos e in not_nothing (m * up e * 1 + 1 * 2 ^ 29 * down e) _ (omega arith) h)
none_high (fin false m e) h =
    none_of (is_whole m e) _ (λ k. let w = whole_within m e k in let g = gt_above (m * up e * 1) (1 * 2 ^ 29 * down e) h in omega arith)

-- ---- cut toward zero

-- q with a sign
abbrev pub signed : Bool → ℕ → ℤ
signed s q = cond s (neg_ℤ (pos q)) (pos q)

min_le : (a b : ℕ) → a ≤ b → min a b ≡ a
min_le a b h = omega arith

cut_is : (s : Bool) (m : ℕ) (e : ℤ) → Within (fin s m e) → to_signed 63 (fin s m e) ≡ signed s (m * up e / down e)
unfolding to_signed
cut_is s m e w = go s (m * up e / down e) (part_most (m * up e) (down e) (down_pos e) w)
  where
    go : (s : Bool) (q : ℕ) → q ≤ 536870912 → cond s (neg_ℤ (pos (min q (2 ^ 63)))) (pos (min q (2 ^ 63 - 1))) ≡ signed s q
    go true q h = ap (λ (n : ℕ). neg_ℤ (pos n)) (min_le q (2 ^ 63) (omega arith))
    go false q h = ap pos (min_le q (2 ^ 63 - 1) (omega arith))

-- A / D' is the whole part of X / D: they are equal exactly where nothing was cut off
level_whole : (X D A D' : ℕ) (b : Bool) → 0 < D → 0 < D' → A * 1 ≡ X / D * D' → (b ≡ true) ⊎ (X / D ≡ 0) → (eqb (A * D) (X * D') && (b || eqb (A * D) 0)) ≡ eqb (X % D) 0
level_whole X D A D' b p p' v w = go (X / D) (X % D) (div-add-mod' X D) v w
  where
    signs : (A : ℕ) (b : Bool) → (b ≡ true) ⊎ (A ≡ 0) → (b || eqb A 0) ≡ true
    signs A true w = refl
    signs A false (inl e) = absurd (false≢true e)
    signs A false (inr e) = eq-eqb A 0 e

    sized : (q : ℕ) → A * 1 ≡ q * D' → A * D ≡ q * D * D'
    sized q v = ap (λ (n : ℕ). n * D) (sym (mul-one A) ∙ v) ∙ mul_assoc q D' D ∙ ap (λ (n : ℕ). q * n) (mul_comm D' D) ∙ sym (mul_assoc q D D')

    none : (q : ℕ) → A * 1 ≡ q * D' → q ≡ 0 → A * D ≡ 0
    none q v z = sized q v ∙ ap (λ (n : ℕ). n * D * D') z ∙ ap (λ (n : ℕ). n * D') (zero-mul D) ∙ zero-mul D'

    go : (q r : ℕ) → q * D + r ≡ X → A * 1 ≡ q * D' → (b ≡ true) ⊎ (q ≡ 0) → (eqb (A * D) (X * D') && (b || eqb (A * D) 0)) ≡ eqb r 0
    go q zero h v w =
        let x : X ≡ q * D = omega arith in
        let e : A * D ≡ X * D' = sized q v ∙ ap (λ (n : ℕ). n * D') (sym x) in
        rw (eq-eqb (A * D) (X * D') e) (signs (A * D) b (elim w [ inl t ↦ inl t | inr z ↦ inr (none q v z) ]))
    go q (suc r) h v w =
        rw (ne_eqb (A * D) (X * D') (λ e. let f : q * D ≡ X = eq_of_mul-eq-mul_right D' p' (q * D) X (sym (sized q v) ∙ e) in omega arith)) (sym (ne_eqb (suc r) 0 (λ z. omega arith)))

beq_self : (s t : Bool) → t ≡ s → beq t s ≡ true
beq_self true true e = refl
beq_self false false e = refl
beq_self true false e = e
beq_self false true e = sym e

eq_whole : (s : Bool) (m : ℕ) (e : ℤ) (t : Bool) (y : Float) → HasValue y t (m * up e / down e) 1 → (t ≡ s) ⊎ (m * up e / down e ≡ 0) → eq y (fin s m e) ≡ eqb (m * up e % down e) 0
unfolding eq
eq_whole s m e t nan v w = absurd v
eq_whole s m e t (inf u) v w = absurd v
eq_whole s m e t (fin u n g) v w =
    level_whole (m * up e) (down e) (n * up g) (down g) (beq u s) (down_pos e) (down_pos g) v.1 (elim w [ inl k ↦ inl (beq_self s u (v.0 ∙ k)) | inr z ↦ inr z ])

-- the cut as a float equals the float exactly where nothing was cut off
eq_cut : (s : Bool) (m : ℕ) (e : ℤ) → Within (fin s m e) → eq (of_int binary64 (to_signed 63 (fin s m e))) (fin s m e) ≡ eqb (m * up e % down e) 0
unfolding of_int
eq_cut s m e w = rw (cut_is s m e w) (go s (m * up e / down e) (part_most (m * up e) (down e) (down_pos e) w) (eq_whole s m e))
  where
    go : (s : Bool) (q : ℕ) {b : Bool} → q ≤ 536870912 → ((t : Bool) (y : Float) → HasValue y t q 1 → (t ≡ s) ⊎ (q ≡ 0) → eq y (fin s m e) ≡ b) → eq (of_int binary64 (signed s q)) (fin s m e) ≡ b
    go false q h k = k false _ (round_whole binary64 false q (omega arith)) (inl refl)
    go true zero h k = k false _ (round_whole binary64 false 0 (omega arith)) (inr refl)
    go true (suc q) h k = k true _ (round_whole binary64 true (suc q) (omega arith)) (inl refl)

pub cut_whole : (v : Float) → Within v → eq (of_int binary64 (to_signed 63 v)) v ≡ true → to_signed 63 v ≡ whole_of v
unfolding whole_of is_whole
cut_whole nan w h = absurd w
cut_whole (inf s) w h = absurd w
cut_whole (fin s m e) w h =
    let z : eqb (m * up e % down e) 0 ≡ true = sym (eq_cut s m e w) ∙ h in
    let l = le-leb (m * up e / down e) 536870912 (part_most (m * up e) (down e) (down_pos e) w) in
    cut_is s m e w ∙ rw (z, l)

pub cut_none : (v : Float) → Within v → eq (of_int binary64 (to_signed 63 v)) v ≡ false → pos 536870913 ≡ whole_of v
unfolding whole_of is_whole
cut_none nan w h = absurd w
cut_none (inf s) w h = absurd w
cut_none (fin s m e) w h =
    let z : eqb (m * up e % down e) 0 ≡ false = sym (eq_cut s m e w) ∙ h in
    rw z

-- ---- what the machine asks

pub cut_asks : (v : Float) → Within v → T (le (fin true 1 (pos 63)) v) × T (lt v (fin false 1 (pos 63)))
unfolding le lt
cut_asks nan w = absurd w
cut_asks (inf s) w = absurd w
cut_asks (fin true m e) w =
    let p = down_pos e in
    (or_left (ltb (m * up e * 1) (1 * 2 ^ 63 * down e)) _ (holds _ (lt-ltb (m * up e * 1) (1 * 2 ^ 63 * down e) (omega arith))), holds _ (lt-ltb 0 (m * up e * 1 + 1 * 2 ^ 63 * down e) (omega arith)))
cut_asks (fin false m e) w =
    let p = down_pos e in
    (or_left (ltb 0 (1 * 2 ^ 63 * down e + m * up e * 1)) _ (holds _ (lt-ltb 0 (1 * 2 ^ 63 * down e + m * up e * 1) (omega arith))), holds _ (lt-ltb (m * up e * 1) (1 * 2 ^ 63 * down e) (omega arith)))

signed_fits : (s : Bool) (q : ℕ) → q ≤ 536870912 → SFits w32 (signed s q) × SFits w64 (signed s q)
signed_fits false q h = (record { sfits = omega arith }, record { sfits = omega arith })
signed_fits true zero h = (record { sfits = omega arith }, record { sfits = omega arith })
signed_fits true (suc q) h = (record { sfits = omega arith }, record { sfits = omega arith })

-- the cut fits 32 bits with a sign, and 64
pub cut_fits : (v : Float) → Within v → SFits w32 (to_signed 63 v) × SFits w64 (to_signed 63 v)
cut_fits nan w = absurd w
cut_fits (inf s) w = absurd w
cut_fits (fin s m e) w = rw (cut_is s m e w) (signed_fits s (m * up e / down e) (part_most (m * up e) (down e) (down_pos e) w))

-- ---- a slice

-- one more entry is stored: of the numbers before it, of the entries after it
pub store_more : (xs : List Float) (zs : List ℤ) (i : ℕ) (v : ℤ) → i < length xs → i < length zs → v ≡ whole_of (get_or xs i nan) → set (map whole_of (take i xs) ++ drop i zs) i v ≡ map whole_of (take (i + 1) xs) ++ drop (i + 1) zs
store_more xs zs i v h k e = rw add-one (go xs zs i h k e)
  where
    go : (xs : List Float) (zs : List ℤ) (i : ℕ) → i < length xs → i < length zs → v ≡ whole_of (get_or xs i nan) → set (map whole_of (take i xs) ++ drop i zs) i v ≡ map whole_of (take (suc i) xs) ++ drop (suc i) zs
    go [] zs i h k e = absurd (omega arith)
    go (x ∷ xs) [] i h k e = absurd (omega arith)
    go (x ∷ xs) (z ∷ zs) zero h k e = ap (λ (w : ℤ). w ∷ zs) e
    go (x ∷ xs) (z ∷ zs) (suc i) h k e = ap (λ (l : List ℤ). whole_of x ∷ l) (go xs zs i (omega arith) (omega arith) e)

-- THE DECISION IS DOCUMENT 02's SENTENCE, both ways: two lines of samples are decided to share a point exactly where there are whole numbers q above 0
-- and a, b from 0 to q as it says. Assumes nothing.
use mathlib.Core.Path.{◌≡◌, refl, sym, ap, ◌∙◌, subst}
use mathlib.Core.Bool.{Bool, true, false, true≢false, not, ◌&&◌, ◌||◌}
use Prim.Native.Nat.{ℕ, suc, ◌+◌, ◌-◌, ◌*◌, ◌≤◌, min, max}
use native.Mathlib.Omega.{arith}
use borrow.Author.Tests.{ltb-true, leb-true, le-leb, lt-ltb, not-true}
use lib.Dec.{leb, ltb}
use lib.IntN.{ℤ, pos, negsuc}
use Rattle.grid.specs.Points.{WholeSegment, WholeShare, q_times}
use Rattle.grid.proofs.Bools.{and_left, and_right}
use Rattle.samples.specs.declared.Raised.{Raised}
use Rattle.samples.specs.Samples.{sample, lifted, raised, raised_of, all_samples, sampled}
use Rattle.samples.specs.Sharing.{left_sum, right_sum, aside, boxes_overlap, sharing}
use Rattle.grid.proofs.Wholes.{Is, one_number, same_number}
use Rattle.samples.proofs.Wholes.{is_point}
use Rattle.samples.proofs.Plane.{Weighted, Overlap, Straddle, First, yes, roles, overlap_of, straddles}
use Rattle.samples.proofs.Raising.{raised_is, sampled_raised}

-- ---- from whole numbers to raised ones

is_lifted : (z : ℤ) → sample z ≡ true → Is z (lifted z) 536870912
unfolding sample lifted
is_lifted (pos n) h = record { says = omega arith }
is_lifted (negsuc n) h = let l = leb-true (suc n) 536870912 h in record { says = omega arith }

is_raised : (z : ℤ) → sample z ≡ true → Is z (raised z) 536870912
is_raised z h = rw (raised_is z h) (is_lifted z h)

-- on one axis
weights : (K q a b s e t f v v' : ℕ) → q ≡ v + a → q ≡ v' + b → q * s + a * (e + K) + (q * K + b * (K + t)) ≡ q * t + b * (f + K) + (q * K + a * (K + s)) → v * s + a * e ≡ v' * t + b * f
weights K q a b s e t f v v' g h w =
    let c1 : q * s ≡ v * s + a * s = ap (λ (z : ℕ). z * s) g ∙ omega arith in
    let c2 : q * t ≡ v' * t + b * t = ap (λ (z : ℕ). z * t) h ∙ omega arith in
    omega arith

unweights : (K q a b s e t f v v' : ℕ) → q ≡ v + a → q ≡ v' + b → v * s + a * e ≡ v' * t + b * f → q * s + a * (e + K) + (q * K + b * (K + t)) ≡ q * t + b * (f + K) + (q * K + a * (K + s))
unweights K q a b s e t f v v' g h w =
    let c1 : q * s ≡ v * s + a * s = ap (λ (z : ℕ). z * s) g ∙ omega arith in
    let c2 : q * t ≡ v' * t + b * t = ap (λ (z : ℕ). z * t) h ∙ omega arith in
    omega arith

module _ (q a b v v' : ℕ) (g : q ≡ v + a) (h : q ≡ v' + b) (s e t f : ℤ) (S : sample s ≡ true) (E : sample e ≡ true) (T : sample t ≡ true) (F : sample f ≡ true) where
  first_is : Is (q_times q a s e) (q * raised s + a * (raised e + 536870912)) (q * 536870912 + a * (536870912 + raised s))
  first_is = is_point q a s e (raised s) 536870912 (raised e) 536870912 (is_raised s S) (is_raised e E)

  second_is : Is (q_times q b t f) (q * raised t + b * (raised f + 536870912)) (q * 536870912 + b * (536870912 + raised t))
  second_is = is_point q b t f (raised t) 536870912 (raised f) 536870912 (is_raised t T) (is_raised f F)

  to_weights : q_times q a s e ≡ q_times q b t f → v * raised s + a * raised e ≡ v' * raised t + b * raised f
  to_weights w =
      weights 536870912 q a b (raised s) (raised e) (raised t) (raised f) v v' g h
      (one_number (q_times q b t f) _ _ _ _ (subst (λ (z : ℤ). Is z (q * raised s + a * (raised e + 536870912)) (q * 536870912 + a * (536870912 + raised s))) w first_is) second_is)

  from_weights : v * raised s + a * raised e ≡ v' * raised t + b * raised f → q_times q a s e ≡ q_times q b t f
  from_weights w =
      same_number (q_times q a s e) (q_times q b t f) _ _ _ _ first_is second_is (unweights 536870912 q a b (raised s) (raised e) (raised t) (raised f) v v' g h w)

-- what a line of samples says
record AllSamples (s : WholeSegment) : Type 0 where
  start_x : sample s.start_x ≡ true
  start_y : sample s.start_y ≡ true
  end_x : sample s.end_x ≡ true
  end_y : sample s.end_y ≡ true

all_say : (s : WholeSegment) → all_samples s ≡ true → AllSamples s
unfolding all_samples
all_say s h =
    let a = sample s.start_x in
    let b = sample s.start_y in
    let c = sample s.end_x in
    let d = sample s.end_y in
    let h₁ = and_right a (b && (c && d)) h in
    let h₂ = and_right b (c && d) h₁ in
    record { start_x = and_left a (b && (c && d)) h; start_y = and_left b (c && d) h₁; end_x = and_left c d h₂; end_y = and_right c d h₂ }

-- two raised lines
abbrev Meet : Raised → Raised → Type 0
Meet a b = Weighted a.start_x a.start_y a.end_x a.end_y b.start_x b.start_y b.end_x b.end_y

module _ (s t : WholeSegment) (p : all_samples s ≡ true) (r : all_samples t ≡ true) where
  meet_of : WholeShare s t → Meet (raised_of s) (raised_of t)
  meet_of w =
      let i = all_say s p in
      let j = all_say t r in
      let A = w.a_to in
      let B = w.b_to in
      let g : w.q ≡ w.q - w.a + w.a = omega arith in
      let h : w.q ≡ w.q - w.b + w.b = omega arith in
      record {
        v = w.q - w.a;
        w = w.a;
        v' = w.q - w.b;
        w' = w.b;
        above = omega (arith, w.above);
        alike = sym g ∙ h;
        on_x_lem = to_weights w.q w.a w.b (w.q - w.a) (w.q - w.b) g h s.start_x s.end_x t.start_x t.end_x i.start_x i.end_x j.start_x j.end_x w.on_x_lem;
        on_y_lem = to_weights w.q w.a w.b (w.q - w.a) (w.q - w.b) g h s.start_y s.end_y t.start_y t.end_y i.start_y i.end_y j.start_y j.end_y w.on_y_lem;
      }

  share_of : Meet (raised_of s) (raised_of t) → WholeShare s t
  share_of m =
      let i = all_say s p in
      let j = all_say t r in
      record {
        q = m.v + m.w;
        a = m.w;
        b = m.w';
        above = m.above;
        a_to = omega arith;
        b_to = omega (arith, m.alike);
        on_x_lem = from_weights (m.v + m.w) m.w m.w' m.v m.v' refl m.alike s.start_x s.end_x t.start_x t.end_x i.start_x i.end_x j.start_x j.end_x m.on_x_lem;
        on_y_lem = from_weights (m.v + m.w) m.w m.w' m.v m.v' refl m.alike s.start_y s.end_y t.start_y t.end_y i.start_y i.end_y j.start_y j.end_y m.on_y_lem;
      }

-- ---- from tests to sides and boxes

abbrev Sides : Raised → Raised → Type 0
Sides a b = First a.start_x a.start_y a.end_x a.end_y b.start_x b.start_y b.end_x b.end_y

abbrev Boxes : Raised → Raised → Type 0
Boxes a b = Overlap a.start_x a.start_y a.end_x a.end_y b.start_x b.start_y b.end_x b.end_y

-- what the test of sides says, both ways
neither : (l₁ r₁ l₂ r₂ : ℕ) → ((ltb r₁ l₁ && ltb r₂ l₂) || (ltb l₁ r₁ && ltb l₂ r₂)) ≡ false → Straddle l₁ r₁ l₂ r₂
neither l₁ r₁ l₂ r₂ h =
    record {
      not_left = λ a b. true≢false (rw (lt-ltb r₁ l₁ a, lt-ltb r₂ l₂ b) at h);
      not_right = λ a b. true≢false (second (ltb r₁ l₁ && ltb r₂ l₂) (rw (lt-ltb l₁ r₁ a, lt-ltb l₂ r₂ b) at h));
    }
  where
    second : (b : Bool) → (b || true) ≡ false → true ≡ false
    second true h = h
    second false h = h

either : (l₁ r₁ l₂ r₂ : ℕ) → Straddle l₁ r₁ l₂ r₂ → ((ltb r₁ l₁ && ltb r₂ l₂) || (ltb l₁ r₁ && ltb l₂ r₂)) ≡ false
either l₁ r₁ l₂ r₂ s = go (ltb r₁ l₁) (ltb r₂ l₂) (ltb l₁ r₁) (ltb l₂ r₂) refl refl refl refl
  where
    go : (a b c d : Bool) → ltb r₁ l₁ ≡ a → ltb r₂ l₂ ≡ b → ltb l₁ r₁ ≡ c → ltb l₂ r₂ ≡ d → ((a && b) || (c && d)) ≡ false
    go true true c d p q r t = absurd (s.not_left (ltb-true r₁ l₁ p) (ltb-true r₂ l₂ q))
    go true false true true p q r t = absurd (s.not_right (ltb-true l₁ r₁ r) (ltb-true l₂ r₂ t))
    go true false true false p q r t = refl
    go true false false d p q r t = refl
    go false b true true p q r t = absurd (s.not_right (ltb-true l₁ r₁ r) (ltb-true l₂ r₂ t))
    go false b true false p q r t = refl
    go false b false d p q r t = refl

aside_no : (a b : Raised) → aside a b ≡ false → Sides a b
unfolding aside left_sum right_sum
aside_no a b h = neither _ _ _ _ h

no_aside : (a b : Raised) → Sides a b → aside a b ≡ false
unfolding aside left_sum right_sum
no_aside a b s = either _ _ _ _ s

boxes_say : (a b : Raised) → boxes_overlap a b ≡ true → Boxes a b
unfolding boxes_overlap
boxes_say a b h = let g = go _ _ _ _ _ _ _ _ h in record { x₁ = g.0; x₂ = g.1.0; y₁ = g.1.1.0; y₂ = g.1.1.1 }
  where
    go : (p q r s t u v w : ℕ) → (leb p q && (leb r s && (leb t u && leb v w))) ≡ true → (p ≤ q) × ((r ≤ s) × ((t ≤ u) × (v ≤ w)))
    go p q r s t u v w h =
        let h₁ = and_right (leb p q) (leb r s && (leb t u && leb v w)) h in
        let h₂ = and_right (leb r s) (leb t u && leb v w) h₁ in (
          leb-true p q (and_left (leb p q) (leb r s && (leb t u && leb v w)) h),
          (leb-true r s (and_left (leb r s) (leb t u && leb v w) h₁), (leb-true t u (and_left (leb t u) (leb v w) h₂), leb-true v w (and_right (leb t u) (leb v w) h₂))),
        )

say_boxes : (a b : Raised) → Boxes a b → boxes_overlap a b ≡ true
unfolding boxes_overlap
say_boxes a b o = rw (le-leb _ _ o.x₁, le-leb _ _ o.x₂, le-leb _ _ o.y₁, le-leb _ _ o.y₂)

-- ---- the decision

decided_yes : (a b : Raised) → sharing a b ≡ true → Meet a b
unfolding sharing
decided_yes a b h =
    let o = boxes_overlap a b in
    let f = not (aside a b) in
    let g = not (aside b a) in
    let h₁ = and_right o (sampled a && (sampled b && (f && g))) h in
    let h₂ = and_right (sampled a) (sampled b && (f && g)) h₁ in
    let h₃ = and_right (sampled b) (f && g) h₂ in
    yes _ _ _ _ _ _ _ _ (boxes_say a b (and_left o (sampled a && (sampled b && (f && g))) h)) (aside_no a b (not-true (aside a b) (and_left f g h₃))) (aside_no b a (not-true (aside b a) (and_right f g h₃)))

decided_no : (a b : Raised) → sampled a ≡ true → sampled b ≡ true → Meet a b → sharing a b ≡ true
unfolding sharing
decided_no a b p q m = rw (say_boxes a b (overlap_of m), p, q, no_aside a b (straddles m), no_aside b a (straddles (roles m)))

-- lines of samples are decided to share a point exactly where they do
pub record Exact (s t : WholeSegment) : Type 0 where
  pub says_yes : sharing (raised_of s) (raised_of t) ≡ true → WholeShare s t
  pub says_no : sharing (raised_of s) (raised_of t) ≡ false → WholeShare s t → ⊥

-- two that share a point are decided to
pub shared : (s t : WholeSegment) → all_samples s ≡ true → all_samples t ≡ true → WholeShare s t → sharing (raised_of s) (raised_of t) ≡ true
shared s t p r w = decided_no (raised_of s) (raised_of t) (sampled_raised s ∙ p) (sampled_raised t ∙ r) (meet_of s t p r w)

pub exact : (s t : WholeSegment) → all_samples s ≡ true → all_samples t ≡ true → Exact s t
exact s t p r =
    record {
      says_yes = λ h. share_of s t p r (decided_yes (raised_of s) (raised_of t) h);
      says_no = λ h w. true≢false (sym (shared s t p r w) ∙ h);
    }

-- ---- it does not matter which line is the first

and_swap : (a b c d e : Bool) → (a && (b && (c && (d && e)))) ≡ (a && (c && (b && (e && d))))
and_swap true true true true true = refl
and_swap true true true true false = refl
and_swap true true true false true = refl
and_swap true true true false false = refl
and_swap true true false d e = refl
and_swap true false true d e = refl
and_swap true false false d e = refl
and_swap false b c d e = refl

boxes_swap : (p q r s : Bool) → (p && (q && (r && s))) ≡ (q && (p && (s && r)))
boxes_swap true true true true = refl
boxes_swap true true true false = refl
boxes_swap true true false true = refl
boxes_swap true true false false = refl
boxes_swap true false r s = refl
boxes_swap false true r s = refl
boxes_swap false false r s = refl

overlap_swap : (a b : Raised) → boxes_overlap a b ≡ boxes_overlap b a
unfolding boxes_overlap
overlap_swap a b =
    boxes_swap (leb (min b.start_x b.end_x) (max a.start_x a.end_x)) (leb (min a.start_x a.end_x) (max b.start_x b.end_x))
    (leb (min b.start_y b.end_y) (max a.start_y a.end_y)) (leb (min a.start_y a.end_y) (max b.start_y b.end_y))

pub sharing_swap : (a b : Raised) → sharing a b ≡ sharing b a
unfolding sharing
sharing_swap a b = and_swap (boxes_overlap a b) (sampled a) (sampled b) (not (aside a b)) (not (aside b a)) ∙ rw (overlap_swap a b)

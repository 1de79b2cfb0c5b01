-- Laws of a slice that something is put into at a position: nothing, one entry more, one thing after another; and of one that is filled
-- part after part. Assumes nothing.
use mathlib.Core.Path.{◌≡◌, refl, sym, ap, ◌∙◌, subst}
use mathlib.Core.List.{List, [], ◌∷◌, ◌++◌, append_assoc, append-nil}
use Prim.Native.Nat.{ℕ, suc, ◌+◌, ◌-◌, ◌≤◌, ◌<◌}
use native.Mathlib.Omega.{arith}
use lib.ListN.{length, take, drop, set, replicate, length-append, length-drop, take-append-drop}
use lib.Seq.{set_split, length-take-le, take_at, drop_at, drop-drop}
use Rattle.refusals.specs.Refusals.{zero_beyond}
use Rattle.wkb.specs.Inside.{PutIn}

module _ {A : Type 0} where
  pub put_none : (at : ℕ) (s : List A) → at ≤ length s → PutIn at [] s s
  put_none at s h =
      let e : at ≡ at + 0 = omega arith in
      record { is = sym (take-append-drop at s) ∙ ap (λ (k : ℕ). take at s ++ drop k s) e; within = omega arith }

  pub put_one : (at : ℕ) (a : A) (s : List A) → at < length s → PutIn at (a ∷ []) s (set s at a)
  put_one at a s h =
      let e : suc at ≡ at + 1 = omega arith in
      record { is = set_split s at a h ∙ ap (λ (k : ℕ). take at s ++ (a ∷ drop k s)) e; within = omega arith }

  -- what stands before the end of xs, and what stands after it
  front : {at : ℕ} {xs s₀ s₁ : List A} → PutIn at xs s₀ s₁ → take (at + length xs) s₁ ≡ take at s₀ ++ xs
  front {at} {xs} {s₀} {s₁} p =
      let n : length (take at s₀ ++ xs) ≡ at + length xs = length-append (take at s₀) xs ∙ rw (length-take-le at s₀ (omega (arith, p.within))) in
      ap (take (at + length xs)) (p.is ∙ sym (append_assoc (take at s₀) xs (drop (at + length xs) s₀)))
      ∙ take_at (take at s₀ ++ xs) (drop (at + length xs) s₀) (at + length xs) n

  back : {at : ℕ} {xs s₀ s₁ : List A} → PutIn at xs s₀ s₁ → drop (at + length xs) s₁ ≡ drop (at + length xs) s₀
  back {at} {xs} {s₀} {s₁} p =
      let n : length (take at s₀ ++ xs) ≡ at + length xs = length-append (take at s₀) xs ∙ rw (length-take-le at s₀ (omega (arith, p.within))) in
      ap (drop (at + length xs)) (p.is ∙ sym (append_assoc (take at s₀) xs (drop (at + length xs) s₀)))
      ∙ drop_at (take at s₀ ++ xs) (drop (at + length xs) s₀) (at + length xs) n

  pub put_length : {at : ℕ} {xs s₀ s₁ : List A} → PutIn at xs s₀ s₁ → length s₁ ≡ length s₀
  put_length {at} {xs} {s₀} {s₁} p =
      ap length p.is
      ∙ simp (length-append, length-drop, length-take-le at s₀ (omega (arith, p.within))) (omega (arith, p.within))

  -- one thing after another
  pub put_then : {at : ℕ} {xs ys s₀ s₁ s₂ : List A} {to : ℕ} → PutIn at xs s₀ s₁ → PutIn to ys s₁ s₂ → to ≡ at + length xs → PutIn at (xs ++ ys) s₀ s₂
  put_then {at} {xs} {ys} {s₀} {s₁} {s₂} {to} p q e =
      let n = length xs in
      let k = length ys in
      let l : length (xs ++ ys) ≡ n + k = length-append xs ys in
      let m : at + (n + k) ≡ at + n + k = omega arith in
      let rest : drop (at + n + k) s₁ ≡ drop (at + (n + k)) s₀ =
      sym (drop-drop k (at + n) s₁) ∙ ap (drop k) (back p) ∙ drop-drop k (at + n) s₀ ∙ ap (λ (i : ℕ). drop i s₀) (sym m) in
      record {
        is = q.is ∙ rw (e, front p, rest, l) (simp append_assoc);
        within = rw l (omega (arith, q.within, put_length p));
      }

  pub put_more : {at i : ℕ} {xs s₀ s₁ : List A} (a : A) → PutIn at xs s₀ s₁ → i ≡ at + length xs → i < length s₀ → PutIn at (xs ++ (a ∷ [])) s₀ (set s₁ i a)
  put_more {at} {i} {xs} {s₀} {s₁} a p e h = put_then p (put_one i a s₁ (rw (put_length p) h)) e

  -- ---- a slice that is filled, part after part

  -- `goal` is to stand from `start` on; what is put up to `to` leaves `rest`
  pub record Filling (start : ℕ) (goal rest : List A) (to : ℕ) (s₀ s : List A) : Type 0 where
    pub done : List A
    pub put : PutIn start done s₀ s
    pub count : start + length done ≡ to
    pub is : goal ≡ done ++ rest

  pub fill_none : (start : ℕ) (goal s : List A) → start ≤ length s → Filling start goal goal start s s
  fill_none start goal s h = record { done = []; put = put_none start s h; count = omega arith; is = refl }

  module _ {start : ℕ} {goal rest : List A} {to : ℕ} {s₀ s : List A} (f : Filling start goal rest to s₀ s) where
    pub fill_length : length s ≡ length s₀
    fill_length = put_length f.put

    -- where the filling stands is within the slice, and there is room for the next part
    pub fill_within : to ≤ length s
    fill_within = omega (arith, fill_length, f.put.within, f.count)

    pub fill_room : (part more : List A) → rest ≡ part ++ more → start + length goal ≤ length s₀ → to + length part ≤ length s
    fill_room part more e h =
        let n : length goal ≡ length f.done + (length part + length more) =
        ap length (f.is ∙ ap (λ (l : List A). f.done ++ l) e) ∙ simp length-append in
        omega (arith, fill_length, f.count)

    pub fill_more : {part more s' : List A} {n : ℕ} → rest ≡ part ++ more → PutIn to part s s' → n ≡ length part → Filling start goal more (to + n) s₀ s'
    fill_more {part} {more} {s'} {n} e q k = record {
      done = f.done ++ part;
      put = put_then f.put q (omega (arith, f.count));
      count = rw (length-append f.done part) (omega (arith, f.count));
      is = f.is ∙ ap (λ (l : List A). f.done ++ l) e ∙ sym (append_assoc f.done part more);
    }

    all : rest ≡ [] → f.done ≡ goal
    all e = sym (f.is ∙ ap (λ (l : List A). f.done ++ l) e ∙ append-nil f.done)

    pub fill_all : rest ≡ [] → PutIn start goal s₀ s
    fill_all e = subst (λ (l : List A). PutIn start l s₀ s) (all e) f.put

  -- zeros beyond what stands at the start
  pub put_cleared : (z : A) {n : ℕ} {xs s₀ s₁ s₂ : List A} → PutIn 0 xs s₀ s₁ → n ≡ length xs → s₂ ≡ take n s₁ ++ replicate (length s₁ - n) z → s₂ ≡ zero_beyond z (length s₀) xs
  unfolding zero_beyond
  put_cleared z {n} {xs} {s₀} {s₁} p e f =
      let k : n ≡ 0 + length xs = omega arith in
      let start : take n s₁ ≡ xs = ap (λ (i : ℕ). take i s₁) k ∙ front p in
      f ∙ rw (start, put_length p, e)

  pub fill_cleared : (z : A) {goal rest : List A} {to : ℕ} {s₀ s s₁ : List A} → Filling 0 goal rest to s₀ s → rest ≡ [] → s₁ ≡ take to s ++ replicate (length s - to) z → s₁ ≡ zero_beyond z (length s₀) goal
  fill_cleared z {goal} {rest} {to} {s₀} {s} f e g =
      let l : length f.done ≡ length goal = ap length (all f e) in
      put_cleared z {n = to} (fill_all f e) (omega (arith, f.count)) g

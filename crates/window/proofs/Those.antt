-- The numbers that pass a test, in order, and a list written over the start of another. Assumes nothing.
use mathlib.Core.Path.{◌≡◌, refl, sym, ap, ap₂, subst, ◌∙◌}
use mathlib.Core.Bool.{Bool, true, false, ◌&&◌, and-true, and-false}
use mathlib.Core.List.{List, [], ◌∷◌, ◌++◌, append-nil}
use Prim.Native.Nat.{ℕ, zero, suc, ◌+◌, ◌-◌, ◌≤◌, ◌<◌}
use native.Mathlib.Omega.{arith}
use borrow.Author.Tests.{ne_eqb}
use lib.ListN.{length, get_or, take, set, replicate, length-append}
use Rattle.slices.specs.Slices.{cleared_from}
use Rattle.refusals.specs.Refusals.{zero_beyond}
use Rattle.grid.specs.declared.Segment.{Segment}
use Rattle.grid.specs.declared.Box.{Box}
use Rattle.grid.specs.Boxes.{box_of, overlaps}
use Rattle.grid.specs.Domain.{Lines, segment_at}
use Rattle.tables.specs.Lists.{only}
use Rattle.tables.proofs.Laws.{length_only}
use Rattle.window.specs.Window.{those}
use Rattle.window.specs.Inside.{met, list_written, Wrote, WroteOne, count_if, set_if}

-- ---- those that pass

pub those_few : (f : ℕ → Bool) (n : ℕ) → length (those f n) ≤ n
unfolding those
those_few f zero = omega arith
those_few f (suc n) = let a = length-append (those f n) (only (f n) n) in omega (arith, those_few f n, length_only (f n) n)

pub those_same : (f g : ℕ → Bool) (n : ℕ) → ((i : ℕ) → i < n → f i ≡ g i) → those f n ≡ those g n
unfolding those
those_same f g zero h = refl
those_same f g (suc n) h = ap₂ (λ (xs : List ℕ) (b : Bool). xs ++ only b n) (those_same f g n (λ i l. h i (omega arith))) (h n (omega arith))

pub those_none : (f : ℕ → Bool) (n : ℕ) → ((i : ℕ) → f i ≡ false) → those f n ≡ []
unfolding those
those_none f zero h = refl
those_none f (suc n) h = rw (h n) (append-nil (those f n) ∙ those_none f n h)

-- ---- written over the start

pub written_length : (xs was : List ℕ) → length (list_written xs was) ≡ length was
unfolding list_written
written_length [] was = refl
written_length (x ∷ xs) [] = refl
written_length (x ∷ xs) (y ∷ was) = ap suc (written_length xs was)

written_more : (xs was : List ℕ) (v : ℕ) → set (list_written xs was) (length xs) v ≡ list_written (xs ++ (v ∷ [])) was
unfolding list_written
written_more [] [] v = refl
written_more [] (y ∷ was) v = refl
written_more (x ∷ xs) [] v = refl
written_more (x ∷ xs) (y ∷ was) v = ap (λ (zs : List ℕ). x ∷ zs) (written_more xs was v)

written_take : (xs was : List ℕ) → length xs ≤ length was → take (length xs) (list_written xs was) ≡ xs
unfolding list_written
written_take [] was h = refl
written_take (x ∷ xs) [] h = absurd (omega (arith, h))
written_take (x ∷ xs) (y ∷ was) h = ap (λ (zs : List ℕ). x ∷ zs) (written_take xs was (omega (arith, h)))

-- where there was room, what is cleared beyond the lines is the result
pub cleared_beyond : (found was now out : List ℕ) (n : ℕ) → n ≡ length found → now ≡ list_written found was → n ≤ length now → out ≡ cleared_from n now
    → out ≡ zero_beyond 0 (length was) found
unfolding cleared_from zero_beyond
cleared_beyond found was now out n e w l c = c ∙ ap₂ (λ (xs : List ℕ) (m : ℕ). xs ++ replicate {A = ℕ} m 0) start rest
  where
    long : length now ≡ length was
    long = ap (λ (xs : List ℕ). length xs) w ∙ written_length found was

    start : take n now ≡ found
    start = ap₂ (λ (k : ℕ) (xs : List ℕ). take k xs) e w ∙ written_take found was (omega (arith, long, e))

    rest : length now - n ≡ length was - length found
    rest = omega (arith, long, e)

-- ---- the loop over the lines

pub wrote_none : (f : ℕ → Bool) (was : List ℕ) → Wrote (those f 0) was 0 was
unfolding those list_written
wrote_none f was = record { counted = refl; left = refl }

pub wrote_more : (f : ℕ → Bool) (was out out' : List ℕ) (i n r : ℕ) → Wrote (those f i) was n out → WroteOne (f i) i n out r out' → Wrote (those f (i + 1)) was r out'
unfolding those
wrote_more f was out out' i n r h o = rw next (go (f i) refl o.counted o.left)
  where
    next : i + 1 ≡ suc i
    next = omega arith

    go : (b : Bool) → f i ≡ b → r ≡ count_if b n → out' ≡ set_if b out n i → Wrote (those f i ++ only b i) was r out'
    go true e c l =
        record {
          counted = let a = length-append (those f i) (i ∷ []) in omega (arith, a, c, h.counted);
          left = l ∙ ap₂ (λ (xs : List ℕ) (k : ℕ). set xs k i) h.left h.counted ∙ written_more (those f i) was i;
        }
    go false e c l = record { counted = c ∙ h.counted ∙ sym (ap (λ (xs : List ℕ). length xs) (append-nil (those f i))); left = l ∙ h.left ∙ sym (ap (λ (xs : List ℕ). list_written xs was) (append-nil (those f i))) }

pub record Writing (f : ℕ → Bool) (n : ℕ) (was out : List ℕ) (i r : ℕ) : Type 0 where
  pub at : i ≤ n
  pub wrote : Wrote (those f i) was r out

module _ (f : ℕ → Bool) (n : ℕ) (was : List ℕ) where
  pub writing_none : Writing f n was was 0 0
  writing_none = record { at = omega arith; wrote = wrote_none f was }

  -- no more are found than were gone through
  pub writing_few : (out : List ℕ) (i r : ℕ) → Writing f n was out i r → r ≤ i
  writing_few out i r h = omega (arith, h.wrote.counted, those_few f i)

  pub writing_more : (out out' : List ℕ) (i r r' : ℕ) → Writing f n was out i r → i < n → WroteOne (f i) i r out r' out' → Writing f n was out' (i + 1) r'
  writing_more out out' i r r' h l o = record { at = omega arith; wrote = wrote_more f was out out' i r r' h.wrote o }

  pub writing_long : (out : List ℕ) (i r : ℕ) → Writing f n was out i r → length out ≡ length was
  writing_long out i r h = ap (λ (xs : List ℕ). length xs) h.wrote.left ∙ written_length (those f i) was

  pub writing_over : (out : List ℕ) (i r : ℕ) → Writing f n was out i r → n ≤ i → Wrote (those f n) was r out
  writing_over out i r h l = let e : i ≡ n = omega (arith, h.at) in subst (λ (k : ℕ). Wrote (those f k) was r out) e h.wrote

-- ---- one line

pub met_marked : (ls : Lines) (w : Box) (marks : List ℕ) (i : ℕ) (s : Segment) (b : Box) (o : Bool) → get_or marks i 0 ≡ 1 → s ≡ segment_at ls i → b ≡ box_of s → o ≡ overlaps b w
    → o ≡ met ls w marks i
unfolding met
met_marked ls w marks i s b o m e d h = h ∙ rw (d, e, m) (sym (and-true (overlaps (box_of (segment_at ls i)) w)))

pub met_not : (ls : Lines) (w : Box) (marks : List ℕ) (i : ℕ) → (get_or marks i 0 ≡ 1 → ⊥) → false ≡ met ls w marks i
unfolding met
met_not ls w marks i m = sym (ap (λ (b : Bool). overlaps (box_of (segment_at ls i)) w && b) (ne_eqb (get_or marks i 0) 1 m) ∙ and-false (overlaps (box_of (segment_at ls i)) w))

pub one_more : (b b' : Bool) (i n r : ℕ) (was now : List ℕ) → b ≡ b' → b ≡ true → r ≡ n + 1 → now ≡ set was n i → WroteOne b' i n was r now
one_more b b' i n r was now e t c l = subst (λ (x : Bool). WroteOne x i n was r now) (sym t ∙ e) (record { counted = c ∙ omega_suc; left = l })
  where
    omega_suc : n + 1 ≡ suc n
    omega_suc = omega arith

pub none_more : (b b' : Bool) (i n : ℕ) (was : List ℕ) → b ≡ b' → b ≡ false → WroteOne b' i n was n was
none_more b b' i n was e t = subst (λ (x : Bool). WroteOne x i n was n was) (sym t ∙ e) (record { counted = refl; left = refl })

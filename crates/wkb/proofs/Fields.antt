-- What each field of the bytes decides: the refusal where it is cut or wrong; and that a look at a LineString finds nothing exactly where its
-- fields are right. Assumes nothing.
use Rattle.std.specs.Prelude.{Ok, Err}
use mathlib.Core.Path.{◌≡◌, refl, ap, ◌∙◌}
use mathlib.Core.Bool.{Bool, true, false, ◌&&◌}
use mathlib.Core.List.{List}
use Prim.Native.Nat.{ℕ, ◌+◌, ◌*◌, ◌≤◌, ◌<◌}
use native.Mathlib.Omega.{arith}
use lib.ListN.{length, get_or}
use lib.Dec.{leb, eqb}
use borrow.Author.Tests.{le-leb, lt-leb, eq-eqb, ne_eqb, leb-true, eqb-true}
use Rattle.refusals.specs.Refusals.{refusal, unless, and_then}
use Rattle.refusals.proofs.Checks.{unless_fine, and_then_refused, and_then_fine, and_then_left, and_then_right}
use Rattle.grid.proofs.Bools.{and_says}
use Rattle.wkb.specs.declared.Order.{Order}
use Rattle.wkb.specs.Bytes.{number_at}
use Rattle.wkb.specs.Reading.{field_check, order_at, type_at, count_at, end_at, head_check, line_check, end_check}

-- ---- one field

module _ (bs : List ℕ) (start end : ℕ) (right : Bool) where
  pub field_cut : length bs < end → field_check bs start end right ≡ Err (refusal 11 (length bs))
  unfolding field_check unless and_then
  field_cut h = rw (lt-leb end (length bs) h)

  pub field_wrong : end ≤ length bs → right ≡ false → field_check bs start end right ≡ Err (refusal 11 start)
  unfolding field_check unless and_then
  field_wrong h e = rw (le-leb end (length bs) h, e)

  pub field_right : end ≤ length bs → right ≡ true → field_check bs start end right ≡ Ok tt
  unfolding field_check unless and_then
  field_right h e = rw (le-leb end (length bs) h, e)

  pub field_passed : field_check bs start end right ≡ (Ok tt) → (end ≤ length bs) × (right ≡ true)
  unfolding field_check
  field_passed h = (
    leb-true end (length bs) (unless_fine _ _ _ (and_then_left _ _ h)),
    unless_fine _ _ _ (and_then_right (unless (leb end (length bs)) 11 (length bs)) _ h),
  )

-- what follows the last field

pub end_right : (at : ℕ) (bs : List ℕ) → length bs ≤ at → end_check at bs ≡ Ok tt
unfolding end_check unless
end_right at bs h = rw (le-leb (length bs) at h)

pub end_more : (at : ℕ) (bs : List ℕ) → at < length bs → end_check at bs ≡ Err (refusal 11 at)
unfolding end_check unless
end_more at bs h = rw (lt-leb (length bs) at h)

pub end_passed : (at : ℕ) (bs : List ℕ) → end_check at bs ≡ (Ok tt) → length bs ≤ at
unfolding end_check
end_passed at bs h = leb-true (length bs) at (unless_fine _ _ _ h)

-- ---- what was read at a position

pub typed_at : (o : Order) (at : ℕ) (bs : List ℕ) {r : ℕ} → o ≡ order_at at bs → r ≡ number_at o 4 (at + 1) bs → r ≡ type_at at bs
unfolding type_at
typed_at o at bs e f = f ∙ ap (λ (p : Order). number_at p 4 (at + 1) bs) e

pub counted_at : (o : Order) (at : ℕ) (bs : List ℕ) {r : ℕ} → o ≡ order_at at bs → r ≡ number_at o 4 (at + 5) bs → r ≡ count_at at bs
unfolding count_at
counted_at o at bs e f = f ∙ ap (λ (p : Order). number_at p 4 (at + 5) bs) e

-- ---- the order and the type

module _ (type at : ℕ) (bs : List ℕ) where
  pub order_cut : length bs < at + 1 → head_check type at bs ≡ Err (refusal 11 (length bs))
  unfolding head_check
  order_cut h = and_then_refused _ _ _ (field_cut bs at (at + 1) _ h)

  pub order_wrong : at + 1 ≤ length bs → 1 < get_or bs at 0 → head_check type at bs ≡ Err (refusal 11 at)
  unfolding head_check
  order_wrong h k = and_then_refused _ _ _ (field_wrong bs at (at + 1) _ h (lt-leb (get_or bs at 0) 1 k))

  module _ (long : at + 1 ≤ length bs) (names : get_or bs at 0 ≤ 1) where
    to_type : head_check type at bs ≡ field_check bs (at + 1) (at + 5) (eqb (type_at at bs) type)
    unfolding head_check
    to_type = and_then_fine _ _ (field_right bs at (at + 1) _ long (le-leb (get_or bs at 0) 1 names))

    pub type_cut : length bs < at + 5 → head_check type at bs ≡ Err (refusal 11 (length bs))
    type_cut h = to_type ∙ field_cut bs (at + 1) (at + 5) _ h

    pub type_wrong : at + 5 ≤ length bs → (type_at at bs ≡ type → ⊥) → head_check type at bs ≡ Err (refusal 11 (at + 1))
    type_wrong h w = to_type ∙ field_wrong bs (at + 1) (at + 5) _ h (ne_eqb (type_at at bs) type w)

    pub type_right : at + 5 ≤ length bs → type_at at bs ≡ type → head_check type at bs ≡ Ok tt
    type_right h e = to_type ∙ field_right bs (at + 1) (at + 5) _ h (eq-eqb (type_at at bs) type e)

-- a head that is right: it is there, it names an order, and it has the type
pub record HeadFits (type at : ℕ) (bs : List ℕ) : Type 0 where
  pub names : get_or bs at 0 ≤ 1
  pub is : type_at at bs ≡ type
  pub long : at + 5 ≤ length bs

pub head_right : {type at : ℕ} {bs : List ℕ} → HeadFits type at bs → head_check type at bs ≡ Ok tt
head_right {type} {at} {bs} h = type_right type at bs (omega arith) h.names h.long h.is

pub head_passed : (type at : ℕ) (bs : List ℕ) → head_check type at bs ≡ (Ok tt) → HeadFits type at bs
unfolding head_check
head_passed type at bs h =
    let a = field_passed bs at (at + 1) (leb (get_or bs at 0) 1) (and_then_left _ _ h) in
    let b = field_passed bs (at + 1) (at + 5) (eqb (type_at at bs) type) (and_then_right (field_check bs at (at + 1) (leb (get_or bs at 0) 1)) _ h) in
    record { names = leb-true (get_or bs at 0) 1 a.1; is = eqb-true (type_at at bs) type b.1; long = b.0 }

-- ---- a LineString

range_true : (n : ℕ) → 1 ≤ n → n ≤ 1024 → (leb 1 n && leb n 1024) ≡ true
range_true n h k = rw (le-leb 1 n h, le-leb n 1024 k)

few_false : (n : ℕ) → n < 1 → (leb 1 n && leb n 1024) ≡ false
few_false n h = rw (lt-leb 1 n h)

many_false : (n : ℕ) → 1024 < n → (leb 1 n && leb n 1024) ≡ false
many_false n h = rw (le-leb 1 n (omega arith), lt-leb n 1024 h)

module _ (at : ℕ) (bs : List ℕ) where
  pub head_refused : (f : ℕ) → head_check 2 at bs ≡ Err (refusal 11 f) → line_check at bs ≡ Err (refusal 11 f)
  unfolding line_check
  head_refused f h = and_then_refused _ _ _ h

  module _ (head : head_check 2 at bs ≡ (Ok tt)) where
    pub count_cut : length bs < at + 9 → line_check at bs ≡ Err (refusal 11 (length bs))
    unfolding line_check
    count_cut h = and_then_fine _ _ head ∙ and_then_refused _ _ _ (field_cut bs (at + 5) (at + 9) _ h)

    pub count_none : at + 9 ≤ length bs → count_at at bs < 1 → line_check at bs ≡ Err (refusal 11 (at + 5))
    unfolding line_check
    count_none h k = and_then_fine _ _ head ∙ and_then_refused _ _ _ (field_wrong bs (at + 5) (at + 9) _ h (few_false (count_at at bs) k))

    pub count_many : at + 9 ≤ length bs → 1024 < count_at at bs → line_check at bs ≡ Err (refusal 11 (at + 5))
    unfolding line_check
    count_many h k = and_then_fine _ _ head ∙ and_then_refused _ _ _ (field_wrong bs (at + 5) (at + 9) _ h (many_false (count_at at bs) k))

    module _ (some : 1 ≤ count_at at bs) (most : count_at at bs ≤ 1024) where
      to_points : at + 9 ≤ length bs → line_check at bs ≡ field_check bs (at + 9) (end_at at bs) true
      unfolding line_check
      to_points h =
          and_then_fine _ _ head ∙ and_then_fine _ _ (field_right bs (at + 5) (at + 9) _ h (range_true (count_at at bs) some most))

      pub points_cut : at + 9 ≤ length bs → length bs < at + 9 + 16 * count_at at bs → line_check at bs ≡ Err (refusal 11 (length bs))
      unfolding end_at
      points_cut h k = to_points h ∙ field_cut bs (at + 9) (at + 9 + 16 * count_at at bs) true k

      pub points_right : at + 9 + 16 * count_at at bs ≤ length bs → line_check at bs ≡ Ok tt
      unfolding end_at
      points_right h = to_points (omega arith) ∙ field_right bs (at + 9) (at + 9 + 16 * count_at at bs) true h refl

-- a LineString whose fields are right
pub record LineFits (at : ℕ) (bs : List ℕ) : Type 0 where
  pub head : HeadFits 2 at bs
  pub some : 1 ≤ count_at at bs
  pub most : count_at at bs ≤ 1024
  pub long : at + 9 + 16 * count_at at bs ≤ length bs

pub line_right : {at : ℕ} {bs : List ℕ} → LineFits at bs → line_check at bs ≡ Ok tt
line_right {at} {bs} l = points_right at bs (head_right l.head) l.some l.most l.long

pub line_passed : (at : ℕ) (bs : List ℕ) → line_check at bs ≡ (Ok tt) → LineFits at bs
unfolding line_check end_at
line_passed at bs h =
    let n = count_at at bs in
    let rest = and_then_right (head_check 2 at bs) _ h in
    let count = field_check bs (at + 5) (at + 9) (leb 1 n && leb n 1024) in
    let range = and_says (leb 1 n) (leb n 1024) (field_passed bs (at + 5) (at + 9) _ (and_then_left _ _ rest)).1 in
    record {
      head = head_passed 2 at bs (and_then_left _ _ h);
      some = leb-true 1 n range.0;
      most = leb-true n 1024 range.1;
      long = (field_passed bs (at + 9) (at + 9 + 16 * n) true (and_then_right count _ rest)).0;
    }

-- The first 16,394 bytes of an input decide what is found in it. A LineString has at most 16,393 bytes; a longer input is refused at one of the
-- three fields of its first 9 bytes, or at what follows the last of at most 1,024 points, which is within the first 16,394. Assumes nothing.
use Rattle.refusals.specs.Refusals.{Check}
use mathlib.Core.Path.{◌≡◌, refl, sym, ap, ◌∙◌}
use mathlib.Core.Bool.{Bool, true, false, ◌&&◌}
use mathlib.Core.List.{List, [], ◌∷◌}
use Prim.Native.Nat.{ℕ, zero, suc, ◌+◌, ◌*◌, ◌≤◌}
use native.Mathlib.Omega.{arith}
use native.Mathlib.Decide.{dec_le}
use borrow.Author.Tests.{le-leb, leb-true}
use lib.Dec.{leb, eqb}
use lib.ListN.{length, get_or, take, drop}
use lib.Seq.{take_all, take-take, get_or-take, length-take-le}
use Rattle.refusals.specs.Refusals.{refusal, unless, and_then, Answer, refused, gives, ◌then◌}
use Rattle.refusals.proofs.Answers.{then_and_then, then_fine, then_refused}
use Rattle.grid.proofs.Bools.{and_right}
use Rattle.wkb.specs.declared.Order.{Order}
use Rattle.wkb.specs.Bytes.{Point, number_at, number}
use Rattle.wkb.specs.Reading.{field_check, order_of, order_at, type_at, count_at, line_at, end_at, head_check, line_check, end_check, found}
use Rattle.wkb.proofs.Fields.{field_right, end_more}

-- ---- the fields of an input that is longer than every LineString

-- a field that it holds whole
field_long : (bs : List ℕ) (start end : ℕ) (right : Bool) → end ≤ length bs → field_check bs start end right ≡ unless right 11 start
unfolding field_check unless and_then
field_long bs start end right h = rw (le-leb end (length bs) h)

unless_same : (b : Bool) (k v : ℕ) (x y : Answer (List Point)) → (b ≡ true → x ≡ y) → (unless b k v then x) ≡ (unless b k v then y)
unfolding unless ◌then◌
unless_same true k v x y e = e refl
unless_same false k v x y e = refl

-- it is refused by its first byte, its type or its number of points, or where they end
refused_long : ℕ → ℕ → ℕ → Answer (List Point)
refused_long b t n =
    and_then (unless (leb b 1) 11 0) (unless (eqb t 2) 11 1) then unless (leb 1 n && leb n 1024) 11 5 then refused (refusal 11 (9 + 16 * n))

module _ (bs : List ℕ) (long : 16394 ≤ length bs) where
  head_long : head_check 2 0 bs ≡ and_then (unless (leb (get_or bs 0 0) 1) 11 0) (unless (eqb (type_at 0 bs) 2) 11 1)
  unfolding head_check
  head_long = rw (field_long bs 0 1 (leb (get_or bs 0 0) 1) (omega arith), field_long bs 1 5 (eqb (type_at 0 bs) 2) (omega arith))

  -- points that end before the input does
  points_long : (n : ℕ) → n ≤ 1024 → (field_check bs 9 (9 + 16 * n) true then end_check (9 + 16 * n) bs then gives (line_at 0 bs)) ≡ refused (refusal 11 (9 + 16 * n))
  points_long n h =
      then_fine _ _ (field_right bs 9 (9 + 16 * n) true (omega arith) refl) ∙ then_refused _ _ _ (end_more (9 + 16 * n) bs (omega arith))

  found_long : found bs ≡ refused_long (get_or bs 0 0) (type_at 0 bs) (count_at 0 bs)
  unfolding found line_check end_at refused_long
  found_long =
      let n = count_at 0 bs in
      let right = leb 1 n && leb n 1024 in
      let C = field_check bs 5 9 right in
      let P = field_check bs 9 (9 + 16 * n) true in
      let rest = end_check (9 + 16 * n) bs then gives (line_at 0 bs) in
      let counted : (and_then C P then rest) ≡ (unless right 11 5 then refused (refusal 11 (9 + 16 * n))) =
      then_and_then C P rest ∙ ap (λ (c : Check). c then P then rest) (field_long bs 5 9 right (omega arith))
      ∙ unless_same right 11 5 (P then rest) (refused (refusal 11 (9 + 16 * n))) (λ e. points_long n (leb-true n 1024 (and_right (leb 1 n) (leb n 1024) e))) in
      then_and_then (head_check 2 0 bs) (and_then C P) rest
      ∙ ap (λ (a : Answer (List Point)). head_check 2 0 bs then a) counted
      ∙ rw head_long

-- ---- the first of its bytes are as long, and have the same fields

-- a part of the first n is a part of the whole
part_front : (k at n : ℕ) (bs : List ℕ) → at + k ≤ n → take k (drop at (take n bs)) ≡ take k (drop at bs)
part_front k zero n bs h = take-take k n bs (omega arith)
part_front k (suc at) zero bs h = absurd (omega arith)
part_front k (suc at) (suc n) [] h = refl
part_front k (suc at) (suc n) (b ∷ bs) h = part_front k at n bs (omega arith)

number_front : (o : Order) (k at n : ℕ) (bs : List ℕ) → at + k ≤ n → number_at o k at (take n bs) ≡ number_at o k at bs
unfolding number_at
number_front o k at n bs h = ap (number o) (part_front k at n bs h)

module _ (bs : List ℕ) where
  byte_front : get_or (take 16394 bs) 0 0 ≡ get_or bs 0 0
  byte_front = get_or-take 16394 bs 0 0 (omega arith)

  type_front : type_at 0 (take 16394 bs) ≡ type_at 0 bs
  unfolding type_at order_at
  type_front = rw byte_front (number_front (order_of (get_or bs 0 0)) 4 1 16394 bs (omega arith))

  count_front : count_at 0 (take 16394 bs) ≡ count_at 0 bs
  unfolding count_at order_at
  count_front = rw byte_front (number_front (order_of (get_or bs 0 0)) 4 5 16394 bs (omega arith))

pub first_bytes : (bs : List ℕ) → found (take 16394 bs) ≡ found bs
first_bytes bs = elim (dec_le (length bs) 16394) [ yes h ↦ ap found (take_all 16394 bs h) | no h ↦ go (omega arith) ]
  where
    go : 16394 ≤ length bs → found (take 16394 bs) ≡ found bs
    go h =
        let l = length-take-le 16394 bs h in
        found_long (take 16394 bs) (omega arith) ∙ rw (byte_front bs, type_front bs, count_front bs) (sym (found_long bs h))

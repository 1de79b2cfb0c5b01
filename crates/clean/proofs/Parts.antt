-- Laws of parts of points, and of a slice that is filled along them. Assumes nothing.
use mathlib.Core.Path.{◌≡◌, refl, sym, ap, ◌∙◌, subst}
use mathlib.Core.Bool.{Bool, true, false, ◌&&◌, cond}
use mathlib.Core.List.{List, [], ◌∷◌, ◌++◌, append_assoc}
use Prim.Native.Nat.{ℕ, zero, suc, ◌+◌, ◌-◌, ◌≤◌, ◌<◌}
use native.Mathlib.Numerals.{add-one}
use native.Mathlib.Omega.{arith}
use lib.Dec.{leb}
use lib.Ieee.{Float, binary64, of_bits, eq}
use lib.ListN.{length, take, drop, get_or, set, replicate, length-append, take-append-drop, drop_of_length-le}
use lib.Seq.{slice, slice_empty, slice-cons, length-slice, take-suc, take-take, take-nil, drop-drop, drop-cons, set_at, length-take-le}
use Rattle.wkb.specs.Bytes.{Point}
use Rattle.wkb.specs.Inside.{PutIn}
use Rattle.wkb.proofs.Stores.{put_none, put_one, Filling, fill_none, fill_length, fill_more, fill_all, fill_cleared}
use Rattle.members.specs.Held.{points_of}
use Rattle.members.proofs.Held.{length_points_of, point_at, origin}
use Rattle.clean.specs.Cleaning.{good, same_point, thin_after, thin, is_piece, kept_of, kept, repeat, short, reasons_after, reasons_by, piece_reasons, kept_values}
use Rattle.clean.specs.Inside.{point_in, part, AllGood, none, more, Part, PieceEnds, ReasonsMarked, CleanRoom, Did, value_if, PutKept}
use Rattle.clean.proofs.Rules.{thin_most, kept_long, kept_short, reasons_long, reasons_short, all_repeats}

-- ---- parts of a list

drop_take : {A : Type 0} (f i : ℕ) (l : List A) → f ≤ i → drop f (take i l) ≡ take (i - f) (drop f l)
drop_take zero i l h = let e : i ≡ i - 0 = omega arith in ap (λ (k : ℕ). take k l) e
drop_take (suc f) zero l h = absurd (omega arith)
drop_take (suc f) (suc i) [] h = sym (take-nil (suc i - suc f))
drop_take {A} (suc f) (suc i) (x ∷ l) h =
    let e : i - f ≡ suc i - suc f = omega arith in
    drop_take f i l (omega arith) ∙ ap (λ (k : ℕ). take k (drop f l)) e

slice_append : {A : Type 0} (f i t : ℕ) (l : List A) → f ≤ i → i ≤ t → slice f t l ≡ slice f i l ++ slice i t l
slice_append {A} f i t l h k =
    let m = take t l in
    let e : f + (i - f) ≡ i = omega arith in
    let front : slice f i l ≡ take (i - f) (drop f m) = ap (drop f) (sym (take-take i t l k)) ∙ drop_take f i m h in
    let back : drop (i - f) (drop f m) ≡ drop i m = drop-drop (i - f) f m ∙ ap (λ (j : ℕ). drop j m) e in
    sym (take-append-drop (i - f) (drop f m)) ∙ ap (λ (r : List A). take (i - f) (drop f m) ++ r) back ∙ ap (λ (r : List A). r ++ drop i m) (sym front)

-- ---- parts of points

module _ (xs ys : List ℕ) (alike : length ys ≡ length xs) where
  points_length : length (points_of xs ys) ≡ length xs
  points_length = length_points_of xs ys alike

  pub part_none : (i : ℕ) → part xs ys i i ≡ []
  part_none i = slice_empty i (points_of xs ys)

  pub part_next : (i to : ℕ) → i < to → to ≤ length xs → part xs ys i to ≡ point_in xs ys i ∷ part xs ys (i + 1) to
  part_next i to h k =
      rw (add-one i)
      (slice-cons i to (points_of xs ys) origin h (omega (arith, points_length))
      ∙ ap (λ (p : Point). p ∷ part xs ys (suc i) to) (point_at xs ys i alike (omega arith)))

  pub part_length : (from to : ℕ) → to ≤ length xs → length (part xs ys from to) ≡ to - from
  part_length from to k = length-slice from to (points_of xs ys) (omega (arith, points_length))

  pub part_more : (from i : ℕ) → from ≤ i → i < length xs → part xs ys from (i + 1) ≡ part xs ys from i ++ (point_in xs ys i ∷ [])
  part_more from i h k =
      slice_append from i (i + 1) (points_of xs ys) h (omega arith)
      ∙ ap (λ (l : List Point). part xs ys from i ++ l) (part_next i (i + 1) (omega arith) (omega arith) ∙ ap (λ (l : List Point). point_in xs ys i ∷ l) (part_none (i + 1)))

  pub part_broken : (from i to : ℕ) → from ≤ i → i < to → to ≤ length xs → part xs ys from to ≡ part xs ys from i ++ (point_in xs ys i ∷ part xs ys (i + 1) to)
  part_broken from i to h k l =
      slice_append from i to (points_of xs ys) h (omega arith)
      ∙ ap (λ (l : List Point). part xs ys from i ++ l) (part_next i to k l)

  pub part_member : (from n : ℕ) → take n (drop from (points_of xs ys)) ≡ part xs ys from (from + n)
  part_member from n =
      let e : n ≡ from + n - from = omega arith in
      ap (λ (k : ℕ). take k (drop from (points_of xs ys))) e ∙ sym (drop_take from (from + n) (points_of xs ys) (omega arith))

-- ---- a test of two points

pub same_by : (p q : Point) {a b c d : Float} → a ≡ of_bits binary64 p.x → b ≡ of_bits binary64 q.x → c ≡ of_bits binary64 p.y → d ≡ of_bits binary64 q.y → (eq a b && eq c d) ≡ same_point p q
unfolding same_point
same_by p q ea eb ec ed = rw (ea, eb, ec, ed)

-- ---- the end of a piece

good_snoc : {ps : List Point} (p : Point) → AllGood ps → good p ≡ true → AllGood (ps ++ (p ∷ []))
good_snoc p none h = more h none
good_snoc p (more e g) h = more e (good_snoc p g h)

pub record Ending (xs ys : List ℕ) (from end i : ℕ) : Type 0 where
  pub lies : Part xs ys from end
  pub up : from ≤ i
  pub within : i ≤ end
  pub right : AllGood (part xs ys from i)

pub ending_none : {xs ys : List ℕ} {from end : ℕ} → Part xs ys from end → Ending xs ys from end from
ending_none {xs} {ys} {from} p = record { lies = p; up = omega arith; within = p.up; right = subst AllGood (sym (part_none xs ys p.alike from)) none }

pub ending_more : {xs ys : List ℕ} {from end i : ℕ} → Ending xs ys from end i → i < end → good (point_in xs ys i) ≡ true → Ending xs ys from end (i + 1)
ending_more {xs} {ys} {from} {end} {i} e h g = record {
  lies = e.lies;
  up = omega (arith, e.up);
  within = omega arith;
  right = subst AllGood (sym (part_more xs ys e.lies.alike from i e.up (omega (arith, e.lies.within)))) (good_snoc (point_in xs ys i) e.right g);
}

pub ending_bad : {xs ys : List ℕ} {from end i : ℕ} → Ending xs ys from end i → good (point_in xs ys i) ≡ false → PieceEnds xs ys from end i
ending_bad e g = record { up = e.up; within = e.within; right = e.right; bad = λ h. g }

pub ending_all : {xs ys : List ℕ} {from end i : ℕ} → Ending xs ys from end i → end ≤ i → PieceEnds xs ys from end end
ending_all {xs} {ys} {from} {end} {i} e h =
    let z : i ≡ end = omega (arith, e.within) in
    record { up = e.lies.up; within = omega arith; right = subst (λ (k : ℕ). AllGood (part xs ys from k)) z e.right; bad = λ k. absurd (omega arith) }

-- ---- the repeats of a piece

pub record Marking (xs ys : List ℕ) (from to : ℕ) (s₀ s : List ℕ) (last count i : ℕ) : Type 0 where
  pub lies : Part xs ys from to
  pub room : to ≤ length s₀
  pub before : last < to
  pub up : i ≤ to
  pub few : count ≤ i
  pub filled : Filling (from + 1) (reasons_after kept (point_in xs ys from) (part xs ys (from + 1) to)) (reasons_after kept (point_in xs ys last) (part xs ys i to)) i s₀ s
  pub counted : length (thin (part xs ys from to)) ≡ count + length (thin_after (point_in xs ys last) (part xs ys i to))

pub marking_first : (xs ys : List ℕ) (from to : ℕ) (s : List ℕ) → Part xs ys from to → from < to → to ≤ length s → Marking xs ys from to s s from 1 (from + 1)
unfolding thin
marking_first xs ys from to s p h k =
    let e = part_next xs ys p.alike from to h p.within in
    let n = ap length (ap thin e) in
    record {
      lies = p;
      room = k;
      before = h;
      up = omega arith;
      few = omega arith;
      filled = fill_none (from + 1) (reasons_after kept (point_in xs ys from) (part xs ys (from + 1) to)) s (omega arith);
      counted = n ∙ omega arith;
    }

-- the next point, by whether it is a repeat
module _ {xs ys : List ℕ} {from to : ℕ} {s₀ s : List ℕ} {last count i : ℕ} (m : Marking xs ys from to s₀ s last count i) (h : i < to) where
  inside : i < length s
  inside = omega (arith, m.room, fill_length m.filled)

  reasons_next : reasons_after kept (point_in xs ys last) (part xs ys i to) ≡ reasons_after kept (point_in xs ys last) (point_in xs ys i ∷ part xs ys (i + 1) to)
  reasons_next = ap (reasons_after kept (point_in xs ys last)) (part_next xs ys m.lies.alike i to h m.lies.within)

  thin_next : thin_after (point_in xs ys last) (part xs ys i to) ≡ thin_after (point_in xs ys last) (point_in xs ys i ∷ part xs ys (i + 1) to)
  thin_next = ap (thin_after (point_in xs ys last)) (part_next xs ys m.lies.alike i to h m.lies.within)

  marking_repeat : true ≡ same_point (point_in xs ys last) (point_in xs ys i) → Marking xs ys from to s₀ (set s i repeat) last (count + 0) (i + 1)
  unfolding reasons_after thin_after
  marking_repeat e =
      let r : reasons_after kept (point_in xs ys last) (part xs ys i to) ≡ (repeat ∷ []) ++ reasons_after kept (point_in xs ys last) (part xs ys (i + 1) to) = reasons_next ∙ rw (← e) in
      let t : thin_after (point_in xs ys last) (part xs ys i to) ≡ thin_after (point_in xs ys last) (part xs ys (i + 1) to) = thin_next ∙ rw (← e) in
      record {
        lies = m.lies;
        room = m.room;
        before = m.before;
        up = omega arith;
        few = omega (arith, m.few);
        filled = fill_more m.filled r (put_one i repeat s inside) refl;
        counted = let u = ap length t in omega (arith, m.counted);
      }

  marking_other : false ≡ same_point (point_in xs ys last) (point_in xs ys i) → Marking xs ys from to s₀ (set s i kept) i (count + 1) (i + 1)
  unfolding reasons_after thin_after
  marking_other e =
      let r : reasons_after kept (point_in xs ys last) (part xs ys i to) ≡ (kept ∷ []) ++ reasons_after kept (point_in xs ys i) (part xs ys (i + 1) to) = reasons_next ∙ rw (← e) in
      let t : thin_after (point_in xs ys last) (part xs ys i to) ≡ point_in xs ys i ∷ thin_after (point_in xs ys i) (part xs ys (i + 1) to) = thin_next ∙ rw (← e) in
      record {
        lies = m.lies;
        room = m.room;
        before = h;
        up = omega arith;
        few = omega (arith, m.few);
        filled = fill_more m.filled r (put_one i kept s inside) refl;
        counted = let u = ap length t in omega (arith, m.counted);
      }

  pub marking_more : (again : Bool) {v last' one : ℕ} → again ≡ same_point (point_in xs ys last) (point_in xs ys i) → v ≡ cond again repeat kept → last' ≡ cond again last i → one ≡ cond again 0 1
      → Marking xs ys from to s₀ (set s i v) last' (count + one) (i + 1)
  marking_more true e ev el eo = rw (ev, el, eo) (marking_repeat e)
  marking_more false e ev el eo = rw (ev, el, eo) (marking_other e)

pub one_most : (again : Bool) {n : ℕ} → n ≡ cond again 0 1 → n ≤ 1
one_most true e = omega arith
one_most false e = omega arith

pub marking_all : {xs ys : List ℕ} {from to : ℕ} {s₀ s : List ℕ} {last count i : ℕ} → Marking xs ys from to s₀ s last count i → to ≤ i → ReasonsMarked xs ys from to s₀ count s
unfolding reasons_after thin_after
marking_all {xs} {ys} {from} {to} {s₀} {s} {last} {count} {i} m h =
    let e : i ≡ to = omega (arith, m.up) in
    let n : part xs ys i to ≡ [] = rw e (part_none xs ys m.lies.alike to) in
    record {
      marks = fill_all m.filled (ap (reasons_after kept (point_in xs ys last)) n);
      count = let z : length (thin_after (point_in xs ys last) (part xs ys i to)) ≡ 0 = ap length (ap (thin_after (point_in xs ys last)) n) in omega (arith, m.counted);
    }

-- ---- a piece

-- one more in front of what was put
put_before : {at : ℕ} {xs s₀ s₁ : List ℕ} (y : ℕ) → PutIn (at + 1) xs s₀ s₁ → PutIn at (y ∷ xs) s₀ (set s₁ at y)
put_before {at} {xs} {s₀} {s₁} y p =
    let n : length (take at s₀) ≡ at = length-take-le at s₀ (omega (arith, p.within)) in
    let e : at + 1 + length xs ≡ at + suc (length xs) = omega arith in
    let f : take (at + 1) s₀ ≡ take at s₀ ++ (get_or s₀ at 0 ∷ []) = rw (add-one at) (take-suc s₀ at 0 (omega (arith, p.within))) in
    let g : s₁ ≡ take at s₀ ++ (get_or s₀ at 0 ∷ (xs ++ drop (at + suc (length xs)) s₀)) = p.is ∙ rw (f, e) (append_assoc (take at s₀) (get_or s₀ at 0 ∷ []) (xs ++ drop (at + suc (length xs)) s₀)) in
    record { is = ap (λ (l : List ℕ). set l at y) g ∙ set_at (take at s₀) (get_or s₀ at 0) (xs ++ drop (at + suc (length xs)) s₀) y at n; within = omega (arith, p.within) }

module _ (xs ys : List ℕ) (from to : ℕ) (lies : Part xs ys from to) (some : from < to) where
  piece : part xs ys from to ≡ point_in xs ys from ∷ part xs ys (from + 1) to
  piece = part_next xs ys lies.alike from to some lies.within

  -- of a piece of which fewer than two are left, the first is left alone
  pub short_first : {s₀ s₁ : List ℕ} {n : ℕ} → ReasonsMarked xs ys from to s₀ n s₁ → n < 2 → PutIn from (piece_reasons (part xs ys from to)) s₀ (set s₁ from 3)
  unfolding reasons_by thin
  short_first {s₀} {s₁} {n} m h =
      let a = point_in xs ys from in
      let ps = part xs ys (from + 1) to in
      let k : length (thin (a ∷ ps)) < 2 = let u = ap length (ap thin piece) in omega (arith, m.count) in
      let e : reasons_after kept a ps ≡ reasons_after short a ps = all_repeats kept short a ps (omega arith) in
      rw (piece, reasons_short (a ∷ ps) k, ← e) (put_before 3 m.marks)

  pub long_first : {s₀ s₁ : List ℕ} {n : ℕ} → ReasonsMarked xs ys from to s₀ n s₁ → 2 ≤ n → PutIn from (piece_reasons (part xs ys from to)) s₀ (set s₁ from 0)
  unfolding reasons_by
  long_first {s₀} {s₁} {n} m h =
      let a = point_in xs ys from in
      let ps = part xs ys (from + 1) to in
      let k : 2 ≤ length (thin (a ∷ ps)) = let u = ap length (ap thin piece) in omega (arith, m.count) in
      rw (piece, reasons_long (a ∷ ps) k) (put_before 0 m.marks)

  pub marked_most : {s₀ s₁ : List ℕ} {n : ℕ} → ReasonsMarked xs ys from to s₀ n s₁ → n ≤ to - from
  marked_most m = omega (arith, m.count, thin_most (part xs ys from to), part_length xs ys lies.alike from to lies.within)

  module _ {rs₀ ls₀ rs₁ : List ℕ} {at n : ℕ} (room : CleanRoom xs rs₀ ls₀ from at) (m : ReasonsMarked xs ys from to rs₀ n rs₁) where
    pub did_short : n < 2 → Did from (piece_reasons (part xs ys from to)) (kept_of (part xs ys from to)) rs₀ ls₀ at at (set rs₁ from 3) ls₀
    did_short h =
        let k : length (thin (part xs ys from to)) < 2 = omega (arith, m.count) in
        let e = kept_short (part xs ys from to) k in
        record {
          in_reasons = short_first m h;
          in_lengths = rw e (put_none at ls₀ (omega (arith, room.halves, room.twice, lies.within)));
          count = rw e (omega arith);
        }

    module _ (h : 2 ≤ n) where
      -- there is room for one length more
      pub one_more : at < length ls₀
      one_more = omega (arith, room.halves, room.twice, lies.within, marked_most m)

      pub did_long : Did from (piece_reasons (part xs ys from to)) (kept_of (part xs ys from to)) rs₀ ls₀ at (at + 1) (set rs₁ from 0) (set ls₀ at n)
      did_long =
          let k : 2 ≤ length (thin (part xs ys from to)) = omega (arith, m.count) in
          let e = kept_long (part xs ys from to) k in
          record {
            in_reasons = long_first m h;
            in_lengths = rw (e, ← m.count) (put_one at n ls₀ one_more);
            count = rw e (omega arith);
          }

-- a piece of no points
pub did_none : (xs ys : List ℕ) (from to : ℕ) → Part xs ys from to → from ≡ to → {rs ls : List ℕ} {at : ℕ} → CleanRoom xs rs ls from at
    → Did from (piece_reasons (part xs ys from to)) (kept_of (part xs ys from to)) rs ls at at rs ls
unfolding piece_reasons reasons_by kept_of thin is_piece
did_none xs ys from to lies e {rs} {ls} {at} room =
    let n : part xs ys from to ≡ [] = rw (← e) (part_none xs ys lies.alike from) in
    record {
      in_reasons = rw n (put_none from rs (omega (arith, room.marks, lies.within)));
      in_lengths = rw n (put_none at ls (omega (arith, room.halves, room.twice, lies.within)));
      count = rw n (omega arith);
    }

-- ---- the values that are kept

pub record Keeping (vs rs s₀ s : List ℕ) (at i : ℕ) : Type 0 where
  pub long : length vs ≤ length rs
  pub room : length vs ≤ length s₀
  pub few : at ≤ i
  pub within : i ≤ length vs
  pub filled : Filling 0 (kept_values rs vs) (kept_values (drop i rs) (drop i vs)) at s₀ s

pub keeping_none : (vs rs s : List ℕ) → length vs ≤ length rs → length vs ≤ length s → Keeping vs rs s s 0 0
keeping_none vs rs s h k = record { long = h; room = k; few = omega arith; within = omega arith; filled = fill_none 0 (kept_values rs vs) s (omega arith) }

if_or : (r v : ℕ) (rs vs : List ℕ) → kept_values (r ∷ rs) (v ∷ vs) ≡ value_if r v ++ kept_values rs vs
unfolding kept_values value_if
if_or r v rs vs = go (leb r kept)
  where
    go : (b : Bool) → cond b (v ∷ kept_values rs vs) (kept_values rs vs) ≡ cond b (v ∷ []) [] ++ kept_values rs vs
    go true = refl
    go false = refl

value_most : (r v : ℕ) → length (value_if r v) ≤ 1
unfolding value_if
value_most r v = go (leb r kept)
  where
    go : (b : Bool) → length (cond b (v ∷ []) []) ≤ 1
    go true = omega arith
    go false = omega arith

module _ {vs rs s₀ s : List ℕ} {at i : ℕ} (k : Keeping vs rs s₀ s at i) (h : i < length vs) where
  pub keeping_room : at < length s
  keeping_room = omega (arith, k.few, k.room, fill_length k.filled)

  keeping_next : kept_values (drop i rs) (drop i vs) ≡ value_if (get_or rs i 0) (get_or vs i 0) ++ kept_values (drop (i + 1) rs) (drop (i + 1) vs)
  keeping_next =
      let e : drop i rs ≡ get_or rs i 0 ∷ drop (i + 1) rs = rw (add-one i) (drop-cons rs i 0 (omega (arith, k.long))) in
      let f : drop i vs ≡ get_or vs i 0 ∷ drop (i + 1) vs = rw (add-one i) (drop-cons vs i 0 h) in
      rw (e, f) (if_or (get_or rs i 0) (get_or vs i 0) (drop (i + 1) rs) (drop (i + 1) vs))

  pub keeping_more : {s' : List ℕ} {r : ℕ} → PutIn at (value_if (get_or rs i 0) (get_or vs i 0)) s s' → r ≡ at + length (value_if (get_or rs i 0) (get_or vs i 0)) → Keeping vs rs s₀ s' r (i + 1)
  keeping_more {s'} {r} p e = record {
    long = k.long;
    room = k.room;
    few = omega (arith, k.few, value_most (get_or rs i 0) (get_or vs i 0));
    within = omega arith;
    filled = rw e (fill_more k.filled keeping_next p refl);
  }

pub keeping_all : {vs rs s₀ s s' : List ℕ} {at i : ℕ} → Keeping vs rs s₀ s at i → length vs ≤ i → s' ≡ take at s ++ replicate (length s - at) 0 → PutKept rs vs s₀ at s'
unfolding kept_values
keeping_all {vs} {rs} {s₀} {s} {s'} {at} {i} k h e =
    let n : kept_values (drop i rs) (drop i vs) ≡ [] = ap (kept_values (drop i rs)) (drop_of_length-le vs h) ∙ kept_none (drop i rs) in
    record {
      is = fill_cleared 0 k.filled n e;
      count = let l : length (kept_values rs vs) ≡ length k.filled.done + 0 = ap length k.filled.is ∙ rw n (length-append k.filled.done []) in omega (arith, k.filled.count);
    }
  where
    kept_none : (ts : List ℕ) → kept_values {A = ℕ} ts [] ≡ []
    kept_none [] = refl
    kept_none (t ∷ ts) = refl

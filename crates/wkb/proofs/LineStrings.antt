-- Points are found exactly in the bytes of a LineString: `sound` and `complete`. The laws of a point list and of a LineString are over any
-- position, with any bytes after it. Assumes nothing.
use mathlib.Core.Path.{◌≡◌, refl, sym, ap, ◌∙◌, subst}
use mathlib.Core.List.{List, [], ◌∷◌, ◌++◌, append_assoc, append-nil}
use Prim.Native.Nat.{ℕ, zero, suc, ◌+◌, ◌-◌, ◌*◌, ◌^◌, ◌≤◌, ◌<◌}
use native.Mathlib.Omega.{arith}
use lib.ListN.{length, take, drop, get_or, length-append, length-drop, take-append-drop}
use lib.Seq.{drop-cons, drop-drop, get_or-drop, length-take-le, take_all, take_at, drop_at}
use Rattle.refusals.specs.Refusals.{gives}
use Rattle.refusals.proofs.Answers.{then_passed, then_fine}
use Rattle.wkb.specs.Bytes.{order_byte, word_bytes, Point, point_bytes, points_bytes, line_bytes, Patterns, LineString, number, number_at, points_at}
use Rattle.wkb.specs.Reading.{order_of, order_at, type_at, count_at, line_at, end_at, line_check, end_check, found}
use Rattle.wkb.specs.declared.Order.{Order}
use Rattle.wkb.specs.declared.Order.TheVariants.{Big, Little}
use Rattle.wkb.proofs.Words.{Small, small_take, small_drop, length_word, number_word, word_number, at_below}
use Rattle.wkb.proofs.Axes.{length_points}
use Rattle.wkb.proofs.Fields.{HeadFits, LineFits, line_right, line_passed, end_right, end_passed}

-- ---- lists and answers

-- nothing is left behind a position at or beyond the end
pub none_left : (at : ℕ) (bs : List ℕ) → drop at bs ≡ [] → length bs ≤ at
none_left at bs e = let l : length bs - at ≡ 0 = sym (length-drop at bs) ∙ ap length e in omega arith

pub gives_same : {A : Type 0} {a b : A} → gives a ≡ gives b → a ≡ b
gives_same h = cc

-- ---- a number at a position

-- what stands at a position, as a number's bytes and what follows them
pub split_word : (o : Order) (k at : ℕ) (bs : List ℕ) → Small bs → at + k ≤ length bs → drop at bs ≡ word_bytes o k (number_at o k at bs) ++ drop (at + k) bs
unfolding number_at
split_word o k at bs s h =
    let n : length (take k (drop at bs)) ≡ k = length-take-le k (drop at bs) (rw (length-drop at bs) (omega arith)) in
    let w : word_bytes o k (number o (take k (drop at bs))) ≡ take k (drop at bs) =
    word_number o k (take k (drop at bs)) (small_take k (drop at bs) (small_drop at bs s)) n in
    rw w (sym (take-append-drop k (drop at bs)) ∙ ap (λ (l : List ℕ). take k (drop at bs) ++ l) (drop-drop k at bs))

-- a number whose bytes stand at a position, and what follows them
pub record Stands (o : Order) (k at v : ℕ) (bs rest : List ℕ) : Type 0 where
  pub value : number_at o k at bs ≡ v
  pub after : drop (at + k) bs ≡ rest

pub read_word : (o : Order) (k at v : ℕ) (bs rest : List ℕ) → v < 256 ^ k → drop at bs ≡ word_bytes o k v ++ rest → Stands o k at v bs rest
unfolding number_at
read_word o k at v bs rest h e = record {
  value = ap (λ (l : List ℕ). number o (take k l)) e ∙ ap (number o) (take_at (word_bytes o k v) rest k (length_word o k v)) ∙ number_word o k v h;
  after = sym (drop-drop k at bs) ∙ ap (drop k) e ∙ drop_at (word_bytes o k v) rest k (length_word o k v);
}

-- ---- a list of points at a position

-- a point has 16 bytes
pub length_points_bytes : (o : Order) (ps : List Point) → length (points_bytes o ps) ≡ 16 * length ps
unfolding points_bytes point_bytes
length_points_bytes o [] = refl
length_points_bytes o (p ∷ ps) =
    simp (length-append, length_word, length_points_bytes o ps) (omega arith)

pub length_line : (o : Order) (ps : List Point) → length (line_bytes o ps) ≡ 9 + 16 * length ps
unfolding line_bytes
length_line o ps = simp (length-append, length_word, length_points_bytes o ps) (omega arith)

pub line_then : (o : Order) (ps : List Point) (rest : List ℕ) → line_bytes o ps ++ rest ≡ order_byte o ∷ (word_bytes o 4 2 ++ (word_bytes o 4 (length ps) ++ (points_bytes o ps ++ rest)))
unfolding line_bytes
line_then o ps rest = simp append_assoc

-- n points that are read at a position have the bytes that stand there
pub points_bytes_lem : (o : Order) (bs : List ℕ) → Small bs → (n at : ℕ) → at + 16 * n ≤ length bs → drop at bs ≡ points_bytes o (points_at o n at bs) ++ drop (at + 16 * n) bs
unfolding points_bytes point_bytes points_at
points_bytes_lem o bs s zero at h = let e : at ≡ at + 16 * 0 = omega arith in ap (λ (k : ℕ). drop k bs) e
points_bytes_lem o bs s (suc n) at h =
    let x = word_bytes o 8 (number_at o 8 at bs) in
    let y = word_bytes o 8 (number_at o 8 (at + 8) bs) in
    let q = points_bytes o (points_at o n (at + 16) bs) in
    let e : at + 8 + 8 ≡ at + 16 = omega arith in
    let e' : at + 16 + 16 * n ≡ at + 16 * suc n = omega arith in
    let tail : drop (at + 16) bs ≡ q ++ drop (at + 16 * suc n) bs =
    points_bytes_lem o bs s n (at + 16) (omega arith) ∙ ap (λ (k : ℕ). q ++ drop k bs) e' in
    split_word o 8 at bs s (omega arith)
    ∙ ap (λ (l : List ℕ). x ++ l) (split_word o 8 (at + 8) bs s (omega arith) ∙ ap (λ (k : ℕ). y ++ drop k bs) e ∙ ap (λ (l : List ℕ). y ++ l) tail)
    ∙ simp append_assoc

pub patterns_at : (o : Order) (bs : List ℕ) → Small bs → (n at : ℕ) → at + 16 * n ≤ length bs → Patterns (points_at o n at bs)
unfolding points_at
patterns_at o bs s zero at h = tt
patterns_at o bs s (suc n) at h = (at_below o 8 at bs s (omega arith), at_below o 8 (at + 8) bs s (omega arith), patterns_at o bs s n (at + 16) (omega arith))

-- the points whose bytes stand at a position are read there
pub points_read : (o : Order) (bs rest : List ℕ) (ps : List Point) → Patterns ps → (at : ℕ) → drop at bs ≡ points_bytes o ps ++ rest → points_at o (length ps) at bs ≡ ps
unfolding points_bytes point_bytes points_at
points_read o bs rest [] q at e = refl
points_read o bs rest (p ∷ ps) q at e =
    let wx = word_bytes o 8 p.x in
    let wy = word_bytes o 8 p.y in
    let t = points_bytes o ps ++ rest in
    let x : Stands o 8 at p.x bs (wy ++ t) = read_word o 8 at p.x bs (wy ++ t) q.0 (e ∙ simp append_assoc) in
    let y : Stands o 8 (at + 8) p.y bs t = read_word o 8 (at + 8) p.y bs t q.1 x.after in
    let m : at + 16 ≡ at + 8 + 8 = omega arith in
    let ih : points_at o (length ps) (at + 16) bs ≡ ps =
    points_read o bs rest ps q.2 (at + 16) (ap (λ (k : ℕ). drop k bs) m ∙ y.after) in
    rw (x.value, y.value, ih)

-- ---- a LineString at a position

order_back : (o : Order) → o ≡ order_of (order_byte o)
unfolding order_of order_byte
order_back Big = refl
order_back Little = refl

byte_below : (o : Order) → order_byte o ≤ 1
unfolding order_byte
byte_below Big = omega arith
byte_below Little = omega arith

byte_back : (b : ℕ) → b ≤ 1 → b ≡ order_byte (order_of b)
unfolding order_of order_byte
byte_back zero h = refl
byte_back (suc zero) h = refl
byte_back (suc (suc b)) h = absurd (omega arith)

-- the head that stands at a position, and the number after it, are bytes of their own
pub head_bytes : (type at : ℕ) (bs : List ℕ) → Small bs → HeadFits type at bs → at + 9 ≤ length bs
    → drop at bs ≡ order_byte (order_at at bs) ∷ (word_bytes (order_at at bs) 4 type ++ (word_bytes (order_at at bs) 4 (count_at at bs) ++ drop (at + 9) bs))
unfolding order_at type_at count_at
head_bytes type at bs s h l =
    let o = order_of (get_or bs at 0) in
    let first : get_or bs at 0 ≡ order_byte o = byte_back (get_or bs at 0) h.names in
    let e1 : suc at ≡ at + 1 = omega arith in
    let e5 : at + 1 + 4 ≡ at + 5 = omega arith in
    let e9 : at + 5 + 4 ≡ at + 9 = omega arith in
    let kind : drop (at + 1) bs ≡ word_bytes o 4 type ++ drop (at + 5) bs =
    split_word o 4 (at + 1) bs s (omega arith) ∙ ap (λ (v : ℕ). word_bytes o 4 v ++ drop (at + 1 + 4) bs) h.is ∙ ap (λ (k : ℕ). word_bytes o 4 type ++ drop k bs) e5 in
    let many : drop (at + 5) bs ≡ word_bytes o 4 (number_at o 4 (at + 5) bs) ++ drop (at + 9) bs =
    split_word o 4 (at + 5) bs s (omega arith) ∙ ap (λ (k : ℕ). word_bytes o 4 (number_at o 4 (at + 5) bs) ++ drop k bs) e9 in
    drop-cons bs at 0 (omega arith) ∙ ap (λ (b : ℕ). b ∷ drop (suc at) bs) first
    ∙ ap (λ (k : ℕ). order_byte o ∷ drop k bs) e1
    ∙ ap (λ (l : List ℕ). order_byte o ∷ l) (kind ∙ ap (λ (l : List ℕ). word_bytes o 4 type ++ l) many)

-- a head whose bytes stand at a position, with the number n after it, and what follows
pub record HeadStands (type at n : ℕ) (o : Order) (bs rest : List ℕ) : Type 0 where
  pub fits : HeadFits type at bs
  pub order : order_at at bs ≡ o
  pub count : count_at at bs ≡ n
  pub after : drop (at + 9) bs ≡ rest
  pub long : at + 9 ≤ length bs

pub head_stands : (type at n : ℕ) (o : Order) (bs rest : List ℕ) → type < 256 ^ 4 → n < 256 ^ 4
    → drop at bs ≡ order_byte o ∷ (word_bytes o 4 type ++ (word_bytes o 4 n ++ rest)) → HeadStands type at n o bs rest
unfolding order_at type_at count_at
head_stands type at n o bs rest t m e =
    let e5 : at + 5 ≡ at + 1 + 4 = omega arith in
    let e9 : at + 9 ≡ at + 1 + 4 + 4 = omega arith in
    let long : length bs - at ≡ 1 + (4 + (4 + length rest)) =
    sym (length-drop at bs) ∙ ap length e ∙ simp (length-append, length_word) (omega arith) in
    let first : get_or bs at 0 ≡ order_byte o =
    ap (λ (k : ℕ). get_or bs k 0) (let z : at ≡ at + 0 = omega arith in z) ∙ sym (get_or-drop at bs 0 0) ∙ ap (λ (l : List ℕ). get_or l 0 0) e in
    let names : o ≡ order_of (get_or bs at 0) = order_back o ∙ ap order_of (sym first) in
    let start : drop (at + 1) bs ≡ word_bytes o 4 type ++ (word_bytes o 4 n ++ rest) = sym (drop-drop 1 at bs) ∙ ap (drop 1) e in
    let two : Stands o 4 (at + 1) type bs (word_bytes o 4 n ++ rest) = read_word o 4 (at + 1) type bs (word_bytes o 4 n ++ rest) t start in
    let many : Stands o 4 (at + 1 + 4) n bs rest = read_word o 4 (at + 1 + 4) n bs rest m two.after in
    record {
      fits = record { names = rw first (byte_below o); is = rw (← names) two.value; long = omega arith };
      order = sym names;
      count = rw (← names, e5) many.value;
      after = rw e9 many.after;
      long = omega arith;
    }

-- what has its fields right at a position begins with a LineString of the points that are read
pub line_there : (at : ℕ) (bs : List ℕ) → Small bs → LineFits at bs → LineString (take (9 + 16 * count_at at bs) (drop at bs)) (line_at at bs)
unfolding line_at
line_there at bs s l =
    let o = order_at at bs in
    let n = count_at at bs in
    let ps = points_at o n (at + 9) bs in
    let m : length ps ≡ n = length_points o bs n (at + 9) in
    let body : drop at bs ≡ line_bytes o ps ++ drop (at + 9 + 16 * n) bs =
    head_bytes 2 at bs s l.head (omega (arith, l.long))
    ∙ ap (λ (r : List ℕ). order_byte o ∷ (word_bytes o 4 2 ++ (word_bytes o 4 n ++ r))) (points_bytes_lem o bs s n (at + 9) l.long)
    ∙ ap (λ (k : ℕ). order_byte o ∷ (word_bytes o 4 2 ++ (word_bytes o 4 k ++ (points_bytes o ps ++ drop (at + 9 + 16 * n) bs)))) (sym m)
    ∙ sym (line_then o ps (drop (at + 9 + 16 * n) bs)) in
    record {
      order = o;
      bytes = ap (take (9 + 16 * n)) body ∙ take_at (line_bytes o ps) (drop (at + 9 + 16 * n) bs) (9 + 16 * n) (length_line o ps ∙ rw m);
      some = rw m l.some;
      most = rw m l.most;
      patterns = patterns_at o bs s n (at + 9) l.long;
    }

-- the points of a LineString whose bytes stand at a position are read there
pub record LineStands (at : ℕ) (bs rest : List ℕ) (ps : List Point) : Type 0 where
  pub fits : LineFits at bs
  pub points : line_at at bs ≡ ps
  pub count : count_at at bs ≡ length ps
  pub after : drop (end_at at bs) bs ≡ rest

pub line_stands : (at : ℕ) (bs rest : List ℕ) {b : List ℕ} {ps : List Point} → LineString b ps → drop at bs ≡ b ++ rest → LineStands at bs rest ps
unfolding line_at end_at
line_stands at bs rest {b} {ps} l e =
    let o = l.order in
    let n = length ps in
    let P = points_bytes o ps in
    let h : HeadStands 2 at n o bs (P ++ rest) =
    head_stands 2 at n o bs (P ++ rest) (omega arith) (omega (arith, l.most)) (e ∙ ap (λ (c : List ℕ). c ++ rest) l.bytes ∙ line_then o ps rest) in
    let long : length bs - (at + 9) ≡ 16 * n + length rest =
    sym (length-drop (at + 9) bs) ∙ ap length h.after ∙ simp (length-append, length_points_bytes o ps) refl in
    let ends : drop (at + 9 + 16 * n) bs ≡ rest =
    sym (drop-drop (16 * n) (at + 9) bs) ∙ ap (drop (16 * n)) h.after ∙ drop_at P rest (16 * n) (length_points_bytes o ps) in
    record {
      fits = record { head = h.fits; some = rw h.count l.some; most = rw h.count l.most; long = rw h.count (omega (arith, h.long)) };
      points = rw (h.order, h.count) (points_read o bs rest ps l.patterns (at + 9) h.after);
      count = h.count;
      after = rw h.count ends;
    }

-- ---- the whole

-- where points are found, the bytes are those of their LineString
pub sound : (bs : List ℕ) (ps : List Point) → Small bs → found bs ≡ gives ps → LineString bs ps
unfolding found end_at
sound bs ps s h =
    let a = then_passed (line_check 0 bs) _ h in
    let b = then_passed (end_check (9 + 16 * count_at 0 bs) bs) _ a.1 in
    let over = end_passed (9 + 16 * count_at 0 bs) bs b.0 in
    let is : line_at 0 bs ≡ ps = gives_same b.1 in
    subst (λ (qs : List Point). LineString bs qs) is
    (subst (λ (cs : List ℕ). LineString cs (line_at 0 bs)) (take_all (9 + 16 * count_at 0 bs) bs over) (line_there 0 bs s (line_passed 0 bs a.0)))

-- in the bytes of a LineString its points are found
pub complete : (bs : List ℕ) (ps : List Point) → LineString bs ps → found bs ≡ gives ps
unfolding found
complete bs ps l =
    let d : LineStands 0 bs [] ps = line_stands 0 bs [] l (sym (append-nil bs)) in
    let over : length bs ≤ end_at 0 bs = none_left (end_at 0 bs) bs d.after in
    then_fine _ _ (line_right d.fits) ∙ then_fine _ _ (end_right (end_at 0 bs) bs over) ∙ ap gives d.points

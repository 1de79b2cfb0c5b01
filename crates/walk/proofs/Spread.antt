-- The lower column of each walked cell, written beside it from the last to the first. Assumes nothing.
use mathlib.Core.Path.{◌≡◌, refl, sym, ap, ◌∙◌}
use Prim.Native.Nat.{ℕ, zero, suc, ◌+◌, ◌-◌, ◌*◌, ◌%◌, ◌≤◌, ◌<◌}
use native.Mathlib.Numerals.{add-one}
use native.Mathlib.Omega.{arith}
use mathlib.Core.Bool.{Bool, true, false, cond, ◌||◌}
use mathlib.Core.List.{List, [], ◌∷◌, ◌++◌, flat_map, append-nil}
use lib.ListN.{length, take, drop, get_or, set, length-set}
use lib.Seq.{drop-cons, get_or-take, length-take-le, take-take, take-set-le, drop-set-lt, get_or-set_same}
use lib.Dec.{eqb}
use borrow.Author.Tests.{eq-eqb, ne_eqb}
use Rattle.slices.specs.Lists.{any}
use Rattle.slices.proofs.Members.{any_append}
use Rattle.walk.specs.declared.Neighbour.{Neighbour}
use Rattle.walk.specs.declared.Neighbour.TheVariants.{None, Lower}
use Rattle.walk.specs.Neighbours.{low_col_of, column_of, row_of, beside_of}
use Rattle.cover.specs.Inside.{Appended}
use Rattle.walk.specs.Inside.{Covers, lower_of, many_of, share}
use Rattle.cover.proofs.Growing.{same}
use Rattle.walk.proofs.Flat.{flat_none, flat_same}
use Rattle.walk.proofs.Added.{beside_le, nothing_beside, row_only, added_bound}

pub lower_none : (cols c : ℕ) → c % cols ≡ 0 → c ≡ lower_of cols c
unfolding lower_of
lower_none cols c e = rw (eq-eqb (c % cols) 0 e)

pub lower_one : (cols c : ℕ) → (c % cols ≡ 0 → ⊥) → c - 1 ≡ lower_of cols c
unfolding lower_of
lower_one cols c e = rw (ne_eqb (c % cols) 0 e)

-- the two entries at k are d and c, and the rest stays
two : (ys : List ℕ) (k c d : ℕ) → suc k < length ys → drop k (set (set ys (suc k) c) k d) ≡ d ∷ (c ∷ drop (suc (suc k)) ys)
two ys k c d h =
    let a = set ys (suc k) c in
    let l : length a ≡ length ys = length-set ys (suc k) c in
    let m : length (set a k d) ≡ length a = length-set a k d in
    drop-cons (set a k d) k 0 (omega arith)
    ∙ ap (λ (v : ℕ). v ∷ drop (suc k) (set a k d)) (get_or-set_same a k d 0 (omega arith))
    ∙ ap (λ (z : List ℕ). d ∷ z)
    (drop-set-lt (suc k) a k d (omega arith)
    ∙ drop-cons a (suc k) 0 (omega arith)
    ∙ ap (λ (v : ℕ). v ∷ drop (suc (suc k)) a) (get_or-set_same ys (suc k) c 0 h)
    ∙ ap (λ (z : List ℕ). c ∷ z) (drop-set-lt (suc (suc k)) ys (suc k) c (omega arith)))

-- a cell and its neighbour, before what is there
arranged : (cols c : ℕ) (f : ℕ → Bool) (r x y : Bool) → r ≡ (x || y) → (f (lower_of cols c) || (f c || r)) ≡ ((f c || x) || (any f (low_col_of cols c) || y))
unfolding lower_of low_col_of
arranged cols c f r x y e = rw e (go (eqb (c % cols) 0))
  where
    once : (a p q : Bool) → (a || (a || (p || q))) ≡ ((a || p) || q)
    once true p q = refl
    once false p q = refl

    both : (b a p q : Bool) → (b || (a || (p || q))) ≡ ((a || p) || ((b || false) || q))
    both true true p q = refl
    both true false true q = refl
    both true false false q = refl
    both false true p q = refl
    both false false p q = refl

    go : (b : Bool) → (f (cond b c (c - 1)) || (f c || (x || y))) ≡ ((f c || x) || (any f (cond b [] ((c - 1) ∷ [])) || y))
    go true = once (f c) x y
    go false = both (f (c - 1)) (f c) x y

-- the walked cells from i on have their neighbours beside them; those before i are as they were
pub record Spreading (cols n : ℕ) (xs : List ℕ) (i : ℕ) (ys : List ℕ) : Type 0 where
  pub at : i ≤ n
  pub room : n + n ≤ length xs
  pub len : length ys ≡ length xs
  pub front : take i ys ≡ take i xs
  pub back : (f : ℕ → Bool) → any f (take (n + n - (i + i)) (drop (i + i) ys)) ≡ (any f (drop i (take n xs)) || any f (flat_map (low_col_of cols) (drop i (take n xs))))

none_left : (n : ℕ) (l : List ℕ) → length l ≤ n → drop n l ≡ []
none_left zero [] h = refl
none_left (suc n) [] h = refl
none_left zero (x ∷ l) h = absurd (omega arith)
none_left (suc n) (x ∷ l) h = none_left n l (omega arith)

pub spread_start : (cols n : ℕ) (xs : List ℕ) → n + n ≤ length xs → Spreading cols n xs n xs
unfolding flat_map
spread_start cols n xs h = record {
  at = omega arith;
  room = h;
  len = refl;
  front = refl;
  back = λ f.
      let e : n + n - (n + n) ≡ 0 = omega arith in
      let d : drop n (take n xs) ≡ [] = none_left n (take n xs) (omega (arith, length-take-le n xs (omega arith))) in
      rw (e, d);
}

module _ {cols n : ℕ} {xs : List ℕ} {i : ℕ} {ys : List ℕ} (g : Spreading cols n xs i ys) where
  pub spread_more : 0 < i → (d : ℕ) → d ≡ lower_of cols (get_or ys (i - 1) 0)
      → Spreading cols n xs (i - 1) (set (set ys ((i - 1) + (i - 1) + 1) (get_or ys (i - 1) 0)) ((i - 1) + (i - 1)) d)
  unfolding flat_map
  spread_more h d e =
      let j = i - 1 in
      let k = j + j in
      let c = get_or ys j 0 in
      let l = take n xs in
      let p : length l ≡ n = length-take-le n xs (omega (arith, g.room)) in
      let q : i ≡ suc j = omega arith in
      let same : c ≡ get_or xs j 0 =
      sym (get_or-take i ys j 0 (omega arith)) ∙ ap (λ (z : List ℕ). get_or z j 0) g.front ∙ get_or-take i xs j 0 (omega arith) in
      let cell : drop j l ≡ c ∷ drop i l =
      drop-cons l j 0 (omega (arith, g.at)) ∙ ap (λ (v : ℕ). v ∷ drop (suc j) l) (get_or-take n xs j 0 (omega (arith, g.at)) ∙ sym same) ∙ ap (λ (m : ℕ). c ∷ drop m l) (sym q) in
      let next : suc (suc k) ≡ i + i = omega arith in
      let stored : drop k (set (set ys (k + 1) c) k d) ≡ d ∷ (c ∷ drop (i + i) ys) =
      ap (λ (m : ℕ). drop k (set (set ys m c) k d)) (add-one k) ∙ two ys k c d (omega (arith, g.at, g.room, g.len)) ∙ ap (λ (m : ℕ). d ∷ (c ∷ drop m ys)) next in
      let many : n + n - k ≡ suc (suc (n + n - (i + i))) = omega (arith, g.at) in
      record {
        at = omega (arith, g.at);
        room = g.room;
        len = length-set (set ys (k + 1) c) k d ∙ length-set ys (k + 1) c ∙ g.len;
        front =
            take-set-le j (set ys (k + 1) c) k d (omega arith)
            ∙ take-set-le j ys (k + 1) c (omega arith)
            ∙ less j i (omega arith) g.front;
        back = λ f.
            rw (stored, many, cell, e)
            (arranged cols c f (any f (take (n + n - (i + i)) (drop (i + i) ys))) (any f (drop i l)) (any f (flat_map (low_col_of cols) (drop i l))) (g.back f)
            ∙ ap (λ (z : Bool). (f c || any f (drop i l)) || z) (sym (any_append f (low_col_of cols c) (flat_map (low_col_of cols) (drop i l)))));
      }
    where
      less : (a b : ℕ) → a ≤ b → take b ys ≡ take b xs → take a ys ≡ take a xs
      less a b u v = sym (take-take a b ys u) ∙ ap (take a) v ∙ take-take a b xs u

  pub spread_done : i ≡ 0 → Covers xs ys n (n + n) n (flat_map (low_col_of cols) (take n xs))
  spread_done z = record {
    len = g.len;
    count = omega arith;
    within = omega (arith, g.room, g.len);
    same = λ f.
        let k : n + n - (i + i) ≡ n + n = omega arith in
        let e : i + i ≡ 0 = omega arith in
        rw (k, e, z) at (g.back f) ∙ sym (any_append f (take n xs) (flat_map (low_col_of cols) (take n xs)));
  }

-- ---- what the line adds, one way or the other

none_share : {x y : Neighbour} → x ≡ None → y ≡ None → share x y ≡ 0
unfolding share many_of
none_share p q = rw (p, q)

pub nothing_covers : (x y : Neighbour) (cols cells : ℕ) {xs : List ℕ} {n : ℕ} → x ≡ None → y ≡ None → n ≤ length xs
    → Covers xs xs n n (n * share x y) (flat_map (beside_of x y cols cells) (take n xs))
nothing_covers x y cols cells {xs} {n} p q l = record {
  len = refl;
  count = omega arith;
  within = l;
  same = λ f. ap (any f) (sym (ap (λ (z : List ℕ). take n xs ++ z) (flat_none (beside_of x y cols cells) (nothing_beside x y cols cells (none_share p q)) (take n xs)) ∙ append-nil (take n xs)));
}

pub besides_cover : (x y : Neighbour) (cols cells : ℕ) {xs ys : List ℕ} {n m : ℕ} → n ≤ length xs → Appended xs ys n m (flat_map (beside_of x y cols cells) (take n xs))
    → Covers xs ys n m (n * share x y) (flat_map (beside_of x y cols cells) (take n xs))
besides_cover x y cols cells l g = record {
  len = g.len;
  count = added_bound (beside_of x y cols cells) (share x y) (beside_le x y cols cells) l g;
  within = g.within;
  same = λ f. ap (any f) g.is;
}

pub rows_share : (x y : Neighbour) → x ≡ None → share x y ≡ many_of y
unfolding share many_of
rows_share x y p = rw p (omega arith)

pub rows_cover : (x y : Neighbour) (cols cells : ℕ) {xs ys : List ℕ} {n m : ℕ} → x ≡ None → n ≤ length xs → Appended xs ys n m (flat_map (row_of y cols cells) (take n xs))
    → Covers xs ys n m (n * share x y) (flat_map (beside_of x y cols cells) (take n xs))
rows_cover x y cols cells {xs} {ys} {n} {m} p l g =
    besides_cover x y cols cells l
    (same (flat_same (row_of y cols cells) (beside_of x y cols cells) (λ c. row_only x y cols cells c p) (take n xs)) g)

lower_only : (cols cells c : ℕ) → low_col_of cols c ≡ beside_of Lower None cols cells c
unfolding beside_of column_of row_of
lower_only cols cells c =
    sym (ap (λ (z : List ℕ). (low_col_of cols c ++ []) ++ z) (flat_none (row_of None cols cells) (λ d. refl) (low_col_of cols c)) ∙ append-nil (low_col_of cols c ++ []) ∙ append-nil (low_col_of cols c))

pub lower_share : {x y : Neighbour} → x ≡ Lower → y ≡ None → share x y ≡ 1
unfolding share many_of
lower_share p q = rw (p, q)

pub spread_covers : (x y : Neighbour) (cols cells : ℕ) (l : List ℕ) {xs ys : List ℕ} {n r : ℕ} → x ≡ Lower → y ≡ None → Covers xs ys n r n (flat_map (low_col_of cols) l)
    → Covers xs ys n r (n * share x y) (flat_map (beside_of x y cols cells) l)
spread_covers x y cols cells l {xs} {ys} {n} {r} p q c =
    let e : flat_map (low_col_of cols) l ≡ flat_map (beside_of x y cols cells) l = rw (p, q) (flat_same (low_col_of cols) (beside_of Lower None cols cells) (lower_only cols cells) l) in
    record { len = c.len; count = rw (lower_share p q) (omega (arith, c.count)); within = c.within; same = λ f. c.same f ∙ ap (λ (z : List ℕ). any f (take n xs ++ z)) e }

-- Parts of lists, entries moved up with a number before them, and the loop of entries that grow. Assumes nothing.
use mathlib.Core.Path.{◌≡◌, refl, sym, ap, ◌∙◌}
use mathlib.Core.List.{List, [], ◌∷◌, ◌++◌, append_assoc}
use Prim.Native.Nat.{ℕ, suc, ◌+◌, ◌-◌, ◌≤◌, ◌<◌, ◌^◌}
use native.Mathlib.Numerals.{add-one}
use native.Mathlib.Omega.{arith}
use lib.ListN.{length, get_or, take, drop, set, length-append, length-set, take-append-drop}
use lib.Seq.{paste, slice, slice_empty, length-slice, length-take-le, take-suc, take-take, drop-append-le, drop-cons, set_at, get_or_at}
use Rattle.std.proofs.lemmas.List.{drop-take}
use Rattle.added.specs.Inside.{gap_of, more, raised_part, Raisable}

-- ---- parts

pub slice_join : (a b c : ℕ) (l : List ℕ) → a ≤ b → b ≤ c → c ≤ length l → slice a b l ++ slice b c l ≡ slice a c l
slice_join a b c l h k m =
    let w : List ℕ = take c l in
    let n : length (take b w) ≡ b = length-take-le b w (omega (arith, length-take-le c l m)) in
    let e : drop a (take b w ++ drop b w) ≡ drop a (take b w) ++ drop b w = drop-append-le a (take b w) (drop b w) (omega arith) in
    ap (λ (z : List ℕ). drop a z ++ drop b w) (sym (take-take b c l k)) ∙ sym e ∙ ap (drop a) (take-append-drop b w)

pub slice_last : (a b : ℕ) (l : List ℕ) → a ≤ b → b < length l → slice a (suc b) l ≡ slice a b l ++ (get_or l b 0 ∷ [])
slice_last a b l h k =
    ap (drop a) (take-suc l b 0 k) ∙ drop-append-le a (take b l) (get_or l b 0 ∷ []) (omega (arith, length-take-le b l (omega arith)))

-- the last of the entries that are taken, written
pub put_last : (xs rest : List ℕ) (m v : ℕ) → m < length xs → set (take (suc m) xs ++ rest) m v ≡ take m xs ++ (v ∷ rest)
put_last xs rest m v h =
    rw (take-suc xs m 0 h, append_assoc) (set_at (take m xs) (get_or xs m 0) rest v m (length-take-le m xs (omega arith)))

-- ---- entries moved up

-- the entries from `from` to `to` moved up as one part, and the number before them
pub gap_opened : (xs : List ℕ) (from to before : ℕ) → (from ≤ to) × (to + before < length xs) → (n : ℕ)
    → set (paste xs (from + before + 1) (drop from xs) (to - from)) (from + before) n ≡ gap_of from to before n xs
unfolding gap_of
gap_opened xs from to before h n =
    let l = h.0 in
    let p : from + (to - from) ≡ to = omega arith in
    let m : take (to - from) (drop from xs) ≡ slice from to xs = sym (rw p at (drop-take from (to - from) xs)) in
    let q : suc (from + before) + (to - from) ≡ suc (to + before) = omega arith in
    rw (add-one (from + before), m, q, append_assoc) (put_last xs (slice from to xs ++ drop (suc (to + before)) xs) (from + before) n (omega (arith, h.1)))

-- ---- entries that grow

pub length_more : (by : ℕ) (xs : List ℕ) → length (more by xs) ≡ length xs
length_more by [] = refl
length_more by (x ∷ xs) = ap suc (length_more by xs)

pub more_append : (by : ℕ) (xs ys : List ℕ) → more by (xs ++ ys) ≡ more by xs ++ more by ys
more_append by [] ys = refl
more_append by (x ∷ xs) ys = ap (λ (l : List ℕ). (x + by) ∷ l) (more_append by xs ys)

pub more_none : (xs : List ℕ) → more 0 xs ≡ xs
more_none [] = refl
more_none (x ∷ xs) = let e : x + 0 ≡ x = omega arith in rw (e, more_none xs)

pub record Raising (from to by : ℕ) (xs ys : List ℕ) (i : ℕ) : Type 0 where
  pub asks : Raisable from to by xs
  pub low : from ≤ i
  pub high : i ≤ to
  pub len : length ys ≡ length xs
  pub is : ys ≡ take from xs ++ (more by (slice from i xs) ++ drop i xs)

pub raising_none : {from to by : ℕ} {xs : List ℕ} → Raisable from to by xs → Raising from to by xs xs from
raising_none {from} {to} {by} {xs} h =
    record {
      asks = h;
      low = omega arith;
      high = h.order;
      len = refl;
      is = sym (rw (slice_empty from xs) (take-append-drop from xs));
    }

module _ {from to by : ℕ} {xs ys : List ℕ} {i : ℕ} (o : Raising from to by xs ys i) where
  module _ (l : i < to) where
    inside : i < length xs
    inside = omega (arith, o.asks.within)

    start : List ℕ
    start = take from xs ++ more by (slice from i xs)

    start_length : length start ≡ i
    unfolding start
    start_length =
        rw (length-append, length_more by (slice from i xs), length-slice from i xs (omega (arith, inside)), length-take-le from xs (omega (arith, inside, o.low))) (omega (arith, o.low))

    is_split : ys ≡ start ++ (get_or xs i 0 ∷ drop (suc i) xs)
    unfolding start
    is_split = o.is ∙ rw (drop-cons xs i 0 inside, append_assoc)

    pub raising_at : get_or ys i 0 ≡ get_or xs i 0
    raising_at = ap (λ (z : List ℕ). get_or z i 0) is_split ∙ get_or_at start (get_or xs i 0) (drop (suc i) xs) 0 i start_length

    pub raising_fits : get_or ys i 0 + by < 2 ^ 32
    raising_fits = omega (arith, raising_at, o.asks.small i l)

    pub raising_more : Raising from to by xs (set ys i (get_or ys i 0 + by)) (i + 1)
    unfolding start
    raising_more =
        record {
          asks = o.asks;
          low = omega (arith, o.low);
          high = omega arith;
          len = length-set ys i (get_or ys i 0 + by) ∙ o.len;
          is =
              ap (λ (z : List ℕ). set z i (get_or ys i 0 + by)) is_split
              ∙ set_at start (get_or xs i 0) (drop (suc i) xs) (get_or ys i 0 + by) i start_length
              ∙ rw (raising_at, add-one i, slice_last from i xs o.low inside, more_append by (slice from i xs) (get_or xs i 0 ∷ []), append_assoc, append_assoc);
        }

  pub raising_done : to ≤ i → ys ≡ raised_part from to by xs
  unfolding raised_part
  raising_done l = let e : i ≡ to = omega (arith, o.high) in rw e at o.is

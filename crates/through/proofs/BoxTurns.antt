-- The turns of the gathering, and the box within all that are gathered. Assumes nothing.
use mathlib.Core.Path.{◌≡◌, refl, sym, ap, ◌∙◌}
use mathlib.Core.Bool.{Bool, true, false, ◌&&◌, true≢false}
use mathlib.Core.List.{List}
use Prim.Native.Nat.{ℕ, zero, suc, ◌+◌, ◌-◌, ◌*◌, ◌≤◌, ◌<◌}
use native.Mathlib.Decide.{ℕ_discrete}
use native.Mathlib.Omega.{arith}
use lib.ListN.{length, get_or, set, length-set}
use lib.Seq.{get_or-set_same, get_or-set_other}
use lib.Dec.{T, leb}
use lib.Ieee.{Float, nan, le}
use lib.Ieee.Fits.{and_l, and_r, and_i}
use lib.Ieee.Bits.{is_true}
use Rattle.numbers.proofs.FloatOrder.{float_le_trans}
use Rattle.numbers.proofs.Tests.{holds}
use Rattle.slices.proofs.Members.{below_at}
use Rattle.grid.specs.declared.Box.{Box}
use Rattle.grid.specs.Domain.{Lines, count, segment_at}
use Rattle.grid.specs.Boxes.{box_of, overlaps}
use Rattle.listed.specs.Rooms.{BoxRoom, box_in, nowhere, is_within, within_all, inner_of}
use Rattle.through.specs.Inside.{LineAsks, with_box, flat_in, FlatAsks, FlatFilled, GatherAsks, BoxesIn, Gathered, Inner}

module _ (ls : Lines) (i : ℕ) (h : LineAsks ls i) where
  pub in_start_y : i < length ls.start_y
  in_start_y = rw h.alike.«start_y» h.one

  pub in_end_x : i < length ls.end_x
  in_end_x = rw h.alike.«end_x» h.one

  pub in_end_y : i < length ls.end_y
  in_end_y = rw h.alike.«end_y» h.one

-- ---- a box in a room

module _ (bs : List Float) (u : ℕ) (b : Box) where
  pub with_long : length (with_box bs u b) ≡ length bs
  unfolding with_box
  with_long = simp length-set

  away : (q : ℕ) → (q ≡ u → ⊥) → (q ≡ 513 + u → ⊥) → (q ≡ 1026 + u → ⊥) → (q ≡ 1539 + u → ⊥) → get_or (with_box bs u b) q nan ≡ get_or bs q nan
  unfolding with_box
  away q x y z w =
      get_or-set_other (set (set (set bs u b.min_x) (513 + u) b.min_y) (1026 + u) b.max_x) (1539 + u) q b.max_y nan w
      ∙ get_or-set_other (set (set bs u b.min_x) (513 + u) b.min_y) (1026 + u) q b.max_x nan z
      ∙ get_or-set_other (set bs u b.min_x) (513 + u) q b.min_y nan y
      ∙ get_or-set_other bs u q b.min_x nan x

  module _ (h : u ≤ 512) where
    pub with_other : (t : ℕ) → t ≤ 512 → (t ≡ u → ⊥) → box_in (with_box bs u b) t ≡ box_in bs t
    with_other t k ne =
        rw (
          away t ne (λ e. omega arith) (λ e. omega arith) (λ e. omega arith),
          away (513 + t) (λ e. omega arith) (λ e. ne (omega arith)) (λ e. omega arith) (λ e. omega arith),
          away (1026 + t) (λ e. omega arith) (λ e. omega arith) (λ e. ne (omega arith)) (λ e. omega arith),
          away (1539 + t) (λ e. omega arith) (λ e. omega arith) (λ e. omega arith) (λ e. ne (omega arith)),
        )

    module _ (l : 2052 ≤ length bs) where
      one_in : length (set bs u b.min_x) ≡ length bs
      one_in = length-set bs u b.min_x

      two_in : length (set (set bs u b.min_x) (513 + u) b.min_y) ≡ length bs
      two_in = simp length-set

      three_in : length (set (set (set bs u b.min_x) (513 + u) b.min_y) (1026 + u) b.max_x) ≡ length bs
      three_in = simp length-set

      first_in : get_or (with_box bs u b) u nan ≡ b.min_x
      unfolding with_box
      first_in =
          get_or-set_other (set (set (set bs u b.min_x) (513 + u) b.min_y) (1026 + u) b.max_x) (1539 + u) u b.max_y nan (λ e. omega arith)
          ∙ get_or-set_other (set (set bs u b.min_x) (513 + u) b.min_y) (1026 + u) u b.max_x nan (λ e. omega arith)
          ∙ get_or-set_other (set bs u b.min_x) (513 + u) u b.min_y nan (λ e. omega arith)
          ∙ get_or-set_same bs u b.min_x nan (omega arith)

      second_in : get_or (with_box bs u b) (513 + u) nan ≡ b.min_y
      unfolding with_box
      second_in =
          get_or-set_other (set (set (set bs u b.min_x) (513 + u) b.min_y) (1026 + u) b.max_x) (1539 + u) (513 + u) b.max_y nan (λ e. omega arith)
          ∙ get_or-set_other (set (set bs u b.min_x) (513 + u) b.min_y) (1026 + u) (513 + u) b.max_x nan (λ e. omega arith)
          ∙ get_or-set_same (set bs u b.min_x) (513 + u) b.min_y nan (omega (arith, one_in))

      third_in : get_or (with_box bs u b) (1026 + u) nan ≡ b.max_x
      unfolding with_box
      third_in =
          get_or-set_other (set (set (set bs u b.min_x) (513 + u) b.min_y) (1026 + u) b.max_x) (1539 + u) (1026 + u) b.max_y nan (λ e. omega arith)
          ∙ get_or-set_same (set (set bs u b.min_x) (513 + u) b.min_y) (1026 + u) b.max_x nan (omega (arith, two_in))

      last_in : get_or (with_box bs u b) (1539 + u) nan ≡ b.max_y
      unfolding with_box
      last_in = get_or-set_same (set (set (set bs u b.min_x) (513 + u) b.min_y) (1026 + u) b.max_x) (1539 + u) b.max_y nan (omega (arith, three_in))

      pub with_same : box_in (with_box bs u b) u ≡ b
      with_same = rw (first_in, second_in, third_in, last_in)

-- ---- gathering

pub record Gathering (ls : Lines) (xs : List ℕ) (bs : List Float) (u : ℕ) (bs' : List Float) : Type 0 where
  pub asks : GatherAsks ls xs bs
  pub to : u ≤ length xs
  pub done : BoxesIn ls xs u bs bs'

pub gather_start : (ls : Lines) (xs : List ℕ) (bs : List Float) → GatherAsks ls xs bs → Gathering ls xs bs 0 bs
gather_start ls xs bs a = record { asks = a; to = omega arith; done = record { each = λ u h. absurd (omega arith); long = refl } }

module _ (ls : Lines) (xs : List ℕ) (bs : List Float) (u : ℕ) (bs' : List Float) (g : Gathering ls xs bs u bs') where
  pub gather_end : length xs ≤ u → BoxesIn ls xs (length xs) bs bs'
  gather_end h = let e : u ≡ length xs = omega (arith, g.to) in rw e at g.done

  module _ (h : u < length xs) where
    pub gather_asks : LineAsks ls (get_or xs u 0)
    gather_asks = record { alike = g.asks.alike; one = below_at (count ls) xs u g.asks.below h }

    pub gather_room : BoxRoom (u + 1) bs'
    gather_room = record { few = omega (arith, g.asks.most); long = omega (arith, g.asks.room.long, g.done.long) }

    module _ (b : Box) (e : b ≡ box_of (segment_at ls (get_or xs u 0))) (bs'' : List Float) (k : bs'' ≡ with_box bs' u b) where
      each : (t : ℕ) → t < u + 1 → Dec (t ≡ u) → box_in (with_box bs' u b) t ≡ box_of (segment_at ls (get_or xs t 0))
      each t l (yes q) = rw q (with_same bs' u b (omega (arith, g.asks.most)) gather_room.long ∙ e)
      each t l (no q) = with_other bs' u b (omega (arith, g.asks.most)) t (omega (arith, g.asks.most)) q ∙ g.done.each t (omega arith)

      pub gather_more : Gathering ls xs bs (u + 1) bs''
      gather_more =
          rw k
          (record {
            asks = g.asks;
            to = omega arith;
            done = record { each = λ t l. each t l (ℕ_discrete t u); long = with_long bs' u b ∙ g.done.long };
          })

-- ---- gathering one after another

-- four entries from p on
put4 : List Float → ℕ → Box → List Float
put4 f p b = set (set (set (set f p b.min_x) (p + 1) b.min_y) (p + 2) b.max_x) (p + 3) b.max_y

module _ (f : List Float) (p : ℕ) (b : Box) where
  put4_long : length (put4 f p b) ≡ length f
  unfolding put4
  put4_long = simp length-set

  put4_before : (q : ℕ) → q < p → get_or (put4 f p b) q nan ≡ get_or f q nan
  unfolding put4
  put4_before q h =
      get_or-set_other (set (set (set f p b.min_x) (p + 1) b.min_y) (p + 2) b.max_x) (p + 3) q b.max_y nan (λ e. omega arith)
      ∙ get_or-set_other (set (set f p b.min_x) (p + 1) b.min_y) (p + 2) q b.max_x nan (λ e. omega arith)
      ∙ get_or-set_other (set f p b.min_x) (p + 1) q b.min_y nan (λ e. omega arith)
      ∙ get_or-set_other f p q b.min_x nan (λ e. omega arith)

  module _ (h : p + 4 ≤ length f) where
    one_long : length (set f p b.min_x) ≡ length f
    one_long = length-set f p b.min_x

    two_long : length (set (set f p b.min_x) (p + 1) b.min_y) ≡ length f
    two_long = simp length-set

    three_long : length (set (set (set f p b.min_x) (p + 1) b.min_y) (p + 2) b.max_x) ≡ length f
    three_long = simp length-set

    put4_first : get_or (put4 f p b) p nan ≡ b.min_x
    unfolding put4
    put4_first =
        get_or-set_other (set (set (set f p b.min_x) (p + 1) b.min_y) (p + 2) b.max_x) (p + 3) p b.max_y nan (λ e. omega arith)
        ∙ get_or-set_other (set (set f p b.min_x) (p + 1) b.min_y) (p + 2) p b.max_x nan (λ e. omega arith)
        ∙ get_or-set_other (set f p b.min_x) (p + 1) p b.min_y nan (λ e. omega arith)
        ∙ get_or-set_same f p b.min_x nan (omega arith)

    put4_second : get_or (put4 f p b) (p + 1) nan ≡ b.min_y
    unfolding put4
    put4_second =
        get_or-set_other (set (set (set f p b.min_x) (p + 1) b.min_y) (p + 2) b.max_x) (p + 3) (p + 1) b.max_y nan (λ e. omega arith)
        ∙ get_or-set_other (set (set f p b.min_x) (p + 1) b.min_y) (p + 2) (p + 1) b.max_x nan (λ e. omega arith)
        ∙ get_or-set_same (set f p b.min_x) (p + 1) b.min_y nan (omega (arith, one_long))

    put4_third : get_or (put4 f p b) (p + 2) nan ≡ b.max_x
    unfolding put4
    put4_third =
        get_or-set_other (set (set (set f p b.min_x) (p + 1) b.min_y) (p + 2) b.max_x) (p + 3) (p + 2) b.max_y nan (λ e. omega arith)
        ∙ get_or-set_same (set (set f p b.min_x) (p + 1) b.min_y) (p + 2) b.max_x nan (omega (arith, two_long))

    put4_last : get_or (put4 f p b) (p + 3) nan ≡ b.max_y
    unfolding put4
    put4_last = get_or-set_same (set (set (set f p b.min_x) (p + 1) b.min_y) (p + 2) b.max_x) (p + 3) b.max_y nan (omega (arith, three_long))

pub record Flattening (ls : Lines) (xs : List ℕ) (flat : List Float) (u : ℕ) (flat' : List Float) : Type 0 where
  pub asks : FlatAsks ls xs flat
  pub to : u ≤ length xs
  pub done : FlatFilled ls xs u flat flat'

pub flat_start : (ls : Lines) (xs : List ℕ) (flat : List Float) → FlatAsks ls xs flat → Flattening ls xs flat 0 flat
flat_start ls xs flat a = record { asks = a; to = omega arith; done = record { each = λ u h. absurd (omega arith); long = refl } }

module _ (ls : Lines) (xs : List ℕ) (flat : List Float) (u : ℕ) (flat' : List Float) (g : Flattening ls xs flat u flat') where
  pub flat_end : length xs ≤ u → FlatFilled ls xs (length xs) flat flat'
  flat_end h = let e : u ≡ length xs = omega (arith, g.to) in rw e at g.done

  module _ (h : u < length xs) where
    pub flat_asks : LineAsks ls (get_or xs u 0)
    flat_asks = record { alike = g.asks.alike; one = below_at (count ls) xs u g.asks.below h }

    pub flat_room : 4 * u + 4 ≤ length flat'
    flat_room = omega (arith, g.asks.room, g.done.long)

    module _ (b : Box) (e : b ≡ box_of (segment_at ls (get_or xs u 0))) where
      flat_same : flat_in (put4 flat' (4 * u) b) u ≡ box_of (segment_at ls (get_or xs u 0))
      flat_same = rw (put4_first flat' (4 * u) b flat_room, put4_second flat' (4 * u) b flat_room, put4_third flat' (4 * u) b flat_room, put4_last flat' (4 * u) b flat_room) e

      flat_other : (t : ℕ) → t < u → flat_in (put4 flat' (4 * u) b) t ≡ flat_in flat' t
      flat_other t l =
          rw (
            put4_before flat' (4 * u) b (4 * t) (omega arith),
            put4_before flat' (4 * u) b (4 * t + 1) (omega arith),
            put4_before flat' (4 * u) b (4 * t + 2) (omega arith),
            put4_before flat' (4 * u) b (4 * t + 3) (omega arith),
          )

      flat_each : (t : ℕ) → t < u + 1 → Dec (t ≡ u) → flat_in (put4 flat' (4 * u) b) t ≡ box_of (segment_at ls (get_or xs t 0))
      flat_each t l (yes q) = rw q flat_same
      flat_each t l (no q) = flat_other t (omega arith) ∙ g.done.each t (omega arith)

      pub flat_more : Flattening ls xs flat (u + 1)
          (set (set (set (set flat' (4 * u) b.min_x) (4 * u + 1) b.min_y) (4 * u + 2) b.max_x) (4 * u + 3) b.max_y)
      unfolding put4
      flat_more =
          record {
            asks = g.asks;
            to = omega arith;
            done = record { each = λ t l. flat_each t l (ℕ_discrete t u); long = put4_long flat' (4 * u) b ∙ g.done.long };
          }

-- ---- the box within all

each_of : (a b d e a' b' d' e' : Bool) → (T a → T a') → (T b → T b') → (T d → T d') → (T e → T e')
    → (a && (b && (d && e))) ≡ true → (a' && (b' && (d' && e'))) ≡ true
each_of a b d e a' b' d' e' p q s t h =
    let k = holds (a && (b && (d && e))) h in
    let l = and_r a (b && (d && e)) k in
    let m = and_r b (d && e) l in
    is_true (a' && (b' && (d' && e')))
    (and_i a' (b' && (d' && e')) (p (and_l a (b && (d && e)) k))
    (and_i b' (d' && e') (q (and_l b (d && e) l)) (and_i d' e' (s (and_l d e m)) (t (and_r d e m)))))

within_one : (b inner other : Box)
    → (le other.min_x inner.min_x && (le inner.max_x other.max_x && (le other.min_y inner.min_y && le inner.max_y other.max_y))) ≡ true
    → overlaps b inner ≡ true → overlaps b other ≡ true
unfolding overlaps
within_one b inner other h =
    let x = le other.min_x inner.min_x in
    let y = le inner.max_x other.max_x in
    let z = le other.min_y inner.min_y in
    let w = le inner.max_y other.max_y in
    let k = holds (x && (y && (z && w))) h in
    let l = and_r x (y && (z && w)) k in
    let m = and_r y (z && w) l in
    each_of (le inner.min_x b.max_x) (le b.min_x inner.max_x) (le inner.min_y b.max_y) (le b.min_y inner.max_y)
    (le other.min_x b.max_x) (le b.min_x other.max_x) (le other.min_y b.max_y) (le b.min_y other.max_y)
    (λ t. float_le_trans other.min_x inner.min_x b.max_x (and_l x (y && (z && w)) k) t)
    (λ t. float_le_trans b.min_x inner.max_x other.max_x t (and_l y (z && w) l))
    (λ t. float_le_trans other.min_y inner.min_y b.max_y (and_l z w m) t)
    (λ t. float_le_trans b.min_y inner.max_y other.max_y t (and_r z w m))

inner_none : (m : ℕ) (bs : List Float) (r : Box) → r ≡ nowhere → Inner m bs r
unfolding overlaps le
inner_none m bs r e = rw e (record { each = λ u h b k. absurd (true≢false (sym k)) })

within_each : (b : Box) (bs : List Float) (m u : ℕ) → within_all b bs m ≡ true → u < m → Dec (u ≡ m - 1) → is_within b (box_in bs u) ≡ true
unfolding within_all
within_each b bs zero u e h d = absurd (omega arith)
within_each b bs (suc m) u e h (yes q) = let k : u ≡ m = omega arith in rw k (is_true (is_within b (box_in bs m)) (and_r (within_all b bs m) (is_within b (box_in bs m)) (holds (within_all b bs m && is_within b (box_in bs m)) e)))
within_each b bs (suc m) u e h (no q) =
    within_each b bs m u (is_true (within_all b bs m) (and_l (within_all b bs m) (is_within b (box_in bs m)) (holds (within_all b bs m && is_within b (box_in bs m)) e))) (omega arith) (ℕ_discrete u (m - 1))

-- what overlaps the box that was found overlaps each
pub inner_says : (ends : Box) (m : ℕ) (bs : List Float) (r : Box) → r ≡ inner_of ends m bs → Inner m bs r
unfolding inner_of is_within
inner_says ends m bs r e = go (leb 8 m && (leb m 513 && (leb 2052 (length bs) && within_all ends bs m))) refl
  where
    all_true : (leb 8 m && (leb m 513 && (leb 2052 (length bs) && within_all ends bs m))) ≡ true → within_all ends bs m ≡ true
    all_true h =
        is_true (within_all ends bs m)
        (and_r (leb 2052 (length bs)) (within_all ends bs m)
        (and_r (leb m 513) (leb 2052 (length bs) && within_all ends bs m)
        (and_r (leb 8 m) (leb m 513 && (leb 2052 (length bs) && within_all ends bs m)) (holds (leb 8 m && (leb m 513 && (leb 2052 (length bs) && within_all ends bs m))) h))))

    go : (b : Bool) → (leb 8 m && (leb m 513 && (leb 2052 (length bs) && within_all ends bs m))) ≡ b → Inner m bs r
    go true h =
        let q : r ≡ ends = e ∙ rw h in
        rw q (record { each = λ u k b. within_one b ends (box_in bs u) (within_each ends bs m u (all_true h) k (ℕ_discrete u (m - 1))) })
    go false h = inner_none m bs r (e ∙ rw h)

-- ---- entry 512

module _ (ls : Lines) (xs : List ℕ) (bs bs' : List Float) (a : GatherAsks ls xs bs) (f : BoxesIn ls xs (length xs) bs bs') where
  pub gathered_room : BoxRoom (length xs) bs'
  gathered_room = record { few = omega (arith, a.most); long = omega (arith, f.long, a.room.long) }

  pub last_room : BoxRoom 513 bs'
  last_room = record { few = omega arith; long = omega (arith, f.long, a.room.long) }

  module _ (ends b : Box) (n : b ≡ inner_of ends (length xs) bs') (bs'' : List Float) (k : bs'' ≡ with_box bs' 512 b) where
    last_is : box_in (with_box bs' 512 b) 512 ≡ b
    last_is = with_same bs' 512 b (omega arith) last_room.long

    others_are : (t : ℕ) → t < length xs → box_in (with_box bs' 512 b) t ≡ box_in bs' t
    others_are t h = with_other bs' 512 b (omega arith) t (omega (arith, a.most)) (λ e. omega (arith, a.most))

    pub gathered : Gathered ls xs (length xs) bs bs''
    gathered =
        rw k
        (record {
          each = λ t h. others_are t h ∙ f.each t h;
          long = with_long bs' 512 b ∙ f.long;
          says = record { each = λ t h o j. ap (overlaps o) (others_are t h) ∙ (inner_says ends (length xs) bs' b n).each t h o (sym (ap (overlaps o) last_is) ∙ j) };
        })

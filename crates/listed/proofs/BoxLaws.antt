-- The box of a line as the code makes it, when two overlap, and the box within all of a room. Assumes nothing.
use mathlib.Core.Path.{◌≡◌, refl, sym, ap, ◌∙◌}
use mathlib.Core.Bool.{Bool, true, false, cond, ◌&&◌}
use mathlib.Core.List.{List}
use Prim.Native.Nat.{ℕ, ◌+◌, ◌≤◌, ◌<◌}
use native.Mathlib.Numerals.{add-one}
use native.Mathlib.Omega.{arith}
use lib.ListN.{length, get_or}
use lib.Ieee.{Float, nan, inf, fin, is_nan, eq, lt, le}
use borrow.Author.Tests.{le-leb, lt-leb}
use Rattle.numbers.specs.Order.{least_of, greatest_of}
use Rattle.grid.proofs.Bools.{and_left, and_right}
use Rattle.grid.specs.declared.Box.{Box}
use Rattle.grid.specs.Domain.{segment_by}
use Rattle.grid.specs.Boxes.{box_of}
use Rattle.listed.specs.Rooms.{BoxRoom, nowhere, is_within, within_all, inner_of}

pub box_is : (x0 y0 x1 y1 a b d e : Float) → a ≡ least_of x0 x1 → b ≡ least_of y0 y1 → d ≡ greatest_of x0 x1 → e ≡ greatest_of y0 y1
    → ◌≡◌ {A = Box} (record { min_x = a; min_y = b; max_x = d; max_y = e }) (box_of (segment_by x0 y0 x1 y1))
unfolding box_of
box_is x0 y0 x1 y1 a b d e p q s t = rw (p, q, s, t)

-- only a NaN is not equal to itself
number : (a : Float) → eq a a ≡ true → is_nan a ≡ false
unfolding eq is_nan
number nan h = sym h
number (inf s) h = refl
number (fin s m e) h = refl

plain_least : (a b : Float) → eq a a ≡ true → cond (lt b a) b a ≡ least_of a b
unfolding least_of
plain_least a b h = rw (number a h)

plain_greatest : (a b : Float) → eq a a ≡ true → cond (lt a b) b a ≡ greatest_of a b
unfolding greatest_of
plain_greatest a b h = rw (number a h)

-- the same where no start is a NaN
pub box_plain : (x0 y0 x1 y1 a b d e : Float) → (eq x0 x0 && eq y0 y0) ≡ true
    → a ≡ cond (lt x1 x0) x1 x0 → b ≡ cond (lt y1 y0) y1 y0 → d ≡ cond (lt x0 x1) x1 x0 → e ≡ cond (lt y0 y1) y1 y0
    → ◌≡◌ {A = Box} (record { min_x = a; min_y = b; max_x = d; max_y = e }) (box_of (segment_by x0 y0 x1 y1))
box_plain x0 y0 x1 y1 a b d e h p q s t =
    let x = and_left (eq x0 x0) (eq y0 y0) h in
    let y = and_right (eq x0 x0) (eq y0 y0) h in
    box_is x0 y0 x1 y1 a b d e (p ∙ plain_least x0 x1 x) (q ∙ plain_least y0 y1 y) (s ∙ plain_greatest x0 x1 x) (t ∙ plain_greatest y0 y1 y)

-- near ends and then far ends, for axis and then axis
pub both_axes : (p q r s : Bool) → ((p && r) && (q && s)) ≡ (p && (q && (r && s)))
both_axes false q r s = refl
both_axes true true true s = refl
both_axes true true false s = refl
both_axes true false true s = refl
both_axes true false false s = refl

-- ---- the box within all

pub record Narrowing (inner : Box) (many : ℕ) (bs : List Float) (ax ay bx by : Float) (all : Bool) (u : ℕ) : Type 0 where
  pub room : BoxRoom many bs
  pub ax_is : ax ≡ inner.min_x
  pub ay_is : ay ≡ inner.min_y
  pub bx_is : bx ≡ inner.max_x
  pub by_is : by ≡ inner.max_y
  pub to : u ≤ many
  pub so_far : all ≡ within_all inner bs u

pub inner_start : (inner : Box) (many : ℕ) (bs : List Float) → BoxRoom many bs
    → Narrowing inner many bs inner.min_x inner.min_y inner.max_x inner.max_y true 0
unfolding within_all
inner_start inner many bs r =
    record { room = r; ax_is = refl; ay_is = refl; bx_is = refl; by_is = refl; to = omega arith; so_far = refl }

module _ (inner : Box) (many : ℕ) (bs : List Float) (ax ay bx by : Float) (all : Bool) (u : ℕ) (n : Narrowing inner many bs ax ay bx by all u) where
  pub inner_end : many ≤ u → all ≡ within_all inner bs many
  inner_end h = let q : u ≡ many = omega (arith, n.to) in n.so_far ∙ ap (within_all inner bs) q

  pub inner_more : u < many
      → Narrowing inner many bs ax ay bx by (all && (le (get_or bs u nan) ax && (le bx (get_or bs (1026 + u) nan) && (le (get_or bs (513 + u) nan) ay && le by (get_or bs (1539 + u) nan))))) (u + 1)
  unfolding within_all is_within
  inner_more h =
      record {
        room = n.room;
        ax_is = n.ax_is;
        ay_is = n.ay_is;
        bx_is = n.bx_is;
        by_is = n.by_is;
        to = omega arith;
        so_far = rw (n.so_far, n.ax_is, n.ay_is, n.bx_is, n.by_is, add-one);
      }

module _ (ends : Box) (m : ℕ) (bs : List Float) where
  pub inner_few : m < 8 → nowhere ≡ inner_of ends m bs
  unfolding inner_of
  inner_few h = rw (lt-leb 8 m h)

  module _ (few : 8 ≤ m) where
    pub inner_many : 513 < m → nowhere ≡ inner_of ends m bs
    unfolding inner_of
    inner_many h = rw (le-leb 8 m few, lt-leb m 513 h)

    module _ (many : m ≤ 513) where
      pub inner_short : length bs < 2052 → nowhere ≡ inner_of ends m bs
      unfolding inner_of
      inner_short h = rw (le-leb 8 m few, le-leb m 513 many, lt-leb 2052 (length bs) h)

      module _ (long : 2052 ≤ length bs) (b : Bool) (e : b ≡ within_all ends bs m) where
        pub inner_is : b ≡ true → ends ≡ inner_of ends m bs
        unfolding inner_of
        inner_is h = rw (le-leb 8 m few, le-leb m 513 many, le-leb 2052 (length bs) long, ← e, h)

        pub inner_not : b ≡ false → nowhere ≡ inner_of ends m bs
        unfolding inner_of
        inner_not h = rw (le-leb 8 m few, le-leb m 513 many, le-leb 2052 (length bs) long, ← e, h)

-- No coordinate of checked lines is a NaN, so the lesser of two is the one that a single comparison picks. Assumes nothing.
use mathlib.Core.Path.{◌≡◌, refl, sym, ◌∙◌}
use mathlib.Core.Bool.{true, false, cond, true≢false}
use Prim.Native.Nat.{ℕ, ◌<◌}
use lib.ListN.{length, get_or}
use lib.Ieee.{Float, nan, inf, fin, lt, eq, le, is_nan}
use Rattle.numbers.specs.Order.{least_of, greatest_of, magnitude_of}
use Rattle.grid.specs.declared.Box.{Box}
use Rattle.grid.specs.Domain.{Lines, segment_at, coordinate, point, segment, line_fits}
use Rattle.grid.specs.Boxes.{box_of}
use Rattle.grid.proofs.Bools.{and_left, and_right}
use Rattle.grid.proofs.Fine.{LinesFit, lines_fine}
use Rattle.visit.specs.Inside.{LineAsks}

number : (v : Float) → coordinate v ≡ true → is_nan v ≡ false
unfolding coordinate magnitude_of le lt eq is_nan
number nan h = absurd (true≢false (sym h))
number (inf s) h = refl
number (fin s m e) h = refl

lesser_is : (a b : Float) → is_nan a ≡ false → cond (lt b a) b a ≡ least_of a b
unfolding least_of
lesser_is a b h = rw h

greater_is : (a b : Float) → is_nan a ≡ false → cond (lt a b) b a ≡ greatest_of a b
unfolding greatest_of
greater_is a b h = rw h

module _ (ls : Lines) (i : ℕ) (h : LineAsks ls i) where
  fit : LinesFit ls
  fit = lines_fine ls h.fine

  starts : point (get_or ls.start_x i nan) (get_or ls.start_y i nan) ≡ true
  unfolding line_fits segment
  starts = and_left _ _ (fit.each i h.one)

  x_number : is_nan (get_or ls.start_x i nan) ≡ false
  unfolding point
  x_number = number (get_or ls.start_x i nan) (and_left (coordinate (get_or ls.start_x i nan)) (coordinate (get_or ls.start_y i nan)) starts)

  y_number : is_nan (get_or ls.start_y i nan) ≡ false
  unfolding point
  y_number = number (get_or ls.start_y i nan) (and_right (coordinate (get_or ls.start_x i nan)) (coordinate (get_or ls.start_y i nan)) starts)

  pub in_start_y : i < length ls.start_y
  in_start_y = rw fit.same.«start_y» h.one

  pub in_end_x : i < length ls.end_x
  in_end_x = rw fit.same.«end_x» h.one

  pub in_end_y : i < length ls.end_y
  in_end_y = rw fit.same.«end_y» h.one

  -- the box as the code makes it, by one comparison each
  pub box_is : (a b d e : Float)
      → a ≡ cond (lt (get_or ls.end_x i nan) (get_or ls.start_x i nan)) (get_or ls.end_x i nan) (get_or ls.start_x i nan)
      → b ≡ cond (lt (get_or ls.end_y i nan) (get_or ls.start_y i nan)) (get_or ls.end_y i nan) (get_or ls.start_y i nan)
      → d ≡ cond (lt (get_or ls.start_x i nan) (get_or ls.end_x i nan)) (get_or ls.end_x i nan) (get_or ls.start_x i nan)
      → e ≡ cond (lt (get_or ls.start_y i nan) (get_or ls.end_y i nan)) (get_or ls.end_y i nan) (get_or ls.start_y i nan)
      → ◌≡◌ {A = Box} (record { min_x = a; min_y = b; max_x = d; max_y = e }) (box_of (segment_at ls i))
  unfolding box_of
  box_is a b d e p q s t =
      rw (
        p ∙ lesser_is (get_or ls.start_x i nan) (get_or ls.end_x i nan) x_number,
        q ∙ lesser_is (get_or ls.start_y i nan) (get_or ls.end_y i nan) y_number,
        s ∙ greater_is (get_or ls.start_x i nan) (get_or ls.end_x i nan) x_number,
        t ∙ greater_is (get_or ls.start_y i nan) (get_or ls.end_y i nan) y_number,
      )

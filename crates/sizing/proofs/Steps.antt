-- The steps of the code, as the definitions say them: its literals, the bounds line by line, the area by cases, the first size. Assumes nothing.
use Rattle.std.proofs.Common.{◌≡◌, ℕ, ◌+◌, ◌-◌, ◌*◌, ◌^◌, ◌<◌, ◌≤◌, min, true, false, List, get_or, pos, refl, ap, ◌∙◌, ap₂, add-one, arith}
use lib.Ieee.{Float, nan, binary64, round, of_bits, of_int, neg, add, sub, mul, div, lt}
use Rattle.numbers.specs.Order.{least_of, greatest_of}
use Rattle.numbers.specs.Ceiling.{ceiling_of}
use Rattle.numbers.specs.Root.{root}
use Rattle.grid.specs.declared.Grid.{Grid}
use Rattle.grid.specs.Domain.{Lines}
use Rattle.sizing.specs.declared.Extent.{Extent}
use Rattle.sizing.specs.declared.Sizing.{Sizing}
use Rattle.sizing.specs.declared.Sizing.TheVariants.{Square, Axes}
use Rattle.sizing.specs.declared.Size.{Size}
use Rattle.sizing.specs.Bounds.{picked, lowest, highest, reach, whole, extent_of}
use Rattle.sizing.specs.Size.{largest, area_of, square_side, length_on, first_size}
use Rattle.sizing.specs.Counts.{count_on, grid_of}

-- ---- the literals

pub literal_1e_9 : of_bits binary64 4472406533629990549 ≡ round binary64 false 1 1000000000
unfolding of_bits round
literal_1e_9 = refl

pub literal_1e_6 : of_bits binary64 4517329193108106637 ≡ round binary64 false 1 1000000
unfolding of_bits round
literal_1e_6 = refl

pub literal_1000 : of_bits binary64 4652007308841189376 ≡ round binary64 false 1000 1
unfolding of_bits round
literal_1000 = refl

-- ---- the bounds of one axis: with no line, and with one more

pub picked_more : (pick : Float → Float → Float) (none : Float) (starts ends : List Float) (i : ℕ) {l m r : Float}
    → l ≡ picked pick none starts ends i → m ≡ pick (get_or starts i nan) (get_or ends i nan) → r ≡ pick l m → r ≡ picked pick none starts ends (i + 1)
unfolding picked
picked_more pick none starts ends i a b e = rw add-one (e ∙ ap₂ pick a b)

module _ (starts ends : List Float) where
  pub lowest_none : of_bits binary64 9218868437227405311 ≡ lowest starts ends 0
  unfolding lowest of_bits round
  lowest_none = refl

  pub highest_none : neg (of_bits binary64 9218868437227405311) ≡ highest starts ends 0
  unfolding highest of_bits neg round
  highest_none = refl

  pub lowest_more : (i : ℕ) {l m r : Float} → l ≡ lowest starts ends i → m ≡ least_of (get_or starts i nan) (get_or ends i nan) → r ≡ least_of l m → r ≡ lowest starts ends (i + 1)
  unfolding lowest
  lowest_more i a b e = picked_more least_of (round binary64 false ((2 ^ 53 - 1) * 2 ^ 971) 1) starts ends i a b e

  pub highest_more : (i : ℕ) {l m r : Float} → l ≡ highest starts ends i → m ≡ greatest_of (get_or starts i nan) (get_or ends i nan) → r ≡ greatest_of l m → r ≡ highest starts ends (i + 1)
  unfolding highest
  highest_more i a b e = picked_more greatest_of (round binary64 true ((2 ^ 53 - 1) * 2 ^ 971) 1) starts ends i a b e

  pub all_lines : (i n : ℕ) → i ≤ n → n ≤ i → {l h : Float} → l ≡ lowest starts ends i → h ≡ highest starts ends i → (l ≡ lowest starts ends n) × (h ≡ highest starts ends n)
  all_lines i n a b p q = let e : i ≡ n = omega arith in (p ∙ ap (lowest starts ends) e, q ∙ ap (highest starts ends) e)

-- both axes
pub extent_made : (ls : Lines) (n : ℕ) {lx hx ly hy : Float} → n ≡ whole ls
    → lx ≡ lowest ls.start_x ls.end_x n → hx ≡ highest ls.start_x ls.end_x n
    → ly ≡ lowest ls.start_y ls.end_y n → hy ≡ highest ls.start_y ls.end_y n
    → ◌≡◌ {A = Extent} (record { min_x = lx; min_y = ly; width = sub binary64 hx lx; height = sub binary64 hy ly }) (extent_of ls)
unfolding extent_of reach
extent_made ls n k a b c d = cc

-- ---- the area: the number of lines where it is below 1e-9, and else itself

module _ (e : Extent) (n : ℕ) where
  pub area_lines : lt (mul binary64 e.width e.height) (of_bits binary64 4472406533629990549) ≡ true → of_int binary64 (pos n) ≡ area_of e n
  unfolding area_of
  area_lines h = rw (← literal_1e_9, h)

  pub area_itself : lt (mul binary64 e.width e.height) (of_bits binary64 4472406533629990549) ≡ false → mul binary64 e.width e.height ≡ area_of e n
  unfolding area_of
  area_itself h = rw (← literal_1e_9, h)

  -- ---- the first size

  pub square_made : {k a t w r : Float} → k ≡ of_int binary64 (pos n) → a ≡ area_of e n → t ≡ root (div binary64 a k) → w ≡ greatest_of e.width e.height
      → r ≡ largest t w → r ≡ square_side e n
  unfolding square_side
  square_made p q s u x = cc

  module _ (z : Sizing) where
    pub size_square : {r : Float} → z ≡ Square → r ≡ square_side e n → ◌≡◌ {A = Size} (record { cell_width = r; cell_height = r }) (first_size z e n)
    unfolding first_size
    size_square is p = rw is (cc)

    pub size_axes : {k s w h : Float} → z ≡ Axes → k ≡ of_int binary64 (pos n) → s ≡ root k → w ≡ length_on e.width s → h ≡ length_on e.height s
        → ◌≡◌ {A = Size} (record { cell_width = w; cell_height = h }) (first_size z e n)
    unfolding first_size
    size_axes is p q u v = rw is (cc)

pub largest_made : (v reach : Float) {a r : Float} → a ≡ greatest_of v (div binary64 reach (of_bits binary64 4652007308841189376))
    → r ≡ greatest_of a (of_bits binary64 4517329193108106637) → r ≡ largest v reach
unfolding largest
largest_made v reach p q = rw (← literal_1e_6, ← literal_1000) (cc)

-- ---- the counts: the ceiling, or the largest that 32 bits hold

module _ (width size : Float) (n : ℕ) (e : n ≡ ceiling_of (div binary64 (add binary64 width (of_bits binary64 4472406533629990549)) size)) where
  pub count_ceiling : n ≤ 4294967295 → n ≡ count_on width size
  unfolding count_on
  count_ceiling h = let k : n ≡ min n (2 ^ 32 - 1) = omega arith in k ∙ ap (λ (m : ℕ). min m (2 ^ 32 - 1)) (rw literal_1e_9 at e)

  pub count_largest : 4294967295 < n → 4294967295 ≡ count_on width size
  unfolding count_on
  count_largest h = let k : 4294967295 ≡ min n (2 ^ 32 - 1) = omega arith in k ∙ ap (λ (m : ℕ). min m (2 ^ 32 - 1)) (rw literal_1e_9 at e)

pub grid_made : (e : Extent) (s : Size) {c r : ℕ} → c ≡ count_on e.width s.cell_width → r ≡ count_on e.height s.cell_height
    → ◌≡◌ {A = Grid}
    (record { min_x = e.min_x; min_y = e.min_y; cell_width = s.cell_width; cell_height = s.cell_height; cols = c; rows = r })
    (grid_of e s)
unfolding grid_of
grid_made e s p q = cc

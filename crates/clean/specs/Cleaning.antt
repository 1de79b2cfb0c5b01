-- What cleaning keeps of a chain, and why it drops a point (document 02, 10): "drops each point outside document 01's coordinate rule, splits the
-- chain there, drops a point equal to the kept one just before it in the same piece, and drops pieces left with fewer than two points. Zeros of
-- either sign are equal." Points are bit patterns. Definitions only.
use Rattle.std.specs.Prelude.{ℕ, Bool, cond, ◌&&◌, leb, length}
use mathlib.Core.List.{List, [], ◌∷◌, ◌++◌, map, flat_map}
use Rattle.std.specs.Float.{binary64}
use Rattle.std.specs.Float.Ieee.{of_bits, eq}
use Rattle.grid.specs.Domain.{point}
use Rattle.wkb.specs.Bytes.{Point}

-- ---- points

-- the coordinate rule, of both coordinates
unfoldable pub good : Point → Bool
good p = point (of_bits binary64 p.x) (of_bits binary64 p.y)

-- equal by value on both axes
unfoldable pub same_point : Point → Point → Bool
same_point p q = eq (of_bits binary64 p.x) (of_bits binary64 q.x) && eq (of_bits binary64 p.y) (of_bits binary64 q.y)

-- ---- what is kept

-- a point joins the first piece of those that follow it
unfoldable pub onto : Point → List (List Point) → List (List Point)
onto p [] = (p ∷ []) ∷ []
onto p (ps ∷ pss) = (p ∷ ps) ∷ pss

-- a member split into pieces at each point outside the rule, which is in none of them
unfoldable pub pieces : List Point → List (List Point)
pieces [] = [] ∷ []
pieces (p ∷ ps) = cond (good p) (onto p (pieces ps)) ([] ∷ pieces ps)

-- of the points after a kept one, those that do not equal the kept one just before them
unfoldable pub thin_after : Point → List Point → List Point
thin_after before [] = []
thin_after before (p ∷ ps) = cond (same_point before p) (thin_after before ps) (p ∷ thin_after p ps)

-- a piece without its repeats
unfoldable pub thin : List Point → List Point
thin [] = []
thin (p ∷ ps) = p ∷ thin_after p ps

-- two points or more
unfoldable pub is_piece : List Point → Bool
is_piece ps = leb 2 (length ps)

-- what is kept of a piece: the piece without its repeats, if two points or more are left
unfoldable pub kept_of : List Point → List (List Point)
kept_of ps = cond (is_piece (thin ps)) (thin ps ∷ []) []

-- of a member
unfoldable pub cleaned_member : List Point → List (List Point)
cleaned_member ps = flat_map kept_of (pieces ps)

-- WHAT IS KEPT of members: pieces, in their order, each a member from now on
unfoldable pub cleaned : List (List Point) → List (List Point)
cleaned pss = flat_map cleaned_member pss

-- ---- why a point is dropped

-- the reasons as numbers
abbrev pub kept : ℕ
kept = 0

abbrev pub range : ℕ
range = 1

abbrev pub repeat : ℕ
repeat = 2

abbrev pub short : ℕ
short = 3

-- of points after a kept one, r being the reason of those that are no repeats
unfoldable pub reasons_after : ℕ → Point → List Point → List ℕ
reasons_after r before [] = []
reasons_after r before (p ∷ ps) = cond (same_point before p) (repeat ∷ reasons_after r before ps) (r ∷ reasons_after r p ps)

unfoldable pub reasons_by : ℕ → List Point → List ℕ
reasons_by r [] = []
reasons_by r (p ∷ ps) = r ∷ reasons_after r p ps

-- of a piece: its repeats are dropped first, and the others with it if fewer than two are left
unfoldable pub piece_reasons : List Point → List ℕ
piece_reasons ps = reasons_by (cond (is_piece (thin ps)) kept short) ps

-- lists with a number between each and the next
unfoldable pub between_pieces : ℕ → List (List ℕ) → List ℕ
between_pieces n [] = []
between_pieces n (xs ∷ []) = xs
between_pieces n (xs ∷ (ys ∷ more)) = xs ++ (n ∷ between_pieces n (ys ∷ more))

-- of a member: between two pieces is a point outside the rule
unfoldable pub member_reasons : List Point → List ℕ
member_reasons ps = between_pieces range (map piece_reasons (pieces ps))

-- THE REASON OF EACH POINT of members, in their order
unfoldable pub reasons : List (List Point) → List ℕ
reasons pss = flat_map member_reasons pss

-- of values beside reasons, those that are kept
unfoldable pub kept_values : {A : Type 0} → List ℕ → List A → List A
kept_values [] vs = []
kept_values (r ∷ rs) [] = []
kept_values (r ∷ rs) (v ∷ vs) = cond (leb r kept) (v ∷ kept_values rs vs) (kept_values rs vs)

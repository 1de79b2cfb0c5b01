-- What is answered for the lines of members, and left in the four coordinate slices of a build (document 02, 1: "lines run member after member,
-- none joining two"; refusals 3, 2 and 5). Definitions only.
use Rattle.std.specs.Prelude.{Ok, Err, Result, ℕ, ◌≡◌, List, map, Float, length}
use Rattle.refusals.specs.declared.Refusal.{Refusal}
use Rattle.std.specs.Float.{binary64}
use Rattle.std.specs.Float.Ieee.{of_bits}
use Rattle.refusals.specs.Refusals.{Answer, gives, ◌then◌, answer_by, left_in, zero_beyond}
use Rattle.grid.specs.Domain.{Lines, count, count_check, lengths_check}
use Rattle.wkb.specs.Bytes.{Point}
use Rattle.wkb.specs.Reading.{nought}
use Rattle.wkb.specs.Multi.{starts_of, ends_of}
use Rattle.members.specs.Held.{points_of, chains_of, held_check}
use Rattle.members.specs.Writing.{fit_check}

-- members, where there is room for their lines
unfoldable pub lined_within : ℕ → List (List Point) → Answer (List (List Point))
lined_within room pss = count_check (length (starts_of pss)) then fit_check room (length (starts_of pss)) then gives pss

-- ls are the four slices as they are lent
unfoldable pub lining : List ℕ → List ℕ → List ℕ → Lines → Answer (List (List Point))
lining x y lengths ls = lengths_check ls then held_check (length x) (length y) lengths then lined_within (count ls) (chains_of lengths (points_of x y))

-- the answer: how many lines, or the refusal
unfoldable pub lined_of : Answer (List (List Point)) → Result ℕ Refusal
lined_of o = answer_by Err (λ pss. Ok (length (starts_of pss))) o

-- What a slice holds then, f being its coordinate and `ends` the ends of the lines that it is for. Every bit pattern of a NaN gives the NaN.
unfoldable pub ends_left : (Point → ℕ) → (List (List Point) → List Point) → Answer (List (List Point)) → List Float → List Float
ends_left f ends o was = left_in nought was o (λ pss. zero_beyond nought (length was) (map (λ p. of_bits binary64 (f p)) (ends pss)))

-- the four slices then
unfoldable pub lines_left : Answer (List (List Point)) → Lines → Lines
lines_left o ls = record {
  start_x = ends_left (λ p. p.x) starts_of o ls.start_x;
  start_y = ends_left (λ p. p.y) starts_of o ls.start_y;
  end_x = ends_left (λ p. p.x) ends_of o ls.end_x;
  end_y = ends_left (λ p. p.y) ends_of o ls.end_y;
}

-- The promise: the answer, and what the slices hold then.
pub record LinedAs (x y lengths : List ℕ) (ls : Lines) (r : Result ℕ Refusal) (ls' : Lines) : Type 0 where
  pub answer : r ≡ lined_of (lining x y lengths ls)
  pub left : ls' ≡ lines_left (lining x y lengths ls) ls

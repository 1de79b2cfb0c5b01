-- What private functions promise: the ends of lines in one coordinate, and what the four slices of lines hold. Definitions only.
use Rattle.std.specs.Prelude.{ℕ, ◌-◌, List, [], ◌∷◌, ◌++◌, map, Float, length, take, drop, replicate}
use Rattle.std.specs.Float.{binary64}
use Rattle.std.specs.Float.Ieee.{of_bits}
use Rattle.refusals.specs.Refusals.{zero_beyond}
use Rattle.grid.specs.Domain.{Lines}
use Rattle.wkb.specs.Reading.{nought}

-- of coordinates cs, cut into members by their lengths: all but the last of each where `skip` is 0, and all but the first where it is 1
unfoldable pub ends_at : {A : Type 0} → ℕ → List ℕ → List A → List A
ends_at skip [] cs = []
ends_at skip (n ∷ ns) cs = take (n - 1) (drop skip cs) ++ ends_at skip ns (drop n cs)

-- zero in each of four slices
unfoldable pub zero_lines : Lines → Lines
zero_lines ls = record {
  start_x = replicate (length ls.start_x) nought;
  start_y = replicate (length ls.start_y) nought;
  end_x = replicate (length ls.end_x) nought;
  end_y = replicate (length ls.end_y) nought;
}

-- the floats of one coordinate of one end of each line, and zero beyond
unfoldable pub floats_at : ℕ → List ℕ → List ℕ → List Float → List Float
floats_at skip ns cs s = zero_beyond nought (length s) (map (of_bits binary64) (ends_at skip ns cs))

-- the lines of members whose coordinates are xs and ys
unfoldable pub lines_put : List ℕ → List ℕ → List ℕ → Lines → Lines
lines_put ns xs ys ls = record {
  start_x = floats_at 0 ns xs ls.start_x;
  start_y = floats_at 0 ns ys ls.start_y;
  end_x = floats_at 1 ns xs ls.end_x;
  end_y = floats_at 1 ns ys ls.end_y;
}

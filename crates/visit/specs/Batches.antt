-- Document 01: "A batch starts at a bookmark, writes pairs until its output is full or the end comes." The tests that a batch makes of those
-- that are left, and which of them it hands out. Definitions only.
use Rattle.std.specs.Prelude.{ℕ, zero, suc, Bool, true, false, List, [], ◌∷◌, map}
use Rattle.grid.specs.Domain.{Lines}
use Rattle.seek.specs.declared.Place.{Place}
use Rattle.seek.specs.Tests.{Pair}
use Rattle.visit.specs.Overlap.{overlap}

-- the room that a test leaves of one more than `room`
unfoldable pub room_after : Bool → ℕ → ℕ
room_after true room = room
room_after false room = suc room

-- the tests that a batch makes: from the first on, until `room` of them overlap or none is left
unfoldable pub made : Lines → List Pair → ℕ → List Pair
made ls [] room = []
made ls (p ∷ ps) zero = []
made ls (p ∷ ps) (suc room) = p ∷ made ls ps (room_after (overlap ls p.first p.second) room)

unfoldable pub keep_if : Bool → Pair → List Pair → List Pair
keep_if true p ps = p ∷ ps
keep_if false p ps = ps

-- those of some tests that overlap
unfoldable pub overlapping : Lines → List Pair → List Pair
overlapping ls [] = []
overlapping ls (p ∷ ps) = keep_if (overlap ls p.first p.second) p (overlapping ls ps)

-- the pairs that a batch hands out
abbrev pub handed : Lines → List Pair → ℕ → List Pair
handed ls ps room = overlapping ls (made ls ps room)

abbrev pub firsts : List Pair → List ℕ
firsts ps = map (λ (p : Pair). p.first) ps

abbrev pub seconds : List Pair → List ℕ
seconds ps = map (λ (p : Pair). p.second) ps

-- the numbers of their places
abbrev pub place_numbers : (Place → ℕ) → List Pair → List ℕ
place_numbers number ps = map (λ (p : Pair). number p.place) ps

-- Document 01, "The walk": what the turns push. A push that drops a cell equal to the last is left out here: it changes nothing in the answer,
-- which has no cell twice (`dropping` in walk/proofs/Faithful.antt). Definitions only.
use Rattle.std.specs.Prelude.{ℕ, zero, suc, ◌+◌, ◌*◌, Bool, true, false, cond, ◌&&◌, List, [], ◌∷◌, ◌++◌, ℤ, pos, negsuc, nat_lt}
use Rattle.refusals.specs.Refusals.{refusal, Answer, refused, gives, ◌into◌}
use Rattle.turns.specs.declared.Turn.{Turn}
use Rattle.turns.specs.Turns.{Ray, State, turn_of, goes_of, stepped_of, moved_of}

-- c where the test holds
unfoldable pub kept_if : Bool → ℕ → List ℕ
kept_if true c = c ∷ []
kept_if false c = []

-- a push keeps only cells inside the grid; a cell's number counts along the rows
unfoldable pub push_of : ℕ → ℕ → ℤ → ℤ → List ℕ
push_of cols rows (pos col) (pos row) = kept_if (nat_lt col cols && nat_lt row rows) (row * cols + col)
push_of cols rows (pos col) (negsuc n) = []
push_of cols rows (negsuc n) row = []

-- both ways: the side cell in x, then in y
unfoldable pub sides_of : Bool → ℕ → ℕ → Ray → State → List ℕ
sides_of false cols rows r s = []
sides_of true cols rows r s = push_of cols rows (stepped_of r.x s.x) s.y.index ++ push_of cols rows s.x.index (stepped_of r.y s.y)

-- what a turn pushes: the side cells, and the cell that it moves to
unfoldable pub pushed_of : Turn → ℕ → ℕ → Ray → State → List ℕ
pushed_of k cols rows r s =
    sides_of (k.x && k.y) cols rows r s
    ++ push_of cols rows (moved_of k r s).x.index (moved_of k r s).y.index

-- what a walk comes to: cells, or a refusal
abbrev pub Outcome : Type 0
Outcome = Answer (List ℕ)

-- xs, and then what comes
unfoldable pub before : List ℕ → Outcome → Outcome
before xs o = o into λ ys. gives (xs ++ ys)

-- what comes, and then ys
unfoldable pub followed_by : Outcome → List ℕ → Outcome
followed_by o ys = o into λ xs. gives (xs ++ ys)

-- the state after the turn that comes next, and whether there is one
unfoldable pub next_of : Ray → State → State
next_of r s = moved_of (turn_of r s) r s

unfoldable pub going_of : Ray → State → Bool
going_of r s = goes_of (turn_of r s)

-- the pushes of the turns from a state on, while there is a turn, with so many left; refusal 7 where one more would be made
unfoldable pub turns : ℕ → ℕ → ℕ → Ray → State → Outcome
turns zero cols rows r s = cond (going_of r s) (refused (refusal 7 0)) (gives [])
turns (suc left) cols rows r s = cond (going_of r s) (before (pushed_of (turn_of r s) cols rows r s) (turns left cols rows r (next_of r s))) (gives [])

-- the start cell is pushed; the turns, 5,000 at most
abbrev pub onward_of : ℕ → ℕ → Ray → State → Outcome
onward_of cols rows r s = before (push_of cols rows s.x.index s.y.index) (turns 5000 cols rows r s)

-- after the loop the end cell is pushed
unfoldable pub walked_of : ℕ → ℕ → Ray → State → Outcome
walked_of cols rows r s = followed_by (onward_of cols rows r s) (push_of cols rows r.x.end r.y.end)

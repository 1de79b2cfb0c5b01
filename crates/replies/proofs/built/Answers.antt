-- `replies::built` meets its contract: each case of the answer is handed over. Assumes nothing.
use Prim.Native.Nat.{ℕ}
use mathlib.Core.Path.{◌≡◌, sym, ap, ◌∙◌}
use mathlib.Core.List.{[], ◌∷◌}
use lib.Ieee.{binary64, to_bits}
use Rattle.build.specs.declared.Standing.{Standing}
use Rattle.replies.specs.Replies.{success}
use Rattle.replies.specs.Answers.{of_built}
use Rattle.replies.proofs.Handing.{short_replies, handed}
use Rattle.replies.proofs.built.Goals as goal

-- the patterns of the grid's floats, as they were found
of_grid : (t : Standing) (p q w h : ℕ) → p ≡ to_bits binary64 t.grid.min_x → q ≡ to_bits binary64 t.grid.min_y → w ≡ to_bits binary64 t.grid.cell_width
    → h ≡ to_bits binary64 t.grid.cell_height →
    success (p ∷ q ∷ w ∷ h ∷ t.grid.cols ∷ t.grid.rows ∷ t.items ∷ t.globals ∷ [])
    ≡ success
    (to_bits binary64 t.grid.min_x
    ∷ to_bits binary64 t.grid.min_y
    ∷ to_bits binary64 t.grid.cell_width
    ∷ to_bits binary64 t.grid.cell_height
    ∷ t.grid.cols
    ∷ t.grid.rows
    ∷ t.items
    ∷ t.globals
    ∷ [])
of_grid t p q w h a b c d = rw (a, b, c, d)

pub returns-then-out-lt8 : goal.returns-then-out-lt8
returns-then-out-lt8 c = short_replies 8 _ _ c.if-out-lt8.true

pub returns-in-Ok : goal.returns-in-Ok
unfolding of_built
returns-in-Ok c =
    handed 8 c.if-out-lt8.false
    (of_grid _ _ _ _ _ c.to_bits.ensures c.to_bits-in-Ok.ensures c.to_bits-in-Ok-2.ensures c.to_bits-in-Ok-3.ensures
    ∙ ap of_built (sym c.in-Ok.is))
    c.eight.ensures

pub returns-in-Err : goal.returns-in-Err
unfolding of_built
returns-in-Err c = handed 8 c.if-out-lt8.false (ap of_built (sym c.in-Err.is)) c.refused.ensures

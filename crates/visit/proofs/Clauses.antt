-- The clauses of the definitions of a batch, as equations. Assumes nothing.
use mathlib.Core.Path.{◌≡◌, refl, ap, ◌∙◌}
use mathlib.Core.Bool.{true, false}
use mathlib.Core.List.{List, [], ◌∷◌}
use Prim.Native.Nat.{ℕ, suc}
use Rattle.grid.specs.Domain.{Lines}
use Rattle.seek.specs.Tests.{Pair}
use Rattle.visit.specs.Overlap.{overlap}
use Rattle.visit.specs.Batches.{room_after, made, keep_if, overlapping, handed}

module _ (ls : Lines) where
  pub made_none : (room : ℕ) → made ls [] room ≡ []
  unfolding made
  made_none room = refl

  pub made_full : (ps : List Pair) → made ls ps 0 ≡ []
  unfolding made
  made_full [] = refl
  made_full (p ∷ ps) = refl

  pub over_nil : overlapping ls [] ≡ []
  unfolding overlapping
  over_nil = refl

  pub handed_none : (room : ℕ) → handed ls [] room ≡ []
  handed_none room = rw (made_none room, over_nil)

  pub handed_full : (ps : List Pair) → handed ls ps 0 ≡ []
  handed_full ps = rw (made_full ps, over_nil)

  pub over_hit : (p : Pair) (ps : List Pair) → overlap ls p.first p.second ≡ true → overlapping ls (p ∷ ps) ≡ p ∷ overlapping ls ps
  unfolding overlapping keep_if
  over_hit p ps h = rw h

  pub over_miss : (p : Pair) (ps : List Pair) → overlap ls p.first p.second ≡ false → overlapping ls (p ∷ ps) ≡ overlapping ls ps
  unfolding overlapping keep_if
  over_miss p ps h = rw h

  module _ (p : Pair) (ps : List Pair) (room : ℕ) where
    pub made_hit : overlap ls p.first p.second ≡ true → made ls (p ∷ ps) (suc room) ≡ p ∷ made ls ps room
    unfolding made room_after
    made_hit h = rw h

    pub made_miss : overlap ls p.first p.second ≡ false → made ls (p ∷ ps) (suc room) ≡ p ∷ made ls ps (suc room)
    unfolding made room_after
    made_miss h = rw h

    pub handed_hit : overlap ls p.first p.second ≡ true → handed ls (p ∷ ps) (suc room) ≡ p ∷ handed ls ps room
    handed_hit h = ap (overlapping ls) (made_hit h) ∙ over_hit p (made ls ps room) h

    pub handed_miss : overlap ls p.first p.second ≡ false → handed ls (p ∷ ps) (suc room) ≡ handed ls ps (suc room)
    handed_miss h = ap (overlapping ls) (made_miss h) ∙ over_miss p (made ls ps (suc room)) h

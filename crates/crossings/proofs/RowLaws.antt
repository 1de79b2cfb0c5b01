-- A row's line, raised, and what is decided of it and another. Assumes nothing.
use mathlib.Core.Path.{◌≡◌, ◌∙◌}
use mathlib.Core.Bool.{Bool, true, false}
use mathlib.Core.List.{List}
use Prim.Native.Nat.{ℕ, ◌≤◌}
use Rattle.samples.specs.declared.Raised.{Raised}
use Rattle.samples.specs.Samples.{Samples, sample_count, raised_at}
use Rattle.samples.specs.Sharing.{sharing, shares}
use Rattle.by_line.specs.First.{first_by}
use Rattle.first_tests.specs.InsideScan.{keep_at, PlaceAsks}
use Rattle.first_tests.specs.InsideMarked.{MarkedPair}
use Rattle.first_tests.proofs.Passing.{marked_far, marked_near}
use Rattle.crossings.specs.declared.rows.Row.{Row}
use Rattle.crossings.specs.Inside.{row_of, RaisedHeld}

pub row_first : {row other : Row} → row ≡ other → row.first ≡ other.first
row_first e = rw e

pub row_sure : {row other : Row} → row ≡ other → row.sure ≡ other.sure
row_sure e = rw e

pub row_held : {ss : Samples} {row : Row} {a sure : ℕ} {A : Type 0} → row ≡ row_of ss a sure → sure ≤ 1 → A → RaisedHeld ss row A
row_held e l x = record { held = rw e; most = rw e l; asks = x }

pub held_other : {ss : Samples} {row : Row} {A B : Type 0} → RaisedHeld ss row A → B → RaisedHeld ss row B
held_other h x = record { held = h.held; most = h.most; asks = x }

-- one test, of two lines that the marks do not pass over
module _ {ss : Samples} {row : Row} {b common : ℕ} {starts listing counts : List ℕ}
    (a : RaisedHeld ss row (MarkedPair (sample_count ss) row.first b common row.sure starts listing counts)) (h : PlaceAsks (sample_count ss) starts listing counts)
    {other : Raised} (e : other ≡ raised_at ss b) {share : Bool} (q : share ≡ sharing row.line other) where
  is : share ≡ shares ss row.first b
  unfolding shares
  is = q ∙ rw (a.held, e)

  pub test_far : share ≡ false → false ≡ keep_at (shares ss) h.W h.c row.first b
  test_far n = marked_far a.asks h (shares ss) is n

  pub test_near : share ≡ true → {r : Bool} → r ≡ first_by common row.sure row.first b starts listing counts → r ≡ keep_at (shares ss) h.W h.c row.first b
  test_near n f = marked_near a.asks h (shares ss) is n f

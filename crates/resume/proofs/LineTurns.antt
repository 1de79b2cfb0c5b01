-- The turns of one line with each of a run of lines. Assumes nothing.
use mathlib.Core.Path.{◌≡◌, refl, sym, ◌∙◌}
use mathlib.Core.Bool.{Bool}
use mathlib.Core.List.{List, ◌∷◌, ◌++◌}
use Prim.Native.Nat.{ℕ, suc, ◌+◌, ◌-◌, ◌≤◌, ◌<◌}
use native.Mathlib.Nat.{sub-zero}
use native.Mathlib.Omega.{arith}
use lib.ListN.{length, set, length-set}
use Rattle.grid.specs.declared.Box.{Box}
use Rattle.grid.specs.Domain.{Lines, segment_at}
use Rattle.grid.specs.Boxes.{box_of, overlaps}
use Rattle.seek.specs.declared.Place.{Place}
use Rattle.seek.specs.Tests.{Pair, pair, with_each}
use Rattle.seek.specs.Inside.{numbers}
use Rattle.seek.proofs.Clauses.{with_cons, numbers_suc}
use Rattle.visit.specs.Overlap.{overlap}
use Rattle.visit.proofs.Moves.{moved_none, moved_then}
use Rattle.listed.specs.Bytes.{byte_of}
use Rattle.through.specs.Inside.{LineAsks}
use Rattle.listed.proofs.ByteLaws.{byte_most}
use Rattle.through.proofs.ScanTurns.{one_test}
use Rattle.resume.specs.Inside.{LinesAsk, LinesScanned}
use Rattle.resume.proofs.Zeros.{zero_set}

pub record LinesTurn (ls : Lines) (line from many : ℕ) (fs ss : List ℕ) (hits : ℕ) (bounds : Box) (fs' ss' : List ℕ) (hits' u : ℕ) : Type 0 where
  pub asks : LinesAsk ls line from many fs ss hits
  pub bounds_are : bounds ≡ box_of (segment_at ls line)
  pub to : u ≤ many
  pub scanned : LinesScanned ls line from many u fs ss hits fs' ss' hits'

pub lines_start : (ls : Lines) (line from many : ℕ) (fs ss : List ℕ) (hits : ℕ) (bounds : Box) → LinesAsk ls line from many fs ss hits → bounds ≡ box_of (segment_at ls line)
    → LinesTurn ls line from many fs ss hits bounds fs ss hits 0
lines_start ls line from many fs ss hits bounds a e =
    record {
      asks = a;
      bounds_are = e;
      to = omega arith;
      scanned = record {
        moved = λ pl later. let z : from + 0 ≡ from = omega arith in rw (sub-zero, z) (moved_none ls (length fs) (with_each pl line (numbers many from) ++ later) fs ss hits (omega (arith, a.room)));
        most = omega arith;
        first_long = refl;
        second_long = refl;
        first_zero = λ z. z;
        second_zero = λ z. z;
      };
    }

module _ (ls : Lines) (line from many : ℕ) (fs ss : List ℕ) (hits : ℕ) (bounds : Box) (fs' ss' : List ℕ) (hits' u : ℕ) (p : LinesTurn ls line from many fs ss hits bounds fs' ss' hits' u) where
  pub lines_end : many ≤ u → LinesScanned ls line from many many fs ss hits fs' ss' hits'
  lines_end l = let e : u ≡ many = omega (arith, p.to) in rw e at p.scanned

  module _ (l : u < many) where
    pub lines_asks : LineAsks ls (from + u)
    lines_asks = record { alike = p.asks.alike; one = omega (arith, p.asks.below) }

    pub lines_in_first : hits' < length fs'
    lines_in_first = omega (arith, p.scanned.most, p.asks.room, p.scanned.first_long)

    pub lines_in_second : hits' < length ss'
    lines_in_second = omega (arith, p.scanned.most, p.asks.room, p.asks.same, p.scanned.second_long)

    begins : (pl : Place) (later : List Pair)
        → with_each pl line (numbers (many - u) (from + u)) ++ later ≡ pair pl line (from + u) ∷ (with_each pl line (numbers (many - (u + 1)) (from + (u + 1))) ++ later)
    begins pl later =
        let e : many - u ≡ suc (many - (u + 1)) = omega arith in
        let k : from + (u + 1) ≡ suc (from + u) = omega arith in
        rw (e, k, numbers_suc, with_cons)

    pub lines_more : (m : ℕ) (o : Bool) (other : Box) → other ≡ box_of (segment_at ls (from + u)) → o ≡ overlaps bounds other → m ≡ byte_of o
        → LinesTurn ls line from many fs ss hits bounds (set fs' hits' line) (set ss' hits' (from + u)) (hits' + m) (u + 1)
    unfolding overlap
    lines_more m o other eb eo em =
        record {
          asks = p.asks;
          bounds_are = p.bounds_are;
          to = omega arith;
          scanned = record {
            moved = λ pl later.
                moved_then ls (length fs) _ _ _ u 1 fs ss hits fs' ss' hits' _ _ _ (p.scanned.moved pl later)
                (one_test ls (length fs) pl line (from + u) (with_each pl line (numbers (many - u) (from + u)) ++ later) (with_each pl line (numbers (many - (u + 1)) (from + (u + 1))) ++ later) fs' ss' hits'
                (omega (arith, p.scanned.most, p.asks.room)) p.scanned.first_long (p.scanned.second_long ∙ p.asks.same) m o (sym (eo ∙ rw (p.bounds_are, eb))) em (begins pl later));
            most = let q : m ≤ 1 = rw em (byte_most o) in omega (arith, p.scanned.most);
            first_long = length-set fs' hits' line ∙ p.scanned.first_long;
            second_long = length-set ss' hits' (from + u) ∙ p.scanned.second_long;
            first_zero = λ z. zero_set hits' m line fs' (p.scanned.first_zero z);
            second_zero = λ z. zero_set hits' m (from + u) ss' (p.scanned.second_zero z);
          };
        }

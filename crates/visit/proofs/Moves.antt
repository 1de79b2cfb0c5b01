-- From place to place in a run: no test, one that overlaps, one that does not, and two moves after one another. Assumes nothing.
use mathlib.Core.Path.{◌≡◌, refl, sym, ◌∙◌}
use mathlib.Core.Bool.{true, false}
use mathlib.Core.List.{List, [], ◌∷◌, ◌++◌, append_assoc}
use Prim.Native.Nat.{ℕ, suc, ◌+◌, ◌-◌, ◌≤◌, ◌<◌}
use native.Mathlib.Nat.{zero-add}
use native.Mathlib.Numerals.{add-one}
use native.Mathlib.Decide.{dec_lt}
use native.Mathlib.Omega.{arith}
use lib.ListN.{length, take, set, length-set}
use lib.Seq.{take-suc-set, take-set-le}
use Rattle.grid.specs.Domain.{Lines}
use Rattle.seek.specs.Tests.{Pair}
use Rattle.visit.specs.Overlap.{overlap}
use Rattle.visit.specs.Batches.{made, handed, firsts, seconds}
use Rattle.visit.specs.Inside.{TestsMoved}
use Rattle.visit.proofs.Clauses.{made_none, made_full, made_hit, made_miss, handed_none, handed_full, handed_hit, handed_miss}

-- one more is written
wrote : (xs : List ℕ) (i v : ℕ) (ys : List ℕ) → i < length xs → take i xs ++ (v ∷ ys) ≡ take (i + 1) (set xs i v) ++ ys
wrote xs i v ys h = rw (add-one, take-suc-set xs i v h, append_assoc)

-- what is written beyond leaves the first
beyond : (xs : List ℕ) (i v : ℕ) (ys : List ℕ) → take i xs ++ ys ≡ take i (set xs i v) ++ ys
beyond xs i v ys = rw (take-set-le i xs i v (omega arith))

module _ (ls : Lines) (room : ℕ) where
  pub moved_none : (rest : List Pair) (fs ss : List ℕ) (hits : ℕ) → hits ≤ room → TestsMoved ls rest rest 0 room fs ss hits fs ss hits
  moved_none rest fs ss hits h =
      record {
        made_is = sym (zero-add _);
        firsts_are = refl;
        seconds_are = refl;
        counts = zero-add _;
        in_room = h;
        first_long = refl;
        second_long = refl;
      }

  module _ (a b d : List Pair) (s₁ s₂ : ℕ) (fs ss : List ℕ) (h : ℕ) (fs₁ ss₁ : List ℕ) (h₁ : ℕ) (fs₂ ss₂ : List ℕ) (h₂ : ℕ) where
    pub moved_then : TestsMoved ls a b s₁ room fs ss h fs₁ ss₁ h₁ → TestsMoved ls b d s₂ room fs₁ ss₁ h₁ fs₂ ss₂ h₂ → TestsMoved ls a d (s₁ + s₂) room fs ss h fs₂ ss₂ h₂
    moved_then m k =
        record {
          made_is = omega (arith, m.made_is, k.made_is);
          firsts_are = m.firsts_are ∙ k.firsts_are;
          seconds_are = m.seconds_are ∙ k.seconds_are;
          counts = omega (arith, m.counts, k.counts);
          in_room = k.in_room;
          first_long = k.first_long ∙ m.first_long;
          second_long = k.second_long ∙ m.second_long;
        }

  module _ (p : Pair) (ps : List Pair) (fs ss : List ℕ) (hits : ℕ) (h : hits < room) (fl : length fs ≡ room) (sl : length ss ≡ room) where
    -- the room that is left
    left : room - hits ≡ suc (room - (hits + 1))
    left = omega arith

    pub moved_hit : overlap ls p.first p.second ≡ true → TestsMoved ls (p ∷ ps) ps 1 room fs ss hits (set fs hits p.first) (set ss hits p.second) (hits + 1)
    moved_hit o =
        record {
          made_is = rw (left, made_hit ls p ps (room - (hits + 1)) o) (omega arith);
          firsts_are = rw (left, handed_hit ls p ps (room - (hits + 1)) o) (wrote fs hits p.first (firsts (handed ls ps (room - (hits + 1)))) (omega arith));
          seconds_are = rw (left, handed_hit ls p ps (room - (hits + 1)) o) (wrote ss hits p.second (seconds (handed ls ps (room - (hits + 1)))) (omega arith));
          counts = omega arith;
          in_room = omega arith;
          first_long = length-set fs hits p.first;
          second_long = length-set ss hits p.second;
        }

    pub moved_miss : overlap ls p.first p.second ≡ false → TestsMoved ls (p ∷ ps) ps 1 room fs ss hits (set fs hits p.first) (set ss hits p.second) hits
    moved_miss o =
        record {
          made_is = rw (left, made_miss ls p ps (room - (hits + 1)) o) (omega arith);
          firsts_are = rw (left, handed_miss ls p ps (room - (hits + 1)) o) (beyond fs hits p.first (firsts (handed ls ps (suc (room - (hits + 1))))));
          seconds_are = rw (left, handed_miss ls p ps (room - (hits + 1)) o) (beyond ss hits p.second (seconds (handed ls ps (suc (room - (hits + 1))))));
          counts = omega arith;
          in_room = omega arith;
          first_long = length-set fs hits p.first;
          second_long = length-set ss hits p.second;
        }

  -- where the room is used up, or no test is left, no more is made
  module _ (rest : List Pair) (hits : ℕ) (e : hits < room → rest ≡ []) where
    pub none_made : made ls rest (room - hits) ≡ []
    none_made = go (dec_lt hits room)
      where
        go : Dec (hits < room) → made ls rest (room - hits) ≡ []
        go (yes h) = rw (e h) (made_none ls (room - hits))
        go (no h) = let z : room - hits ≡ 0 = omega arith in rw z (made_full ls rest)

    pub none_handed : handed ls rest (room - hits) ≡ []
    none_handed = go (dec_lt hits room)
      where
        go : Dec (hits < room) → handed ls rest (room - hits) ≡ []
        go (yes h) = rw (e h) (handed_none ls (room - hits))
        go (no h) = let z : room - hits ≡ 0 = omega arith in rw z (handed_full ls rest)

-- The places of what a row hands out, and their numbers in the slice beside the outputs: no test, one that overlaps, one that does not, and two
-- moves after one another. Assumes nothing.
use mathlib.Core.Path.{◌≡◌, refl, ◌∙◌}
use mathlib.Core.Bool.{true, false}
use mathlib.Core.List.{List, ◌∷◌, ◌++◌, append_assoc, append-nil}
use Prim.Native.Nat.{ℕ, suc, ◌+◌, ◌-◌, ◌≤◌, ◌<◌}
use native.Mathlib.Nat.{div-add-mod'}
use native.Mathlib.Numerals.{add-one}
use native.Mathlib.Omega.{arith}
use lib.ListN.{length, take, set, length-set, replicate, replicate-append-replicate}
use lib.Seq.{take-suc-set}
use Rattle.grid.specs.Domain.{Lines}
use Rattle.seek.specs.declared.Place.{Place}
use Rattle.seek.specs.Tests.{Pair, place_of}
use Rattle.visit.specs.Overlap.{overlap}
use Rattle.visit.specs.Batches.{handed, place_numbers}
use Rattle.visit.specs.Places.{number_in}
use Rattle.visit.specs.Inside.{HandedAt, PlacesWritten, PutIs}
use Rattle.visit.proofs.Clauses.{handed_hit, handed_miss}

-- the number of cell c is c
pub number_of_cell : (cols m c : ℕ) → number_in cols m (place_of cols c) ≡ c
unfolding number_in place_of
number_of_cell cols m c = div-add-mod' c cols

joined : (m n v : ℕ) (xs ys zs : List ℕ) → xs ≡ replicate m v ++ ys → ys ≡ replicate n v ++ zs → xs ≡ replicate (m + n) v ++ zs
joined m n v xs ys zs p q = rw (p, q, ← replicate-append-replicate m n v, append_assoc)

-- ---- what a row hands out

module _ (ls : Lines) (room : ℕ) (pl : Place) where
  pub at_none : (rest : List Pair) (hits : ℕ) → HandedAt ls pl rest rest room hits hits
  at_none rest hits = let z : hits - hits ≡ 0 = omega arith in record { rises = omega arith; handed_are = λ number. rw z }

  pub at_then : (a b d : List Pair) (h h₁ h₂ : ℕ) → HandedAt ls pl a b room h h₁ → HandedAt ls pl b d room h₁ h₂ → HandedAt ls pl a d room h h₂
  at_then a b d h h₁ h₂ m k =
      let z : h₂ - h ≡ (h₁ - h) + (h₂ - h₁) = omega (arith, m.rises, k.rises) in
      record {
        rises = omega (arith, m.rises, k.rises);
        handed_are = λ number. rw z (joined (h₁ - h) (h₂ - h₁) (number pl) _ _ _ (m.handed_are number) (k.handed_are number));
      }

  module _ (p : Pair) (ps : List Pair) (hits : ℕ) (h : hits < room) (e : p.place ≡ pl) where
    left : room - hits ≡ suc (room - (hits + 1))
    left = omega arith

    pub at_hit : overlap ls p.first p.second ≡ true → HandedAt ls pl (p ∷ ps) ps room hits (hits + 1)
    at_hit o =
        let z : (hits + 1) - hits ≡ 1 = omega arith in
        record { rises = omega arith; handed_are = λ number. rw (left, z, handed_hit ls p ps (room - (hits + 1)) o, e) }

    pub at_miss : overlap ls p.first p.second ≡ false → HandedAt ls pl (p ∷ ps) ps room hits hits
    at_miss o =
        let z : hits - hits ≡ 0 = omega arith in
        record { rises = omega arith; handed_are = λ number. rw (z, left, handed_miss ls p ps (room - (hits + 1)) o) }

-- ---- the numbers in their slice

filled : (t t₁ ns ms : List ℕ) (k u v : ℕ) → ns ≡ replicate k u ++ ms → u ≡ v → t₁ ≡ t ++ replicate k v → t ++ ns ≡ t₁ ++ ms
filled t t₁ ns ms k u v p e q = rw (p, q, e, append_assoc)

module _ (ls : Lines) (room : ℕ) (number : Place → ℕ) where
  pub placed_none : (rest : List Pair) (ps : List ℕ) (hits : ℕ) → PlacesWritten ls number rest rest room ps hits ps hits
  placed_none rest ps hits = record { places_are = λ e. refl; place_long = refl }

  module _ (a b : List Pair) (ps : List ℕ) (h : ℕ) (ps₁ : List ℕ) (h₁ : ℕ) where
    pub placed_then : (d : List Pair) (ps₂ : List ℕ) (h₂ : ℕ) → PlacesWritten ls number a b room ps h ps₁ h₁ → PlacesWritten ls number b d room ps₁ h₁ ps₂ h₂ → PlacesWritten ls number a d room ps h ps₂ h₂
    placed_then d ps₂ h₂ m k = record { places_are = λ e. m.places_are e ∙ k.places_are (m.place_long ∙ e); place_long = k.place_long ∙ m.place_long }

    -- a row's number is put beside what it handed out
    pub placed_row : (pl : Place) (v : ℕ) → HandedAt ls pl a b room h h₁ → h₁ ≤ room → number pl ≡ v → PutIs ps h h₁ v ps₁ → PlacesWritten ls number a b room ps h ps₁ h₁
    placed_row pl v m l e q =
        record {
          places_are = λ s. filled (take h ps) (take h₁ ps₁) (place_numbers number (handed ls a (room - h))) (place_numbers number (handed ls b (room - h₁))) (h₁ - h) (number pl) v (m.handed_are number) e (q.put m.rises (omega (arith, s)));
          place_long = q.long;
        }

-- ---- putting

pub record Putting (ps : List ℕ) (from to v : ℕ) (ps' : List ℕ) (i : ℕ) : Type 0 where
  pub put : take i ps' ≡ take from ps ++ replicate (i - from) v
  pub long : length ps' ≡ length ps
  pub past : from ≤ i
  pub most : from ≤ to → i ≤ to

module _ (ps : List ℕ) (from to v : ℕ) where
  pub putting_none : Putting ps from to v ps from
  putting_none =
      let z : from - from ≡ 0 = omega arith in
      record { put = rw (z, append-nil); long = refl; past = omega arith; most = λ h. h }

  -- a slice that ends before is left alone
  pub put_short : length ps < to → PutIs ps from to v ps
  put_short h = record { put = λ a b. absurd (omega arith); long = refl }

  module _ (ps' : List ℕ) (i : ℕ) (s : Putting ps from to v ps' i) where
    pub putting_more : i < to → i < length ps' → Putting ps from to v (set ps' i v) (i + 1)
    putting_more h l =
        let z : (i + 1) - from ≡ (i - from) + 1 = omega (arith, s.past) in
        record {
          put = rw (add-one, take-suc-set ps' i v l, s.put) (rw (append_assoc, ← add-one, z, ← replicate-append-replicate (i - from) 1 v));
          long = length-set ps' i v ∙ s.long;
          past = omega (arith, s.past);
          most = λ a. omega arith;
        }

    pub putting_done : to ≤ i → PutIs ps from to v ps'
    putting_done h =
        record {
          put = λ a b. let e : i ≡ to = omega (arith, s.most a) in rw e at s.put;
          long = s.long;
        }

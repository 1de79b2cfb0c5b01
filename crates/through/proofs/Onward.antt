-- What a run says of tests that come after its own: they are as far as it has room for them. Assumes nothing.
use mathlib.Core.Path.{◌≡◌, refl, sym, ap, ◌∙◌}
use mathlib.Core.Bool.{Bool, true, false}
use mathlib.Core.List.{List, [], ◌∷◌, ◌++◌, map-append}
use Prim.Native.Nat.{ℕ, zero, suc, ◌+◌, ◌-◌, ◌≤◌, ◌<◌}
use native.Mathlib.Nat.{sub-zero, suc-sub-suc}
use native.Mathlib.Omega.{arith}
use lib.ListN.{length, take, drop, length-append, length-drop, drop_of_length-le}
use lib.Seq.{drop-append-le}
use Rattle.grid.specs.Domain.{Lines}
use Rattle.seek.specs.Tests.{Pair}
use Rattle.visit.specs.Overlap.{overlap}
use Rattle.visit.specs.Batches.{made, handed, firsts, seconds}
use Rattle.visit.proofs.Clauses.{made_none, made_full, made_hit, made_miss, over_nil, over_hit, over_miss, handed_none, handed_full, handed_hit, handed_miss}
use Rattle.through.specs.Inside.{Goes}

module _ (ls : Lines) (later : List Pair) where
  -- what is made and handed out of some tests and later ones, by what is of the first
  pub record Splits (ps : List Pair) (room : ℕ) : Type 0 where
    pub made_are : made ls (ps ++ later) room ≡ made ls ps room ++ made ls (drop (length (made ls ps room)) ps ++ later) (room - length (handed ls ps room))
    pub handed_are : handed ls (ps ++ later) room ≡ handed ls ps room ++ handed ls (drop (length (made ls ps room)) ps ++ later) (room - length (handed ls ps room))

  splits : (ps : List Pair) (room : ℕ) → Splits ps room
  splits [] room =
      record {
        made_are = rw (made_none ls room, over_nil ls, sub-zero);
        handed_are = rw (made_none ls room, over_nil ls, sub-zero);
      }
  splits (p ∷ ps) zero =
      record {
        made_are = rw (made_full ls (p ∷ ps), over_nil ls);
        handed_are = rw (made_full ls (p ∷ ps), over_nil ls);
      }
  splits (p ∷ ps) (suc room) = go (overlap ls p.first p.second) refl (splits ps room) (splits ps (suc room))
    where
      go : (b : Bool) → overlap ls p.first p.second ≡ b → Splits ps room → Splits ps (suc room) → Splits (p ∷ ps) (suc room)
      go true e hit miss =
          record {
            made_are = rw (made_hit ls p (ps ++ later) room e, made_hit ls p ps room e, over_hit ls p (made ls ps room) e, suc-sub-suc) (ap (λ (l : List Pair). p ∷ l) hit.made_are);
            handed_are = handed_hit ls p (ps ++ later) room e ∙ rw (made_hit ls p ps room e, over_hit ls p (made ls ps room) e, suc-sub-suc) (ap (λ (l : List Pair). p ∷ l) hit.handed_are);
          }
      go false e hit miss =
          record {
            made_are = rw (made_miss ls p (ps ++ later) room e, made_miss ls p ps room e, over_miss ls p (made ls ps (suc room)) e) (ap (λ (l : List Pair). p ∷ l) miss.made_are);
            handed_are = handed_miss ls p (ps ++ later) room e ∙ rw (made_miss ls p ps room e, over_miss ls p (made ls ps (suc room)) e) miss.handed_are;
          }

-- ---- how many are made and handed out

module _ (ls : Lines) where
  pub record Counts (ps : List Pair) (room : ℕ) : Type 0 where
    pub short : length (made ls ps room) ≤ length ps
    pub most : length (handed ls ps room) ≤ room
    pub all : length (handed ls ps room) < room → length (made ls ps room) ≡ length ps

  pub counts : (ps : List Pair) (room : ℕ) → Counts ps room
  counts [] room =
      record {
        short = rw (made_none ls room) (omega arith);
        most = rw (handed_none ls room) (omega arith);
        all = λ h. rw (made_none ls room);
      }
  counts (p ∷ ps) zero =
      record {
        short = rw (made_full ls (p ∷ ps)) (omega arith);
        most = rw (handed_full ls (p ∷ ps)) (omega arith);
        all = λ h. absurd (omega arith);
      }
  counts (p ∷ ps) (suc room) = go (overlap ls p.first p.second) refl (counts ps room) (counts ps (suc room))
    where
      go : (b : Bool) → overlap ls p.first p.second ≡ b → Counts ps room → Counts ps (suc room) → Counts (p ∷ ps) (suc room)
      go true e hit miss =
          let m = ap length (made_hit ls p ps room e) in
          let h = ap length (handed_hit ls p ps room e) in
          record {
            short = omega (arith, m, hit.short);
            most = omega (arith, h, hit.most);
            all = λ l. let k = hit.all (omega (arith, h)) in omega (arith, m, k);
          }
      go false e hit miss =
          let m = ap length (made_miss ls p ps room e) in
          let h = ap length (handed_miss ls p ps room e) in
          record {
            short = omega (arith, m, miss.short);
            most = omega (arith, h, miss.most);
            all = λ l. let k = miss.all (omega (arith, h)) in omega (arith, m, k);
          }

-- ---- from a run of all that some tests have room for on to later ones

module _ (ls : Lines) (rest : List Pair) (room tests hits : ℕ) (et : tests ≡ length (made ls rest room)) (eh : hits ≡ length (handed ls rest room)) where
  -- where there is room left, no test is
  pub ends_on : hits < room → drop tests rest ≡ []
  ends_on h = let k = (counts ls rest room).all (omega arith) in drop_of_length-le rest {i = tests} (omega (arith, k))

  module _ (fs ss fs' ss' : List ℕ) (ef : take hits fs' ≡ firsts (handed ls rest room)) (es : take hits ss' ≡ seconds (handed ls rest room))
      (lf : length fs' ≡ length fs) (lsn : length ss' ≡ length ss) (later : List Pair) where
    made_then : made ls (rest ++ later) room ≡ made ls rest room ++ made ls (drop tests rest ++ later) (room - hits)
    made_then = (splits ls later rest room).made_are ∙ rw (et, eh)

    handed_then : handed ls (rest ++ later) room ≡ handed ls rest room ++ handed ls (drop tests rest ++ later) (room - hits)
    handed_then = (splits ls later rest room).handed_are ∙ rw (et, eh)

    firsts_then : firsts (handed ls (rest ++ later) room) ≡ take hits fs' ++ firsts (handed ls (drop tests rest ++ later) (room - hits))
    firsts_then = ap firsts handed_then ∙ map-append (λ (p : Pair). p.first) (handed ls rest room) (handed ls (drop tests rest ++ later) (room - hits)) ∙ rw ef

    seconds_then : seconds (handed ls (rest ++ later) room) ≡ take hits ss' ++ seconds (handed ls (drop tests rest ++ later) (room - hits))
    seconds_then = ap seconds handed_then ∙ map-append (λ (p : Pair). p.second) (handed ls rest room) (handed ls (drop tests rest ++ later) (room - hits)) ∙ rw es

    tests_then : length (made ls (rest ++ later) room) ≡ tests + length (made ls (drop tests rest ++ later) (room - hits))
    tests_then = ap length made_then ∙ length-append (made ls rest room) (made ls (drop tests rest ++ later) (room - hits)) ∙ rw et

    all_then : tests + length (drop tests rest ++ later) ≡ length (rest ++ later)
    all_then =
        omega (arith, (counts ls rest room).short, length-append (drop tests rest) later, length-append rest later, length-drop tests rest)

    pub goes_on : Goes ls (rest ++ later) (drop tests rest ++ later) tests room fs ss 0 fs' ss' hits
    goes_on =
        record {
          moved = record {
            made_is = rw sub-zero tests_then;
            firsts_are = rw sub-zero firsts_then;
            seconds_are = rw sub-zero seconds_then;
            counts = all_then;
            in_room = omega (arith, (counts ls rest room).most);
            first_long = lf;
            second_long = lsn;
          };
          left = sym (drop-append-le tests rest later (omega (arith, (counts ls rest room).short)));
        }

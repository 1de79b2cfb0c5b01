-- A short list that is run through at once: the turns of a row of it, and of its rows. Assumes nothing.
use mathlib.Core.Path.{◌≡◌, refl, sym, ap, ◌∙◌}
use mathlib.Core.Bool.{Bool, true, ◌&&◌}
use mathlib.Core.List.{List, [], ◌∷◌, ◌++◌, append_assoc}
use Prim.Native.Nat.{ℕ, zero, suc, ◌+◌, ◌-◌, ◌*◌, ◌≤◌, ◌<◌, ◌^◌}
use native.Mathlib.Nat.{mul-le-mul_right}
use native.Mathlib.Numerals.{add-one}
use native.Mathlib.Omega.{arith}
use lib.ListN.{length, get_or, take, drop, set, length-drop, drop_of_length-le}
use lib.Seq.{drop-cons, get_or-drop, take_all}
use lib.Dec.{eqb, leb}
use lib.Ieee.{Float}
use borrow.Author.Tests.{eqb-true, leb-true}
use Rattle.grid.proofs.Bools.{and_left, and_right}
use Rattle.grid.specs.declared.Box.{Box}
use Rattle.grid.specs.Domain.{Lines, segment_at}
use Rattle.grid.specs.Boxes.{box_of, overlaps}
use Rattle.seek.specs.declared.Place.{Place}
use Rattle.seek.specs.declared.Place.TheVariants.{Global}
use Rattle.seek.specs.Tests.{Pair, pairs, with_each}
use Rattle.seek.proofs.Clauses.{with_nil, pairs_nil, pairs_cons}
use Rattle.visit.specs.Overlap.{overlap}
use Rattle.visit.specs.Inside.{TestsMoved}
use Rattle.through.specs.declared.rows.ListRan.{ListRan}
use Rattle.listed.specs.Places.{is_brief}
use Rattle.listed.specs.Bytes.{byte_of}
use Rattle.listed.proofs.ByteLaws.{byte_most}
use Rattle.through.specs.Inside.{flat_in, FlatAsks, FlatFilled, AnswersOf, PairsPut, FewAsks, answers_in, Goes, Brief, BriefAsks, ListAsks, ListRanIs, SameScratch}
use Rattle.through.proofs.ScanTurns.{Putting, put_start, put_more, put_end}
use Rattle.through.proofs.Goings.{goes_none, goes_then, goes_row}
use Rattle.listed.proofs.ListLaws.{from_begin, row_past}

-- ---- the answers of a row

answers_long : (b : Box) (flat : List Float) (at n : ℕ) → length (answers_in b flat at n) ≡ n
unfolding answers_in
answers_long b flat at zero = refl
answers_long b flat at (suc n) = ap suc (answers_long b flat (suc at) n)

answers_at : (b : Box) (flat : List Float) (at n u : ℕ) → u < n → get_or (answers_in b flat at n) u 0 ≡ byte_of (overlaps b (flat_in flat (at + u)))
unfolding answers_in
answers_at b flat at zero u h = absurd (omega arith)
answers_at b flat at (suc n) zero h = let e : at ≡ at + 0 = omega arith in ap (λ (k : ℕ). byte_of (overlaps b (flat_in flat k))) e
answers_at b flat at (suc n) (suc u) h =
    let e : suc at + u ≡ at + suc u = omega arith in
    answers_at b flat (suc at) n u (omega arith) ∙ ap (λ (k : ℕ). byte_of (overlaps b (flat_in flat k))) e

-- the entries before u are done
pub record FewTurn (line : ℕ) (b : Box) (xs : List ℕ) (flat : List Float) (at : ℕ) (fs ss : List ℕ) (hits : ℕ) (fs' ss' : List ℕ) (hits' u : ℕ) : Type 0 where
  pub asks : FewAsks xs flat at fs ss hits
  pub turn : Putting line xs (answers_in b flat at (length xs)) fs ss hits fs' ss' hits' u

pub few_start : (line : ℕ) (b : Box) (xs : List ℕ) (flat : List Float) (at : ℕ) (fs ss : List ℕ) (hits : ℕ) → FewAsks xs flat at fs ss hits
    → FewTurn line b xs flat at fs ss hits fs ss hits 0
few_start line b xs flat at fs ss hits a =
    record {
      asks = a;
      turn = put_start line xs (answers_in b flat at (length xs)) fs ss hits
          (record {
            in_marks = omega (arith, answers_long b flat at (length xs));
            bits = λ u h. rw (answers_at b flat at (length xs) u h) (byte_most (overlaps b (flat_in flat (at + u))));
            room = a.room;
          });
    }

module _ (line : ℕ) (b : Box) (xs : List ℕ) (flat : List Float) (at : ℕ) (fs ss : List ℕ) (hits : ℕ) (fs' ss' : List ℕ) (hits' u : ℕ)
    (p : FewTurn line b xs flat at fs ss hits fs' ss' hits' u) where
  pub few_first_long : length fs' ≡ length fs
  few_first_long = p.turn.put.first_long

  pub few_second_long : length ss' ≡ length ss
  few_second_long = p.turn.put.second_long

  pub few_end : length xs ≤ u → PairsPut line xs (answers_in b flat at (length xs)) (length xs) fs ss hits fs' ss' hits'
  few_end = put_end line xs (answers_in b flat at (length xs)) fs ss hits fs' ss' hits' u p.turn

  module _ (l : u < length xs) where
    pub few_box : 4 * (at + u) + 4 ≤ length flat
    few_box = omega (arith, p.asks.held)

    pub few_in_first : hits' < length fs'
    few_in_first = omega (arith, p.turn.put.most, p.asks.room.room, p.turn.put.first_long)

    pub few_in_second : hits' < length ss'
    few_in_second = omega (arith, p.turn.put.most, p.asks.room.room, p.asks.room.same, p.turn.put.second_long)

    pub few_more : (m : ℕ) → m ≡ byte_of (overlaps b (flat_in flat (at + u)))
        → FewTurn line b xs flat at fs ss hits (set fs' hits' line) (set ss' hits' (get_or xs u 0)) (hits' + m) (u + 1)
    few_more m e =
        record {
          asks = p.asks;
          turn = put_more line xs (answers_in b flat at (length xs)) fs ss hits fs' ss' hits' u p.turn l m (e ∙ sym (answers_at b flat at (length xs) u l));
        }

-- ---- the rows

-- the rows before i are done
pub record BriefRun (ls : Lines) (xs : List ℕ) (flat : List Float) (fs ss : List ℕ) (hits₀ : ℕ) (fs' ss' : List ℕ) (i tests hits : ℕ) : Type 0 where
  pub same : length ss ≡ length fs
  pub room : 128 ≤ length flat
  pub short : length xs ≤ 32
  pub fits : hits₀ + length xs * length xs ≤ length fs
  pub each : (u : ℕ) → u < length xs → flat_in flat u ≡ box_of (segment_at ls (get_or xs u 0))
  pub goes : (pl : Place) (later : List Pair) → Goes ls (pairs pl xs ++ later) (pairs pl (drop i xs) ++ later) tests (length fs) fs ss hits₀ fs' ss' hits
  pub to : i ≤ length xs
  pub most : hits ≤ hits₀ + i * length xs
  pub few : tests ≤ i * 32

module _ (ls : Lines) (xs : List ℕ) (flat : List Float) (fs ss : List ℕ) (hits : ℕ) (a : BriefAsks ls xs flat fs ss hits) where
  pub brief_gathers : FlatAsks ls xs flat
  brief_gathers = record { alike = a.lent.alike; below = a.below; room = omega (arith, a.few, a.boxes) }

  pub brief_start : (flat' : List Float) → FlatFilled ls xs (length xs) flat flat' → BriefRun ls xs flat' fs ss hits fs ss 0 0 hits
  brief_start flat' f =
      record {
        same = a.lent.same;
        room = omega (arith, f.long, a.boxes);
        short = a.few;
        fits = a.fits;
        each = f.each;
        goes = λ pl later. goes_none ls (length fs) (pairs pl xs ++ later) fs ss hits a.lent.in_room;
        to = omega arith;
        most = omega arith;
        few = omega arith;
      }

module _ (ls : Lines) (xs : List ℕ) (flat : List Float) (fs ss : List ℕ) (hits₀ : ℕ) (fs' ss' : List ℕ) (i tests hits : ℕ)
    (s : BriefRun ls xs flat fs ss hits₀ fs' ss' i tests hits) where
  pub brief_first_long : length fs' ≡ length fs
  brief_first_long = (s.goes (Global 0) []).moved.first_long

  pub brief_second_long : length ss' ≡ length ss
  brief_second_long = (s.goes (Global 0) []).moved.second_long

  pub brief_end : length xs ≤ i → ListRanIs ls xs 0 1 fs ss hits₀ fs' ss' (record { i = length xs; j = length xs; tests = tests; hits = hits })
  brief_end h =
      record {
        goes = λ pl later.
            let e = row_past (length xs) (length xs) (length xs) (omega arith) pl xs refl in
            let d = drop_of_length-le xs {i = i} h in
            rw (sym (from_begin pl xs), e) (rw (d, pairs_nil pl) at (s.goes pl later));
        ends = λ l pl. row_past (length xs) (length xs) (length xs) (omega arith) pl xs refl;
      }

  module _ (l : i < length xs) where
    pub brief_box : 4 * i + 4 ≤ length flat
    brief_box = omega (arith, s.short, s.room)

    rest_long : length (drop (i + 1) xs) ≡ length xs - (i + 1)
    rest_long = length-drop (i + 1) xs

    -- a row has fewer tests than the list has entries
    room_left : hits + length xs ≤ length fs
    room_left =
        let k : (i + 1) * length xs ≤ length xs * length xs = mul-le-mul_right (length xs) (omega arith) in
        let e : (i + 1) * length xs ≡ i * length xs + length xs = omega arith in
        omega (arith, k, e, s.most, s.fits)

    brief_few : FewAsks (drop (i + 1) xs) flat (i + 1) fs' ss' hits
    brief_few =
        let r = rest_long in
        let q = room_left in
        record {
          held = omega (arith, r, s.short, s.room);
          room = record { same = brief_second_long ∙ s.same ∙ sym brief_first_long; room = omega (arith, r, q, brief_first_long) };
        }

    -- the same, of the part as it is lent
    rest_all : take (length xs - (i + 1)) (drop (i + 1) xs) ≡ drop (i + 1) xs
    rest_all = take_all (length xs - (i + 1)) (drop (i + 1) xs) (omega (arith, rest_long))

    pub brief_few_part : FewAsks (take (length xs - (i + 1)) (drop (i + 1) xs)) flat (i + 1) fs' ss' hits
    brief_few_part = rw rest_all brief_few

    pub brief_small : tests + (length xs - (i + 1)) < 2 ^ 64
    brief_small = omega (arith, s.few, s.short)

    module _ (b : Box) (e : b ≡ flat_in flat i) (fs'' ss'' : List ℕ) (hits'' : ℕ)
        (p : PairsPut (get_or xs i 0) (drop (i + 1) xs) (answers_in b flat (i + 1) (length (drop (i + 1) xs))) (length (drop (i + 1) xs)) fs' ss' hits fs'' ss'' hits'') where
      answers : AnswersOf ls (get_or xs i 0) (drop (i + 1) xs) (answers_in b flat (i + 1) (length (drop (i + 1) xs)))
      unfolding overlap
      answers =
          record {
            each = λ u h.
                let r = rest_long in
                answers_at b flat (i + 1) (length (drop (i + 1) xs)) u h
                ∙ ap byte_of (rw (e, s.each i l, s.each (i + 1 + u) (omega (arith, r, h)), get_or-drop (i + 1) xs u 0) refl);
          }

      step : (pl : Place) (later : List Pair) → Goes ls (pairs pl (drop i xs) ++ later) (pairs pl (drop (i + 1) xs) ++ later) (length (drop (i + 1) xs)) (length fs) fs' ss' hits fs'' ss'' hits''
      step pl later =
          let rest = pairs pl (drop (i + 1) xs) ++ later in
          let m : TestsMoved ls (with_each pl (get_or xs i 0) (drop (i + 1) xs) ++ rest) rest (length (drop (i + 1) xs)) (length fs') fs' ss' hits fs'' ss'' hits'' =
          rw (drop_of_length-le (drop (i + 1) xs) {i = length (drop (i + 1) xs)} (omega arith), with_nil) at (p.moved ls pl rest answers) in
          let d : drop i xs ≡ get_or xs i 0 ∷ drop (i + 1) xs = rw (add-one i) (drop-cons xs i 0 l) in
          let q : pairs pl (drop i xs) ++ later ≡ with_each pl (get_or xs i 0) (drop (i + 1) xs) ++ rest =
          ap (λ (ys : List ℕ). pairs pl ys ++ later) d ∙ ap (λ (ps : List Pair). ps ++ later) (pairs_cons pl (get_or xs i 0) (drop (i + 1) xs))
          ∙ append_assoc (with_each pl (get_or xs i 0) (drop (i + 1) xs)) (pairs pl (drop (i + 1) xs)) later in
          rw q (rw brief_first_long at (goes_row ls (length fs') pl (get_or xs i 0) (drop (i + 1) xs) rest fs' ss' hits fs'' ss'' hits'' m))

      brief_turn : BriefRun ls xs flat fs ss hits₀ fs'' ss'' (i + 1) (tests + (length xs - (i + 1))) hits''
      brief_turn =
          let r = rest_long in
          let k : (i + 1) * length xs ≡ i * length xs + length xs = omega arith in
          record {
            same = s.same;
            room = s.room;
            short = s.short;
            fits = s.fits;
            each = s.each;
            goes = λ pl later. rw r at (goes_then ls (length fs) (s.goes pl later) (step pl later));
            to = omega arith;
            most = omega (arith, k, r, s.most, p.most);
            few = omega (arith, s.few, s.short);
          }

    pub brief_turn_part : (b : Box) → b ≡ flat_in flat i → (fs'' ss'' : List ℕ) (hits'' : ℕ)
        → PairsPut (get_or xs i 0) (take (length xs - (i + 1)) (drop (i + 1) xs)) (answers_in b flat (i + 1) (length (take (length xs - (i + 1)) (drop (i + 1) xs))))
        (length (take (length xs - (i + 1)) (drop (i + 1) xs))) fs' ss' hits fs'' ss'' hits''
        → BriefRun ls xs flat fs ss hits₀ fs'' ss'' (i + 1) (tests + (length xs - (i + 1))) hits''
    brief_turn_part b e fs'' ss'' hits'' p = brief_turn b e fs'' ss'' hits'' (rw rest_all at p)

-- ---- a list that is short

pub brief_says : (len i j room : ℕ) (r : Bool) → r ≡ is_brief len i j room → r ≡ true → Brief len i j room
unfolding is_brief
brief_says len i j room r e t =
    let h = sym e ∙ t in
    let k = and_right (eqb i 0) (eqb j 1 && (leb len 32 && leb (len * len) room)) h in
    let l = and_right (eqb j 1) (leb len 32 && leb (len * len) room) k in
    record {
      first = eqb-true i 0 (and_left (eqb i 0) (eqb j 1 && (leb len 32 && leb (len * len) room)) h);
      second = eqb-true j 1 (and_left (eqb j 1) (leb len 32 && leb (len * len) room) k);
      few = leb-true len 32 (and_left (leb len 32) (leb (len * len) room) l);
      fits = leb-true (len * len) room (and_right (leb len 32) (leb (len * len) room) l);
    }

pub brief_asks : (ls : Lines) (xs : List ℕ) (i j : ℕ) (bs : List Float) (marks fs ss : List ℕ) (hits : ℕ) → Brief (length xs) i j (length fs - hits)
    → ListAsks ls xs i j bs marks fs ss hits → BriefAsks ls xs bs fs ss hits
brief_asks ls xs i j bs marks fs ss hits b a =
    record {
      lent = a.lent;
      boxes = omega (arith, a.scratch.boxes.long);
      below = a.below;
      few = b.few;
      fits = omega (arith, b.fits, a.lent.in_room);
    }

pub brief_ran : (ls : Lines) (xs : List ℕ) (i j room : ℕ) (fs ss : List ℕ) (hits : ℕ) (fs' ss' : List ℕ) (r : ListRan) → Brief (length xs) i j room
    → ListRanIs ls xs 0 1 fs ss hits fs' ss' r → ListRanIs ls xs i j fs ss hits fs' ss' r
brief_ran ls xs i j room fs ss hits fs' ss' r b v = rw (b.first, b.second) v

pub brief_scratch : (bs bs' : List Float) (marks : List ℕ) → length bs' ≡ length bs → SameScratch bs marks bs' marks
brief_scratch bs bs' marks l = record { boxes = l; bytes = refl }

-- The window of boxes, and the turns of the run through a list. Assumes nothing.
use mathlib.Core.Path.{◌≡◌, refl, sym, ap, ◌∙◌}
use mathlib.Core.List.{List, [], ◌∷◌, ◌++◌, append-nil}
use Prim.Native.Nat.{ℕ, zero, suc, ◌+◌, ◌-◌, ◌≤◌, ◌<◌, ◌^◌, min}
use native.Mathlib.Omega.{arith}
use lib.ListN.{length, get_or, take, drop, length-drop}
use lib.Seq.{get_or-take, get_or-drop, length-take-le}
use lib.Ieee.{Float}
use Rattle.slices.specs.Lists.{Below}
use Rattle.slices.proofs.Members.{below_at, below_drop}
use Rattle.grid.specs.Domain.{Lines, count, segment_at}
use Rattle.grid.specs.Boxes.{box_of}
use Rattle.seek.specs.declared.Place.{Place}
use Rattle.seek.specs.declared.Place.TheVariants.{Global}
use Rattle.seek.specs.Tests.{Pair, with_each}
use Rattle.visit.specs.Inside.{TestsMoved}
use Rattle.through.specs.declared.boxes.Window.{Window}
use Rattle.through.specs.declared.rows.PartRan.{PartRan}
use Rattle.listed.specs.Lists.{list_from}
use Rattle.through.specs.Inside.{GatherAsks, Gathered, Holds, WindowAsks, ReadyIs, ScanAsks, Scanned, Goes, SameScratch, PartAsks, PartIs, ListAsks, ListRanIs}
use Rattle.through.proofs.Goings.{goes_none, goes_then, goes_row}
use Rattle.listed.proofs.ListLaws.{RowIs, row_part}

-- a part of a list
pub part_at : (xs : List ℕ) (b many u : ℕ) → u < many → get_or (take many (drop b xs)) u 0 ≡ get_or xs (b + u) 0
part_at xs b many u h = get_or-take many (drop b xs) u 0 h ∙ get_or-drop b xs u 0

pub part_long : (xs : List ℕ) (b many : ℕ) → b + many ≤ length xs → length (take many (drop b xs)) ≡ many
part_long xs b many h = length-take-le many (drop b xs) (rw length-drop (omega arith))

below_take : (n : ℕ) (xs : List ℕ) (m : ℕ) → Below n xs → Below n (take m xs)
below_take n xs zero w = tt
below_take n [] (suc m) w = tt
below_take n (x ∷ xs) (suc m) w = (w.0, below_take n xs m w.1)

pub part_below : (n : ℕ) (xs : List ℕ) (b many : ℕ) → Below n xs → Below n (take many (drop b xs))
part_below n xs b many w = below_take n (drop b xs) many (below_drop n xs b w)

-- ---- the window

module _ (ls : Lines) (xs : List ℕ) (at from held : ℕ) (bs : List Float) (a : WindowAsks ls xs at from held bs) where
  pub window_stays : from ≤ at → at < from + held → ReadyIs ls xs at bs bs (record { from = from; held = held })
  window_stays p q = record { holds = a.holds; from = p; to = q; long = refl }

  module _ (many : ℕ) (e : many ≡ min (length xs - at) 512) where
    most : many ≤ 512
    most = omega arith

    inside : at + many ≤ length xs
    inside = omega (arith, a.inside)

    pub window_gathers : GatherAsks ls (take many (drop at xs)) bs
    window_gathers =
        let l = part_long xs at many inside in
        record {
          alike = a.alike;
          below = part_below (count ls) xs at many a.below;
          most = omega (arith, l, most);
          room = a.room;
        }

    pub window_moves : (bs' : List Float) → Gathered ls (take many (drop at xs)) (length (take many (drop at xs))) bs bs'
        → ReadyIs ls xs at bs bs' (record { from = at; held = many })
    window_moves bs' g =
        let l = part_long xs at many inside in
        record {
          holds = record {
            each = λ u h. g.each u (omega arith) ∙ ap (λ (v : ℕ). box_of (segment_at ls v)) (part_at xs at many u h);
            within = inside;
            most = most;
            room = record { few = omega (arith, most); long = omega (arith, g.long, a.room.long) };
            says = record { each = λ u h. g.says.each u (omega arith) };
          };
          from = omega arith;
          to = omega (arith, a.inside);
          long = g.long;
        }

    module _ (z : at + many - at ≡ many) where
      pub window_gathers_part : GatherAsks ls (take (at + many - at) (drop at xs)) bs
      window_gathers_part = rw z window_gathers

      pub window_moves_part : (bs' : List Float) → Gathered ls (take (at + many - at) (drop at xs)) (length (take (at + many - at) (drop at xs))) bs bs'
          → ReadyIs ls xs at bs bs' (record { from = at; held = many })
      window_moves_part bs' g = window_moves bs' (rw z at g)

-- ---- the run through a list

pub record ListRun (ls : Lines) (xs : List ℕ) (i₀ j₀ : ℕ) (bs : List Float) (marks fs ss : List ℕ) (hits₀ : ℕ)
    (bs' : List Float) (marks' fs' ss' : List ℕ) (i j from held tests hits : ℕ) : Type 0 where
  pub asks : ListAsks ls xs i₀ j₀ bs marks fs ss hits₀
  pub goes : (pl : Place) (later : List Pair) → Goes ls (list_from pl xs i₀ j₀ ++ later) (list_from pl xs i j ++ later) tests (length fs) fs ss hits₀ fs' ss' hits
  pub holds : Holds ls xs from held bs'
  pub same : SameScratch bs marks bs' marks'

pub list_run : (ls : Lines) (xs : List ℕ) (i j : ℕ) (bs : List Float) (marks fs ss : List ℕ) (hits : ℕ) → ListAsks ls xs i j bs marks fs ss hits
    → ListRun ls xs i j bs marks fs ss hits bs marks fs ss i j 0 0 0 hits
list_run ls xs i j bs marks fs ss hits a =
    record {
      asks = a;
      goes = λ pl later. goes_none ls (length fs) (list_from pl xs i j ++ later) fs ss hits a.lent.in_room;
      holds = record { each = λ u h. absurd (omega arith); within = omega arith; most = omega arith; room = record { few = omega arith; long = a.scratch.boxes.long }; says = record { each = λ u h. absurd (omega arith) } };
      same = record { boxes = refl; bytes = refl };
    }

module _ (ls : Lines) (xs : List ℕ) (i₀ j₀ : ℕ) (bs : List Float) (marks fs ss : List ℕ) (hits₀ : ℕ)
    (bs' : List Float) (marks' fs' ss' : List ℕ) (i j from held tests hits : ℕ)
    (s : ListRun ls xs i₀ j₀ bs marks fs ss hits₀ bs' marks' fs' ss' i j from held tests hits) where
  pub list_first_long : length fs' ≡ length fs
  list_first_long = (s.goes (Global 0) []).moved.first_long

  pub list_second_long : length ss' ≡ length ss
  list_second_long = (s.goes (Global 0) []).moved.second_long

  counts : tests + length (list_from (Global 0) xs i j) ≡ length (list_from (Global 0) xs i₀ j₀)
  counts = rw (append-nil, append-nil) at (s.goes (Global 0) []).moved.counts

  pub list_full : length fs ≤ hits → ListRanIs ls xs i₀ j₀ fs ss hits₀ fs' ss' (record { i = i; j = j; tests = tests; hits = hits })
  list_full h = record { goes = s.goes; ends = λ l. absurd (omega arith) }

  pub list_over : ((pl : Place) (ys : List ℕ) → length ys ≡ length xs → list_from pl ys i j ≡ []) → ListRanIs ls xs i₀ j₀ fs ss hits₀ fs' ss' (record { i = i; j = j; tests = tests; hits = hits })
  list_over e = record { goes = s.goes; ends = λ l pl. e pl xs refl }

  module _ (a b : ℕ) (f : RowIs (length xs) i j a b) where
    pub list_window : WindowAsks ls xs b from held bs'
    list_window =
        record {
          alike = s.asks.lent.alike;
          below = s.asks.below;
          inside = f.inside;
          room = record { few = omega arith; long = omega (arith, s.same.boxes, s.asks.scratch.boxes.long) };
          holds = s.holds;
        }

    pub list_part : hits < length fs' → PartAsks ls xs a b from held bs' marks' fs' ss' hits
    list_part h =
        record {
          window = list_window;
          later = f.later;
          bytes = omega (arith, s.same.bytes, s.asks.scratch.bytes);
          same = list_second_long ∙ s.asks.lent.same ∙ sym list_first_long;
          room = h;
        }

    module _ (bs'' : List Float) (marks'' fs'' ss'' : List ℕ) (r : PartRan) (v : PartIs ls xs a b fs' ss' hits bs'' fs'' ss'' r)
        (k : SameScratch bs' marks' bs'' marks'') where
      step : (pl : Place) (later : List Pair) → Goes ls (list_from pl xs i j ++ later) (list_from pl xs a (b + r.many) ++ later) r.many (length fs) fs' ss' hits fs'' ss'' r.hits
      step pl later =
          let l = part_long xs b r.many v.inside in
          let m : TestsMoved ls (with_each pl (get_or xs a 0) (take r.many (drop b xs)) ++ (list_from pl xs a (b + r.many) ++ later)) (list_from pl xs a (b + r.many) ++ later) (length (take r.many (drop b xs))) (length fs') fs' ss' hits fs'' ss'' r.hits =
          rw l (v.moved pl (list_from pl xs a (b + r.many) ++ later)) in
          rw (f.same pl xs refl, row_part pl xs a b r.many later f.later)
          (rw (list_first_long, l) at (goes_row ls (length fs') pl (get_or xs a 0) (take r.many (drop b xs)) (list_from pl xs a (b + r.many) ++ later) fs' ss' hits fs'' ss'' r.hits m))

      step_counts : r.many + length (list_from (Global 0) xs a (b + r.many)) ≡ length (list_from (Global 0) xs i j)
      step_counts = rw (append-nil, append-nil) at (step (Global 0) []).moved.counts

      pub list_turn : ListRun ls xs i₀ j₀ bs marks fs ss hits₀ bs'' marks'' fs'' ss'' a (b + r.many) r.window.from r.window.held (tests + r.many) r.hits
      list_turn =
          record {
            asks = s.asks;
            goes = λ pl later. goes_then ls (length fs) (s.goes pl later) (step pl later);
            holds = v.holds;
            same = record {
              boxes = k.boxes ∙ s.same.boxes;
              bytes = k.bytes ∙ s.same.bytes;
            };
          }

      pub list_less : length (list_from (Global 0) xs a (b + r.many)) < length (list_from (Global 0) xs i j)
      list_less = omega (arith, step_counts, v.some)

      pub list_small : tests + r.many < 2 ^ 64
      list_small = omega (arith, counts, step_counts, s.asks.small (Global 0))

-- ---- a part of a row

module _ (ls : Lines) (xs : List ℕ) (i j from held : ℕ) (bs : List Float) (marks fs ss : List ℕ) (hits : ℕ) (a : PartAsks ls xs i j from held bs marks fs ss hits)
    (bs' : List Float) (r : Window) (w : ReadyIs ls xs j bs bs' r) (many : ℕ) (em : many ≡ min (r.from + r.held - j) (length fs - hits)) where
  pub part_some : 0 < many
  part_some = omega (arith, w.to, a.room)

  pub part_inside : j + many ≤ length xs
  part_inside = omega (arith, w.holds.within, w.to)

  held_in : (j - r.from) + many ≤ r.held
  held_in = omega (arith, w.from, w.to)

  pub part_scan : ScanAsks ls (get_or xs i 0) (take many (drop j xs)) bs' (j - r.from) marks fs ss hits
  part_scan =
      let l = part_long xs j many part_inside in
      let k = held_in in
      record {
        alike = a.window.alike;
        one = below_at (count ls) xs i a.window.below (omega (arith, a.later, a.window.inside));
        boxes = λ u v.
            let v₁ : u < many = omega arith in
            let e : r.from + ((j - r.from) + u) ≡ j + u = omega (arith, w.from) in
            w.holds.each ((j - r.from) + u) (omega arith)
            ∙ ap (λ (x : ℕ). box_of (segment_at ls (get_or xs x 0))) e
            ∙ ap (λ (x : ℕ). box_of (segment_at ls x)) (sym (part_at xs j many u v₁));
        held = record { few = omega (arith, w.holds.room.few); long = w.holds.room.long };
        inner = record { few = omega arith; long = omega (arith, w.long, a.window.room.long) };
        says = λ u v. let v₁ : u < many = omega arith in w.holds.says.each ((j - r.from) + u) (omega arith);
        in_marks = omega (arith, w.holds.most, a.bytes);
        room = record { same = a.same; room = omega arith };
      }

  pub part_is : (marks' fs' ss' : List ℕ) (hits' : ℕ) → Scanned ls (get_or xs i 0) (take many (drop j xs)) marks fs ss hits marks' fs' ss' hits'
      → PartIs ls xs i j fs ss hits bs' fs' ss' (record { many = many; hits = hits'; window = r })
  part_is marks' fs' ss' hits' v =
      let l = part_long xs j many part_inside in
      record { some = part_some; inside = part_inside; moved = λ pl later. rw l at (v.moved pl later); holds = w.holds }

  pub part_same : (marks' fs' ss' : List ℕ) (hits' : ℕ) → Scanned ls (get_or xs i 0) (take many (drop j xs)) marks fs ss hits marks' fs' ss' hits' → SameScratch bs marks bs' marks'
  part_same marks' fs' ss' hits' v = record { boxes = w.long; bytes = v.marks_long }

  module _ (z : j + many - j ≡ many) where
    pub part_scan_part : ScanAsks ls (get_or xs i 0) (take (j + many - j) (drop j xs)) bs' (j - r.from) marks fs ss hits
    part_scan_part = rw z part_scan

    pub part_is_part : (marks' fs' ss' : List ℕ) (hits' : ℕ) → Scanned ls (get_or xs i 0) (take (j + many - j) (drop j xs)) marks fs ss hits marks' fs' ss' hits'
        → PartIs ls xs i j fs ss hits bs' fs' ss' (record { many = many; hits = hits'; window = r })
    part_is_part marks' fs' ss' hits' v = part_is marks' fs' ss' hits' (rw z at v)

    pub part_same_part : (marks' fs' ss' : List ℕ) (hits' : ℕ) → Scanned ls (get_or xs i 0) (take (j + many - j) (drop j xs)) marks fs ss hits marks' fs' ss' hits' → SameScratch bs marks bs' marks'
    part_same_part marks' fs' ss' hits' v = part_same marks' fs' ss' hits' (rw z at v)

-- The turns of the loops over bytes, and of a run of lines. Assumes nothing.
use mathlib.Core.Path.{◌≡◌, refl, sym, ap, ◌∙◌}
use mathlib.Core.Bool.{Bool, true, false, ◌&&◌, true≢false}
use mathlib.Core.List.{List, [], ◌∷◌, ◌++◌}
use Prim.Native.Nat.{ℕ, zero, suc, ◌+◌, ◌≤◌, ◌<◌}
use native.Mathlib.Nat.{add-zero}
use native.Mathlib.Numerals.{add-one}
use native.Mathlib.Decide.{ℕ_discrete}
use native.Mathlib.Omega.{arith}
use lib.ListN.{length, get_or, drop, set, length-set, drop_of_length-le}
use lib.Seq.{drop-cons, get_or-set_same, get_or-set_other}
use lib.Dec.{eqb}
use borrow.Author.Tests.{eqb-true}
use lib.Ieee.{Float, nan, le}
use Rattle.grid.specs.declared.Box.{Box}
use Rattle.grid.specs.Domain.{Lines, segment_at}
use Rattle.grid.specs.Boxes.{box_of, overlaps}
use Rattle.grid.proofs.Bools.{and_left, and_right}
use Rattle.seek.specs.declared.Place.{Place}
use Rattle.seek.specs.Tests.{Pair, pair, with_each}
use Rattle.visit.specs.Overlap.{overlap}
use Rattle.visit.specs.Inside.{TestsMoved}
use Rattle.seek.proofs.Clauses.{with_nil, with_cons}
use Rattle.visit.proofs.Moves.{moved_none, moved_then, moved_hit, moved_miss}
use Rattle.listed.specs.Rooms.{box_in}
use Rattle.listed.specs.Bytes.{byte_of}
use Rattle.listed.proofs.ByteLaws.{byte_true, byte_false, byte_most}
use Rattle.through.specs.Inside.{MarkAsks, BytesOf, Whole, AskAsks, Asked, RoomFor, PutAsks, AnswersOf, PairsPut, PutWhole, ScanAsks, Scanned}

-- ---- marking

pub record Marking (bounds : Box) (bs : List Float) (at many : ℕ) (marks : List ℕ) (ax ay bx by : Float) (u : ℕ) (marks' : List ℕ) : Type 0 where
  pub asks : MarkAsks bs at many marks
  pub ax_is : ax ≡ bounds.min_x
  pub ay_is : ay ≡ bounds.min_y
  pub bx_is : bx ≡ bounds.max_x
  pub by_is : by ≡ bounds.max_y
  pub to : u ≤ many
  pub done : BytesOf bounds bs at u marks marks'

pub mark_start : (bounds : Box) (bs : List Float) (at many : ℕ) (marks : List ℕ) → MarkAsks bs at many marks
    → Marking bounds bs at many marks bounds.min_x bounds.min_y bounds.max_x bounds.max_y 0 marks
mark_start bounds bs at many marks a =
    record {
      asks = a;
      ax_is = refl;
      ay_is = refl;
      bx_is = refl;
      by_is = refl;
      to = omega arith;
      done = record { each = λ t h. absurd (omega arith); long = refl };
    }

module _ (bounds : Box) (bs : List Float) (at many : ℕ) (marks : List ℕ) (ax ay bx by : Float) (u : ℕ) (marks' : List ℕ)
    (m : Marking bounds bs at many marks ax ay bx by u marks') where
  pub mark_end : many ≤ u → BytesOf bounds bs at many marks marks'
  mark_end h = let e : u ≡ many = omega (arith, m.to) in rw e at m.done

  pub mark_more : u < many → (v : ℕ)
      → v ≡ byte_of (le (get_or bs (at + u) nan) bx && (le ax (get_or bs (1026 + (at + u)) nan) && (le (get_or bs (513 + (at + u)) nan) by && le ay (get_or bs (1539 + (at + u)) nan))))
      → Marking bounds bs at many marks ax ay bx by (u + 1) (set marks' u v)
  unfolding overlaps
  mark_more h v e =
      record {
        asks = m.asks;
        ax_is = m.ax_is;
        ay_is = m.ay_is;
        bx_is = m.bx_is;
        by_is = m.by_is;
        to = omega arith;
        done = record { each = λ t l. go t l (ℕ_discrete t u); long = length-set marks' u v ∙ m.done.long };
      }
    where
      here : v ≡ byte_of (overlaps bounds (box_in bs (at + u)))
      here = e ∙ rw (m.ax_is, m.ay_is, m.bx_is, m.by_is)

      go : (t : ℕ) → t < u + 1 → Dec (t ≡ u) → get_or (set marks' u v) t 0 ≡ byte_of (overlaps bounds (box_in bs (at + t)))
      go t l (yes q) = rw q (get_or-set_same marks' u v 0 (omega (arith, m.asks.in_marks, m.done.long)) ∙ here)
      go t l (no q) = get_or-set_other marks' u t v 0 q ∙ m.done.each t (omega arith)

-- ---- whole

pub record Asking (many : ℕ) (marks : List ℕ) (all : Bool) (u : ℕ) : Type 0 where
  pub inside : many ≤ length marks
  pub to : u ≤ many
  pub so_far : all ≡ true → Whole u marks

pub whole_start : (many : ℕ) (marks : List ℕ) → many ≤ length marks → Asking many marks true 0
whole_start many marks a = record { inside = a; to = omega arith; so_far = λ e. record { each = λ t q. absurd (omega arith) } }

module _ (many : ℕ) (marks : List ℕ) (all : Bool) (u : ℕ) (s : Asking many marks all u) where
  pub whole_more : u < many → Asking many marks (all && eqb (get_or marks u 0) 1) (u + 1)
  whole_more h =
      record {
        inside = s.inside;
        to = omega arith;
        so_far = λ e. record { each = λ t q. go e t q (ℕ_discrete t u) };
      }
    where
      go : (all && eqb (get_or marks u 0) 1) ≡ true → (t : ℕ) → t < u + 1 → Dec (t ≡ u) → get_or marks t 0 ≡ 1
      go e t q (yes r) = rw r (eqb-true (get_or marks u 0) 1 (and_right all (eqb (get_or marks u 0) 1) e))
      go e t q (no r) = (s.so_far (and_left all (eqb (get_or marks u 0) 1) e)).each t (omega arith)

  pub whole_end : many ≤ u → all ≡ true → Whole many marks
  whole_end h e = let q : u ≡ many = omega (arith, s.to) in rw q at (s.so_far e)

-- ---- one test more, by its byte

module _ (ls : Lines) (room : ℕ) (pl : Place) (line b : ℕ) (rest later : List Pair) (fs ss : List ℕ) (hits : ℕ) (h : hits < room) (fl : length fs ≡ room) (sl : length ss ≡ room)
    (m : ℕ) (o : Bool) (eo : overlap ls line b ≡ o) (em : m ≡ byte_of o) (begins : rest ≡ pair pl line b ∷ later) where
  pub one_test : TestsMoved ls rest later 1 room fs ss hits (set fs hits line) (set ss hits b) (hits + m)
  one_test = go o eo em
    where
      go : (o : Bool) → overlap ls line b ≡ o → m ≡ byte_of o → TestsMoved ls rest later 1 room fs ss hits (set fs hits line) (set ss hits b) (hits + m)
      go true e k =
          let q : m ≡ 1 = k ∙ byte_true in
          rw (q, begins) (moved_hit ls room (pair pl line b) later fs ss hits h fl sl e)
      go false e k =
          let q : m ≡ 0 = k ∙ byte_false in
          rw (q, add-zero, begins) (moved_miss ls room (pair pl line b) later fs ss hits h fl sl e)

-- ---- putting

pub with_drop : (pl : Place) (line : ℕ) (xs : List ℕ) (u : ℕ) (later : List Pair) → u < length xs
    → with_each pl line (drop u xs) ++ later ≡ pair pl line (get_or xs u 0) ∷ (with_each pl line (drop (u + 1) xs) ++ later)
with_drop pl line xs u later h = rw (drop-cons xs u 0 h, with_cons, add-one)

put_none : (line : ℕ) (xs marks fs ss : List ℕ) (hits : ℕ) → hits ≤ length fs → PairsPut line xs marks 0 fs ss hits fs ss hits
put_none line xs marks fs ss hits h =
    record {
      moved = λ ls pl later k. moved_none ls (length fs) (with_each pl line xs ++ later) fs ss hits h;
      most = omega arith;
      first_long = refl;
      second_long = refl;
    }

module _ (line : ℕ) (xs marks : List ℕ) (u : ℕ) (fs ss : List ℕ) (hits : ℕ) (fs' ss' : List ℕ) (hits' : ℕ) (p : PairsPut line xs marks u fs ss hits fs' ss' hits')
    (r : RoomFor xs fs ss hits) (inside : u < length xs) (m : ℕ) (e : m ≡ get_or marks u 0) (small : m ≤ 1) where
  in_first : hits' < length fs
  in_first = omega (arith, p.most, r.room)

  put_step : PairsPut line xs marks (u + 1) fs ss hits (set fs' hits' line) (set ss' hits' (get_or xs u 0)) (hits' + m)
  put_step =
      record {
        moved = λ ls pl later k.
            moved_then ls (length fs) _ _ _ u 1 fs ss hits fs' ss' hits' _ _ _ (p.moved ls pl later k)
            (one_test ls (length fs) pl line (get_or xs u 0) (with_each pl line (drop u xs) ++ later) (with_each pl line (drop (u + 1) xs) ++ later) fs' ss' hits' in_first p.first_long (p.second_long ∙ r.same) m (overlap ls line (get_or xs u 0)) refl (e ∙ k.each u inside) (with_drop pl line xs u later inside));
        most = omega (arith, p.most);
        first_long = length-set fs' hits' line ∙ p.first_long;
        second_long = length-set ss' hits' (get_or xs u 0) ∙ p.second_long;
      }

pub record Putting (line : ℕ) (xs marks fs ss : List ℕ) (hits : ℕ) (fs' ss' : List ℕ) (hits' u : ℕ) : Type 0 where
  pub asks : PutAsks xs marks fs ss hits
  pub to : u ≤ length xs
  pub put : PairsPut line xs marks u fs ss hits fs' ss' hits'

pub put_start : (line : ℕ) (xs marks fs ss : List ℕ) (hits : ℕ) → PutAsks xs marks fs ss hits → Putting line xs marks fs ss hits fs ss hits 0
put_start line xs marks fs ss hits a = record { asks = a; to = omega arith; put = put_none line xs marks fs ss hits (omega (arith, a.room.room)) }

module _ (line : ℕ) (xs marks fs ss : List ℕ) (hits : ℕ) (fs' ss' : List ℕ) (hits' u : ℕ) (p : Putting line xs marks fs ss hits fs' ss' hits' u) where
  pub put_end : length xs ≤ u → PairsPut line xs marks (length xs) fs ss hits fs' ss' hits'
  put_end l = let e : u ≡ length xs = omega (arith, p.to) in rw e at p.put

  module _ (l : u < length xs) where
    pub put_in_first : hits' < length fs'
    put_in_first = omega (arith, p.put.most, p.asks.room.room, p.put.first_long)

    pub put_in_second : hits' < length ss'
    put_in_second = omega (arith, p.put.most, p.asks.room.room, p.asks.room.same, p.put.second_long)

    pub put_bit : get_or marks u 0 ≤ 1
    put_bit = p.asks.bits u l

    pub put_more : (m : ℕ) → m ≡ get_or marks u 0 → Putting line xs marks fs ss hits (set fs' hits' line) (set ss' hits' (get_or xs u 0)) (hits' + m) (u + 1)
    put_more m e =
        record {
          asks = p.asks;
          to = omega arith;
          put = put_step line xs marks u fs ss hits fs' ss' hits' p.put p.asks.room l m e (rw e put_bit);
        }

-- ---- all of them

pub record Filling (line : ℕ) (xs fs ss : List ℕ) (hits : ℕ) (fs' ss' : List ℕ) (hits' u : ℕ) : Type 0 where
  pub asks : RoomFor xs fs ss hits
  pub to : u ≤ length xs
  pub put : PutWhole line xs u fs ss hits fs' ss' hits'

pub fill_start : (line : ℕ) (xs fs ss : List ℕ) (hits : ℕ) → RoomFor xs fs ss hits → Filling line xs fs ss hits fs ss hits 0
fill_start line xs fs ss hits a =
    record {
      asks = a;
      to = omega arith;
      put = record { put = λ marks w. put_none line xs marks fs ss hits (omega (arith, a.room)); most = omega arith; first_long = refl; second_long = refl };
    }

module _ (line : ℕ) (xs fs ss : List ℕ) (hits : ℕ) (fs' ss' : List ℕ) (hits' u : ℕ) (p : Filling line xs fs ss hits fs' ss' hits' u) where
  pub fill_end : length xs ≤ u → PutWhole line xs (length xs) fs ss hits fs' ss' hits'
  fill_end l = let e : u ≡ length xs = omega (arith, p.to) in rw e at p.put

  module _ (l : u < length xs) where
    pub fill_in_first : hits' < length fs'
    fill_in_first = omega (arith, p.put.most, p.asks.room, p.put.first_long)

    pub fill_in_second : hits' < length ss'
    fill_in_second = omega (arith, p.put.most, p.asks.room, p.asks.same, p.put.second_long)

    pub fill_more : Filling line xs fs ss hits (set fs' hits' line) (set ss' hits' (get_or xs u 0)) (hits' + 1) (u + 1)
    fill_more =
        record {
          asks = p.asks;
          to = omega arith;
          put = record {
            put = λ marks w. put_step line xs marks u fs ss hits fs' ss' hits' (p.put.put marks w) p.asks l 1 (sym (w.each u l)) (omega arith);
            most = omega (arith, p.put.most);
            first_long = length-set fs' hits' line ∙ p.put.first_long;
            second_long = length-set ss' hits' (get_or xs u 0) ∙ p.put.second_long;
          };
        }

-- ---- whether all are overlapped

byte_says : (o : Bool) → byte_of o ≡ 1 → o ≡ true
byte_says true e = refl
byte_says false e = absurd (omega (arith, sym byte_false ∙ e))

module _ (bounds : Box) (bs : List Float) (at many : ℕ) (marks : List ℕ) (a : AskAsks bs at many marks) where
  pub ask_marks : MarkAsks bs at many marks
  ask_marks = record { room = a.held; in_marks = a.in_marks }

  pub asked_inner : (inner : Box) → inner ≡ box_in bs 512 → (r : Bool) → r ≡ overlaps bounds inner → r ≡ true → Asked bounds bs at many marks marks true
  asked_inner inner k r e o =
      record {
        all = λ t u h. a.says u h bounds (sym (e ∙ ap (overlaps bounds) k) ∙ o);
        each = λ t. absurd (true≢false t);
        long = refl;
      }

  pub asked_bytes : (marks' : List ℕ) → BytesOf bounds bs at many marks marks' → (r : Bool) → (r ≡ true → Whole many marks') → Asked bounds bs at many marks marks' r
  asked_bytes marks' m r w =
      record {
        all = λ t u h. byte_says (overlaps bounds (box_in bs (at + u))) (sym (m.each u h) ∙ (w t).each u h);
        each = λ t. m;
        long = m.long;
      }

-- ---- a part of a list

abbrev ones : List ℕ → List ℕ
ones [] = []
ones (x ∷ xs) = 1 ∷ ones xs

ones_at : (xs : List ℕ) (u : ℕ) → u < length xs → get_or (ones xs) u 0 ≡ 1
ones_at [] u h = absurd (omega arith)
ones_at (x ∷ xs) zero h = refl
ones_at (x ∷ xs) (suc u) h = ones_at xs u (omega arith)

module _ (ls : Lines) (line : ℕ) (xs : List ℕ) (bs : List Float) (at : ℕ) (marks fs ss : List ℕ) (hits : ℕ) (a : ScanAsks ls line xs bs at marks fs ss hits) where
  pub scan_asks : AskAsks bs at (length xs) marks
  scan_asks = record { held = a.held; inner = a.inner; says = a.says; in_marks = a.in_marks }

  -- a line that overlaps each
  module _ (bounds : Box) (e : bounds ≡ box_of (segment_at ls line)) (marks' : List ℕ) (r : Bool) (k : Asked bounds bs at (length xs) marks marks' r) (o : r ≡ true) where
    all_answer : AnswersOf ls line xs (ones xs)
    unfolding overlap
    all_answer =
        record {
          each = λ u h.
              let w : overlaps (box_of (segment_at ls line)) (box_of (segment_at ls (get_or xs u 0))) ≡ true = rw (e, a.boxes u h) at (k.all o u h) in
              ones_at xs u h ∙ sym (ap byte_of w ∙ byte_true);
        }

    pub scanned_whole : (fs' ss' : List ℕ) (hits' : ℕ) → PutWhole line xs (length xs) fs ss hits fs' ss' hits' → Scanned ls line xs marks fs ss hits marks' fs' ss' hits'
    scanned_whole fs' ss' hits' p =
        record {
          moved = λ pl later.
              rw (drop_of_length-le xs {i = length xs} (omega arith), with_nil)
              at ((p.put (ones xs) (record { each = λ u h. ones_at xs u h })).moved ls pl later all_answer);
          marks_long = k.long;
          first_long = p.first_long;
          second_long = p.second_long;
        }

  module _ (bounds : Box) (e : bounds ≡ box_of (segment_at ls line)) (marks' : List ℕ) (r : Bool) (k : Asked bounds bs at (length xs) marks marks' r) (o : r ≡ false) where
    m : BytesOf bounds bs at (length xs) marks marks'
    m = k.each o

    pub scan_puts : PutAsks xs marks' fs ss hits
    scan_puts =
        record {
          in_marks = omega (arith, a.in_marks, m.long);
          bits = λ u h. rw (m.each u h) (byte_most (overlaps bounds (box_in bs (at + u))));
          room = a.room;
        }

    answers : AnswersOf ls line xs marks'
    unfolding overlap
    answers = record { each = λ u h. m.each u h ∙ ap byte_of (rw (e, a.boxes u h)) }

    pub scanned : (fs' ss' : List ℕ) (hits' : ℕ) → PairsPut line xs marks' (length xs) fs ss hits fs' ss' hits' → Scanned ls line xs marks fs ss hits marks' fs' ss' hits'
    scanned fs' ss' hits' p =
        record {
          moved = λ pl later. rw (drop_of_length-le xs {i = length xs} (omega arith), with_nil) at (p.moved ls pl later answers);
          marks_long = m.long;
          first_long = p.first_long;
          second_long = p.second_long;
        }

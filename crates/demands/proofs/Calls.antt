-- What the calls of a full visit hand out together, however long their outputs are: exactly the tests whose boxes overlap, in their order; and
-- the tests that they answer are all tests. Of any tables. Assumes nothing.
use Rattle.std.specs.Prelude.{Ok}
use mathlib.Core.Path.{◌≡◌, refl, sym, ap, subst, ◌∙◌}
use mathlib.Core.Bool.{Bool, true, false}
use mathlib.Core.List.{List, [], ◌∷◌, ◌++◌}
use Prim.Native.Nat.{ℕ, zero, suc, ◌+◌, ◌-◌, ◌<◌}
use native.Mathlib.Nat.{zero-add}
use native.Mathlib.Omega.{arith}
use lib.ListN.{length, take, drop, replicate, length-map, length-drop}
use lib.Seq.{take-append_seam}
use Rattle.refusals.specs.Refusals.{Answer, gives, left_in, zero_beyond}
use Rattle.grid.specs.declared.Grid.{Grid}
use Rattle.grid.specs.Domain.{Lines}
use Rattle.tables.specs.Tables.{Tables}
use Rattle.visit.specs.declared.Tally.{Tally}
use Rattle.seek.specs.Tests.{Pair, tests_of}
use Rattle.visit.specs.Overlap.{overlap}
use Rattle.visit.specs.Batches.{made, overlapping, handed, firsts, seconds}
use Rattle.visit.specs.Entries.{batch_tests, tally_of, pairs_left, BatchIs}
use Rattle.visit.proofs.EntryLaws.{batch_given, tally_given}
use Rattle.visit.proofs.Clauses.{made_none, made_hit, made_miss, over_hit, over_miss}
use Rattle.visit.specs.Words.{laid, bookmark_after, tests_sum}
use Rattle.visit.proofs.EndToEnd.{laid_whole, tests_add}
use Rattle.demands.specs.Calls.{Call, EndToEnd, FullVisit, firsts_of, seconds_of, tests_in}

-- ---- one call

firsts_append : (ps qs : List Pair) → firsts (ps ++ qs) ≡ firsts ps ++ firsts qs
firsts_append [] qs = refl
firsts_append (p ∷ ps) qs = ap (λ (l : List ℕ). p.first ∷ l) (firsts_append ps qs)

seconds_append : (ps qs : List Pair) → seconds (ps ++ qs) ≡ seconds ps ++ seconds qs
seconds_append [] qs = refl
seconds_append (p ∷ ps) qs = ap (λ (l : List ℕ). p.second ∷ l) (seconds_append ps qs)

-- the front of an output is what was written
written : (ls : Lines) (room : ℕ) (side : List Pair → List ℕ) (o : Answer (List Pair)) (ps : List Pair) (was now : List ℕ) (k : ℕ)
    → o ≡ gives ps → now ≡ pairs_left ls room side o was → k ≡ length (side (handed ls ps room)) → take k now ≡ side (handed ls ps room)
unfolding pairs_left left_in zero_beyond
written ls room side o ps was now k e h n =
    rw (n, h, e) (take-append_seam (side (handed ls ps room)) (replicate (length was - length (side (handed ls ps room))) 0))

module _ (ls : Lines) (g : Grid) (t : Tables) where
  record CallSays (b : ℕ) (c : Call) : Type 0 where
    tally_is : c.tally ≡ tally_of ls (drop b (tests_of t)) b (length c.«lent-first»)
    first_is : take c.tally.overlaps c.first ≡ firsts (handed ls (drop b (tests_of t)) (length c.«lent-first»))
    second_is : take c.tally.overlaps c.second ≡ seconds (handed ls (drop b (tests_of t)) (length c.«lent-first»))

  call_says : (b : ℕ) (c : Call) → BatchIs ls g t b c.«lent-first» c.«lent-second» c.first c.second (Ok c.tally) → CallSays b c
  call_says b c h =
      let room : ℕ = length c.«lent-first» in
      let ps : List Pair = handed ls (drop b (tests_of t)) room in
      let o : Answer (List Pair) = batch_tests ls g t b c.«lent-first» c.«lent-second» in
      let n : c.tally.overlaps ≡ length ps = ap (λ (x : Tally). x.overlaps) (tally_given h) in
      record {
        tally_is = tally_given h;
        first_is = written ls room firsts o (drop b (tests_of t)) c.«lent-first» c.first c.tally.overlaps (batch_given h) h.first_is (n ∙ sym (length-map ps (λ (p : Pair). p.first)));
        second_is = written ls room seconds o (drop b (tests_of t)) c.«lent-second» c.second c.tally.overlaps (batch_given h) h.second_is (n ∙ sym (length-map ps (λ (p : Pair). p.second)));
      }

  -- ---- calls laid end to end

  -- the lengths of their outputs
  rooms : List Call → List ℕ
  rooms [] = []
  rooms (c ∷ cs) = length c.«lent-first» ∷ rooms cs

  record CallsSay (b : ℕ) (cs : List Call) : Type 0 where
    firsts_are : firsts_of cs ≡ firsts (laid ls t b (rooms cs))
    seconds_are : seconds_of cs ≡ seconds (laid ls t b (rooms cs))
    tests_are : tests_in cs ≡ tests_sum ls t b (rooms cs)
    ends : bookmark_after ls t b (rooms cs) ≡ length (tests_of t)

  calls_say : (b : ℕ) (cs : List Call) → EndToEnd ls g t b cs → CallsSay b cs
  unfolding rooms firsts_of seconds_of tests_in laid tests_sum bookmark_after
  calls_say b [] h = record { firsts_are = refl; seconds_are = refl; tests_are = refl; ends = h }
  calls_say b (c ∷ cs) h =
      let room : ℕ = length c.«lent-first» in
      let rest : List Pair = drop b (tests_of t) in
      let next : ℕ = (tally_of ls rest b room).bookmark in
      let u : CallSays b c = call_says b c h.0 in
      let v : CallsSay next cs = calls_say next cs (subst (λ (x : Tally). EndToEnd ls g t x.bookmark cs) u.tally_is h.1) in
      record {
        firsts_are = rw (u.first_is, v.firsts_are) (sym (firsts_append (handed ls rest room) (laid ls t next (rooms cs))));
        seconds_are = rw (u.second_is, v.seconds_are) (sym (seconds_append (handed ls rest room) (laid ls t next (rooms cs))));
        tests_are = rw v.tests_are (ap (λ (x : Tally). x.tests + tests_sum ls t next (rooms cs)) u.tally_is);
        ends = v.ends;
      }

  -- A FULL VISIT hands out exactly the tests whose boxes overlap, in their order, whatever the lengths of its outputs
  pub visit_firsts : (cs : List Call) → FullVisit ls g t cs → firsts_of cs ≡ firsts (overlapping ls (tests_of t))
  visit_firsts cs h = let v : CallsSay 0 cs = calls_say 0 cs h in v.firsts_are ∙ ap firsts (laid_whole ls t (rooms cs) v.ends)

  pub visit_seconds : (cs : List Call) → FullVisit ls g t cs → seconds_of cs ≡ seconds (overlapping ls (tests_of t))
  visit_seconds cs h = let v : CallsSay 0 cs = calls_say 0 cs h in v.seconds_are ∙ ap seconds (laid_whole ls t (rooms cs) v.ends)

  -- and the tests that its calls answer are all tests
  pub visit_tests : (cs : List Call) → FullVisit ls g t cs → tests_in cs ≡ length (tests_of t)
  visit_tests cs h =
      let v : CallsSay 0 cs = calls_say 0 cs h in
      v.tests_are ∙ sym (zero-add (tests_sum ls t 0 (rooms cs))) ∙ tests_add ls t 0 (rooms cs) ∙ v.ends

-- ---- how far a batch goes

module _ (ls : Lines) where
  -- a batch with more room than there are overlaps makes all tests
  pub made_all : (ps : List Pair) (room : ℕ) → length (overlapping ls ps) < room → made ls ps room ≡ ps
  made_all [] room h = made_none ls room
  made_all (p ∷ ps) zero h = absurd (omega arith)
  made_all (p ∷ ps) (suc room) h = go (overlap ls p.first p.second) refl (made_all ps room) (made_all ps (suc room))
    where
      go : (b : Bool) → overlap ls p.first p.second ≡ b → (length (overlapping ls ps) < room → made ls ps room ≡ ps) → (length (overlapping ls ps) < suc room → made ls ps (suc room) ≡ ps)
          → made ls (p ∷ ps) (suc room) ≡ p ∷ ps
      go true e hit miss = made_hit ls p ps room e ∙ ap (λ (l : List Pair). p ∷ l) (hit (omega (arith, ap length (over_hit ls p ps e))))
      go false e hit miss = made_miss ls p ps room e ∙ ap (λ (l : List Pair). p ∷ l) (miss (omega (arith, ap length (over_miss ls p ps e))))

  -- a batch with any room makes a test, if one is left
  made_some : (ps : List Pair) (room : ℕ) → 0 < length ps → 0 < room → 0 < length (made ls ps room)
  unfolding made
  made_some [] room h k = absurd (omega arith)
  made_some (p ∷ ps) zero h k = absurd (omega arith)
  made_some (p ∷ ps) (suc room) h k = omega arith

  -- A VISIT GETS ON: while the bookmark is below the total, a batch with any room answers a greater one
  pub moves_on : (t : Tables) (b room : ℕ) → b < length (tests_of t) → 0 < room → b < (tally_of ls (drop b (tests_of t)) b room).bookmark
  moves_on t b room h k = omega (arith, made_some (drop b (tests_of t)) room (omega (arith, length-drop b (tests_of t))) k)

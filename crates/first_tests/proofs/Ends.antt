-- The end of a visit: what it leaves in what it is lent, and the refusals in their order. Assumes nothing.
use Rattle.std.specs.Prelude.{Err, Result}
use Rattle.refusals.specs.Refusals.{Check}
use mathlib.Core.Path.{◌≡◌, sym, ◌∙◌}
use mathlib.Core.Bool.{true, false}
use mathlib.Core.List.{List, [], ◌∷◌, ◌++◌, append-nil, append_assoc}
use Prim.Native.Nat.{ℕ, suc, ◌+◌, ◌≤◌, ◌<◌}
use native.Mathlib.Nat.{zero-add, add-zero}
use native.Mathlib.Decide.{dec_le}
use native.Mathlib.Omega.{arith}
use borrow.Author.Tests.{le-leb, lt-leb}
use lib.Dec.{leb}
use lib.ListN.{length, take, replicate, set, length-map, length-set}
use lib.Seq.{take-suc, take-set-le, get_or-set_same}
use Rattle.slices.specs.Slices.{cleared_from}
use Rattle.refusals.specs.declared.Refusal.{Refusal}
use Rattle.refusals.specs.Refusals.{refusal, unless, Answer, refused, gives, ◌then◌, answer_by, clears, left_in, zero_beyond}
use Rattle.refusals.proofs.Answers.{then_refused}
use Rattle.refusals.proofs.Leaving.{left_zero, left_same, Clearing, numbers_clear}
use Rattle.seek.specs.Tests.{Pair}
use Rattle.visit.specs.Batches.{firsts, seconds}
use Rattle.grid.specs.declared.Grid.{Grid}
use Rattle.tables.specs.Tables.{Tables}
use Rattle.lent.specs.Lent.{begin_check, Begun, pairs_check, pairs_end, end_left, EndIs}
use Rattle.lent.proofs.Beginning.{begun_stopped, begin_spares}
use Rattle.first_tests.specs.Firsts.{PairsAre}
use Rattle.first_tests.specs.InsideScan.{put_at, SameFirst}
use Rattle.first_tests.proofs.Writes.{length_put}

-- ---- what is written, and zero beyond

put_take : (s : List ℕ) (at : ℕ) (xs : List ℕ) → at + length xs ≤ length s → take (at + length xs) (put_at s at xs) ≡ take at s ++ xs
unfolding put_at
put_take s at [] l = rw (add-zero, append-nil)
put_take s at (x ∷ xs) l =
    let e : at + suc (length xs) ≡ suc at + length xs = omega arith in
    rw e
    (put_take (set s at x) (suc at) xs (rw length-set (omega arith))
    ∙ rw (take-suc (set s at x) at 0 (rw length-set (omega arith)), take-set-le at s at x (omega arith), get_or-set_same s at x 0 (omega arith), append_assoc))

-- an output that holds some numbers from its start on, cleared beyond them
cleared : (s xs s' s'' : List ℕ) (n : ℕ) → SameFirst n s' (put_at s 0 xs) → n ≡ length xs → n ≤ length s → s'' ≡ cleared_from n s' → s'' ≡ zero_beyond 0 (length s) xs
unfolding cleared_from zero_beyond
cleared s xs s' s'' n p e l c =
    let w : take (length xs) (put_at s 0 xs) ≡ xs = rw zero-add at (put_take s 0 xs (rw zero-add (omega arith))) in
    c ∙ rw (p.same, p.long, e, w, length_put)

-- ---- a call whose end is known

-- a refusal that changes nothing
pub pairs_refused : {end : Answer (List Pair)} {first second starts listing counts : List ℕ} (r : Refusal) → end ≡ refused r → clears r.number ≡ false
    → PairsAre end first second starts listing counts (Err r) first second starts listing counts
unfolding answer_by left_in
pairs_refused {first = first} {second = second} {starts = starts} {listing = listing} {counts = counts} r e h =
    record {
      answers = rw e;
      first_is = rw e (sym (left_same 0 r first h));
      second_is = rw e (sym (left_same 0 r second h));
      starts_are = rw e (sym (left_same 0 r starts h));
      listing_is = rw e (sym (left_same 0 r listing h));
      counts_are = rw e (sym (left_same 0 r counts h));
    }

-- a check has refused before the first test
pub pairs_stopped : {checked : Check} {g : Grid} {t : Tables} {first second starts listing counts starts' listing' counts' : List ℕ} {r : Check}
    → Begun checked g t (length first) (length second) starts listing counts r starts' listing' counts' → (s : Refusal) → r ≡ Err s → Clearing false checked
    → {end : Answer (List Pair)} (rest : Answer (List Pair)) → end ≡ (begin_check checked g t (length first) (length second) (length starts) (length listing) (length counts) then rest)
    → PairsAre end first second starts listing counts (Err s) first second starts' listing' counts'
pairs_stopped {g = g} {t = t} {first = first} {second = second} {starts = starts} {listing = listing} {counts = counts} b s q c rest e =
    let n = begun_stopped b s q in
    rw (n.starts_same, n.listing_same, n.counts_same)
    (pairs_refused s (e ∙ then_refused _ _ s n.check_is) ((begin_spares g t (length first) (length second) (length starts) (length listing) (length counts) c).says s n.check_is))

zeros : {m n : ℕ} {xs : List ℕ} → xs ≡ replicate m 0 → m ≡ n → xs ≡ replicate n 0
zeros e q = rw q at e

-- all checks but 5 are passed, and the pairs ps were written
module _ (ps : List Pair) (first second starts listing counts : List ℕ) {first₁ second₁ starts₁ listing₁ counts₁ first₂ second₂ starts₂ listing₂ counts₂ : List ℕ} {hits : ℕ} {r : Result ℕ Refusal}
    (n : hits ≡ length ps) (f : SameFirst hits first₁ (put_at first 0 (firsts ps))) (g : SameFirst hits second₁ (put_at second 0 (seconds ps)))
    (q : length first ≡ length second) (qs : length starts₁ ≡ length starts) (ql : length listing₁ ≡ length listing) (qc : length counts₁ ≡ length counts)
    (e : EndIs hits first₁ second₁ starts₁ listing₁ counts₁ r first₂ second₂ starts₂ listing₂ counts₂)
    {end : Answer (List Pair)} (d : end ≡ (pairs_check (length ps) (length first) then gives ps)) where
  first_long : length first₁ ≡ length first
  first_long = f.long ∙ length_put first 0 (firsts ps)

  second_long : length second₁ ≡ length second
  second_long = g.long ∙ length_put second 0 (seconds ps)

  with_room : length ps ≤ length first → PairsAre end first second starts listing counts r first₂ second₂ starts₂ listing₂ counts₂
  unfolding pairs_end end_left pairs_check unless ◌then◌ answer_by left_in
  with_room l =
      let b : leb hits (length first₁) ≡ true = le-leb hits (length first₁) (omega (arith, n, first_long)) in
      let d₂ : end ≡ gives ps = d ∙ rw (le-leb (length ps) (length first) l) in
      record {
        answers = e.answers ∙ rw (b, d₂, n);
        first_is = rw d₂ (cleared first (firsts ps) first₁ first₂ hits f (n ∙ sym (length-map ps (λ (p : Pair). p.first))) (omega (arith, n)) (e.first_is ∙ rw b));
        second_is = rw d₂ (cleared second (seconds ps) second₁ second₂ hits g (n ∙ sym (length-map ps (λ (p : Pair). p.second))) (omega (arith, n, q)) (e.second_is ∙ rw b));
        starts_are = rw d₂ (zeros e.starts_are qs);
        listing_is = rw d₂ (zeros e.listing_is ql);
        counts_are = rw d₂ (zeros e.counts_are qc);
      }

  without_room : length first < length ps → PairsAre end first second starts listing counts r first₂ second₂ starts₂ listing₂ counts₂
  unfolding pairs_end end_left pairs_check unless ◌then◌ answer_by left_in
  without_room l =
      let b : leb hits (length first₁) ≡ false = lt-leb hits (length first₁) (omega (arith, n, first_long)) in
      let d₂ : end ≡ refused (refusal 5 (length ps)) = d ∙ rw (lt-leb (length ps) (length first) l) in
      let z = numbers_clear 5 (omega arith) (omega arith) in
      record {
        answers = e.answers ∙ rw (b, d₂, n);
        first_is = rw d₂ (zeros (e.first_is ∙ rw b) first_long ∙ sym (left_zero 0 (refusal 5 (length ps)) first z));
        second_is = rw d₂ (zeros (e.second_is ∙ rw b) second_long ∙ sym (left_zero 0 (refusal 5 (length ps)) second z));
        starts_are = rw d₂ (zeros e.starts_are qs ∙ sym (left_zero 0 (refusal 5 (length ps)) starts z));
        listing_is = rw d₂ (zeros e.listing_is ql ∙ sym (left_zero 0 (refusal 5 (length ps)) listing z));
        counts_are = rw d₂ (zeros e.counts_are qc ∙ sym (left_zero 0 (refusal 5 (length ps)) counts z));
      }

  -- THE END: the pairs with zero beyond them, or 5 with their number and zero throughout
  pub pairs_end_lem : PairsAre end first second starts listing counts r first₂ second₂ starts₂ listing₂ counts₂
  pairs_end_lem = go (dec_le (length ps) (length first))
    where
      go : Dec (length ps ≤ length first) → PairsAre end first second starts listing counts r first₂ second₂ starts₂ listing₂ counts₂
      go (yes l) = with_room l
      go (no l) = without_room (omega arith)

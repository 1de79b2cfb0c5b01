-- The laws of a full visit that is made in batches. Assumes nothing.
use Rattle.std.specs.Prelude.{Ok, Err, Result}
use Rattle.refusals.specs.Refusals.{Check}
use mathlib.Core.Path.{◌≡◌, refl, sym, ap, ◌∙◌}
use mathlib.Core.Bool.{Bool, true, false}
use mathlib.Core.List.{List, [], ◌∷◌, ◌++◌}
use Prim.Native.Nat.{ℕ, zero, suc, ◌+◌, ◌-◌, ◌≤◌, ◌<◌}
use native.Mathlib.Omega.{arith}
use borrow.Author.Tests.{eq-eqb}
use lib.ListN.{length, drop, length-append, length-drop}
use lib.Seq.{drop-drop}
use Rattle.refusals.specs.declared.Refusal.{Refusal}
use Rattle.refusals.specs.Refusals.{unless, Answer, gives, ◌then◌, answer_by}
use Rattle.refusals.proofs.Answers.{then_fine, refused_by, past}
use Rattle.grid.specs.declared.Grid.{Grid}
use Rattle.grid.specs.Domain.{Lines}
use Rattle.tables.specs.Tables.{Tables}
use Rattle.visit.specs.declared.Tally.{Tally}
use Rattle.seek.specs.Tests.{Pair, tests_of}
use Rattle.visit.specs.Overlap.{overlap}
use Rattle.visit.specs.Batches.{made, room_after, keep_if, overlapping, handed}
use Rattle.seek.specs.Bookmarks.{visit_check, tests_from}
use Rattle.visit.specs.Entries.{outputs_check, tally_of, batch_tests, batch_of, batch_answer, BatchIs}
use Rattle.seek.proofs.FindLaws.{book_in}
use Rattle.chain.specs.Printed.{all_tests}
use Rattle.chain.specs.Inside.{batch_from, full_visit}

-- ---- what a batch makes

keep_append : (b : Bool) (p : Pair) (xs ys : List Pair) → keep_if b p (xs ++ ys) ≡ keep_if b p xs ++ ys
unfolding keep_if
keep_append true p xs ys = refl
keep_append false p xs ys = refl

keep_length : (b : Bool) (p : Pair) (xs : List Pair) → length (keep_if b p xs) ≤ suc (length xs)
unfolding keep_if
keep_length true p xs = omega arith
keep_length false p xs = omega arith

module _ (ls : Lines) where
  over_append : (xs ys : List Pair) → overlapping ls (xs ++ ys) ≡ overlapping ls xs ++ overlapping ls ys
  unfolding overlapping
  over_append [] ys = refl
  over_append (p ∷ xs) ys =
      ap (keep_if (overlap ls p.first p.second) p) (over_append xs ys)
      ∙ keep_append (overlap ls p.first p.second) p (overlapping ls xs) (overlapping ls ys)

  pub over_length : (xs : List Pair) → length (overlapping ls xs) ≤ length xs
  unfolding overlapping
  over_length [] = omega arith
  over_length (p ∷ xs) =
      let h = over_length xs in
      let k = keep_length (overlap ls p.first p.second) p (overlapping ls xs) in
      omega arith

  -- the first of the tests that are left
  made_front : (ps : List Pair) (room : ℕ) → made ls ps room ++ drop (length (made ls ps room)) ps ≡ ps
  unfolding made
  made_front [] room = refl
  made_front (p ∷ ps) zero = refl
  made_front (p ∷ ps) (suc room) = ap (λ (t : List Pair). p ∷ t) (made_front ps (room_after (overlap ls p.first p.second) room))

  -- with room, and none made, none is left
  made_some : (ps : List Pair) (room : ℕ) → length (made ls ps (suc room)) ≡ 0 → length ps ≡ 0
  unfolding made
  made_some [] room e = refl
  made_some (p ∷ ps) room e = absurd (omega arith)

  made_counts : (ps : List Pair) (room : ℕ) → length (handed ls ps room) + length (overlapping ls (drop (length (made ls ps room)) ps)) ≡ length (overlapping ls ps)
  made_counts ps room =
      sym (length-append (handed ls ps room) (overlapping ls (drop (length (made ls ps room)) ps)))
      ∙ ap length (sym (over_append (made ls ps room) (drop (length (made ls ps room)) ps)) ∙ ap (overlapping ls) (made_front ps room))

  made_most : (ps : List Pair) (room : ℕ) → length (made ls ps room) ≤ length ps
  made_most ps room = let e = simp length-append at (ap length (made_front ps room)) in omega arith

-- ---- batch after batch

-- so many tests were made, with so many overlaps: the others are those of the tests that are left
pub record Visiting (ls : Lines) (t : Tables) (tests overlaps : ℕ) : Type 0 where
  pub at_most : tests ≤ length (tests_of t)
  pub few : overlaps ≤ tests
  pub rest : overlaps + length (overlapping ls (drop tests (tests_of t))) ≡ length (overlapping ls (tests_of t))

pub visiting_none : (ls : Lines) (t : Tables) → Visiting ls t 0 0
visiting_none ls t = record { at_most = omega arith; few = omega arith; rest = omega arith }

module _ (ls : Lines) (t : Tables) (b o : ℕ) (a : Tally) (is : a ≡ tally_of ls (drop b (tests_of t)) b 1024) (v : Visiting ls t b o) where
  m : ℕ
  m = length (made ls (drop b (tests_of t)) 1024)

  tests_is : a.tests ≡ m
  unfolding m
  tests_is = ap (λ (x : Tally). x.tests) is

  overlaps_is : a.overlaps ≡ length (handed ls (drop b (tests_of t)) 1024)
  overlaps_is = ap (λ (x : Tally). x.overlaps) is

  bookmark_is : a.bookmark ≡ b + m
  unfolding m
  bookmark_is = ap (λ (x : Tally). x.bookmark) is

  within : b + m ≤ length (tests_of t)
  unfolding m
  within =
      let h = made_most ls (drop b (tests_of t)) 1024 in
      let l = length-drop b (tests_of t) in
      let k = v.at_most in
      omega arith

  fewer : a.overlaps ≤ m
  unfolding m
  fewer = let h = over_length ls (made ls (drop b (tests_of t)) 1024) in let e = overlaps_is in omega arith

  -- the sum of the overlaps is within the tests made
  pub visiting_few : o + a.overlaps ≤ a.bookmark
  visiting_few = let k = v.few in let h = fewer in let e = bookmark_is in omega arith

  pub visiting_more : Visiting ls t a.bookmark (o + a.overlaps)
  unfolding m
  visiting_more =
      let e = bookmark_is in
      let d : drop a.bookmark (tests_of t) ≡ drop m (drop b (tests_of t)) = ap (λ (n : ℕ). drop n (tests_of t)) bookmark_is ∙ sym (drop-drop m b (tests_of t)) in
      let c = made_counts ls (drop b (tests_of t)) 1024 in
      let r = v.rest in
      let q = overlaps_is in
      record {
        at_most = let w = within in omega arith;
        few = visiting_few;
        rest = rw d (omega arith);
      }

  pub visiting_less : (a.tests ≡ 0 → ⊥) → length (tests_of t) - a.bookmark < length (tests_of t) - b
  visiting_less n = go m tests_is within bookmark_is
    where
      go : (k : ℕ) → a.tests ≡ k → b + k ≤ length (tests_of t) → a.bookmark ≡ b + k → length (tests_of t) - a.bookmark < length (tests_of t) - b
      go zero e w f = absurd (n e)
      go (suc k) e w f = omega arith

  -- a batch that made no test has come to the end
  pub visiting_end : a.tests ≡ 0 → (b ≡ length (tests_of t)) × (o ≡ length (overlapping ls (tests_of t)))
  unfolding m
  visiting_end z =
      let e = tests_is in
      let k = made_some ls (drop b (tests_of t)) 1023 (omega arith) in
      let l = length-drop b (tests_of t) in
      let h = v.at_most in
      let x : b ≡ length (tests_of t) = omega arith in
      let y = over_length ls (drop b (tests_of t)) in
      let r = v.rest in
      (x, omega arith)

-- ---- what a batch answers

-- outputs of one length are not refused
pub batch_is : {ls : Lines} {g : Grid} {t : Tables} {b : ℕ} {fs ss fs' ss' : List ℕ} {r : Result Tally Refusal} → BatchIs ls g t b fs ss fs' ss' r → length fs ≡ 1024 → length ss ≡ 1024 → r ≡ batch_from ls g t b
unfolding batch_answer batch_tests outputs_check unless ◌then◌
batch_is {ls} {g} {t} {b} {fs} {ss} i e f = i.answers ∙ rw (eq-eqb (length fs) (length ss) (e ∙ sym f), e)

-- within the tests a bookmark is not refused
module _ (ls : Lines) (g : Grid) (t : Tables) (b : ℕ) (h : b ≤ length (tests_of t)) where
  left : Answer (List Pair)
  left = gives (drop b (tests_of t))

  from_is : tests_from ls g t b ≡ (visit_check ls g t then left)
  unfolding tests_from left
  from_is = ap (λ (o : Answer (List Pair)). visit_check ls g t then o) (then_fine _ _ (book_in t b h))

  by_check : (k : Check) (x : Result Tally Refusal) → visit_check ls g t ≡ k → x ≡ batch_from ls g t b → x ≡ batch_of ls b 1024 (k then left)
  by_check k x c e = e ∙ ap (batch_of ls b 1024) (from_is ∙ ap (λ (q : Check). q then left) c)

  pub done_says : (x : Result Tally Refusal) (a : Tally) → x ≡ batch_from ls g t b → x ≡ Ok a → (visit_check ls g t ≡ Ok tt) × (a ≡ tally_of ls (drop b (tests_of t)) b 1024)
  unfolding batch_of answer_by left ◌then◌
  done_says x a is e = go (visit_check ls g t) refl
    where
      go : (k : Check) → visit_check ls g t ≡ k → (visit_check ls g t ≡ Ok tt) × (a ≡ tally_of ls (drop b (tests_of t)) b 1024)
      go (Ok _) c = (c, let d = sym e ∙ by_check (Ok tt) x c is in cc)
      go (Err r) c = absurd (let d = sym e ∙ by_check (Err r) x c is in let z : ◌≡◌ {A = ℕ} 0 1 = cc in omega arith)

  pub refused_says : (x : Result Tally Refusal) (r : Refusal) → x ≡ batch_from ls g t b → x ≡ Err r → visit_check ls g t ≡ Err r
  unfolding batch_of answer_by left ◌then◌
  refused_says x r is e = go (visit_check ls g t) refl
    where
      go : (k : Check) → visit_check ls g t ≡ k → visit_check ls g t ≡ Err r
      go (Ok _) c = absurd (let d = sym e ∙ by_check (Ok tt) x c is in let z : ◌≡◌ {A = ℕ} 0 1 = cc in omega arith)
      go (Err q) c = let d = sym e ∙ by_check (Err q) x c is in let s : q ≡ r = cc in c ∙ ap Err s

-- ---- the answer

module _ (ls : Lines) (g : Grid) (t : Tables) (b o : ℕ) (x : Result Tally Refusal) (is : x ≡ batch_from ls g t b) (v : Visiting ls t b o) where
  pub visit_refused : (r : Refusal) → x ≡ Err r → Err r ≡ full_visit ls g t
  unfolding full_visit all_tests
  visit_refused r e = refused_by _ _ _ _ r (refused_says ls g t b v.at_most x r is e)

  module _ (a : Tally) (e : x ≡ Ok a) where
    pub visit_tally : a ≡ tally_of ls (drop b (tests_of t)) b 1024
    visit_tally = (done_says ls g t b v.at_most x a is e).1

    pub visit_counted : a.tests ≡ 0 → Ok (record { tests = b; overlaps = o }) ≡ full_visit ls g t
    unfolding full_visit all_tests answer_by
    visit_counted z =
        let q = visiting_end ls t b o a visit_tally v z in
        rw (q.0, q.1) (past _ _ _ _ (done_says ls g t b v.at_most x a is e).0)

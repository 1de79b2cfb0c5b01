-- EACH PAIR ONCE: two lines are handed out once if they are tested and the decision is yes, and else never; and where the decision is that boxes
-- overlap, exactly if the plain visit hands them out. Of any tables that fit, and any decision that asks not which line is the first. Assumes
-- nothing.
use mathlib.Core.Path.{◌≡◌, refl, sym, ap, ◌∙◌}
use mathlib.Core.Bool.{Bool, true, false, ◌&&◌, and-true, and-false}
use mathlib.Core.List.{List, [], ◌∷◌, ◌++◌}
use Prim.Native.Nat.{ℕ, ◌+◌}
use native.Mathlib.Nat.{add-zero, zero-add}
use native.Mathlib.Omega.{arith}
use borrow.Author.Tests.{ne_eqb, lt-ltb}
use lib.Dec.{eqb, ltb}
use Rattle.grid.specs.Domain.{Lines}
use Rattle.tables.specs.Tables.{Tables}
use Rattle.tables.specs.Fit.{TablesFit}
use Rattle.seek.specs.Tests.{Pair, tests_of}
use Rattle.visit.specs.Overlap.{overlap}
use Rattle.visit.specs.Batches.{keep_if, overlapping}
use Rattle.visit.specs.Words.{one_where, test_of_both, times, Different}
use Rattle.visit.proofs.Often.{one_true, one_false, times_nil, times_cons, times_append, times_swap, overlap_swap, of_both, handed_often, handed_never}
use Rattle.visit.proofs.Different.{tests_different}
use Rattle.first_tests.specs.Firsts.{keeps, kept_by, first_tests}
use Rattle.once.specs.Once.{once_of}
use Rattle.once_laws.specs.Words.{FirstsAfter, EachOnce}
use Rattle.once_laws.proofs.First.{tests_first}

-- ---- what is kept

kept_nil : (keep : Pair → Bool) → kept_by keep [] ≡ []
unfolding kept_by
kept_nil keep = refl

kept_times : (a b : ℕ) (keep : Pair → Bool) (p : Pair) (ps : List Pair)
    → times a b (kept_by keep (p ∷ ps)) ≡ one_where (keep p && test_of_both a b p) + times a b (kept_by keep ps)
unfolding kept_by keep_if
kept_times a b keep p ps = go (keep p)
  where
    go : (x : Bool) → times a b (keep_if x p (kept_by keep ps)) ≡ one_where (x && test_of_both a b p) + times a b (kept_by keep ps)
    go true = times_cons a b p (kept_by keep ps)
    go false = rw one_false (sym (zero-add _))

kept_different : (n : ℕ) (keep : Pair → Bool) (ps : List Pair) → Different n ps → Different n (kept_by keep ps)
unfolding kept_by keep_if
kept_different n keep [] d = tt
kept_different n keep (p ∷ ps) d = go (keep p) (kept_different n keep ps d.1)
  where
    go : (x : Bool) → Different n (kept_by keep ps) → Different n (keep_if x p (kept_by keep ps))
    go true h = (d.0, h)
    go false h = h

module _ (chosen : ℕ → ℕ → Bool) (swap : (a b : ℕ) → chosen a b ≡ chosen b a) (t : Tables) (a b : ℕ) where
  kept_once : (bs ps : List Pair) → FirstsAfter t bs ps
      → times a b (kept_by (keeps chosen t) ps) ≡ one_where (chosen a b && (eqb (times a b bs) 0 && ltb 0 (times a b ps)))
  unfolding keeps
  kept_once bs [] f = rw (kept_nil (keeps chosen t), times_nil) (rw (and-false (eqb (times a b bs) 0), and-false (chosen a b)) (sym one_false))
  kept_once bs (p ∷ ps) f = go (test_of_both a b p) refl (kept_once (bs ++ (p ∷ [])) ps f.1)
    where
      more : times a b (bs ++ (p ∷ [])) ≡ times a b bs + one_where (test_of_both a b p)
      more = times_append a b bs (p ∷ []) ∙ omega (arith, times_cons a b p [], times_nil a b)

      here : test_of_both a b p ≡ true → keeps chosen t p ≡ (chosen a b && eqb (times a b bs) 0)
      here e =
          let c : chosen p.first p.second ≡ chosen a b = of_both chosen swap a b p e in
          let u : times p.first p.second bs ≡ times a b bs = of_both (λ x y. times x y bs) (λ x y. times_swap x y bs) a b p e in
          rw (c, f.0, u)

      go : (x : Bool) → test_of_both a b p ≡ x
          → times a b (kept_by (keeps chosen t) ps) ≡ one_where (chosen a b && (eqb (times a b (bs ++ (p ∷ []))) 0 && ltb 0 (times a b ps)))
          → times a b (kept_by (keeps chosen t) (p ∷ ps)) ≡ one_where (chosen a b && (eqb (times a b bs) 0 && ltb 0 (times a b (p ∷ ps))))
      go true e h =
          let m : eqb (times a b (bs ++ (p ∷ []))) 0 ≡ false = ne_eqb (times a b (bs ++ (p ∷ []))) 0 (λ q. omega (arith, more, ap one_where e, one_true)) in
          let z : times a b (kept_by (keeps chosen t) ps) ≡ 0 = h ∙ rw (m, and-false (chosen a b), one_false) in
          let s : ltb 0 (times a b (p ∷ ps)) ≡ true = lt-ltb 0 (times a b (p ∷ ps)) (omega (arith, times_cons a b p ps, ap one_where e, one_true)) in
          kept_times a b (keeps chosen t) p ps ∙ rw (z, add-zero, e, here e, s, and-true (eqb (times a b bs) 0)) (ap one_where (and-true (chosen a b && eqb (times a b bs) 0)))
      go false e h =
          let m : times a b (bs ++ (p ∷ [])) ≡ times a b bs = more ∙ rw (e, one_false, add-zero) in
          let s : times a b (p ∷ ps) ≡ times a b ps = times_cons a b p ps ∙ rw (e, one_false, zero-add) in
          kept_times a b (keeps chosen t) p ps ∙ rw (e, and-false (keeps chosen t p), one_false, zero-add, s) (h ∙ rw m)

-- ---- THE LAWS

module _ (t : Tables) (f : TablesFit t) where
  pub each_once : (chosen : ℕ → ℕ → Bool) → ((a b : ℕ) → chosen a b ≡ chosen b a) → EachOnce chosen t
  unfolding first_tests
  each_once chosen swap =
      record {
        first = tests_first t f;
        once = λ a b. kept_once chosen swap t a b [] (tests_of t) (tests_first t f) ∙ rw (times_nil a b);
        only = kept_different t.lines (keeps chosen t) (tests_of t) (tests_different t f);
      }

  -- AS THE PLAIN VISIT: two lines are handed out once if it hands them out at all, and else never
  pub once_as_visit : (ls : Lines) (a b : ℕ) → times a b (once_of ls t) ≡ one_where (ltb 0 (times a b (overlapping ls (tests_of t))))
  unfolding once_of
  once_as_visit ls a b = (each_once (overlap ls) (overlap_swap ls)).once a b ∙ go (overlap ls a b) refl
    where
      go : (x : Bool) → overlap ls a b ≡ x → one_where (x && ltb 0 (times a b (tests_of t))) ≡ one_where (ltb 0 (times a b (overlapping ls (tests_of t))))
      go true e = rw (handed_often ls a b (tests_of t) e)
      go false e = rw (handed_never ls a b (tests_of t) e)

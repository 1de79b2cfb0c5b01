-- Laws of the records of a file, one after another: those that agree so far, and how the rest goes on. Assumes nothing.
use Prim.Native.Nat.{ℕ, ◌+◌, ◌-◌, ◌≤◌}
use native.Mathlib.Omega.{arith}
use mathlib.Core.Path.{◌≡◌, refl, sym, subst, ◌∙◌}
use mathlib.Core.Bool.{Bool, true, false, cond}
use mathlib.Core.Logic.{◌≢◌}
use mathlib.Core.List.{List, [], ◌∷◌, ◌++◌, append-nil}
use lib.ListN.{length, take, drop, get_or, length-append, length-drop, drop_of_length-le}
use lib.Seq.{append_snoc, length-take-le}
use Rattle.records.specs.Files.{Record, records_of, word_total, size_of}
use Rattle.records.proofs.Rows.{size_parts, next_record, last_record}
use Rattle.agreed.specs.Agreed.{Agrees, Agreeing, none, more, other, Tallied, AgreeTo, end, apart, past}
use Rattle.agreed.specs.Inside.{Tells}

-- the records up to a place are looked at
pub record Tallying (w : List ℕ) (k records words at : ℕ) : Type 0 where
  pub within : at ≤ length w
  pub few : records ≤ at
  pub narrow : words ≤ at
  pub done : List Record
  pub count : records ≡ length done
  pub span : words ≡ word_total done
  pub rest : (gs : List Record) → Agreeing k (records_of (drop at w)) gs → Agreeing k (records_of w) (done ++ gs)

-- all records before a place agree
pub record Going (w : List ℕ) (at : ℕ) : Type 0 where
  pub within : at ≤ length w
  pub rest : (n : ℕ) → AgreeTo (records_of (drop at w)) n → AgreeTo (records_of w) (at + n)

pub going_none : (w : List ℕ) → Going w 0
going_none w = record { within = omega arith; rest = λ n h. let e : n ≡ 0 + n = omega arith in subst (AgreeTo (records_of w)) e h }

pub going_end : {w : List ℕ} {at : ℕ} → Going w at → size_of (drop at w) ≡ 0 → AgreeTo (records_of w) at
going_end {w} {at} t e =
    let q : at + 0 ≡ at = omega arith in
    subst (AgreeTo (records_of w)) q (t.rest 0 (subst (λ (rs : List Record). AgreeTo rs 0) (sym (last_record w at e)) end))

pub tally_none : (w : List ℕ) (k : ℕ) → Tallying w k 0 0 0
unfolding word_total
tally_none w k = record { within = omega arith; few = omega arith; narrow = omega arith; done = []; count = refl; span = refl; rest = λ gs h. h }

span_snoc : (rs : List Record) (r : Record) → word_total (rs ++ (r ∷ [])) ≡ word_total rs + (3 + (length r.question + length r.answer))
unfolding word_total
span_snoc [] r = omega arith
span_snoc (x ∷ rs) r = omega (arith, span_snoc rs r)

-- a size that is not 0 is that of a head, a question and an answer
pub of_parts : (w : List ℕ) (at : ℕ) {s : ℕ} → s ≡ size_of (drop at w) → s ≢ 0 → s ≡ 3 + (get_or w (at + 1) 0 + get_or w (at + 2) 0)
of_parts w at e p = e ∙ size_parts at w (omega (arith, e, p))

-- a record of the size s
module _ (w : List ℕ) (at from mid to s : ℕ) (e : s ≡ size_of (drop at w)) (p : s ≢ 0)
    (f : from ≡ at + 3) (g : mid ≡ from + get_or w (at + 1) 0) (h : to ≡ at + s) (l : to ≤ length w) where
  abbrev found : Record
  found = record { kind = get_or w at 0; question = take (mid - from) (drop from w); answer = take (to - mid) (drop mid w) }

  next : records_of (drop at w) ≡ found ∷ records_of (drop to w)
  next = next_record w at from mid to (omega (arith, e, p)) f g (omega (arith, e, h))

  parts : s ≡ 3 + (get_or w (at + 1) 0 + get_or w (at + 2) 0)
  parts = of_parts w at e p

  sized : 3 + (length found.question + length found.answer) ≡ s
  sized =
      let i = length-take-le (mid - from) (drop from w) (omega (arith, length-drop from w, parts, f, g, h, l)) in
      let j = length-take-le (to - mid) (drop mid w) (omega (arith, length-drop mid w, parts, f, g, h, l)) in
      omega (arith, i, j, parts, f, g, h)

  module _ {k n m : ℕ} (t : Tallying w k n m at) where
    counted : (found.kind ≡ k) × Agrees found → Tallying w k (n + 1) (m + s) to
    counted a = record {
      within = l;
      few = omega (arith, t.few, h, p);
      narrow = omega (arith, t.narrow, h);
      done = t.done ++ (found ∷ []);
      count = omega (arith, t.count, length-append t.done (found ∷ []));
      span = omega (arith, t.span, span_snoc t.done found, sized);
      rest = λ gs r.
          subst (Agreeing k (records_of w)) (sym (append_snoc t.done found gs))
          (t.rest (found ∷ gs) (subst (λ (rs : List Record). Agreeing k rs (found ∷ gs)) (sym next) (more a r)));
    }

    passed : ((found.kind ≡ k) × Agrees found → ⊥) → Tallying w k (n + 0) (m + 0) to
    passed a = record {
      within = l;
      few = omega (arith, t.few, h);
      narrow = omega (arith, t.narrow, h);
      done = t.done;
      count = omega (arith, t.count);
      span = omega (arith, t.span);
      rest = λ gs r. t.rest gs (subst (λ (rs : List Record). Agreeing k rs gs) (sym next) (other a r));
    }

    pub tally_more : (b : Bool) {x y : ℕ} → Tells b ((found.kind ≡ k) × Agrees found) → x ≡ cond b 1 0 → y ≡ cond b s 0 → Tallying w k (n + x) (m + y) to
    tally_more true a i j = rw (i, j) (counted (a.yes refl))
    tally_more false a i j = rw (i, j) (passed (a.no refl))

  module _ (t : Going w at) where
    pub going_past : Agrees found → Going w to
    unfolding word_total
    going_past a = record {
      within = l;
      rest = λ n r.
          let q : at + (3 + (length found.question + length found.answer) + 0 + n) ≡ to + n = omega (arith, sized, h) in
          subst (AgreeTo (records_of w)) q
          (t.rest (3 + (length found.question + length found.answer) + 0 + n) (subst (λ (rs : List Record). AgreeTo rs (3 + (length found.question + length found.answer) + 0 + n)) (sym next) (past a r)));
    }

    pub going_apart : (Agrees found → ⊥) → AgreeTo (records_of w) at
    going_apart a =
        let q : at + 0 ≡ at = omega arith in
        subst (AgreeTo (records_of w)) q (t.rest 0 (subst (λ (rs : List Record). AgreeTo rs 0) (sym next) (apart a)))

pub tally_all : {w : List ℕ} {k n m at : ℕ} → Tallying w k n m at → size_of (drop at w) ≡ 0 → Tallied k w (record { records = n; words = m }) × (m ≤ length w)
tally_all {w} {k} {n} {m} {at} t e =
    let a : Agreeing k (records_of (drop at w)) [] = subst (λ (rs : List Record). Agreeing k rs []) (sym (last_record w at e)) none in
    (record { agreeing = t.done; are = subst (Agreeing k (records_of w)) (append-nil t.done) (t.rest [] a); records = t.count; words = t.span }, omega (arith, t.narrow, t.within))

-- past the end
pub ended : (w : List ℕ) (at : ℕ) → length w ≤ at → size_of (drop at w) ≡ 0
unfolding size_of
ended w at h = rw (drop_of_length-le w h)

pub at_most : (b : Bool) (n : ℕ) {x : ℕ} → x ≡ cond b n 0 → x ≤ n
at_most true n e = omega (arith, e)
at_most false n e = omega (arith, e)

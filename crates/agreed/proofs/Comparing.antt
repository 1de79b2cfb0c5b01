-- Laws of one record: its recorded words, and those that are answered and written to the room. Assumes nothing.
use Prim.Native.Nat.{ℕ, ◌+◌, ◌≤◌}
use native.Mathlib.Omega.{arith}
use mathlib.Core.Path.{◌≡◌, sym, ap, ◌∙◌}
use mathlib.Core.Bool.{Bool, false, true≢false}
use mathlib.Core.Logic.{◌≢◌}
use mathlib.Core.List.{List}
use lib.Dec.{eqb}
use lib.ListN.{length, take, drop, length-take}
use lib.Seq.{sets, sets-eq, length-sets, take-append_seam, take_all}
use borrow.Author.Tests.{eqb-true, eqb-false}
use Rattle.records.specs.Files.{Record}
use Rattle.records.specs.Words.{same_to}
use Rattle.records.proofs.Sameness.{same_within, same_take, take_same}
use Rattle.asked.specs.Asked.{WordsAnswered, AnswersFor}
use Rattle.asked.proofs.Outcomes.{answers_once}
use Rattle.agreed.specs.Agreed.{Agrees}
use Rattle.agreed.specs.Inside.{Tells}

-- words that there is room for stand at the start
written : (ws room : List ℕ) → length ws ≤ length room → take (length ws) (sets room 0 ws) ≡ ws
written ws room h = ap (take (length ws)) (sets-eq ws room 0 (omega arith)) ∙ take-append_seam ws (drop (0 + length ws) room)

pub told_both : {b : Bool} {P Q : Type 0} → P → Tells b Q → Tells b (P × Q)
told_both p t = record { yes = λ e. (p, t.yes e); no = λ e g. t.no e g.1 }

abbrev recorded : ℕ → List ℕ → List ℕ → Record
recorded kind q a = record { kind = kind; question = q; answer = a }

-- what no record is told by
pub told_not : {P : Type 0} → (P → ⊥) → Tells false P
told_not h = record { yes = λ e. absurd (true≢false (sym e)); no = λ _. h }

module _ {kind n : ℕ} {q room left : List ℕ} (h : WordsAnswered (AnswersFor kind q) room n left) (l : length room ≡ 32768) where
  pub kept : length left ≡ 32768
  kept = ap length h.put.words ∙ length-sets room 0 h.words ∙ l

  -- where the record agrees, its words are those that are answered
  same : {a : List ℕ} → Agrees (recorded kind q a) → h.words ≡ a
  same g = answers_once h.is g.answers

  many : {a : List ℕ} → Agrees (recorded kind q a) → n ≡ length a
  many g = let e = ap length (same g) in let m = g.most in omega (arith, h.put.count, e, m)

  pub not_none : {a : List ℕ} → n ≡ 0 → Agrees (recorded kind q a) → ⊥
  not_none e g = let m = many g in let s = g.some in omega (arith, e, m, s)

  pub not_other : {a : List ℕ} → n ≢ length a → Agrees (recorded kind q a) → ⊥
  not_other e g = e (many g)

  module _ {a : List ℕ} (p : n ≢ 0) (m : n ≡ length a) where
    agrees : same_to a left ≡ n → Agrees (recorded kind q a)
    agrees e =
        let t : take n a ≡ take n left = same_take n a left (omega (arith, e)) in
        let u : take n a ≡ a = take_all n a (omega (arith, m)) in
        let f : n ≤ 32768 = omega (arith, ap length (sym t ∙ u), length-take n left, kept, m) in
        let k : length h.words ≡ n = omega (arith, h.put.count, f) in
        let w : take n left ≡ h.words = ap (take n) h.put.words ∙ ap (λ (i : ℕ). take i (sets room 0 h.words)) (sym k) ∙ written h.words room (omega (arith, k, f, l)) in
        let v : h.words ≡ a = sym w ∙ sym t ∙ u in
        record { answers = rw v at h.is; some = omega (arith, p, m); most = omega (arith, f, m) }

    all_same : Agrees (recorded kind q a) → same_to a left ≡ n
    all_same g =
        let v = same g in
        let f : length h.words ≤ length room = omega (arith, ap length v, g.most, l) in
        let w : take n left ≡ a = ap (take n) h.put.words ∙ ap (λ (i : ℕ). take i (sets room 0 h.words)) (m ∙ sym (ap length v)) ∙ written h.words room f ∙ v in
        let u : take n a ≡ take n left = take_all n a (omega (arith, m)) ∙ sym w in
        omega (arith, take_same n a left (omega (arith, m)) u, same_within a left, m)

    pub told : {b : Bool} → b ≡ eqb (same_to a left) n → Tells b (Agrees (recorded kind q a))
    told e = record { yes = λ t. agrees (eqb-true _ _ (sym e ∙ t)); no = λ t g. eqb-false _ _ (sym e ∙ t) (all_same g) }

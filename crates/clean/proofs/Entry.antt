-- The promise of the call from its parts: after a refusal, and after members were cleaned. Assumes nothing.
use Rattle.std.specs.Prelude.{Ok, Err}
use mathlib.Core.Path.{◌≡◌, refl, sym, ap, ◌∙◌}
use mathlib.Core.Bool.{false, ◌&&◌}
use mathlib.Core.List.{List, map, flatten}
use Prim.Native.Nat.{ℕ, ◌-◌, ◌/◌, ◌≤◌}
use native.Mathlib.Omega.{arith}
use lib.Dec.{leb, eqb}
use lib.ListN.{length, length-map, replicate}
use borrow.Author.Tests.{leb-true, eqb-true}
use Rattle.refusals.specs.declared.Refusal.{Refusal}
use Rattle.refusals.specs.Refusals.{refused, gives, answer_by, clears, left_in, zero_beyond}
use Rattle.refusals.proofs.Checks.{unless_fine}
use Rattle.refusals.proofs.Answers.{then_refused, then_fine}
use Rattle.refusals.proofs.Leaving.{left_same, clearing_unless}
use Rattle.grid.proofs.Bools.{and_says}
use Rattle.wkb.specs.Bytes.{Point}
use Rattle.members.specs.Held.{points_of, chains_of, all_lengths, sum_of, held_check}
use Rattle.members.proofs.Held.{Held, held_says, length_points_of, map_x, map_y, flatten_chains}
use Rattle.clean.specs.Cleaning.{cleaned, reasons, kept_values}
use Rattle.clean.specs.Calls.{Outputs, outputs, kept_room_check, cleaning, cleaned_of, holds, kept_axis, kept_lengths, outputs_left, CleanedAs}
use Rattle.clean.specs.Inside.{CleanRoom, MarkedAll, PutKept}
use Rattle.clean.proofs.Rules.{length_reasons, kept_beyond, kept_map, kept_are}

-- ---- the checks

-- outputs that pass have room for all that may be kept
pub record Lent (n : ℕ) (o : Outputs) : Type 0 where
  pub alike : length o.x ≡ length o.y
  pub points : n ≤ length o.x
  pub halves : n / 2 ≤ length o.lengths
  pub marks : n ≤ length o.reasons

pub lent_says : (n : ℕ) (o : Outputs) → kept_room_check n o ≡ (Ok tt) → Lent n o
unfolding kept_room_check
lent_says n o h =
    let a = and_says (eqb (length o.x) (length o.y)) _ (unless_fine _ _ _ h) in
    let b = and_says (leb n (length o.x)) _ a.1 in
    let c = and_says (leb (n / 2) (length o.lengths)) (leb n (length o.reasons)) b.1 in
    record { alike = eqb-true _ _ a.0; points = leb-true _ _ b.0; halves = leb-true _ _ c.0; marks = leb-true _ _ c.1 }

pub room_of : {xs : List ℕ} {o : Outputs} → Lent (length xs) o → CleanRoom xs o.reasons o.lengths 0 0
room_of l = record { marks = l.marks; halves = l.halves; twice = omega arith }

module _ (x y ns : List ℕ) (o : Outputs) where
  -- refusal 3 changes nothing
  same : (r : Refusal) → cleaning x y ns o ≡ refused r → clears r.number ≡ false → CleanedAs x y ns o (Err r) o
  unfolding cleaned_of outputs_left holds answer_by left_in
  same r e k = record {
    answer = rw e;
    left = rw (e, left_same 0 r o.x k, left_same 0 r o.y k, left_same 0 r o.lengths k, left_same 0 r o.reasons k);
  }

  pub clean_held : (r : Refusal) → held_check (length x) (length y) ns ≡ Err r → CleanedAs x y ns o (Err r) o
  unfolding cleaning held_check clears
  clean_held r e = same r (then_refused _ _ r e) ((clearing_unless (eqb (length x) (length y) && (leb (length ns) 4294967295 && (all_lengths ns && eqb (sum_of ns) (length x)))) 3 0 refl).says r e)

  module _ (h : held_check (length x) (length y) ns ≡ (Ok tt)) where
    pub clean_lent : (r : Refusal) → kept_room_check (length x) o ≡ Err r → CleanedAs x y ns o (Err r) o
    unfolding cleaning kept_room_check clears
    clean_lent r e =
        same r (then_fine _ _ h ∙ then_refused _ _ r e)
        ((clearing_unless (eqb (length o.x) (length o.y) && (leb (length x) (length o.x) && (leb (length x / 2) (length o.lengths) && leb (length x) (length o.reasons)))) 3 0 refl).says r e)

    held : Held (length x) (length y) ns
    held = held_says (length x) (length y) ns h

    points : flatten (chains_of ns (points_of x y)) ≡ points_of x y
    points = flatten_chains ns (points_of x y) (held.sum ∙ sym (length_points_of x y held.alike))

    -- one coordinate of the points whose reason says that they are kept
    module _ (f : Point → ℕ) (cs : List ℕ) (are : map f (points_of x y) ≡ cs) (room : ℕ) where
      axis : kept_values (zero_beyond 0 room (reasons (chains_of ns (points_of x y)))) cs ≡ map f (flatten (cleaned (chains_of ns (points_of x y))))
      unfolding zero_beyond
      axis =
          let pss = chains_of ns (points_of x y) in
          let n : length (reasons pss) ≡ length cs = length_reasons pss ∙ ap length points ∙ sym (length-map (points_of x y) f) ∙ ap length are in
          kept_beyond (reasons pss) (replicate (room - length (reasons pss)) 0) cs n
          ∙ ap (kept_values (reasons pss)) (sym (ap (map f) points ∙ are))
          ∙ kept_map f (reasons pss) (flatten pss)
          ∙ ap (map f) (kept_are pss)

    pub clean_all : {kx ky kl rs : List ℕ} {n k m : ℕ} → kept_room_check (length x) o ≡ (Ok tt) → MarkedAll (chains_of ns (points_of x y)) o.reasons o.lengths m rs kl
        → PutKept rs x o.x n kx → PutKept rs y o.y k ky → CleanedAs x y ns o (Ok (record { points = n; members = m })) (outputs kx ky kl rs)
    unfolding cleaning cleaned_of outputs_left holds answer_by left_in kept_axis kept_lengths
    clean_all {kx} {ky} {kl} {rs} {n} {k} {m} l d p q =
        let pss = chains_of ns (points_of x y) in
        let e : cleaning x y ns o ≡ gives pss = then_fine _ _ h ∙ then_fine _ _ l in
        let ax : kept_values rs x ≡ map (λ (p : Point). p.x) (flatten (cleaned pss)) = rw d.in_reasons (axis (λ p. p.x) x (map_x x y held.alike) (length o.reasons)) in
        let ay : kept_values rs y ≡ map (λ (p : Point). p.y) (flatten (cleaned pss)) = rw d.in_reasons (axis (λ p. p.y) y (map_y x y held.alike) (length o.reasons)) in
        let np : n ≡ length (flatten (cleaned pss)) = p.count ∙ ap length ax ∙ length-map (flatten (cleaned pss)) (λ (p : Point). p.x) in
        record {
          answer = rw (e, np, d.count);
          left = rw (e, p.is, q.is, ax, ay, d.in_lengths, d.in_reasons);
        }

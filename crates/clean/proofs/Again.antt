-- Cleaning what was kept (document 02, 10: "Cleaning cleaned data changes nothing"), from the promises of two calls alone. Assumes nothing.
use Rattle.std.specs.Prelude.{Ok, Result}
use mathlib.Core.Path.{◌≡◌, refl, sym, ap, ◌∙◌, subst}
use mathlib.Core.List.{List, map, flatten}
use Prim.Native.Nat.{ℕ}
use native.Mathlib.Omega.{arith}
use lib.ListN.{length, take, replicate, length-map}
use Rattle.refusals.specs.declared.Refusal.{Refusal}
use Rattle.refusals.specs.Refusals.{Answer, refused, gives, answer_by, left_in, zero_beyond}
use Rattle.refusals.proofs.Answers.{then_passed}
use Rattle.wkb.specs.Bytes.{Point}
use Rattle.wkb.proofs.LineStrings.{gives_same}
use Rattle.members.specs.Held.{points_of, chains_of, held_check}
use Rattle.members.proofs.Held.{points_back, chains_back}
use Rattle.members.proofs.RoundTrips.{start}
use Rattle.clean.specs.Cleaning.{cleaned, reasons, kept}
use Rattle.clean.specs.declared.Cleaned.{Cleaned}
use Rattle.clean.specs.Calls.{Outputs, kept_room_check, cleaning, cleaned_of, holds, kept_axis, kept_lengths, outputs_left, CleanedAs}
use Rattle.clean.proofs.Rules.{cleaned_again}

-- what a success says: its members, and what is left of them
pub record Gave (x y ns : List ℕ) (o : Outputs) (n m : ℕ) (o' : Outputs) : Type 0 where
  pub points : n ≡ length (flatten (cleaned (chains_of ns (points_of x y))))
  pub pieces : m ≡ length (cleaned (chains_of ns (points_of x y)))
  pub in_x : o'.x ≡ zero_beyond 0 (length o.x) (map (λ (p : Point). p.x) (flatten (cleaned (chains_of ns (points_of x y)))))
  pub in_y : o'.y ≡ zero_beyond 0 (length o.y) (map (λ (p : Point). p.y) (flatten (cleaned (chains_of ns (points_of x y)))))
  pub in_lengths : o'.lengths ≡ zero_beyond 0 (length o.lengths) (map length (cleaned (chains_of ns (points_of x y))))
  pub in_reasons : o'.reasons ≡ zero_beyond 0 (length o.reasons) (reasons (chains_of ns (points_of x y)))

-- the members are those of the slices
found : (x y ns : List ℕ) (o : Outputs) (pss : List (List Point)) → cleaning x y ns o ≡ gives pss → pss ≡ chains_of ns (points_of x y)
unfolding cleaning
found x y ns o pss e =
    let a = then_passed (held_check (length x) (length y) ns) _ e in
    let b = then_passed (kept_room_check (length x) o) _ a.1 in
    sym (gives_same b.1)

-- an answer is of one number of points and one of pieces
same_kept : {r s : Cleaned} → ◌≡◌ {A = Result Cleaned Refusal} (Ok r) (Ok s) → r ≡ s
same_kept e = cc

kept_points : {r s : Cleaned} → ◌≡◌ {A = Result Cleaned Refusal} (Ok r) (Ok s) → r.points ≡ s.points
kept_points e = ap (λ (r : Cleaned). r.points) (same_kept e)

kept_pieces : {r s : Cleaned} → ◌≡◌ {A = Result Cleaned Refusal} (Ok r) (Ok s) → r.members ≡ s.members
kept_pieces e = ap (λ (r : Cleaned). r.members) (same_kept e)

pub gave : {x y ns : List ℕ} {o : Outputs} {n m : ℕ} {o' : Outputs} → CleanedAs x y ns o (Ok (record { points = n; members = m })) o' → Gave x y ns o n m o'
unfolding cleaned_of outputs_left holds answer_by left_in kept_axis kept_lengths
gave {x} {y} {ns} {o} {n} {m} {o'} c = go (cleaning x y ns o) refl c.answer c.left
  where
    go : (a : Answer (List (List Point))) → cleaning x y ns o ≡ a → Ok (record { points = n; members = m }) ≡ cleaned_of a → o' ≡ outputs_left a o → Gave x y ns o n m o'
    go (refused r) e f g = absurd (let z : ◌≡◌ {A = ℕ} 0 1 = cc in omega arith)
    go (gives pss) e f g =
        let z : pss ≡ chains_of ns (points_of x y) = found x y ns o pss e in
        let f' = subst (λ (q : List (List Point)). Ok (record { points = n; members = m }) ≡ cleaned_of (gives q)) z f in
        let g' = subst (λ (q : List (List Point)). o' ≡ outputs_left (gives q) o) z g in
        record {
          points = kept_points f';
          pieces = kept_pieces f';
          in_x = ap (λ (u : Outputs). u.x) g';
          in_y = ap (λ (u : Outputs). u.y) g';
          in_lengths = ap (λ (u : Outputs). u.lengths) g';
          in_reasons = ap (λ (u : Outputs). u.reasons) g';
        }

-- THE KEPT POINTS AND LENGTHS OF A CALL, CLEANED BY ANOTHER: as many are kept, and the slices hold the same, with no reason but `kept`
pub again : {x y ns : List ℕ} {o o' p p' : Outputs} {n m k l : ℕ} → CleanedAs x y ns o (Ok (record { points = n; members = m })) o'
    → CleanedAs (take n o'.x) (take n o'.y) (take m o'.lengths) p (Ok (record { points = k; members = l })) p'
    → (k ≡ n) × (l ≡ m) × (p'.x ≡ zero_beyond 0 (length p.x) (take n o'.x)) × (p'.y ≡ zero_beyond 0 (length p.y) (take n o'.y))
    × (p'.lengths ≡ zero_beyond 0 (length p.lengths) (take m o'.lengths)) × (p'.reasons ≡ zero_beyond 0 (length p.reasons) (replicate n kept))
again {x} {y} {ns} {o} {o'} {p} {p'} {n} {m} {k} {l} c d =
    let g = gave c in
    let h = gave d in
    let qss = cleaned (chains_of ns (points_of x y)) in
    let qs = flatten qss in
    let ex : take n o'.x ≡ map (λ (q : Point). q.x) qs = ap (take n) g.in_x ∙ start _ n (length o.x) (length-map qs (λ (q : Point). q.x) ∙ sym g.points) in
    let ey : take n o'.y ≡ map (λ (q : Point). q.y) qs = ap (take n) g.in_y ∙ start _ n (length o.y) (length-map qs (λ (q : Point). q.y) ∙ sym g.points) in
    let el : take m o'.lengths ≡ map length qss = ap (take m) g.in_lengths ∙ start _ m (length o.lengths) (length-map qss (λ (q : List Point). length q) ∙ sym g.pieces) in
    let same : chains_of (take m o'.lengths) (points_of (take n o'.x) (take n o'.y)) ≡ qss = rw (ex, ey, el, points_back qs) (chains_back qss) in
    let twice = cleaned_again (chains_of ns (points_of x y)) in
    let e : cleaned (chains_of (take m o'.lengths) (points_of (take n o'.x) (take n o'.y))) ≡ qss = ap cleaned same ∙ twice.0 in (
      h.points ∙ ap (λ (pss : List (List Point)). length (flatten pss)) e ∙ sym g.points,
      h.pieces ∙ ap (λ (pss : List (List Point)). length pss) e ∙ sym g.pieces,
      h.in_x ∙ ap (λ (pss : List (List Point)). zero_beyond 0 (length p.x) (map (λ (q : Point). q.x) (flatten pss))) e ∙ ap (zero_beyond 0 (length p.x)) (sym ex),
      h.in_y ∙ ap (λ (pss : List (List Point)). zero_beyond 0 (length p.y) (map (λ (q : Point). q.y) (flatten pss))) e ∙ ap (zero_beyond 0 (length p.y)) (sym ey),
      h.in_lengths ∙ ap (λ (pss : List (List Point)). zero_beyond 0 (length p.lengths) (map length pss)) e ∙ ap (zero_beyond 0 (length p.lengths)) (sym el),
      h.in_reasons ∙ ap (λ (pss : List (List Point)). zero_beyond 0 (length p.reasons) (reasons pss)) same ∙ ap (zero_beyond 0 (length p.reasons)) (twice.1 ∙ ap (λ (j : ℕ). replicate {A = ℕ} j kept) (sym g.points)),
    )

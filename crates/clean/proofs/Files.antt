-- Cleaning a file that was cleaned (document 02, 10), from the promises of the calls alone: cleaned, written, read, cleaned and written again, the bytes
-- are the same, and no point has a reason. Assumes nothing.
use Rattle.std.specs.Prelude.{Ok, Result}
use mathlib.Core.Path.{◌≡◌, refl, sym, ap, ◌∙◌}
use mathlib.Core.List.{List, flatten}
use Prim.Native.Nat.{ℕ, ◌≤◌}
use native.Mathlib.Omega.{arith}
use lib.ListN.{length, take, replicate, length-map}
use Rattle.refusals.specs.declared.Refusal.{Refusal}
use Rattle.refusals.specs.Refusals.{Answer, refused, gives, answer_by, left_in, zero_beyond}
use Rattle.refusals.proofs.Answers.{then_passed}
use Rattle.grid.specs.Domain.{count_check}
use Rattle.wkb.specs.Bytes.{Point, multi_bytes}
use Rattle.wkb.specs.Multi.{starts_of, MultiReadAs}
use Rattle.wkb.proofs.LineStrings.{gives_same}
use Rattle.members.specs.Held.{points_of, chains_of, held_check}
use Rattle.members.specs.Writing.{fit_check, bytes_in, written, written_of, bytes_left, WrittenAs}
use Rattle.members.proofs.RoundTrips.{read_back, start, members_points, members_count}
use Rattle.clean.specs.Cleaning.{cleaned, kept}
use Rattle.clean.specs.Calls.{Outputs, CleanedAs}
use Rattle.clean.proofs.Again.{gave, again}

bytes_count : {m n : ℕ} → ◌≡◌ {A = Result ℕ Refusal} (Ok m) (Ok n) → m ≡ n
bytes_count e = cc

-- which bytes
bytes_are : (x y ns : List ℕ) (room : ℕ) (bs : List ℕ) → written x y ns room ≡ gives bs → bs ≡ multi_bytes (chains_of ns (points_of x y))
unfolding written bytes_in
bytes_are x y ns room bs e =
    let pss = chains_of ns (points_of x y) in
    let a = then_passed (held_check (length x) (length y) ns) _ e in
    let b = then_passed (count_check (length (starts_of pss))) _ a.1 in
    let c = then_passed (fit_check room (length (multi_bytes pss))) _ b.1 in
    sym (gives_same c.1)

-- what is written are the bytes of the members, little-endian throughout
wrote : {x y ns b₀ b₁ : List ℕ} {k : ℕ} → WrittenAs x y ns b₀ (Ok k) b₁ → take k b₁ ≡ multi_bytes (chains_of ns (points_of x y))
unfolding written_of bytes_left answer_by left_in
wrote {x} {y} {ns} {b₀} {b₁} {k} w = go (written x y ns (length b₀)) refl w.answer w.in_bytes
  where
    go : (a : Answer (List ℕ)) → written x y ns (length b₀) ≡ a → Ok k ≡ written_of a → b₁ ≡ bytes_left a b₀ → take k b₁ ≡ multi_bytes (chains_of ns (points_of x y))
    go (refused r) e f g = absurd (let z : ◌≡◌ {A = ℕ} 0 1 = cc in omega arith)
    go (gives bs) e f g = ap (take k) g ∙ start bs k (length b₀) (sym (bytes_count f)) ∙ bytes_are x y ns (length b₀) bs e

-- THE FILE OF WHAT WAS KEPT: read into slices that have room, cleaned and written again, it is the same, and no point of it is dropped
pub same_file : {x y ns : List ℕ} {o o' : Outputs} {n m : ℕ} {b₀ b₁ : List ℕ} {k : ℕ} {x₀ y₀ l₀ x₁ y₁ l₁ : List ℕ} {i j : ℕ} {p p' : Outputs} {n' m' : ℕ} {c₀ c₁ : List ℕ} {k' : ℕ}
    → CleanedAs x y ns o (Ok (record { points = n; members = m })) o' → WrittenAs (take n o'.x) (take n o'.y) (take m o'.lengths) b₀ (Ok k) b₁
    → MultiReadAs (take k b₁) x₀ y₀ l₀ (Ok (record { points = i; members = j })) x₁ y₁ l₁ → length y₀ ≡ length x₀ → n ≤ length x₀ → m ≤ length l₀
    → CleanedAs (take i x₁) (take i y₁) (take j l₁) p (Ok (record { points = n'; members = m' })) p' → WrittenAs (take n' p'.x) (take n' p'.y) (take m' p'.lengths) c₀ (Ok k') c₁
    → (take k' c₁ ≡ take k b₁) × (p'.reasons ≡ zero_beyond 0 (length p.reasons) (replicate n kept))
same_file {x} {y} {ns} {o} {o'} {n} {m} {b₀} {b₁} {k} {x₀} {y₀} {l₀} {x₁} {y₁} {l₁} {i} {j} {p} {p'} {n'} {m'} {c₀} {c₁} {k'} c w s ly lx ll d v =
    let g = gave c in
    let qss = cleaned (chains_of ns (points_of x y)) in
    let qs = flatten qss in
    let X = take n o'.x in
    let Y = take n o'.y in
    let L = take m o'.lengths in
    let nx : length X ≡ n = ap length (ap (take n) g.in_x ∙ start _ n (length o.x) (length-map qs (λ (q : Point). q.x) ∙ sym g.points)) ∙ length-map qs (λ (q : Point). q.x) ∙ sym g.points in
    let ny : length Y ≡ n = ap length (ap (take n) g.in_y ∙ start _ n (length o.y) (length-map qs (λ (q : Point). q.y) ∙ sym g.points)) ∙ length-map qs (λ (q : Point). q.y) ∙ sym g.points in
    let nl : length L ≡ m = ap length (ap (take m) g.in_lengths ∙ start _ m (length o.lengths) (length-map qss (λ (q : List Point). length q) ∙ sym g.pieces)) ∙ length-map qss (λ (q : List Point). length q) ∙ sym g.pieces in
    let rb = read_back w s ly (omega arith) (omega arith) in
    let ni : i ≡ length X = members_points rb.0 in
    let nj : j ≡ length L = members_count rb.0 in
    let ex : take i x₁ ≡ X = ap (take i) rb.1 ∙ start X i (length x₀) (sym ni) in
    let ey : take i y₁ ≡ Y = ap (take i) rb.2 ∙ start Y i (length y₀) (ny ∙ sym nx ∙ sym ni) in
    let el : take j l₁ ≡ L = ap (take j) rb.3 ∙ start L j (length l₀) (sym nj) in
    let d' : CleanedAs X Y L p (Ok (record { points = n'; members = m' })) p' = rw (ex, ey, el) at d in
    let a = again c d' in
    let fx : take n' p'.x ≡ X = ap (take n') a.2 ∙ start X n' (length p.x) (nx ∙ sym a.0) in
    let fy : take n' p'.y ≡ Y = ap (take n') a.3 ∙ start Y n' (length p.y) (ny ∙ sym a.0) in
    let fl : take m' p'.lengths ≡ L = ap (take m') a.4 ∙ start L m' (length p.lengths) (nl ∙ sym a.1) in
    let v' : WrittenAs X Y L c₀ (Ok k') c₁ = rw (fx, fy, fl) at v in
    (wrote v' ∙ sym (wrote w), a.5)

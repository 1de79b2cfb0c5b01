-- The two round trips (document 02, 1): "reading what it wrote gives the same points and lengths bit for bit, and writing what was read from a
-- MultiLineString that is little-endian throughout gives the same bytes". Assumes nothing.
use Rattle.std.specs.Prelude.{Ok, Result}
use Rattle.refusals.specs.declared.Refusal.{Refusal}
use mathlib.Core.Path.{◌≡◌, refl, sym, ap, ◌∙◌, subst}
use mathlib.Core.Bool.{true}
use mathlib.Core.List.{List, map, flatten}
use Prim.Native.Nat.{ℕ, ◌≤◌}
use native.Mathlib.Omega.{arith}
use lib.ListN.{length, take, length-map}
use lib.Seq.{take_at}
use borrow.Author.Tests.{le-leb, eq-eqb}
use Rattle.refusals.specs.Refusals.{unless, and_then, Answer, refused, gives, ◌then◌, ◌into◌, answer_by, left_in, zero_beyond}
use Rattle.refusals.proofs.Answers.{then_passed, into_passed}
use Rattle.grid.specs.Domain.{count_check}
use Rattle.wkb.specs.Bytes.{Point, Members, none, more, MultiLineString, multi_bytes}
use Rattle.wkb.specs.Multi.{starts_of, found_multi, pair_check, members_room_check, multi_outcome, multi_read_of, axis_left, lengths_left, MultiReadAs}
use Rattle.wkb.specs.declared.MultiRead.{MultiRead}
use Rattle.wkb.proofs.LineStrings.{gives_same}
use Rattle.members.specs.Held.{points_of, chains_of, all_lengths, held_check}
use Rattle.members.specs.Writing.{fit_check, bytes_in, written, written_of, bytes_left, WrittenAs}
use Rattle.members.proofs.Held.{Held, held_says, held_fine, is_length_lem, length_points_of, map_x, map_y, points_back, flatten_chains, lengths_chains, length_chains_of, chains_back, sum_back}

-- ---- pieces

-- an answer is of one number of points and one of members
same_read : {r s : MultiRead} → ◌≡◌ {A = Result MultiRead Refusal} (Ok r) (Ok s) → r ≡ s
same_read e = cc

pub members_points : {r s : MultiRead} → ◌≡◌ {A = Result MultiRead Refusal} (Ok r) (Ok s) → r.points ≡ s.points
members_points e = ap (λ (r : MultiRead). r.points) (same_read e)

pub members_count : {r s : MultiRead} → ◌≡◌ {A = Result MultiRead Refusal} (Ok r) (Ok s) → r.members ≡ s.members
members_count e = ap (λ (r : MultiRead). r.members) (same_read e)

-- what stands at the start is taken from it
pub start : (xs : List ℕ) (n k : ℕ) → length xs ≡ n → take n (zero_beyond 0 k xs) ≡ xs
unfolding zero_beyond
start xs n k e = take_at xs _ n e

-- ---- what a success says

-- bytes were written: which, and that the checks were passed
record Wrote (x y ns b₀ b₁ : List ℕ) (n : ℕ) : Type 0 where
  bs : List ℕ
  is : written x y ns (length b₀) ≡ gives bs
  count : length bs ≡ n
  left : b₁ ≡ zero_beyond 0 (length b₀) bs

wrote : {x y ns b₀ b₁ : List ℕ} {n : ℕ} → WrittenAs x y ns b₀ (Ok n) b₁ → Wrote x y ns b₀ b₁ n
unfolding written_of bytes_left answer_by left_in
wrote {x} {y} {ns} {b₀} {b₁} {n} w = go (written x y ns (length b₀)) refl w.answer w.in_bytes
  where
    go : (o : Answer (List ℕ)) → written x y ns (length b₀) ≡ o → Ok n ≡ written_of o → b₁ ≡ bytes_left o b₀ → Wrote x y ns b₀ b₁ n
    go (refused r) e a l = absurd (let z : ◌≡◌ {A = ℕ} 0 1 = cc in omega arith)
    go (gives bs) e a l = record { bs = bs; is = e; count = let z : n ≡ length bs = cc in sym z; left = l }

-- members were read: what the answer and the slices are
left_by : {bs x₀ y₀ l₀ x₁ y₁ l₁ : List ℕ} {r : Result MultiRead Refusal} (pss : List (List Point)) → multi_outcome (length x₀) (length y₀) (length l₀) bs ≡ gives pss → MultiReadAs bs x₀ y₀ l₀ r x₁ y₁ l₁
    → (r ≡ Ok (record { points = length (flatten pss); members = length pss })) × (x₁ ≡ zero_beyond 0 (length x₀) (map (λ (q : Point). q.x) (flatten pss)))
    × (y₁ ≡ zero_beyond 0 (length y₀) (map (λ (q : Point). q.y) (flatten pss))) × (l₁ ≡ zero_beyond 0 (length l₀) (map length pss))
unfolding multi_read_of axis_left lengths_left answer_by left_in
left_by {bs} {x₀} {y₀} {l₀} pss o r = (
  r.answer ∙ ap multi_read_of o,
  r.in_x ∙ ap (λ (a : Answer (List (List Point))). axis_left (λ q. q.x) a x₀) o,
  r.in_y ∙ ap (λ (a : Answer (List (List Point))). axis_left (λ q. q.y) a y₀) o,
  r.in_lengths ∙ ap (λ (a : Answer (List (List Point))). lengths_left a l₀) o,
)

-- where the reader gives members, they were found, and make few lines
outcome_says : (m n k : ℕ) (bs : List ℕ) (pss : List (List Point)) → multi_outcome m n k bs ≡ gives pss → (found_multi bs ≡ gives pss) × (count_check (length (starts_of pss)) ≡ (Ok tt))
unfolding multi_outcome
outcome_says m n k bs pss h =
    into_passed (pair_check m n then found_multi bs) (λ (qss : List (List Point)). count_check (length (starts_of qss)) then members_room_check m k (length (flatten qss)) (length qss) then gives qss) h
    (λ a e f.
    let b = then_passed (count_check (length (starts_of a))) _ f in
    let c = then_passed (members_room_check m k (length (flatten a)) (length a)) _ b.1 in
    let z : a ≡ pss = gives_same c.1 in
    ((then_passed (pair_check m n) (found_multi bs) e).1 ∙ ap gives z, subst (λ (q : List (List Point)). count_check (length (starts_of q)) ≡ (Ok tt)) z b.0))

-- an answer that says members gave them
record Gave (bs : List ℕ) (m n k : ℕ) : Type 0 where
  pss : List (List Point)
  is : multi_outcome m n k bs ≡ gives pss

gave : (bs : List ℕ) (m n k p q : ℕ) → Ok (record { points = p; members = q }) ≡ multi_read_of (multi_outcome m n k bs) → Gave bs m n k
unfolding multi_read_of answer_by
gave bs m n k p q a = go (multi_outcome m n k bs) refl a
  where
    go : (o : Answer (List (List Point))) → multi_outcome m n k bs ≡ o → Ok (record { points = p; members = q }) ≡ multi_read_of o → Gave bs m n k
    go (refused r) e a = absurd (let z : ◌≡◌ {A = ℕ} 0 1 = cc in omega arith)
    go (gives pss) e a = record { pss = pss; is = e }

-- ---- reading what was written

-- where there is room for members, they are read
reads : (m n k : ℕ) (bs : List ℕ) (pss : List (List Point)) → found_multi bs ≡ gives pss → n ≡ m → count_check (length (starts_of pss)) ≡ (Ok tt) → length (flatten pss) ≤ m → length pss ≤ k
    → multi_outcome m n k bs ≡ gives pss
unfolding multi_outcome pair_check members_room_check unless and_then ◌then◌ ◌into◌
reads m n k bs pss f e c p l = rw (eq-eqb m n (sym e), f, c, le-leb (length (flatten pss)) m p, le-leb (length pss) k l)

-- what was written passed refusals 3 and 2
written_says : (x y ns : List ℕ) (room : ℕ) (bs : List ℕ) → written x y ns room ≡ gives bs → Held (length x) (length y) ns × (count_check (length (starts_of (chains_of ns (points_of x y)))) ≡ (Ok tt))
unfolding written bytes_in
written_says x y ns room bs h =
    let a = then_passed (held_check (length x) (length y) ns) _ h in
    (held_says (length x) (length y) ns a.0, (then_passed (count_check (length (starts_of (chains_of ns (points_of x y))))) _ a.1).0)

-- THE FIRST: what was written, read into slices that have room, gives the same points and lengths
pub read_back : {x y ns b₀ b₁ x₀ y₀ l₀ x₁ y₁ l₁ : List ℕ} {n : ℕ} {r : Result MultiRead Refusal} → WrittenAs x y ns b₀ (Ok n) b₁ → MultiReadAs (take n b₁) x₀ y₀ l₀ r x₁ y₁ l₁
    → length y₀ ≡ length x₀ → length x ≤ length x₀ → length ns ≤ length l₀
    → (r ≡ Ok (record { points = length x; members = length ns })) × (x₁ ≡ zero_beyond 0 (length x₀) x) × (y₁ ≡ zero_beyond 0 (length y₀) y) × (l₁ ≡ zero_beyond 0 (length l₀) ns)
read_back {x} {y} {ns} {b₀} {b₁} {x₀} {y₀} {l₀} {x₁} {y₁} {l₁} {n} {r} w s ly lx ll =
    let t = wrote w in
    let bs = t.bs in
    let e : take n b₁ ≡ bs = ap (take n) t.left ∙ start bs n (length b₀) t.count in
    let s' : MultiReadAs bs x₀ y₀ l₀ r x₁ y₁ l₁ = subst (λ (c : List ℕ). MultiReadAs c x₀ y₀ l₀ r x₁ y₁ l₁) e s in
    let ps = points_of x y in
    let pss = chains_of ns ps in
    let d = written_says x y ns (length b₀) bs t.is in
    let count = length_points_of x y d.0.alike in
    let flat : flatten pss ≡ ps = flatten_chains ns ps (d.0.sum ∙ sym count) in
    let points : length (flatten pss) ≡ length x = ap length flat ∙ count in
    let members : length pss ≡ length ns = length_chains_of ns ps in
    let o = reads (length x₀) (length y₀) (length l₀) bs pss (s'.every pss (w.is bs t.is)) ly d.1 (omega arith) (omega arith) in
    let f = left_by pss o s' in (
      f.0 ∙ rw (points, members),
      f.1 ∙ rw (flat, map_x x y d.0.alike),
      f.2 ∙ rw (flat, map_y x y d.0.alike),
      f.3 ∙ rw (lengths_chains ns ps (d.0.sum ∙ sym count)),
    )

-- ---- writing what was read

lengths_right : {rest : List ℕ} {pss : List (List Point)} → Members rest pss → all_lengths (map length pss) ≡ true
unfolding all_lengths
lengths_right none = refl
lengths_right (more {ps = ps} l r) = rw (is_length_lem (length ps) l.some l.most, lengths_right r)

-- the points and lengths of a MultiLineString are written as its little-endian bytes
writes : (bs : List ℕ) (pss : List (List Point)) (room : ℕ) → MultiLineString bs pss → count_check (length (starts_of pss)) ≡ (Ok tt) → length (multi_bytes pss) ≤ room
    → written (map (λ (q : Point). q.x) (flatten pss)) (map (λ (q : Point). q.y) (flatten pss)) (map length pss) room ≡ gives (multi_bytes pss)
unfolding written bytes_in fit_check unless ◌then◌
writes bs pss room l c h =
    let ps = flatten pss in
    let nx = length-map ps (λ (q : Point). q.x) in
    let ny = length-map ps (λ (q : Point). q.y) in
    let nm = length-map pss (λ (q : List Point). length q) in
    let d : Held (length (map (λ (q : Point). q.x) ps)) (length (map (λ (q : Point). q.y) ps)) (map length pss) =
    record {
      alike = ny ∙ sym nx;
      most = omega (arith, nm, l.most);
      each = lengths_right l.members;
      sum = sum_back pss ∙ sym nx;
    } in
    rw (held_fine d, points_back ps, chains_back pss, c, le-leb (length (multi_bytes pss)) room h)

-- THE SECOND: what was read from a MultiLineString that is little-endian throughout, written where there is room, gives the same bytes
pub write_back : {bs x₀ y₀ l₀ x₁ y₁ l₁ b₀ b₁ : List ℕ} {p m : ℕ} {r : Result ℕ Refusal} → MultiReadAs bs x₀ y₀ l₀ (Ok (record { points = p; members = m })) x₁ y₁ l₁
    → (pss : List (List Point)) → MultiLineString bs pss → bs ≡ multi_bytes pss
    → WrittenAs (take p x₁) (take p y₁) (take m l₁) b₀ r b₁ → length bs ≤ length b₀ → (r ≡ Ok (length bs)) × (b₁ ≡ zero_beyond 0 (length b₀) bs)
unfolding written_of bytes_left answer_by left_in
write_back {bs} {x₀} {y₀} {l₀} {x₁} {y₁} {l₁} {b₀} {b₁} {p} {m} {r} s pss l little w h =
    let g = gave bs (length x₀) (length y₀) (length l₀) p m s.answer in
    let d = outcome_says (length x₀) (length y₀) (length l₀) bs g.pss g.is in
    let z : g.pss ≡ pss = gives_same (sym d.0 ∙ s.every pss l) in
    let o : multi_outcome (length x₀) (length y₀) (length l₀) bs ≡ gives pss = g.is ∙ ap gives z in
    let few : count_check (length (starts_of pss)) ≡ (Ok tt) = subst (λ (q : List (List Point)). count_check (length (starts_of q)) ≡ (Ok tt)) z d.1 in
    let f = left_by pss o s in
    let ps = flatten pss in
    let np : p ≡ length ps = members_points f.0 in
    let nm : m ≡ length pss = members_count f.0 in
    let ex : take p x₁ ≡ map (λ (q : Point). q.x) ps = ap (take p) f.1 ∙ start _ p (length x₀) (length-map ps (λ (q : Point). q.x) ∙ sym np) in
    let ey : take p y₁ ≡ map (λ (q : Point). q.y) ps = ap (take p) f.2 ∙ start _ p (length y₀) (length-map ps (λ (q : Point). q.y) ∙ sym np) in
    let el : take m l₁ ≡ map length pss = ap (take m) f.3 ∙ start _ m (length l₀) (length-map pss (λ (q : List Point). length q) ∙ sym nm) in
    let done : written (take p x₁) (take p y₁) (take m l₁) (length b₀) ≡ gives bs =
    rw (ex, ey, el) (writes bs pss (length b₀) l few (rw (← little) h) ∙ ap gives (sym little)) in
    (w.answer ∙ ap written_of done, w.in_bytes ∙ ap (λ (a : Answer (List ℕ)). bytes_left a b₀) done)

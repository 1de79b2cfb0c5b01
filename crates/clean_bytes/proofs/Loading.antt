-- What a call of the reader of members says of its answer and its buffers, and what cleaning asks of them. Assumes nothing.
use Rattle.std.specs.Prelude.{Ok, Err, Result}
use mathlib.Core.Path.{◌≡◌, refl, sym, ap, ◌∙◌}
use mathlib.Core.List.{List, map, flatten}
use Prim.Native.Nat.{ℕ, ◌+◌, ◌-◌, ◌≤◌}
use native.Mathlib.Omega.{arith}
use lib.ListN.{length, take, length-append, length-map, length-replicate}
use Rattle.refusals.specs.declared.Refusal.{Refusal}
use Rattle.refusals.specs.Refusals.{Answer, refused, gives, answer_by, left_in, zero_beyond}
use Rattle.wkb.specs.declared.MultiRead.{MultiRead}
use Rattle.wkb.specs.Bytes.{Point}
use Rattle.wkb.specs.Multi.{found_multi, multi_outcome, multi_read_of, axis_left, lengths_left, MultiReadAs}
use Rattle.members.specs.Held.{points_of, chains_of}
use Rattle.members.proofs.Held.{Held, held_fine, points_back, chains_back, sum_back}
use Rattle.members.proofs.RoundTrips.{start, members_points, members_count}
use Rattle.clean_bytes.specs.Inside.{Parts, BytesAsk}
use Rattle.clean_bytes.proofs.Reading.{Few, few_of, all_read}

-- entries at the start of a slice are within it
pub within : (xs : List ℕ) (k n : ℕ) {s : List ℕ} → s ≡ zero_beyond 0 k xs → n ≡ length xs → n ≤ length s
unfolding zero_beyond
within xs k n {s} e c = let l : length s ≡ length xs + (k - length xs) = ap length e ∙ simp (length-append, length-replicate) in omega arith

-- so many points and members of pss stand at the start of three slices
pub record Loaded (pss : List (List Point)) (x y l : List ℕ) (points members : ℕ) : Type 0 where
  pub in_x : take points x ≡ map (λ (q : Point). q.x) (flatten pss)
  pub in_y : take points y ≡ map (λ (q : Point). q.y) (flatten pss)
  pub in_lengths : take members l ≡ map length pss
  pub parts : Parts x y l points members

pub loaded : (pss : List (List Point)) (x y l : List ℕ) (points members kx ky kl : ℕ) → points ≡ length (flatten pss) → members ≡ length pss → x ≡ zero_beyond 0 kx (map (λ (q : Point). q.x) (flatten pss))
    → y ≡ zero_beyond 0 ky (map (λ (q : Point). q.y) (flatten pss)) → l ≡ zero_beyond 0 kl (map length pss) → Loaded pss x y l points members
loaded pss x y l points members kx ky kl p m ex ey el =
    let nx = length-map (flatten pss) (λ (q : Point). q.x) in
    let ny = length-map (flatten pss) (λ (q : Point). q.y) in
    let nl = length-map pss (λ (q : List Point). length q) in
    record {
      in_x = ap (take points) ex ∙ start _ points kx (nx ∙ sym p);
      in_y = ap (take points) ey ∙ start _ points ky (ny ∙ sym p);
      in_lengths = ap (take members) el ∙ start _ members kl (nl ∙ sym m);
      parts = record { in_x = within _ kx points ex (p ∙ sym nx); in_y = within _ ky points ey (p ∙ sym ny); in_lengths = within _ kl members el (m ∙ sym nl) };
    }

module _ {pss : List (List Point)} {x y l : List ℕ} {points members : ℕ} (d : Loaded pss x y l points members) where
  -- they are those members
  pub chains_are : chains_of (take members l) (points_of (take points x) (take points y)) ≡ pss
  chains_are = rw (d.in_x, d.in_y, d.in_lengths, points_back (flatten pss)) (chains_back pss)

  length_x : length (take points x) ≡ length (flatten pss)
  length_x = ap length d.in_x ∙ length-map (flatten pss) (λ (q : Point). q.x)

  length_y : length (take points y) ≡ length (flatten pss)
  length_y = ap length d.in_y ∙ length-map (flatten pss) (λ (q : Point). q.y)

  length_l : length (take members l) ≡ length pss
  length_l = ap length d.in_lengths ∙ length-map pss (λ (q : List Point). length q)

  pub held : Few pss → Held (length (take points x)) (length (take points y)) (take members l)
  held f =
      let b = f.bytes in
      let n = length_l in
      record {
        alike = length_y ∙ sym length_x;
        most = omega arith;
        each = rw d.in_lengths f.each;
        sum = rw d.in_lengths (sum_back pss) ∙ sym length_x;
      }

  pub asked : {file : List ℕ} → Few pss → 65545 ≤ length file → BytesAsk (take points x) (take points y) (take members l) file
  asked f r =
      let b = f.bytes in
      let n = length_l in
      let m = length_x in
      record { held = held_fine (held f); few = omega arith; room = r }

-- ---- the reader's answer

module _ {bs x₀ y₀ l₀ x₁ y₁ l₁ : List ℕ} {r : Result MultiRead Refusal} (a : MultiReadAs bs x₀ y₀ l₀ r x₁ y₁ l₁) (ex : length x₀ ≡ 4096) (ey : length y₀ ≡ 4096) (el : length l₀ ≡ 4096) (h : length bs ≤ 65545) where
  all : multi_outcome (length x₀) (length y₀) (length l₀) bs ≡ found_multi bs
  all = rw (ex, ey, el) (all_read a.only h)

  pub unread : {q : Refusal} → r ≡ Err q → found_multi bs ≡ refused q
  unfolding multi_read_of answer_by
  unread {q} e = go (found_multi bs) refl
    where
      go : (f : Answer (List (List Point))) → found_multi bs ≡ f → f ≡ refused q
      go (refused s) g = let d : Err q ≡ Err s = sym e ∙ a.answer ∙ ap multi_read_of (all ∙ g) in let z : s ≡ q = cc in ap refused z
      go (gives pss) g = let d : Err q ≡ multi_read_of (gives pss) = sym e ∙ a.answer ∙ ap multi_read_of (all ∙ g) in absurd (let z : ◌≡◌ {A = ℕ} 0 1 = cc in omega arith)

  pub record Members_read (p m : ℕ) : Type 0 where
    pub pss : List (List Point)
    pub is : found_multi bs ≡ gives pss
    pub few : Few pss
    pub load : Loaded pss x₁ y₁ l₁ p m

  pub members_read : {p m : ℕ} → r ≡ Ok (record { points = p; members = m }) → Members_read p m
  unfolding multi_read_of answer_by axis_left lengths_left left_in
  members_read {p} {m} e = go (found_multi bs) refl
    where
      go : (f : Answer (List (List Point))) → found_multi bs ≡ f → Members_read p m
      go (refused s) g = let d : Ok (record { points = p; members = m }) ≡ multi_read_of (refused s) = sym e ∙ a.answer ∙ ap multi_read_of (all ∙ g) in absurd (let z : ◌≡◌ {A = ℕ} 0 1 = cc in omega arith)
      go (gives pss) g =
          let d : ◌≡◌ {A = Result MultiRead Refusal} (Ok (record { points = p; members = m })) (Ok (record { points = length (flatten pss); members = length pss })) =
          sym e ∙ a.answer ∙ ap multi_read_of (all ∙ g) in
          record {
            pss = pss;
            is = g;
            few = few_of (a.only pss g) h;
            load = loaded pss x₁ y₁ l₁ p m (length x₀) (length y₀) (length l₀) (members_points d) (members_count d)
                (a.in_x ∙ ap (λ (o : Answer (List (List Point))). axis_left (λ q. q.x) o x₀) (all ∙ g))
                (a.in_y ∙ ap (λ (o : Answer (List (List Point))). axis_left (λ q. q.y) o y₀) (all ∙ g))
                (a.in_lengths ∙ ap (λ (o : Answer (List (List Point))). lengths_left o l₀) (all ∙ g));
          }

-- The two loops over the visited cells, from the last to the first: everything from the next visited cell on stands moved. Assumes nothing.
use mathlib.Core.Path.{◌≡◌, refl, sym, ap, ◌∙◌}
use mathlib.Core.List.{List, [], ◌∷◌, ◌++◌}
use Prim.Native.Nat.{ℕ, zero, suc, ◌+◌, ◌-◌, ◌≤◌, ◌<◌, ◌^◌}
use native.Mathlib.Nat.{le_refl}
use native.Mathlib.Decide.{le_ind}
use native.Mathlib.Numerals.{add-one}
use native.Mathlib.Omega.{arith}
use lib.ListN.{length, get_or, take, drop, take-append-drop}
use lib.Seq.{slice, length-take-le, take-take, take-append-le, drop-cons, drop_at, drop-length, get_or-take}
use Rattle.slices.specs.Lists.{Below, Rising}
use Rattle.slices.proofs.Members.{below_at}
use Rattle.added.specs.Inside.{gap_of, end_in, behind, spread_of, Spreadable, more, raised_part, Raisable, next_in, moved_above, lifted_of, RaisableAll}

-- offsets that never fall
pub never_fall : (o : List ℕ) (cells : ℕ) → ((c : ℕ) → c < cells → get_or o c 0 ≤ get_or o (suc c) 0) → (a b : ℕ) → a ≤ b → b ≤ cells → get_or o a 0 ≤ get_or o b 0
never_fall o cells h a b l =
    le_ind (λ m. m ≤ cells → get_or o a 0 ≤ get_or o m 0) (λ _. le_refl (get_or o a 0)) (λ m k ih q. omega (arith, ih (omega arith), h m (omega arith))) b l

-- ---- the items

module _ {visited offsets : List ℕ} {total : ℕ} {items : List ℕ} (s : Spreadable visited offsets total items) where
  ends_rise : (low : ℕ) (cs : List ℕ) (j : ℕ) → Rising low cs → Below s.cells cs → j < length cs → end_in offsets total (drop j cs) ≤ end_in offsets total (drop (suc j) cs)
  ends_rise low [] j r b l = absurd (omega arith)
  ends_rise low (c ∷ []) zero r b l = omega (arith, s.last, never_fall offsets s.cells s.rises (suc c) s.cells b.0 (omega arith))
  ends_rise low (c ∷ (d ∷ cs)) zero r b l = never_fall offsets s.cells s.rises (suc c) (suc d) (omega (arith, r.1.0)) b.1.0
  ends_rise low (c ∷ cs) (suc j) r b l = ends_rise (suc c) cs j r.1 b.1 (omega arith)

  ends_within : (cs : List ℕ) (j : ℕ) → Below s.cells cs → end_in offsets total (drop j cs) ≤ total
  ends_within [] zero b = omega arith
  ends_within [] (suc j) b = omega arith
  ends_within (c ∷ cs) zero b = omega (arith, s.last, never_fall offsets s.cells s.rises (suc c) s.cells b.0 (omega arith))
  ends_within (c ∷ cs) (suc j) b = ends_within cs j b.1

pub record Spreading (n : ℕ) (visited offsets : List ℕ) (total : ℕ) (xs ys : List ℕ) (end j : ℕ) : Type 0 where
  pub asks : Spreadable visited offsets total xs
  pub at : j ≤ length visited
  pub len : length ys ≡ length xs
  pub end_is : end ≡ end_in offsets total (drop j visited)
  pub front : take end ys ≡ take end xs
  pub back : drop (end + j) ys ≡ behind n offsets total xs (drop (total + length visited) xs) (drop j visited)

pub spreading_none : {n : ℕ} {visited offsets : List ℕ} {total : ℕ} {xs : List ℕ} → Spreadable visited offsets total xs → Spreading n visited offsets total xs xs total (length visited)
unfolding behind
spreading_none {visited = visited} h =
    record { asks = h; at = omega arith; len = refl; end_is = rw (drop-length visited); front = refl; back = rw (drop-length visited) }

module _ {n : ℕ} {visited offsets : List ℕ} {total : ℕ} {xs ys : List ℕ} {end j : ℕ} (k : Spreading n visited offsets total xs ys end j) where
  pub spreading_end : end ≤ total
  spreading_end = omega (arith, k.end_is, ends_within k.asks visited j k.asks.below)

  module _ (l : 0 < j) where
    cell : ℕ
    cell = get_or visited (j - 1) 0

    pub spreading_cell : get_or visited (j - 1) 0 < k.asks.cells
    spreading_cell = below_at k.asks.cells visited (j - 1) k.asks.below (omega (arith, k.at))

    pub spreading_read : get_or visited (j - 1) 0 + 1 < length offsets
    spreading_read = omega (arith, spreading_cell, k.asks.long)

    next_is : drop (j - 1) visited ≡ cell ∷ drop j visited
    unfolding cell
    next_is =
        let e : suc (j - 1) ≡ j = omega arith in
        drop-cons visited (j - 1) 0 (omega (arith, k.at)) ∙ ap (λ (m : ℕ). get_or visited (j - 1) 0 ∷ drop m visited) e

    from_is : get_or offsets (get_or visited (j - 1) 0 + 1) 0 ≡ end_in offsets total (drop (j - 1) visited)
    unfolding cell
    from_is = ap (λ (m : ℕ). get_or offsets m 0) (add-one (get_or visited (j - 1) 0)) ∙ sym (ap (end_in offsets total) next_is)

    pub spreading_order : get_or offsets (get_or visited (j - 1) 0 + 1) 0 ≤ end
    spreading_order =
        let e : suc (j - 1) ≡ j = omega arith in
        let r = ends_rise k.asks 0 visited (j - 1) k.asks.order k.asks.below (omega (arith, k.at)) in
        let q : end_in offsets total (drop (j - 1) visited) ≤ end_in offsets total (drop j visited) = rw e at r in
        omega (arith, from_is, k.end_is)

    pub spreading_room : end + (j - 1) < length ys
    spreading_room = omega (arith, spreading_end, k.at, k.asks.room, k.len)

    pub spreading_asks : (get_or offsets (get_or visited (j - 1) 0 + 1) 0 ≤ end) × (end + (j - 1) < length ys)
    spreading_asks = (spreading_order, spreading_room)

    module _ {zs : List ℕ} (h : zs ≡ gap_of (get_or offsets (get_or visited (j - 1) 0 + 1) 0) end (j - 1) n ys) where
      abbrev from : ℕ
      from = get_or offsets (get_or visited (j - 1) 0 + 1) 0

      pub spreading_more : length zs ≡ length ys → Spreading n visited offsets total xs zs from (j - 1)
      unfolding gap_of behind cell
      spreading_more e =
          let low : from ≤ end = spreading_order in
          let fits : from + (j - 1) ≤ length ys = omega (arith, spreading_room) in
          let m : length (take (from + (j - 1)) ys) ≡ from + (j - 1) = length-take-le (from + (j - 1)) ys fits in
          let rest : List ℕ = n ∷ (slice from end ys ++ drop (suc (end + (j - 1))) ys) in
          let q : suc (end + (j - 1)) ≡ end + j = omega arith in
          let same : take from ys ≡ take from xs = sym (take-take from end ys low) ∙ ap (take from) k.front ∙ take-take from end xs low in
          record {
            asks = k.asks;
            at = omega (arith, k.at);
            len = e ∙ k.len;
            end_is = from_is;
            front =
                ap (take from) h
                ∙ take-append-le from (take (from + (j - 1)) ys) rest (omega arith)
                ∙ take-take from (from + (j - 1)) ys (omega arith)
                ∙ same;
            back =
                ap (drop (from + (j - 1))) h
                ∙ drop_at (take (from + (j - 1)) ys) rest (from + (j - 1)) m
                ∙ rw (q, k.back, k.front, next_is, ← k.end_is, add-one (get_or visited (j - 1) 0));
          }

  pub spreading_done : j ≤ 0 → ys ≡ spread_of n offsets total xs visited
  unfolding spread_of
  spreading_done l =
      let z : j ≡ 0 = omega arith in
      let e : end ≡ end_in offsets total visited = rw z at k.end_is in
      let b : drop (end + 0) ys ≡ behind n offsets total xs (drop (total + length visited) xs) visited = rw z at k.back in
      let f : end + 0 ≡ end = omega arith in
      sym (take-append-drop end ys) ∙ rw (← b, f, ← e, k.front)

-- ---- the offsets

next_rise : (end low : ℕ) (cs : List ℕ) (j : ℕ) → Rising low cs → Below end cs → j < length cs → next_in end (drop j cs) ≤ next_in end (drop (suc j) cs)
next_rise end low [] j r b l = absurd (omega arith)
next_rise end low (c ∷ []) zero r b l = b.0
next_rise end low (c ∷ (d ∷ cs)) zero r b l = omega (arith, r.1.0)
next_rise end low (c ∷ cs) (suc j) r b l = next_rise end (suc c) cs j r.1 b.1 (omega arith)

below_wider : (a b : ℕ) (cs : List ℕ) → a ≤ b → Below a cs → Below b cs
below_wider a b [] l h = tt
below_wider a b (c ∷ cs) l h = (omega arith, below_wider a b cs l h.1)

next_within : (end : ℕ) (cs : List ℕ) (j : ℕ) → Below end cs → next_in end (drop j cs) ≤ end
next_within end [] zero b = omega arith
next_within end [] (suc j) b = omega arith
next_within end (c ∷ cs) zero b = b.0
next_within end (c ∷ cs) (suc j) b = next_within end cs j b.1

pub record Lifting (visited xs : List ℕ) (end : ℕ) (ys : List ℕ) (to j : ℕ) : Type 0 where
  pub asks : RaisableAll visited xs end
  pub at : j ≤ length visited
  pub len : length ys ≡ length xs
  pub to_is : to ≡ next_in end (drop j visited)
  pub front : take to ys ≡ take to xs
  pub back : drop to ys ≡ moved_above xs end j (drop j visited)

pub lifting_none : {visited xs : List ℕ} {end : ℕ} → RaisableAll visited xs end → Lifting visited xs end xs end (length visited)
unfolding moved_above
lifting_none {visited} h =
    record { asks = h; at = omega arith; len = refl; to_is = rw (drop-length visited); front = refl; back = rw (drop-length visited) }

module _ {visited xs : List ℕ} {end : ℕ} {ys : List ℕ} {to j : ℕ} (k : Lifting visited xs end ys to j) where
  inside : Below end visited
  inside = below_wider k.asks.cells end visited (omega (arith, k.asks.end_is)) k.asks.below

  pub lifting_small : j < 2 ^ 32
  lifting_small = omega (arith, k.at, k.asks.small 0 (omega (arith, k.asks.end_is)))

  module _ (l : 0 < j) where
    pub lifting_cell : get_or visited (j - 1) 0 < k.asks.cells
    lifting_cell = below_at k.asks.cells visited (j - 1) k.asks.below (omega (arith, k.at))

    next_drop : drop (j - 1) visited ≡ get_or visited (j - 1) 0 ∷ drop j visited
    next_drop =
        let e : suc (j - 1) ≡ j = omega arith in
        drop-cons visited (j - 1) 0 (omega (arith, k.at)) ∙ ap (λ (m : ℕ). get_or visited (j - 1) 0 ∷ drop m visited) e

    after_is : get_or visited (j - 1) 0 + 1 ≡ next_in end (drop (j - 1) visited)
    after_is = add-one (get_or visited (j - 1) 0) ∙ sym (ap (next_in end) next_drop)

    ordered : get_or visited (j - 1) 0 + 1 ≤ to
    ordered =
        let e : suc (j - 1) ≡ j = omega arith in
        let r = next_rise end 0 visited (j - 1) k.asks.order inside (omega (arith, k.at)) in
        let q : next_in end (drop (j - 1) visited) ≤ next_in end (drop j visited) = rw e at r in
        omega (arith, after_is, k.to_is)

    to_within : to ≤ end
    to_within = omega (arith, k.to_is, next_within end visited j inside)

    pub lifting_asks : Raisable (get_or visited (j - 1) 0 + 1) to j ys
    lifting_asks =
        record {
          order = ordered;
          within = omega (arith, to_within, k.asks.within, k.len);
          small = λ p q.
              let v : get_or ys p 0 ≡ get_or xs p 0 = sym (get_or-take to ys p 0 q) ∙ ap (λ (z : List ℕ). get_or z p 0) k.front ∙ get_or-take to xs p 0 q in
              omega (arith, k.at, to_within, k.asks.small p (omega (arith, to_within)));
        }

    module _ {zs : List ℕ} (h : zs ≡ raised_part (get_or visited (j - 1) 0 + 1) to j ys) where
      abbrev after : ℕ
      after = get_or visited (j - 1) 0 + 1

      pub lifting_more : length zs ≡ length ys → Lifting visited xs end zs after (j - 1)
      unfolding raised_part moved_above
      lifting_more e =
          let fits : after ≤ length ys = omega (arith, ordered, to_within, k.asks.within, k.len) in
          let m : length (take after ys) ≡ after = length-take-le after ys fits in
          let rest : List ℕ = more j (slice after to ys) ++ drop to ys in
          let q : suc (j - 1) ≡ j = omega arith in
          record {
            asks = k.asks;
            at = omega (arith, k.at);
            len = e ∙ k.len;
            to_is = after_is;
            front =
                ap (take after) h
                ∙ take-append-le after (take after ys) rest (omega arith)
                ∙ take-take after after ys (omega arith)
                ∙ sym (take-take after to ys ordered)
                ∙ ap (take after) k.front
                ∙ take-take after to xs ordered;
            back =
                ap (drop after) h
                ∙ drop_at (take after ys) rest after m
                ∙ rw (k.back, k.front, next_drop, ← k.to_is, q, add-one (get_or visited (j - 1) 0));
          }

  pub lifting_done : j ≤ 0 → ys ≡ lifted_of xs end visited
  unfolding lifted_of
  lifting_done l =
      let z : j ≡ 0 = omega arith in
      let e : to ≡ next_in end visited = rw z at k.to_is in
      let b : drop to ys ≡ moved_above xs end 0 visited = rw z at k.back in
      sym (take-append-drop to ys) ∙ rw (← b, ← e, k.front)

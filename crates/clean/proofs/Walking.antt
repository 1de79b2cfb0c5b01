-- Laws of the way along the pieces of a member, and along members: what lies behind is marked, what is left is to be. Assumes nothing.
use mathlib.Core.Path.{◌≡◌, refl, sym, ap, ◌∙◌, subst}
use mathlib.Core.List.{List, [], ◌∷◌, ◌++◌, append-nil, map, map-append, flat_map}
use Prim.Native.Nat.{ℕ, ◌+◌, ◌-◌, ◌*◌, ◌≤◌, ◌<◌}
use native.Mathlib.Omega.{arith}
use lib.ListN.{length, drop, get_or, set, length-append, length-map}
use Rattle.slices.specs.Slices.{cleared_from}
use Rattle.wkb.specs.Bytes.{Point}
use Rattle.wkb.proofs.Stores.{put_one, Filling, fill_none, fill_length, fill_more, fill_all, fill_cleared}
use Rattle.members.specs.Held.{points_of, chains_of}
use Rattle.members.proofs.Held.{Held}
use Rattle.members.proofs.Along.{Along, along_none, along_next, along_more, Fitting, chains_next, chains_over}
use Rattle.clean.specs.Cleaning.{kept_of, cleaned_member, cleaned, range, piece_reasons, member_reasons, reasons}
use Rattle.clean.specs.Inside.{point_in, part, Part, PieceEnds, CleanRoom, Did, MarkedAll}
use Rattle.clean.proofs.Rules.{reasons_whole, reasons_broken, cleaned_whole, cleaned_broken, length_piece, length_member, kept_twice, cleaned_twice}
use Rattle.clean.proofs.Parts.{part_length, part_broken, part_member}

-- how much was put, where all was
done_all : {A : Type 0} {start : ℕ} {goal rest : List A} {to : ℕ} {s₀ s : List A} → Filling start goal rest to s₀ s → rest ≡ [] → to ≡ start + length goal
done_all {A} {start} {goal} {rest} f e =
    let n : length goal ≡ length f.done + length rest = ap length f.is ∙ length-append f.done rest in
    let z : length rest ≡ 0 = ap length e in
    omega (arith, f.count)

-- ---- the pieces of a member

pub record InMember (xs ys : List ℕ) (from end : ℕ) (rs₀ ls₀ rs ls : List ℕ) (at₀ at start : ℕ) : Type 0 where
  pub lies : Part xs ys from end
  pub few : end - from ≤ 1024
  pub room : CleanRoom xs rs₀ ls₀ from at₀
  pub up : from ≤ start
  pub within : start ≤ end
  pub twice : 2 * at ≤ start
  pub whys : Filling from (member_reasons (part xs ys from end)) (member_reasons (part xs ys start end)) start rs₀ rs
  pub lens : Filling at₀ (map length (cleaned_member (part xs ys from end))) (map length (cleaned_member (part xs ys start end))) at ls₀ ls

pub in_first : {xs ys : List ℕ} {from end : ℕ} {rs ls : List ℕ} {at : ℕ} → Part xs ys from end → end - from ≤ 1024 → CleanRoom xs rs ls from at → InMember xs ys from end rs ls rs ls at at from
in_first {xs} {ys} {from} {end} {rs} {ls} {at} p h r = record {
  lies = p;
  few = h;
  room = r;
  up = omega arith;
  within = p.up;
  twice = r.twice;
  whys = fill_none from (member_reasons (part xs ys from end)) rs (omega (arith, r.marks, p.up, p.within));
  lens = fill_none at (map length (cleaned_member (part xs ys from end))) ls (omega (arith, r.halves, r.twice, p.up, p.within));
}

module _ {xs ys : List ℕ} {from end : ℕ} {rs₀ ls₀ rs ls : List ℕ} {at₀ at start : ℕ} (m : InMember xs ys from end rs₀ ls₀ rs ls at₀ at start) where
  pub in_lies : Part xs ys start end
  in_lies = record { alike = m.lies.alike; up = m.within; within = m.lies.within }

  pub in_room : CleanRoom xs rs ls start at
  in_room = record { marks = omega (arith, m.room.marks, fill_length m.whys); halves = omega (arith, m.room.halves, fill_length m.lens); twice = m.twice }

  module _ {to : ℕ} (e : PieceEnds xs ys start end to) where
    pub in_piece : Part xs ys start to
    in_piece = record { alike = m.lies.alike; up = e.up; within = omega (arith, e.within, m.lies.within) }

    pub in_few : to - start ≤ 1024
    in_few = omega (arith, m.few, m.up, e.up, e.within)

    piece_length : length (part xs ys start to) ≡ to - start
    piece_length = part_length xs ys m.lies.alike start to (omega (arith, e.within, m.lies.within))

    module _ {rs₁ ls₁ : List ℕ} {r : ℕ} (d : Did start (piece_reasons (part xs ys start to)) (kept_of (part xs ys start to)) rs ls at r rs₁ ls₁) where
      -- the piece is the last
      module _ (over : to ≡ end) where
        last_whys : Filling from (member_reasons (part xs ys from end)) [] (start + length (piece_reasons (part xs ys start to))) rs₀ rs₁
        last_whys =
            fill_more m.whys
            (ap (λ (k : ℕ). member_reasons (part xs ys start k)) (sym over) ∙ reasons_whole e.right ∙ sym (append-nil (piece_reasons (part xs ys start to)))) d.in_reasons refl

        last_lens : Filling at₀ (map length (cleaned_member (part xs ys from end))) [] (at + length (kept_of (part xs ys start to))) ls₀ ls₁
        last_lens =
            fill_more m.lens
            (ap (λ (k : ℕ). map length (cleaned_member (part xs ys start k))) (sym over) ∙ ap (map length) (cleaned_whole e.right) ∙ sym (append-nil (map length (kept_of (part xs ys start to)))))
            d.in_lengths (sym (length-map (kept_of (part xs ys start to)) length))

        pub in_last : Did from (member_reasons (part xs ys from end)) (cleaned_member (part xs ys from end)) rs₀ ls₀ at₀ r rs₁ ls₁
        in_last = record {
          in_reasons = fill_all last_whys refl;
          in_lengths = fill_all last_lens refl;
          count = let n = done_all last_lens refl in omega (arith, d.count, length-map (cleaned_member (part xs ys from end)) length);
        }

      -- a point outside the rule follows it
      module _ (more : to < end) where
        broken : part xs ys start end ≡ part xs ys start to ++ (point_in xs ys to ∷ part xs ys (to + 1) end)
        broken = part_broken xs ys m.lies.alike start to end e.up more m.lies.within

        to_whys : Filling from (member_reasons (part xs ys from end)) (range ∷ member_reasons (part xs ys (to + 1) end)) to rs₀ rs₁
        to_whys =
            let n : to - start ≡ length (piece_reasons (part xs ys start to)) = sym (length_piece (part xs ys start to) ∙ piece_length) in
            let z : start + (to - start) ≡ to = omega (arith, e.up) in
            subst (λ (k : ℕ). Filling from (member_reasons (part xs ys from end)) (range ∷ member_reasons (part xs ys (to + 1) end)) k rs₀ rs₁) z
            (fill_more m.whys (ap member_reasons broken ∙ reasons_broken (part xs ys (to + 1) end) (point_in xs ys to) e.right (e.bad more)) d.in_reasons n)

        pub in_inside : to < length rs₁
        in_inside = omega (arith, m.room.marks, m.lies.within, fill_length to_whys)

        pub in_next : InMember xs ys from end rs₀ ls₀ (set rs₁ to 1) ls₁ at₀ r (to + 1)
        in_next = record {
          lies = m.lies;
          few = m.few;
          room = m.room;
          up = omega (arith, m.up, e.up);
          within = omega arith;
          twice = omega (arith, m.twice, d.count, kept_twice (part xs ys start to), piece_length, e.up);
          whys = fill_more to_whys refl (put_one to range rs₁ in_inside) refl;
          lens = subst (λ (k : ℕ). Filling at₀ (map length (cleaned_member (part xs ys from end))) (map length (cleaned_member (part xs ys (to + 1) end))) k ls₀ ls₁) (sym d.count)
              (fill_more m.lens
              (ap (map length) (ap cleaned_member broken ∙ cleaned_broken (part xs ys (to + 1) end) (point_in xs ys to) e.right (e.bad more)) ∙ map-append length (kept_of (part xs ys start to)) _)
              d.in_lengths (sym (length-map (kept_of (part xs ys start to)) length)));
        }

-- ---- members

-- the members that are left, where k of them, with `from` points, lie behind
abbrev left : List ℕ → List ℕ → List ℕ → ℕ → ℕ → List (List Point)
left xs ys ns k from = chains_of (drop k ns) (drop from (points_of xs ys))

pub record Walked (xs ys ns rs₀ ls₀ rs ls : List ℕ) (at from k : ℕ) : Type 0 where
  pub along : Along ns (length xs) k from
  pub alike : length ys ≡ length xs
  pub room : CleanRoom xs rs₀ ls₀ 0 0
  pub twice : 2 * at ≤ from
  pub whys : Filling 0 (reasons (left xs ys ns 0 0)) (reasons (left xs ys ns k from)) from rs₀ rs
  pub lens : Filling 0 (map length (cleaned (left xs ys ns 0 0))) (map length (cleaned (left xs ys ns k from))) at ls₀ ls

pub walked_none : {xs ys ns rs ls : List ℕ} → Held (length xs) (length ys) ns → CleanRoom xs rs ls 0 0 → Walked xs ys ns rs ls rs ls 0 0 0
walked_none {xs} {ys} {ns} {rs} {ls} h r = record {
  along = along_none ns (length xs) h.each h.sum;
  alike = h.alike;
  room = r;
  twice = omega arith;
  whys = fill_none 0 (reasons (left xs ys ns 0 0)) rs (omega arith);
  lens = fill_none 0 (map length (cleaned (left xs ys ns 0 0))) ls (omega arith);
}

module _ {xs ys ns rs₀ ls₀ rs ls : List ℕ} {at from k : ℕ} (w : Walked xs ys ns rs₀ ls₀ rs ls at from k) (h : k < length ns) (n : ℕ) (e : n ≡ get_or ns k 0) where
  pub walked_fitting : Fitting (length xs) from n
  walked_fitting = along_next w.along h n e

  pub walked_lies : Part xs ys from (from + n)
  walked_lies = record { alike = w.alike; up = omega arith; within = walked_fitting.within }

  pub walked_room : CleanRoom xs rs ls from at
  walked_room = record { marks = omega (arith, w.room.marks, fill_length w.whys); halves = omega (arith, w.room.halves, fill_length w.lens); twice = w.twice }

  next_left : left xs ys ns k from ≡ part xs ys from (from + n) ∷ left xs ys ns (k + 1) (from + n)
  next_left =
      chains_next ns k from (points_of xs ys) n h e
      ∙ ap (λ (ps : List Point). ps ∷ left xs ys ns (k + 1) (from + n)) (part_member xs ys w.alike from n)

  next_whys : reasons (left xs ys ns k from) ≡ member_reasons (part xs ys from (from + n)) ++ reasons (left xs ys ns (k + 1) (from + n))
  unfolding reasons flat_map
  next_whys = ap reasons next_left

  next_lens : map length (cleaned (left xs ys ns k from)) ≡ map length (cleaned_member (part xs ys from (from + n))) ++ map length (cleaned (left xs ys ns (k + 1) (from + n)))
  unfolding cleaned flat_map
  next_lens = ap (λ (pss : List (List Point)). map length (cleaned pss)) next_left ∙ map-append length (cleaned_member (part xs ys from (from + n))) _

  member_length : length (part xs ys from (from + n)) ≡ n
  member_length = let u = part_length xs ys w.alike from (from + n) walked_fitting.within in omega arith

  pub walked_more : {rs₁ ls₁ : List ℕ} {r : ℕ} → Did from (member_reasons (part xs ys from (from + n))) (cleaned_member (part xs ys from (from + n))) rs ls at r rs₁ ls₁
      → Walked xs ys ns rs₀ ls₀ rs₁ ls₁ r (from + n) (k + 1)
  walked_more {rs₁} {ls₁} {r} d = record {
    along = along_more w.along h n e;
    alike = w.alike;
    room = w.room;
    twice = omega (arith, w.twice, d.count, cleaned_twice (part xs ys from (from + n)), member_length);
    whys = fill_more w.whys next_whys d.in_reasons (sym (length_member (part xs ys from (from + n)) ∙ member_length));
    lens = subst (λ (j : ℕ). Filling 0 (map length (cleaned (left xs ys ns 0 0))) (map length (cleaned (left xs ys ns (k + 1) (from + n)))) j ls₀ ls₁) (sym d.count)
        (fill_more w.lens next_lens d.in_lengths (sym (length-map (cleaned_member (part xs ys from (from + n))) length)));
  }

pub walked_all : {xs ys ns rs₀ ls₀ rs ls rs₁ ls₁ : List ℕ} {at from k : ℕ} → Walked xs ys ns rs₀ ls₀ rs ls at from k → length ns ≤ k → rs₁ ≡ cleared_from from rs → ls₁ ≡ cleared_from at ls
    → MarkedAll (chains_of ns (points_of xs ys)) rs₀ ls₀ at rs₁ ls₁
unfolding cleared_from reasons cleaned flat_map
walked_all {xs} {ys} {ns} {rs₀} {ls₀} {rs} {ls} {rs₁} {ls₁} {at} {from} {k} w h er el =
    let none : left xs ys ns k from ≡ [] = chains_over ns k (drop from (points_of xs ys)) h in
    let nr : reasons (left xs ys ns k from) ≡ [] = ap reasons none in
    let nl : map length (cleaned (left xs ys ns k from)) ≡ [] = ap (λ (pss : List (List Point)). map length (cleaned pss)) none in
    record {
      in_reasons = fill_cleared 0 w.whys nr er;
      in_lengths = fill_cleared 0 w.lens nl el;
      count = let n = done_all w.lens nl in omega (arith, length-map (cleaned (left xs ys ns 0 0)) length);
    }

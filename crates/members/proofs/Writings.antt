-- The promises of the writer and of the lines of members from their parts. Assumes nothing.
use Rattle.std.specs.Prelude.{Ok, Err}
use mathlib.Core.Path.{◌≡◌, refl, sym, ap, ◌∙◌, subst}
use mathlib.Core.Bool.{true, false}
use mathlib.Core.List.{List, flatten, map}
use Prim.Native.Nat.{ℕ, ◌+◌, ◌-◌, ◌*◌, ◌≤◌}
use native.Mathlib.Omega.{arith}
use lib.Dec.{leb}
use lib.Ieee.{Float, binary64, of_bits}
use lib.ListN.{length, replicate}
use borrow.Author.Tests.{leb-true}
use Rattle.refusals.specs.declared.Refusal.{Refusal}
use Rattle.refusals.specs.Refusals.{Answer, refused, gives, ◌then◌, answer_by, clears, left_in, zero_beyond}
use Rattle.refusals.proofs.Checks.{unless_fine}
use Rattle.refusals.proofs.Answers.{then_refused, then_fine, then_passed}
use Rattle.refusals.proofs.Leaving.{left_same, left_zero, clearing_unless}
use Rattle.grid.specs.Domain.{Lines, lines, count, count_check, lengths_check}
use Rattle.wkb.specs.Bytes.{Point, Patterns, MultiLineString, multi_bytes}
use Rattle.wkb.specs.Reading.{nought}
use Rattle.wkb.specs.Multi.{starts_of, ends_of}
use Rattle.wkb.proofs.LineStrings.{gives_same}
use Rattle.wkb.proofs.Chains.{length_starts}
use Rattle.wkb.proofs.MultiReadings.{count_same}
use Rattle.members.specs.Held.{points_of, chains_of, sum_of, held_check}
use Rattle.members.specs.Writing.{fit_check, bytes_in, written, written_of, bytes_left, WrittenAs}
use Rattle.members.specs.Lining.{lined_within, lining, lined_of, ends_left, lines_left, LinedAs}
use Rattle.members.specs.Inside.{zero_lines, floats_at, lines_put}
use Rattle.members.proofs.Held.{Held, held_says, length_points_of, map_x, map_y, length_chains_of, flatten_chains, chains_fit, fits_some}
use Rattle.members.proofs.Along.{starts_by, ends_by}
use Rattle.members.proofs.Putting.{length_multi, multi_is}

-- ---- the checks, by what a refusal leaves

pub fit_says : (room n : ℕ) → fit_check room n ≡ (Ok tt) → n ≤ room
unfolding fit_check
fit_says room n h = leb-true n room (unless_fine _ _ _ h)

pub count_says : (n : ℕ) → count_check n ≡ (Ok tt) → n ≤ 65536
unfolding count_check
count_says n h = leb-true n 65536 (unless_fine _ _ _ h)

fit_clears : (room n : ℕ) (r : Refusal) → fit_check room n ≡ Err r → clears r.number ≡ true
unfolding fit_check clears
fit_clears room n r e = (clearing_unless (leb n room) 5 n refl).says r e

held_same : (m n : ℕ) (ns : List ℕ) (r : Refusal) → held_check m n ns ≡ Err r → clears r.number ≡ false
unfolding held_check clears
held_same m n ns r e = (clearing_unless _ 3 0 refl).says r e

alike_same : (ls : Lines) (r : Refusal) → lengths_check ls ≡ Err r → clears r.number ≡ false
unfolding lengths_check clears
alike_same ls r e = (clearing_unless _ 3 0 refl).says r e

-- ---- members that passed refusal 3

-- their points, members and lines are as many as the slices say
pub record Counts (x y ns : List ℕ) : Type 0 where
  pub held : Held (length x) (length y) ns
  pub points : length (flatten (chains_of ns (points_of x y))) ≡ length x
  pub members : length (chains_of ns (points_of x y)) ≡ length ns
  pub lines : length (starts_of (chains_of ns (points_of x y))) ≡ length x - length ns
  pub some : length ns ≤ length x
  pub bytes : length (multi_bytes (chains_of ns (points_of x y))) ≡ 9 + 9 * length ns + 16 * length x

pub counts : (x y ns : List ℕ) → Patterns (points_of x y) → held_check (length x) (length y) ns ≡ (Ok tt) → Counts x y ns
counts x y ns q h =
    let d = held_says (length x) (length y) ns h in
    let ps = points_of x y in
    let n = length_points_of x y d.alike in
    let sum : sum_of ns ≡ length ps = d.sum ∙ sym n in
    let points : length (flatten (chains_of ns ps)) ≡ length x = ap length (flatten_chains ns ps sum) ∙ n in
    let members = length_chains_of ns ps in
    let l = length_starts (chains_of ns ps) (fits_some (chains_of ns ps) (chains_fit ns ps d.each sum q)) in
    record {
      held = d;
      points = points;
      members = members;
      lines = omega (arith, l, points, members);
      some = omega (arith, l, points, members);
      bytes = length_multi (chains_of ns ps) ∙ rw (points, members);
    }

-- ---- the writer

module _ (x y ns b₀ : List ℕ) (patterns : Patterns (points_of x y)) where
  -- what is written is a MultiLineString of the members
  pub is_multi : (bs : List ℕ) → written x y ns (length b₀) ≡ gives bs → MultiLineString bs (chains_of ns (points_of x y))
  unfolding written bytes_in
  is_multi bs h =
      let pss = chains_of ns (points_of x y) in
      let a = then_passed (held_check (length x) (length y) ns) _ h in
      let d = held_says (length x) (length y) ns a.0 in
      let b = then_passed (count_check (length (starts_of pss))) _ a.1 in
      let c = then_passed (fit_check (length b₀) (length (multi_bytes pss))) _ b.1 in
      let n = length_points_of x y d.alike in
      let f = chains_fit ns (points_of x y) d.each (d.sum ∙ sym n) patterns in
      subst (λ (cs : List ℕ). MultiLineString cs pss) (gives_same c.1) (multi_is pss f (omega (arith, length_chains_of ns (points_of x y), d.most)))

  none : (r : Refusal) → written x y ns (length b₀) ≡ refused r → clears r.number ≡ false → WrittenAs x y ns b₀ (Err r) b₀
  unfolding written_of bytes_left answer_by left_in
  none r e k = record { answer = rw e; in_bytes = rw e (sym (left_same 0 r b₀ k)); is = is_multi }

  pub write_lent : (r : Refusal) → held_check (length x) (length y) ns ≡ Err r → WrittenAs x y ns b₀ (Err r) b₀
  unfolding written
  write_lent r e = none r (then_refused _ _ r e) (held_same (length x) (length y) ns r e)

  module _ (h : held_check (length x) (length y) ns ≡ (Ok tt)) where
    to_count : written x y ns (length b₀) ≡ (count_check (length x - length ns) then fit_check (length b₀) (9 + 9 * length ns + 16 * length x) then gives (multi_bytes (chains_of ns (points_of x y))))
    unfolding written bytes_in
    to_count = let c = counts x y ns patterns h in then_fine _ _ h ∙ rw (c.lines, c.bytes)

    pub write_many : (r : Refusal) → count_check (length x - length ns) ≡ Err r → WrittenAs x y ns b₀ (Err r) b₀
    write_many r e = none r (to_count ∙ then_refused _ _ r e) (count_same (length x - length ns) r e)

    module _ (few : count_check (length x - length ns) ≡ (Ok tt)) where
      -- refusal 5: zero throughout
      pub write_short : {b₁ : List ℕ} (r : Refusal) → fit_check (length b₀) (9 + 9 * length ns + 16 * length x) ≡ Err r → b₁ ≡ replicate (length b₀) 0 → WrittenAs x y ns b₀ (Err r) b₁
      unfolding written_of bytes_left answer_by left_in
      write_short r e eb =
          let o = to_count ∙ then_fine _ _ few ∙ then_refused _ _ r e in
          let k = fit_clears (length b₀) (9 + 9 * length ns + 16 * length x) r e in
          record { answer = rw o; in_bytes = rw o (eb ∙ sym (left_zero 0 r b₀ k)); is = is_multi }

      pub write_all : {b₁ : List ℕ} → fit_check (length b₀) (9 + 9 * length ns + 16 * length x) ≡ (Ok tt) → b₁ ≡ zero_beyond 0 (length b₀) (multi_bytes (chains_of ns (points_of x y))) → WrittenAs x y ns b₀ (Ok (9 + 9 * length ns + 16 * length x)) b₁
      unfolding written_of bytes_left answer_by left_in
      write_all e eb =
          let o = to_count ∙ then_fine _ _ few ∙ then_fine _ _ e in
          record { answer = rw (o, (counts x y ns patterns h).bytes); in_bytes = rw o eb; is = is_multi }

-- ---- the lines of members

-- the four slices, each by itself
pub lines_eq : (a b : Lines) → a.start_x ≡ b.start_x → a.start_y ≡ b.start_y → a.end_x ≡ b.end_x → a.end_y ≡ b.end_y → a ≡ b
lines_eq a b p q r s =
    ap (λ (v : List Float). lines v a.start_y a.end_x a.end_y) p
    ∙ ap (λ (v : List Float). lines b.start_x v a.end_x a.end_y) q
    ∙ ap (λ (v : List Float). lines b.start_x b.start_y v a.end_y) r
    ∙ ap (λ (v : List Float). lines b.start_x b.start_y b.end_x v) s

lines_same : (o : Answer (List (List Point))) (ls ls' : Lines) → ls'.start_x ≡ ends_left (λ p. p.x) starts_of o ls.start_x → ls'.start_y ≡ ends_left (λ p. p.y) starts_of o ls.start_y
    → ls'.end_x ≡ ends_left (λ p. p.x) ends_of o ls.end_x → ls'.end_y ≡ ends_left (λ p. p.y) ends_of o ls.end_y → ls' ≡ lines_left o ls
unfolding lines_left
lines_same o ls ls' a b c d = lines_eq ls' (lines_left o ls) a b c d

module _ (x y ns : List ℕ) (ls : Lines) (patterns : Patterns (points_of x y)) where
  same_by : (f : Point → ℕ) (ends : List (List Point) → List Point) (o : Answer (List (List Point))) (r : Refusal) (s : List Float) → o ≡ refused r → clears r.number ≡ false → s ≡ ends_left f ends o s
  unfolding ends_left left_in
  same_by f ends o r s e k = rw e (sym (left_same nought r s k))

  stays : (r : Refusal) → lining x y ns ls ≡ refused r → clears r.number ≡ false → LinedAs x y ns ls (Err r) ls
  unfolding lined_of answer_by
  stays r e k = record {
    answer = rw e;
    left =
        lines_same (lining x y ns ls) ls ls (same_by (λ p. p.x) starts_of _ r ls.start_x e k) (same_by (λ p. p.y) starts_of _ r ls.start_y e k)
        (same_by (λ p. p.x) ends_of _ r ls.end_x e k) (same_by (λ p. p.y) ends_of _ r ls.end_y e k);
  }

  pub line_alike : (r : Refusal) → lengths_check ls ≡ Err r → LinedAs x y ns ls (Err r) ls
  unfolding lining
  line_alike r e = stays r (then_refused _ _ r e) (alike_same ls r e)

  module _ (a : lengths_check ls ≡ (Ok tt)) where
    pub line_lent : (r : Refusal) → held_check (length x) (length y) ns ≡ Err r → LinedAs x y ns ls (Err r) ls
    unfolding lining
    line_lent r e = stays r (then_fine _ _ a ∙ then_refused _ _ r e) (held_same (length x) (length y) ns r e)

    module _ (h : held_check (length x) (length y) ns ≡ (Ok tt)) where
      to_lines : lining x y ns ls ≡ (count_check (length x - length ns) then fit_check (count ls) (length x - length ns) then gives (chains_of ns (points_of x y)))
      unfolding lining lined_within
      to_lines = then_fine _ _ a ∙ then_fine _ _ h ∙ rw (counts x y ns patterns h).lines

      pub line_many : (r : Refusal) → count_check (length x - length ns) ≡ Err r → LinedAs x y ns ls (Err r) ls
      line_many r e = stays r (to_lines ∙ then_refused _ _ r e) (count_same (length x - length ns) r e)

      module _ (few : count_check (length x - length ns) ≡ (Ok tt)) (ls' : Lines) where
        zero_by : (f : Point → ℕ) (ends : List (List Point) → List Point) (o : Answer (List (List Point))) (r : Refusal) (s : List Float) → o ≡ refused r → clears r.number ≡ true → replicate (length s) nought ≡ ends_left f ends o s
        unfolding ends_left left_in
        zero_by f ends o r s e k = rw e (sym (left_zero nought r s k))

        -- refusal 5: zero throughout
        pub line_short : (r : Refusal) → fit_check (count ls) (length x - length ns) ≡ Err r → ls' ≡ zero_lines ls → LinedAs x y ns ls (Err r) ls'
        unfolding lined_of answer_by zero_lines
        line_short r e z =
            let o = to_lines ∙ then_fine _ _ few ∙ then_refused _ _ r e in
            let k = fit_clears (count ls) (length x - length ns) r e in
            record {
              answer = rw o;
              left =
                  z
                  ∙ lines_same (lining x y ns ls) ls (zero_lines ls) (zero_by (λ p. p.x) starts_of _ r _ o k) (zero_by (λ p. p.y) starts_of _ r _ o k)
                  (zero_by (λ p. p.x) ends_of _ r _ o k) (zero_by (λ p. p.y) ends_of _ r _ o k);
            }

        made_by : (f : Point → ℕ) (ends : List (List Point) → List Point) (o : Answer (List (List Point))) (pss : List (List Point)) (s cs : List Float) → o ≡ gives pss → map (λ (p : Point). of_bits binary64 (f p)) (ends pss) ≡ cs → zero_beyond nought (length s) cs ≡ ends_left f ends o s
        unfolding ends_left left_in
        made_by f ends o pss s cs e c = rw (e, c)

        pub line_all : fit_check (count ls) (length x - length ns) ≡ (Ok tt) → ls' ≡ lines_put ns x y ls → LinedAs x y ns ls (Ok (length x - length ns)) ls'
        unfolding lined_of answer_by lines_put floats_at
        line_all e z =
            let o = to_lines ∙ then_fine _ _ few ∙ then_fine _ _ e in
            let c = counts x y ns patterns h in
            let d = c.held in
            let ps = points_of x y in
            let sy : sum_of ns ≡ length y = d.sum ∙ sym d.alike in
            record {
              answer = rw (o, c.lines);
              left =
                  z
                  ∙ lines_same (lining x y ns ls) ls (lines_put ns x y ls)
                  (made_by (λ p. p.x) starts_of _ _ _ _ o (starts_by (λ p. p.x) (of_bits binary64) ns ps x (map_x x y d.alike) d.sum))
                  (made_by (λ p. p.y) starts_of _ _ _ _ o (starts_by (λ p. p.y) (of_bits binary64) ns ps y (map_y x y d.alike) sy))
                  (made_by (λ p. p.x) ends_of _ _ _ _ o (ends_by (λ p. p.x) (of_bits binary64) ns ps x (map_x x y d.alike) d.sum d.each))
                  (made_by (λ p. p.y) ends_of _ _ _ _ o (ends_by (λ p. p.y) (of_bits binary64) ns ps y (map_y x y d.alike) sy d.each));
            }

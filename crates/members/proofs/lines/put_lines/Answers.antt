-- `members::lines::put_lines` meets its contract: one coordinate of one end at a time. Assumes nothing.
use mathlib.Core.Path.{◌≡◌, sym, ◌∙◌}
use mathlib.Core.Bool.{true}
use mathlib.Core.List.{List}
use Prim.Native.Nat.{ℕ, ◌-◌, ◌≤◌}
use native.Mathlib.Omega.{arith}
use lib.ListN.{length}
use Rattle.grid.specs.Domain.{lines}
use Rattle.grid.proofs.Fine.{lengths_fine}
use Rattle.members.specs.Held.{all_lengths, sum_of}
use Rattle.members.specs.Inside.{ends_at, lines_put}
use Rattle.members.proofs.Held.{held_says}
use Rattle.members.proofs.Along.{length_ends}
use Rattle.members.proofs.Writings.{fit_says, lines_eq}
use Rattle.members.proofs.lines.put_lines.Goals as goal

-- what one coordinate of one end asks for, in a slice of m entries
record Asks (skip : ℕ) (ns cs : List ℕ) (m : ℕ) : Type 0 where
  one : skip ≤ 1
  each : all_lengths ns ≡ true
  sum : sum_of ns ≡ length cs
  room : length (ends_at skip ns cs) ≤ m

asks : (skip : ℕ) (ns cs : List ℕ) (m : ℕ) → skip ≤ 1 → all_lengths ns ≡ true → sum_of ns ≡ length cs → length cs - length ns ≤ m → Asks skip ns cs m
asks skip ns cs m h a e l = record { one = h; each = a; sum = e; room = let n = length_ends skip ns cs h a e in omega arith }

pub put_ends-requires : goal.put_ends-requires
put_ends-requires c =
    let asked : let a = c.args in Asks 0 a.lengths.now a.x.now (length a.start_x.now) × Asks 0 a.lengths.now a.y.now (length a.start_y.now) × Asks 1 a.lengths.now a.x.now (length a.end_x.now) × Asks 1 a.lengths.now a.y.now (length a.end_y.now) =
    let a = c.args in
    let p = c.requires in
    let ns = a.lengths.now in
    let h = held_says (length a.x.now) (length a.y.now) ns p.0 in
    let l = lengths_fine (lines a.start_x.now a.start_y.now a.end_x.now a.end_y.now) p.1 in
    let f = fit_says (length a.start_x.now) (length a.x.now - length ns) p.2 in
    let y : sum_of ns ≡ length a.y.now = h.sum ∙ sym h.alike in (
      asks 0 ns a.x.now (length a.start_x.now) (omega arith) h.each h.sum f,
      asks 0 ns a.y.now (length a.start_y.now) (omega arith) h.each y (omega (arith, h.alike, l.start_y)),
      asks 1 ns a.x.now (length a.end_x.now) (omega arith) h.each h.sum (omega (arith, l.end_x)),
      asks 1 ns a.y.now (length a.end_y.now) (omega arith) h.each y (omega (arith, h.alike, l.end_y)),
    ) in
    let q = asked.0 in (q.one, q.each, q.sum, omega (arith, q.room))

pub put_ends-requires-2 : goal.put_ends-requires-2
put_ends-requires-2 c =
    let asked : let a = c.args in Asks 0 a.lengths.now a.x.now (length a.start_x.now) × Asks 0 a.lengths.now a.y.now (length a.start_y.now) × Asks 1 a.lengths.now a.x.now (length a.end_x.now) × Asks 1 a.lengths.now a.y.now (length a.end_y.now) =
    let a = c.args in
    let p = c.requires in
    let ns = a.lengths.now in
    let h = held_says (length a.x.now) (length a.y.now) ns p.0 in
    let l = lengths_fine (lines a.start_x.now a.start_y.now a.end_x.now a.end_y.now) p.1 in
    let f = fit_says (length a.start_x.now) (length a.x.now - length ns) p.2 in
    let y : sum_of ns ≡ length a.y.now = h.sum ∙ sym h.alike in (
      asks 0 ns a.x.now (length a.start_x.now) (omega arith) h.each h.sum f,
      asks 0 ns a.y.now (length a.start_y.now) (omega arith) h.each y (omega (arith, h.alike, l.start_y)),
      asks 1 ns a.x.now (length a.end_x.now) (omega arith) h.each h.sum (omega (arith, l.end_x)),
      asks 1 ns a.y.now (length a.end_y.now) (omega arith) h.each y (omega (arith, h.alike, l.end_y)),
    ) in
    let q = asked.1 in (q.one, q.each, q.sum, omega (arith, q.room))

pub put_ends-requires-3 : goal.put_ends-requires-3
put_ends-requires-3 c =
    let asked : let a = c.args in Asks 0 a.lengths.now a.x.now (length a.start_x.now) × Asks 0 a.lengths.now a.y.now (length a.start_y.now) × Asks 1 a.lengths.now a.x.now (length a.end_x.now) × Asks 1 a.lengths.now a.y.now (length a.end_y.now) =
    let a = c.args in
    let p = c.requires in
    let ns = a.lengths.now in
    let h = held_says (length a.x.now) (length a.y.now) ns p.0 in
    let l = lengths_fine (lines a.start_x.now a.start_y.now a.end_x.now a.end_y.now) p.1 in
    let f = fit_says (length a.start_x.now) (length a.x.now - length ns) p.2 in
    let y : sum_of ns ≡ length a.y.now = h.sum ∙ sym h.alike in (
      asks 0 ns a.x.now (length a.start_x.now) (omega arith) h.each h.sum f,
      asks 0 ns a.y.now (length a.start_y.now) (omega arith) h.each y (omega (arith, h.alike, l.start_y)),
      asks 1 ns a.x.now (length a.end_x.now) (omega arith) h.each h.sum (omega (arith, l.end_x)),
      asks 1 ns a.y.now (length a.end_y.now) (omega arith) h.each y (omega (arith, h.alike, l.end_y)),
    ) in
    let q = asked.2 in (q.one, q.each, q.sum, omega (arith, q.room))

pub put_ends-requires-4 : goal.put_ends-requires-4
put_ends-requires-4 c =
    let asked : let a = c.args in Asks 0 a.lengths.now a.x.now (length a.start_x.now) × Asks 0 a.lengths.now a.y.now (length a.start_y.now) × Asks 1 a.lengths.now a.x.now (length a.end_x.now) × Asks 1 a.lengths.now a.y.now (length a.end_y.now) =
    let a = c.args in
    let p = c.requires in
    let ns = a.lengths.now in
    let h = held_says (length a.x.now) (length a.y.now) ns p.0 in
    let l = lengths_fine (lines a.start_x.now a.start_y.now a.end_x.now a.end_y.now) p.1 in
    let f = fit_says (length a.start_x.now) (length a.x.now - length ns) p.2 in
    let y : sum_of ns ≡ length a.y.now = h.sum ∙ sym h.alike in (
      asks 0 ns a.x.now (length a.start_x.now) (omega arith) h.each h.sum f,
      asks 0 ns a.y.now (length a.start_y.now) (omega arith) h.each y (omega (arith, h.alike, l.start_y)),
      asks 1 ns a.x.now (length a.end_x.now) (omega arith) h.each h.sum (omega (arith, l.end_x)),
      asks 1 ns a.y.now (length a.end_y.now) (omega arith) h.each y (omega (arith, h.alike, l.end_y)),
    ) in
    let q = asked.3 in (q.one, q.each, q.sum, omega (arith, q.room))

pub returns : goal.returns
unfolding lines_put
returns c = lines_eq _ _ c.put_ends.ensures c.put_ends-2.ensures c.put_ends-3.ensures c.put_ends-4.ensures

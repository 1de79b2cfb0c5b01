-- `members::write::write_multi_line_string` meets its contract: a refusal, or the bytes of the members and zero beyond. Assumes nothing.
use Rattle.std.specs.Prelude.{Ok}
use Rattle.std.proofs.lemmas.Result.{err_from_is_err_and}
use mathlib.Core.Path.{◌≡◌, sym, ◌∙◌}
use Prim.Native.Nat.{◌+◌, ◌-◌, ◌*◌, ◌≤◌}
use native.Mathlib.Omega.{arith}
use lib.ListN.{length}
use Rattle.grid.specs.Domain.{count_check}
use Rattle.wkb.specs.Bytes.{Patterns}
use Rattle.wkb.proofs.Stores.{put_cleared}
use Rattle.members.specs.Held.{points_of, held_check}
use Rattle.members.specs.Writing.{fit_check}
use Rattle.members.proofs.Held.{patterns_of}
use Rattle.members.proofs.Putting.{cleared_all}
use Rattle.members.proofs.Writings.{fit_says, count_says, Counts, counts, write_lent, write_many, write_short, write_all}
use Rattle.members.proofs.write.write_multi_line_string.Goals as goal

pub returns-in_err-check_held : goal.returns-in_err-check_held
returns-in_err-check_held c =
    let patterns : let a = c.args in Patterns (points_of a.x.now a.y.now) =
    let a = c.args in
    patterns_of a.x.now a.y.now (λ i. omega (arith, c.shared_slice_known-1.given i)) (λ i. omega (arith, c.shared_slice_known-2-1.given i)) in
    let a = c.args in
    let p = err_from_is_err_and c.from_residual.result c.from_residual.ensures.1 in
    rw (p.1, p.2) (write_lent a.x.now a.y.now a.lengths.now a.bytes.now patterns _ (sym c.in_err-check_held.ensures))

pub overflow_sub-x : goal.overflow_sub-x
overflow_sub-x c =
    let patterns : let a = c.args in Patterns (points_of a.x.now a.y.now) =
    let a = c.args in
    patterns_of a.x.now a.y.now (λ i. omega (arith, c.shared_slice_known-1.given i)) (λ i. omega (arith, c.shared_slice_known-2-1.given i)) in
    let held : let a = c.args in held_check (length a.x.now) (length a.y.now) a.lengths.now ≡ (Ok tt) = sym c.in_ok-check_held.ensures in
    let counted : let a = c.args in Counts a.x.now a.y.now a.lengths.now = let a = c.args in counts a.x.now a.y.now a.lengths.now patterns held in
    omega (arith, counted.some)

pub returns-in_err-check_count : goal.returns-in_err-check_count
returns-in_err-check_count c =
    let patterns : let a = c.args in Patterns (points_of a.x.now a.y.now) =
    let a = c.args in
    patterns_of a.x.now a.y.now (λ i. omega (arith, c.shared_slice_known-1.given i)) (λ i. omega (arith, c.shared_slice_known-2-1.given i)) in
    let held : let a = c.args in held_check (length a.x.now) (length a.y.now) a.lengths.now ≡ (Ok tt) = sym c.in_ok-check_held.ensures in
    let a = c.args in
    let p = err_from_is_err_and c.from_residual-in_err-check_count.result c.from_residual-in_err-check_count.ensures.1 in
    rw (p.1, p.2) (write_many a.x.now a.y.now a.lengths.now a.bytes.now patterns held _ (sym c.in_err-check_count.ensures))

pub overflow_mul-need : goal.overflow_mul-need
overflow_mul-need c =
    let patterns : let a = c.args in Patterns (points_of a.x.now a.y.now) =
    let a = c.args in
    patterns_of a.x.now a.y.now (λ i. omega (arith, c.shared_slice_known-1.given i)) (λ i. omega (arith, c.shared_slice_known-2-1.given i)) in
    let held : let a = c.args in held_check (length a.x.now) (length a.y.now) a.lengths.now ≡ (Ok tt) = sym c.in_ok-check_held.ensures in
    let counted : let a = c.args in Counts a.x.now a.y.now a.lengths.now = let a = c.args in counts a.x.now a.y.now a.lengths.now patterns held in
    let few : let a = c.args in count_check (length a.x.now - length a.lengths.now) ≡ (Ok tt) = sym c.in_ok-check_count.ensures in
    let small : let a = c.args in (length a.lengths.now ≤ 4294967295) × (length a.x.now ≤ 4295032831) =
    let n = counted in
    let l = count_says _ few in
    (n.held.most, omega (arith, n.some, n.held.most)) in
    let n = small in omega arith

pub overflow_add-need : goal.overflow_add-need
overflow_add-need c =
    let patterns : let a = c.args in Patterns (points_of a.x.now a.y.now) =
    let a = c.args in
    patterns_of a.x.now a.y.now (λ i. omega (arith, c.shared_slice_known-1.given i)) (λ i. omega (arith, c.shared_slice_known-2-1.given i)) in
    let held : let a = c.args in held_check (length a.x.now) (length a.y.now) a.lengths.now ≡ (Ok tt) = sym c.in_ok-check_held.ensures in
    let counted : let a = c.args in Counts a.x.now a.y.now a.lengths.now = let a = c.args in counts a.x.now a.y.now a.lengths.now patterns held in
    let few : let a = c.args in count_check (length a.x.now - length a.lengths.now) ≡ (Ok tt) = sym c.in_ok-check_count.ensures in
    let small : let a = c.args in (length a.lengths.now ≤ 4294967295) × (length a.x.now ≤ 4295032831) =
    let n = counted in
    let l = count_says _ few in
    (n.held.most, omega (arith, n.some, n.held.most)) in
    let n = small in omega arith

pub overflow_mul-need-2 : goal.overflow_mul-need-2
overflow_mul-need-2 c =
    let patterns : let a = c.args in Patterns (points_of a.x.now a.y.now) =
    let a = c.args in
    patterns_of a.x.now a.y.now (λ i. omega (arith, c.shared_slice_known-1.given i)) (λ i. omega (arith, c.shared_slice_known-2-1.given i)) in
    let held : let a = c.args in held_check (length a.x.now) (length a.y.now) a.lengths.now ≡ (Ok tt) = sym c.in_ok-check_held.ensures in
    let counted : let a = c.args in Counts a.x.now a.y.now a.lengths.now = let a = c.args in counts a.x.now a.y.now a.lengths.now patterns held in
    let few : let a = c.args in count_check (length a.x.now - length a.lengths.now) ≡ (Ok tt) = sym c.in_ok-check_count.ensures in
    let small : let a = c.args in (length a.lengths.now ≤ 4294967295) × (length a.x.now ≤ 4295032831) =
    let n = counted in
    let l = count_says _ few in
    (n.held.most, omega (arith, n.some, n.held.most)) in
    let n = small in omega arith

pub overflow_add-need-2 : goal.overflow_add-need-2
overflow_add-need-2 c =
    let patterns : let a = c.args in Patterns (points_of a.x.now a.y.now) =
    let a = c.args in
    patterns_of a.x.now a.y.now (λ i. omega (arith, c.shared_slice_known-1.given i)) (λ i. omega (arith, c.shared_slice_known-2-1.given i)) in
    let held : let a = c.args in held_check (length a.x.now) (length a.y.now) a.lengths.now ≡ (Ok tt) = sym c.in_ok-check_held.ensures in
    let counted : let a = c.args in Counts a.x.now a.y.now a.lengths.now = let a = c.args in counts a.x.now a.y.now a.lengths.now patterns held in
    let few : let a = c.args in count_check (length a.x.now - length a.lengths.now) ≡ (Ok tt) = sym c.in_ok-check_count.ensures in
    let small : let a = c.args in (length a.lengths.now ≤ 4294967295) × (length a.x.now ≤ 4295032831) =
    let n = counted in
    let l = count_says _ few in
    (n.held.most, omega (arith, n.some, n.held.most)) in
    let n = small in omega arith

pub returns-in-Err : goal.returns-in-Err
returns-in-Err c =
    let patterns : let a = c.args in Patterns (points_of a.x.now a.y.now) =
    let a = c.args in
    patterns_of a.x.now a.y.now (λ i. omega (arith, c.shared_slice_known-1.given i)) (λ i. omega (arith, c.shared_slice_known-2-1.given i)) in
    let held : let a = c.args in held_check (length a.x.now) (length a.y.now) a.lengths.now ≡ (Ok tt) = sym c.in_ok-check_held.ensures in
    let few : let a = c.args in count_check (length a.x.now - length a.lengths.now) ≡ (Ok tt) = sym c.in_ok-check_count.ensures in
    let a = c.args in
    write_short a.x.now a.y.now a.lengths.now a.bytes.now patterns held few _ (sym c.check_fit-room.ensures ∙ c.in-Err.is)
    (cleared_all 0 a.bytes.now c.clear_bytes.ensures)

pub put_multi-requires : goal.put_multi-requires
put_multi-requires c =
    let held : let a = c.args in held_check (length a.x.now) (length a.y.now) a.lengths.now ≡ (Ok tt) = sym c.in_ok-check_held.ensures in
    let patterns : let a = c.args in Patterns (points_of a.x.now a.y.now) =
    let a = c.args in
    patterns_of a.x.now a.y.now (λ i. omega (arith, c.shared_slice_known-1.given i)) (λ i. omega (arith, c.shared_slice_known-2-1.given i)) in
    let counted : let a = c.args in Counts a.x.now a.y.now a.lengths.now = let a = c.args in counts a.x.now a.y.now a.lengths.now patterns held in
    let room : let a = c.args in fit_check (length a.bytes.now) (9 + 9 * length a.lengths.now + 16 * length a.x.now) ≡ (Ok tt) = sym c.check_fit-room.ensures ∙ c.in_default.is in
    let n = counted in
    (held, omega (arith, fit_says _ _ room, n.bytes))

pub returns : goal.returns
returns c =
    let patterns : let a = c.args in Patterns (points_of a.x.now a.y.now) =
    let a = c.args in
    patterns_of a.x.now a.y.now (λ i. omega (arith, c.shared_slice_known-1.given i)) (λ i. omega (arith, c.shared_slice_known-2-1.given i)) in
    let held : let a = c.args in held_check (length a.x.now) (length a.y.now) a.lengths.now ≡ (Ok tt) = sym c.in_ok-check_held.ensures in
    let counted : let a = c.args in Counts a.x.now a.y.now a.lengths.now = let a = c.args in counts a.x.now a.y.now a.lengths.now patterns held in
    let few : let a = c.args in count_check (length a.x.now - length a.lengths.now) ≡ (Ok tt) = sym c.in_ok-check_count.ensures in
    let room : let a = c.args in fit_check (length a.bytes.now) (9 + 9 * length a.lengths.now + 16 * length a.x.now) ≡ (Ok tt) = sym c.check_fit-room.ensures ∙ c.in_default.is in
    let a = c.args in
    let n = counted in
    write_all a.x.now a.y.now a.lengths.now a.bytes.now patterns held few room
    (put_cleared 0 c.put_multi.ensures (sym n.bytes) c.clear_bytes-2.ensures)

-- `members::lines::lines_of_members` meets its contract: a refusal, or the lines of the members and zero beyond. Assumes nothing.
use Rattle.std.specs.Prelude.{Ok}
use Rattle.std.proofs.lemmas.Result.{err_from_is_err_and}
use mathlib.Core.Path.{◌≡◌, sym, ◌∙◌}
use Prim.Native.Nat.{◌-◌}
use native.Mathlib.Omega.{arith}
use lib.ListN.{length}
use Rattle.grid.specs.Domain.{lines, count_check, lengths_check}
use Rattle.wkb.specs.Bytes.{Patterns}
use Rattle.members.specs.Held.{points_of, held_check}
use Rattle.members.specs.Writing.{fit_check}
use Rattle.members.proofs.Held.{patterns_of}
use Rattle.members.proofs.Writings.{Counts, counts, line_alike, line_lent, line_many, line_short, line_all}
use Rattle.members.proofs.lines.lines_of_members.Goals as goal

pub returns-in_err-check_lengths : goal.returns-in_err-check_lengths
returns-in_err-check_lengths c =
    let patterns : let a = c.args in Patterns (points_of a.x.now a.y.now) =
    let a = c.args in
    patterns_of a.x.now a.y.now (λ i. omega (arith, c.shared_slice_known-1.given i)) (λ i. omega (arith, c.shared_slice_known-2-1.given i)) in
    let a = c.args in
    let p = err_from_is_err_and c.from_residual.result c.from_residual.ensures.1 in
    rw (p.1, p.2) (line_alike a.x.now a.y.now a.lengths.now (lines a.start_x.now a.start_y.now a.end_x.now a.end_y.now) patterns _ (sym c.in_err-check_lengths.ensures))

pub returns-in_err-check_held : goal.returns-in_err-check_held
returns-in_err-check_held c =
    let patterns : let a = c.args in Patterns (points_of a.x.now a.y.now) =
    let a = c.args in
    patterns_of a.x.now a.y.now (λ i. omega (arith, c.shared_slice_known-1.given i)) (λ i. omega (arith, c.shared_slice_known-2-1.given i)) in
    let alike : let a = c.args in lengths_check (lines a.start_x.now a.start_y.now a.end_x.now a.end_y.now) ≡ (Ok tt) = sym c.in_ok-check_lengths.ensures in
    let a = c.args in
    let p = err_from_is_err_and c.from_residual-in_err-check_held.result c.from_residual-in_err-check_held.ensures.1 in
    rw (p.1, p.2) (line_lent a.x.now a.y.now a.lengths.now (lines a.start_x.now a.start_y.now a.end_x.now a.end_y.now) patterns alike _ (sym c.in_err-check_held.ensures))

pub overflow_sub-count : goal.overflow_sub-count
overflow_sub-count c =
    let patterns : let a = c.args in Patterns (points_of a.x.now a.y.now) =
    let a = c.args in
    patterns_of a.x.now a.y.now (λ i. omega (arith, c.shared_slice_known-1.given i)) (λ i. omega (arith, c.shared_slice_known-2-1.given i)) in
    let held : let a = c.args in held_check (length a.x.now) (length a.y.now) a.lengths.now ≡ (Ok tt) = sym c.in_ok-check_held.ensures in
    let counted : let a = c.args in Counts a.x.now a.y.now a.lengths.now = let a = c.args in counts a.x.now a.y.now a.lengths.now patterns held in
    omega (arith, counted.some)

pub returns-in_err-check_count : goal.returns-in_err-check_count
returns-in_err-check_count c =
    let patterns : let a = c.args in Patterns (points_of a.x.now a.y.now) =
    let a = c.args in
    patterns_of a.x.now a.y.now (λ i. omega (arith, c.shared_slice_known-1.given i)) (λ i. omega (arith, c.shared_slice_known-2-1.given i)) in
    let alike : let a = c.args in lengths_check (lines a.start_x.now a.start_y.now a.end_x.now a.end_y.now) ≡ (Ok tt) = sym c.in_ok-check_lengths.ensures in
    let held : let a = c.args in held_check (length a.x.now) (length a.y.now) a.lengths.now ≡ (Ok tt) = sym c.in_ok-check_held.ensures in
    let a = c.args in
    let p = err_from_is_err_and c.from_residual-in_err-check_count.result c.from_residual-in_err-check_count.ensures.1 in
    rw (p.1, p.2) (line_many a.x.now a.y.now a.lengths.now (lines a.start_x.now a.start_y.now a.end_x.now a.end_y.now) patterns alike held _ (sym c.in_err-check_count.ensures))

pub returns-in-Err : goal.returns-in-Err
returns-in-Err c =
    let patterns : let a = c.args in Patterns (points_of a.x.now a.y.now) =
    let a = c.args in
    patterns_of a.x.now a.y.now (λ i. omega (arith, c.shared_slice_known-1.given i)) (λ i. omega (arith, c.shared_slice_known-2-1.given i)) in
    let alike : let a = c.args in lengths_check (lines a.start_x.now a.start_y.now a.end_x.now a.end_y.now) ≡ (Ok tt) = sym c.in_ok-check_lengths.ensures in
    let held : let a = c.args in held_check (length a.x.now) (length a.y.now) a.lengths.now ≡ (Ok tt) = sym c.in_ok-check_held.ensures in
    let few : let a = c.args in count_check (length a.x.now - length a.lengths.now) ≡ (Ok tt) = sym c.in_ok-check_count.ensures in
    let a = c.args in
    line_short a.x.now a.y.now a.lengths.now (lines a.start_x.now a.start_y.now a.end_x.now a.end_y.now) patterns alike held few _ _
    (sym c.check_fit-room.ensures ∙ c.in-Err.is) c.clear_lines.ensures

pub put_lines-requires : goal.put_lines-requires
put_lines-requires c =
    let alike : let a = c.args in lengths_check (lines a.start_x.now a.start_y.now a.end_x.now a.end_y.now) ≡ (Ok tt) = sym c.in_ok-check_lengths.ensures in
    let held : let a = c.args in held_check (length a.x.now) (length a.y.now) a.lengths.now ≡ (Ok tt) = sym c.in_ok-check_held.ensures in
    let room : let a = c.args in fit_check (length a.start_x.now) (length a.x.now - length a.lengths.now) ≡ (Ok tt) = sym c.check_fit-room.ensures ∙ c.in_default.is in
    (held, alike, room)

pub returns : goal.returns
returns c =
    let patterns : let a = c.args in Patterns (points_of a.x.now a.y.now) =
    let a = c.args in
    patterns_of a.x.now a.y.now (λ i. omega (arith, c.shared_slice_known-1.given i)) (λ i. omega (arith, c.shared_slice_known-2-1.given i)) in
    let alike : let a = c.args in lengths_check (lines a.start_x.now a.start_y.now a.end_x.now a.end_y.now) ≡ (Ok tt) = sym c.in_ok-check_lengths.ensures in
    let held : let a = c.args in held_check (length a.x.now) (length a.y.now) a.lengths.now ≡ (Ok tt) = sym c.in_ok-check_held.ensures in
    let few : let a = c.args in count_check (length a.x.now - length a.lengths.now) ≡ (Ok tt) = sym c.in_ok-check_count.ensures in
    let room : let a = c.args in fit_check (length a.start_x.now) (length a.x.now - length a.lengths.now) ≡ (Ok tt) = sym c.check_fit-room.ensures ∙ c.in_default.is in
    let a = c.args in
    line_all a.x.now a.y.now a.lengths.now (lines a.start_x.now a.start_y.now a.end_x.now a.end_y.now) patterns alike held few _ room c.put_lines.ensures

-- `wkb::members::read_multi_line_string` meets its contract: a refusal, or what the look at the fields and the readings left. Assumes nothing.
use Rattle.std.specs.Prelude.{Ok}
use Rattle.std.proofs.lemmas.Result.{err_from_is_err_and}
use mathlib.Core.Path.{◌≡◌, sym, ◌∙◌}
use mathlib.Core.List.{List, ◌++◌}
use Prim.Native.Nat.{ℕ, ◌-◌}
use native.Mathlib.Omega.{arith}
use lib.ListN.{length, take, replicate}
use Rattle.slices.specs.Slices.{cleared_from}
use Rattle.grid.specs.Domain.{count_check}
use Rattle.wkb.specs.Multi.{pair_check, members_room_check}
use Rattle.wkb.proofs.Words.{Small, small_of}
use Rattle.wkb.proofs.Looks.{whole, multi_faulted}
use Rattle.wkb.proofs.MultiReadings.{pair_fine, room_fine, lines_found, axes_room, multi_lent, multi_none, multi_many, multi_short, multi_all}
use Rattle.wkb.proofs.members.read_multi_line_string.Goals as goal

-- a slice that is cleared from its start on
zeros : (s₀ : List ℕ) {s : List ℕ} → s ≡ take 0 s₀ ++ replicate (length s₀ - 0) 0 → s ≡ replicate (length s₀) 0
zeros s₀ e = let n : length s₀ - 0 ≡ length s₀ = omega arith in rw n at e

pub returns-in_err-check_pair : goal.returns-in_err-check_pair
returns-in_err-check_pair c =
    let small : Small c.args.bytes.now = small_of c.args.bytes.now (λ i. omega (arith, c.type_inv.bytes i)) in
    let a = c.args in
    let p = err_from_is_err_and c.from_residual.result c.from_residual.ensures.1 in
    rw (p.1, p.2) (multi_lent a.bytes.now a.x.now a.y.now a.lengths.now small _ (sym c.in_err-check_pair.ensures))

pub returns-in_err-look : goal.returns-in_err-look
returns-in_err-look c =
    let small : Small c.args.bytes.now = small_of c.args.bytes.now (λ i. omega (arith, c.type_inv.bytes i)) in
    let lent : let a = c.args in pair_check (length a.x.now) (length a.y.now) ≡ (Ok tt) = sym c.in_ok-check_pair.ensures in
    let a = c.args in
    let p = err_from_is_err_and c.from_residual-in_err-look.result c.from_residual-in_err-look.ensures.1 in
    let f = multi_faulted a.bytes.now c.check_multi.result c.check_multi.ensures c.in_err-look.ensures.cases in
    rw (p.1, p.2, f.1) (multi_none a.bytes.now a.x.now a.y.now a.lengths.now small lent f.0 f.2)

pub overflow_sub-look : goal.overflow_sub-look
overflow_sub-look c = let m = whole c.check_multi.result c.check_multi.ensures c.in_ok-look.ensures.cases in omega (arith, m.members.some)

pub returns-in_err-check_count : goal.returns-in_err-check_count
returns-in_err-check_count c =
    let small : Small c.args.bytes.now = small_of c.args.bytes.now (λ i. omega (arith, c.type_inv.bytes i)) in
    let lent : let a = c.args in pair_check (length a.x.now) (length a.y.now) ≡ (Ok tt) = sym c.in_ok-check_pair.ensures in
    let m = whole c.check_multi.result c.check_multi.ensures c.in_ok-look.ensures.cases in
    let a = c.args in
    let p = err_from_is_err_and c.from_residual-in_err-check_count.result c.from_residual-in_err-check_count.ensures.1 in
    rw (p.1, p.2) (multi_many a.bytes.now a.x.now a.y.now a.lengths.now small lent (lines_found m) _ (sym c.in_err-check_count.ensures))

pub returns-in-Err : goal.returns-in-Err
unfolding cleared_from
returns-in-Err c =
    let small : Small c.args.bytes.now = small_of c.args.bytes.now (λ i. omega (arith, c.type_inv.bytes i)) in
    let lent : let a = c.args in pair_check (length a.x.now) (length a.y.now) ≡ (Ok tt) = sym c.in_ok-check_pair.ensures in
    let m = whole c.check_multi.result c.check_multi.ensures c.in_ok-look.ensures.cases in
    let few : let l = c.in_ok-look.look in count_check (l.points - l.members) ≡ (Ok tt) = sym c.in_ok-check_count.ensures in
    let a = c.args in
    multi_short a.bytes.now a.x.now a.y.now a.lengths.now small lent (lines_found m) few _
    (sym c.check_room-room.ensures ∙ c.in-Err.is)
    (zeros a.x.now c.clear_words.ensures) (zeros a.y.now c.clear_words-in-Err.ensures) (zeros a.lengths.now c.clear_from.ensures)

pub read_axes-requires : goal.read_axes-requires
read_axes-requires c =
    let m = whole c.check_multi.result c.check_multi.ensures c.in_ok-look.ensures.cases in
    let room : let a = c.args in let l = c.in_ok-look.look in members_room_check (length a.x.now) (length a.lengths.now) l.points l.members ≡ (Ok tt) = sym c.check_room-room.ensures ∙ c.in_default.is in
    let r = room_fine _ _ _ _ room in
    (m.members.fine, omega arith, omega (arith, (axes_room (lines_found m)).0))

pub read_axes-requires-2 : goal.read_axes-requires-2
read_axes-requires-2 c =
    let lent : let a = c.args in pair_check (length a.x.now) (length a.y.now) ≡ (Ok tt) = sym c.in_ok-check_pair.ensures in
    let m = whole c.check_multi.result c.check_multi.ensures c.in_ok-look.ensures.cases in
    let room : let a = c.args in let l = c.in_ok-look.look in members_room_check (length a.x.now) (length a.lengths.now) l.points l.members ≡ (Ok tt) = sym c.check_room-room.ensures ∙ c.in_default.is in
    let r = room_fine _ _ _ _ room in
    let s = pair_fine _ _ lent in
    (m.members.fine, omega arith, omega (arith, (axes_room (lines_found m)).1))

pub read_lengths-requires : goal.read_lengths-requires
read_lengths-requires c =
    let m = whole c.check_multi.result c.check_multi.ensures c.in_ok-look.ensures.cases in
    let room : let a = c.args in let l = c.in_ok-look.look in members_room_check (length a.x.now) (length a.lengths.now) l.points l.members ≡ (Ok tt) = sym c.check_room-room.ensures ∙ c.in_default.is in
    let r = room_fine _ _ _ _ room in
    (m.members.fine, omega arith)

pub returns : goal.returns
returns c =
    let small : Small c.args.bytes.now = small_of c.args.bytes.now (λ i. omega (arith, c.type_inv.bytes i)) in
    let lent : let a = c.args in pair_check (length a.x.now) (length a.y.now) ≡ (Ok tt) = sym c.in_ok-check_pair.ensures in
    let m = whole c.check_multi.result c.check_multi.ensures c.in_ok-look.ensures.cases in
    let few : let l = c.in_ok-look.look in count_check (l.points - l.members) ≡ (Ok tt) = sym c.in_ok-check_count.ensures in
    let room : let a = c.args in let l = c.in_ok-look.look in members_room_check (length a.x.now) (length a.lengths.now) l.points l.members ≡ (Ok tt) = sym c.check_room-room.ensures ∙ c.in_default.is in
    let a = c.args in
    multi_all a.bytes.now a.x.now a.y.now a.lengths.now small lent (lines_found m) few room
    c.read_axes.ensures c.read_axes-2.ensures c.read_lengths.ensures

-- `wkb::read_line_string` meets its contract: a refusal, or what the look at the fields and the two axes left. Assumes nothing.
use Rattle.std.specs.Prelude.{Ok}
use Rattle.std.proofs.lemmas.Result.{err_from_is_err_and}
use mathlib.Core.Path.{◌≡◌, sym}
use native.Mathlib.Omega.{arith}
use lib.ListN.{length}
use Rattle.wkb.specs.Reading.{slices_check}
use Rattle.wkb.proofs.Words.{Small, small_of}
use Rattle.wkb.proofs.Looks.{lined, line_faulted}
use Rattle.wkb.proofs.Readings.{slices_fine, found_fault, found_more, found_line, read_lent, read_none, read_all}
use Rattle.wkb.proofs.read_line_string.Goals as goal

pub returns-in_err-check_slices : goal.returns-in_err-check_slices
returns-in_err-check_slices c =
    let small : Small c.args.bytes.now = small_of c.args.bytes.now (λ i. omega (arith, c.type_inv.bytes i)) in
    let a = c.args in
    let p = err_from_is_err_and c.from_residual.result c.from_residual.ensures.1 in
    rw (p.1, p.2) (read_lent a.bytes.now a.x.now a.y.now small _ (sym c.in_err-check_slices.ensures))

pub returns-in_err-line : goal.returns-in_err-line
returns-in_err-line c =
    let small : Small c.args.bytes.now = small_of c.args.bytes.now (λ i. omega (arith, c.type_inv.bytes i)) in
    let lent : let a = c.args in slices_check (length a.x.now) (length a.y.now) ≡ (Ok tt) = sym c.in_ok-check_slices.ensures in
    let a = c.args in
    let p = err_from_is_err_and c.from_residual-in_err-line.result c.from_residual-in_err-line.ensures.1 in
    let f = line_faulted a.bytes.now 0 c.check_line.result c.check_line.ensures c.in_err-line.ensures.cases in
    rw (p.1, p.2, f.1) (read_none a.bytes.now a.x.now a.y.now small lent f.0 (found_fault a.bytes.now f.0 f.2))

pub overflow_mul-end : goal.overflow_mul-end
overflow_mul-end c =
    let l = lined c.check_line.result c.check_line.ensures c.in_ok-line.ensures.cases in omega arith

pub overflow_add-end : goal.overflow_add-end
overflow_add-end c =
    let l = lined c.check_line.result c.check_line.ensures c.in_ok-line.ensures.cases in omega arith

pub returns-then-end-bytes : goal.returns-then-end-bytes
returns-then-end-bytes c =
    let small : Small c.args.bytes.now = small_of c.args.bytes.now (λ i. omega (arith, c.type_inv.bytes i)) in
    let lent : let a = c.args in slices_check (length a.x.now) (length a.y.now) ≡ (Ok tt) = sym c.in_ok-check_slices.ensures in
    let l = lined c.check_line.result c.check_line.ensures c.in_ok-line.ensures.cases in
    let a = c.args in
    rw c.fault.ensures (read_none a.bytes.now a.x.now a.y.now small lent _ (found_more a.bytes.now _ _ l c.if-end-bytes.true))

pub read_axis-requires : goal.read_axis-requires
read_axis-requires c =
    let lent : let a = c.args in slices_check (length a.x.now) (length a.y.now) ≡ (Ok tt) = sym c.in_ok-check_slices.ensures in
    let l = lined c.check_line.result c.check_line.ensures c.in_ok-line.ensures.cases in
    let s = slices_fine _ _ lent in
    (omega arith, omega arith)

pub read_axis-requires-2 : goal.read_axis-requires-2
read_axis-requires-2 c =
    let lent : let a = c.args in slices_check (length a.x.now) (length a.y.now) ≡ (Ok tt) = sym c.in_ok-check_slices.ensures in
    let l = lined c.check_line.result c.check_line.ensures c.in_ok-line.ensures.cases in
    let s = slices_fine _ _ lent in
    (omega arith, omega arith)

pub returns : goal.returns
returns c =
    let small : Small c.args.bytes.now = small_of c.args.bytes.now (λ i. omega (arith, c.type_inv.bytes i)) in
    let lent : let a = c.args in slices_check (length a.x.now) (length a.y.now) ≡ (Ok tt) = sym c.in_ok-check_slices.ensures in
    let l = lined c.check_line.result c.check_line.ensures c.in_ok-line.ensures.cases in
    let a = c.args in
    read_all a.bytes.now a.x.now a.y.now small lent _ _
    (found_line a.bytes.now _ _ l c.if-end-bytes.false)
    c.read_axis.ensures c.read_axis-2.ensures

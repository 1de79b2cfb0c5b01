-- `wkb::check_line` meets its contract: each return is what a law of `Fields` says of the tests that led there. Assumes nothing.
use mathlib.Core.Path.{◌≡◌}
use native.Mathlib.Omega.{arith}
use Rattle.std.proofs.lemmas.Result.{err_from_is_err_and}
use Rattle.wkb.specs.Reading.{count_at}
use Rattle.wkb.proofs.Fields.{counted_at, head_refused, count_cut, count_none, count_many, points_cut, points_right}
use Rattle.wkb.proofs.check_line.Goals as goal

pub returns-in_err-order : goal.returns-in_err-order
returns-in_err-order c =
    let a = c.args in
    let p = err_from_is_err_and c.from_residual.result c.from_residual.ensures.1 in
    rw (p.1, p.2) (head_refused a.at a.bytes.now _ c.in_err-order.ensures)

pub returns-then-len-at-lt9 : goal.returns-then-len-at-lt9
returns-then-len-at-lt9 c =
    let a = c.args in
    count_cut a.at a.bytes.now c.in_ok-order.ensures.fine (omega arith)

pub returns-then-count-lt1 : goal.returns-then-count-lt1
returns-then-count-lt1 c =
    let h = c.in_ok-order.ensures in
    let count_at_lem : let a = c.args in c.number_at_4-count.result ≡ count_at a.at a.bytes.now = counted_at _ _ _ h.order c.number_at_4-count.ensures.0 in
    let a = c.args in
    count_none a.at a.bytes.now h.fine (omega arith) (omega (arith, count_at_lem))

pub returns-then-count-gt1024 : goal.returns-then-count-gt1024
returns-then-count-gt1024 c =
    let h = c.in_ok-order.ensures in
    let count_at_lem : let a = c.args in c.number_at_4-count.result ≡ count_at a.at a.bytes.now = counted_at _ _ _ h.order c.number_at_4-count.ensures.0 in
    let a = c.args in
    count_many a.at a.bytes.now h.fine (omega arith) (omega (arith, count_at_lem))

pub returns-then-len-at : goal.returns-then-len-at
returns-then-len-at c =
    let h = c.in_ok-order.ensures in
    let count_at_lem : let a = c.args in c.number_at_4-count.result ≡ count_at a.at a.bytes.now = counted_at _ _ _ h.order c.number_at_4-count.ensures.0 in
    let a = c.args in
    let n = count_at_lem in
    points_cut a.at a.bytes.now h.fine (omega arith) (omega arith) (omega arith) (omega arith)

pub returns : goal.returns
returns c =
    let h = c.in_ok-order.ensures in
    let count_at_lem : let a = c.args in c.number_at_4-count.result ≡ count_at a.at a.bytes.now = counted_at _ _ _ h.order c.number_at_4-count.ensures.0 in
    let a = c.args in
    let n = count_at_lem in
    record {
      fine = points_right a.at a.bytes.now h.fine (omega arith) (omega arith) (omega arith);
      order = h.order;
      count = n;
      some = omega arith;
      most = omega arith;
      within = omega arith;
    }

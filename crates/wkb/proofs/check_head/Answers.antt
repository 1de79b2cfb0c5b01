-- `wkb::check_head` meets its contract: each return is what a law of `Fields` says of the tests that led there. Assumes nothing.
use mathlib.Core.Path.{◌≡◌, sym, ◌∙◌}
use native.Mathlib.Omega.{arith}
use Rattle.wkb.specs.Reading.{order_at, type_at}
use Rattle.wkb.proofs.Fields.{typed_at, order_cut, order_wrong, type_cut, type_wrong, type_right}
use Rattle.wkb.proofs.check_head.Goals as goal

pub returns-then-len-at-lt1 : goal.returns-then-len-at-lt1
returns-then-len-at-lt1 c = let a = c.args in order_cut a.kind a.at a.bytes.now (omega arith)

pub returns-then-b-gt1 : goal.returns-then-b-gt1
returns-then-b-gt1 c =
    let a = c.args in
    order_wrong a.kind a.at a.bytes.now (omega arith) c.if-b-gt1.true

pub returns-then-len-at-lt5 : goal.returns-then-len-at-lt5
returns-then-len-at-lt5 c =
    let a = c.args in
    type_cut a.kind a.at a.bytes.now (omega arith) c.if-b-gt1.false (omega arith)

pub returns-then-found-kind : goal.returns-then-found-kind
unfolding order_at
returns-then-found-kind c =
    let order_is : let a = c.args in c.order_of-order.result ≡ order_at a.at a.bytes.now = c.order_of-order.ensures in
    let type_is : let a = c.args in c.number_at_4-found.result ≡ type_at a.at a.bytes.now = typed_at _ _ _ order_is c.number_at_4-found.ensures.0 in
    let a = c.args in
    type_wrong a.kind a.at a.bytes.now (omega arith) c.if-b-gt1.false (omega arith) (λ e. c.if-found-kind.true (type_is ∙ e))

pub returns : goal.returns
unfolding order_at
returns c =
    let order_is : let a = c.args in c.order_of-order.result ≡ order_at a.at a.bytes.now = c.order_of-order.ensures in
    let type_is : let a = c.args in c.number_at_4-found.result ≡ type_at a.at a.bytes.now = typed_at _ _ _ order_is c.number_at_4-found.ensures.0 in
    let a = c.args in
    record {
      fine = type_right a.kind a.at a.bytes.now (omega arith) c.if-b-gt1.false (omega arith) (sym type_is ∙ c.if-found-kind.false);
      order = order_is;
      within = omega arith;
    }

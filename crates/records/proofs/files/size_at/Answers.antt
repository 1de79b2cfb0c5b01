-- `records::files::size_at` meets its contract. Assumes nothing.
use mathlib.Core.Path.{sym}
use native.Mathlib.Omega.{arith}
use Rattle.records.proofs.Rows.{short_at, cut_at, whole_at}
use Rattle.records.proofs.files.size_at.Goals as goal

pub returns-then-w-at : goal.returns-then-w-at
returns-then-w-at c = let a = c.args in (sym (short_at a.at a.w.now (omega arith)), omega arith)

pub returns-then-w-at-lt3 : goal.returns-then-w-at-lt3
returns-then-w-at-lt3 c = let a = c.args in (sym (short_at a.at a.w.now (omega arith)), omega arith)

pub returns-then-room-q : goal.returns-then-room-q
returns-then-room-q c = let a = c.args in (sym (cut_at a.at a.w.now (omega arith)), omega arith)

pub returns-then-room-q-2 : goal.returns-then-room-q-2
returns-then-room-q-2 c = let a = c.args in (sym (cut_at a.at a.w.now (omega arith)), omega arith)

pub returns : goal.returns
returns c = let a = c.args in let e = whole_at a.at a.w.now (omega arith) in (omega (arith, e), omega arith)

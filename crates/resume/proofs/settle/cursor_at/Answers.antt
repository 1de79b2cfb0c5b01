-- `resume::settle::cursor_at` meets its contract. Assumes nothing.
use native.Mathlib.Omega.{arith}
use mathlib.Core.Path.{refl}
use Prim.Native.Nat.{◌*◌}
use lib.ListN.{length}
use Rattle.tables.specs.Tables.{tables}
use Rattle.resume.proofs.CursorLaws.{reach_most, cell_is, cell_none, settled_cell, settled_global, settled_end}
use Rattle.resume.proofs.GlobalTurns.{global_is, global_past}
use Rattle.resume.proofs.settle.cursor_at.Goals as goal

pub returns-in-Some : goal.returns-in-Some
returns-in-Some c =
    let a = c.args in
    let t = tables a.grid a.lines a.offsets.now a.items.now a.whole.now a.global_count in
    let s = c.requires in
    λ rest f. settled_cell t a.reach s.reach_is rest _ _ _ (cell_is t a.reach s.reach_is rest _ f c.in-Some.first c.in-Some.is) _

pub overflow_add-result : goal.overflow_add-result
overflow_add-result c =
    let a = c.args in
    let t = tables a.grid a.lines a.offsets.now a.items.now a.whole.now a.global_count in
    let s = c.requires in
    omega (arith, s.reach_is, reach_most (t.rows * t.cols) (length t.offsets), (global_is _ _ _ _ _ _ c.global_at.ensures c.in-Some-global_at.next c.in-Some-global_at.is).inside, c)

pub returns-in-Some-global_at : goal.returns-in-Some-global_at
returns-in-Some-global_at c =
    let a = c.args in
    let t = tables a.grid a.lines a.offsets.now a.items.now a.whole.now a.global_count in
    let s = c.requires in
    λ rest f. settled_global t a.reach s.reach_is rest (cell_none t a.reach s.reach_is rest _ f c.in_default.is) a.lines refl a.globals.now s.globals_are a.p a.q a.k s.place _ _ _ _ (global_is _ _ _ _ _ _ c.global_at.ensures c.in-Some-global_at.next c.in-Some-global_at.is) _ c.wide.ensures

pub overflow_add-result-2 : goal.overflow_add-result-2
overflow_add-result-2 c =
    let a = c.args in
    let t = tables a.grid a.lines a.offsets.now a.items.now a.whole.now a.global_count in
    let s = c.requires in
    omega (arith, s.reach_is, reach_most (t.rows * t.cols) (length t.offsets), c)

pub returns : goal.returns
returns c =
    let a = c.args in
    let t = tables a.grid a.lines a.offsets.now a.items.now a.whole.now a.global_count in
    let s = c.requires in
    λ rest f. settled_end t a.reach s.reach_is rest (cell_none t a.reach s.reach_is rest _ f c.in_default.is) a.lines refl a.globals.now s.globals_are a.p a.q a.k (global_past _ _ _ _ _ _ c.global_at.ensures c.in_default-global_at.is)

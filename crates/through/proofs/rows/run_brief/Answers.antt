-- `through::rows::run_brief` meets its contract. The invariant: the rows before i are done. Assumes nothing.
use native.Mathlib.Omega.{arith}
use borrow.Author.Rules.{rules}
use Rattle.through.proofs.BriefTurns.{brief_gathers, brief_start, brief_first_long, brief_second_long, brief_end, brief_box, brief_few_part, brief_small, brief_turn_part}
use Rattle.through.proofs.rows.run_brief.Goals as goal

pub gather_flat-requires : goal.gather_flat-requires
gather_flat-requires c = brief_gathers _ _ _ _ _ _ c.requires

pub loop-i-init : goal.loop-i-init
loop-i-init c = brief_start _ _ _ _ _ _ (search rules) _ c.gather_flat.ensures

pub flat_at-bounds-requires : goal.flat_at-bounds-requires
flat_at-bounds-requires c = brief_box _ _ _ _ _ _ _ _ _ _ _ c.loop-i.invariant c.loop-i-test.true

pub overflow_add-tests : goal.overflow_add-tests
overflow_add-tests c = omega (arith, brief_small _ _ _ _ _ _ _ _ _ _ _ c.loop-i.invariant c.loop-i-test.true)

pub scan_few-hits-requires : goal.scan_few-hits-requires
scan_few-hits-requires c = brief_few_part _ _ _ _ _ _ _ _ _ _ _ c.loop-i.invariant c.loop-i-test.true

pub loop-i-preserved : goal.loop-i-preserved
loop-i-preserved c = brief_turn_part _ _ _ _ _ _ _ _ _ _ _ c.loop-i.invariant c.loop-i-test.true _ c.flat_at-bounds.ensures _ _ _ c.scan_few-hits.ensures

pub shape_of-first : goal.shape_of-first
shape_of-first c = brief_first_long _ _ _ _ _ _ _ _ _ _ _ c.loop-i.invariant

pub shape_of-second : goal.shape_of-second
shape_of-second c = brief_second_long _ _ _ _ _ _ _ _ _ _ _ c.loop-i.invariant

pub returns : goal.returns
returns c = record { ran = brief_end _ _ _ _ _ _ _ _ _ _ _ c.loop-i.invariant c.loop-i-test.false; same_length = search rules }

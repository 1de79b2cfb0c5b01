-- `resume::globals::run_globals` meets its contract. The invariant: what was left at the start is what was made and what is left now. Assumes nothing.
use native.Mathlib.Omega.{arith}
use mathlib.Core.Path.{refl}
use Rattle.resume.proofs.GlobalTurns.{globals_run, global_is, global_past, globals_first_long, globals_second_long, globals_place, globals_full, globals_over, globals_few, globals_stop, globals_asks, globals_turn, globals_less, globals_small, globals_k}
use Rattle.resume.proofs.globals.run_globals.Goals as goal

pub overflow_cast-n : goal.overflow_cast-n
overflow_cast-n c = omega (arith, c.requires.few)

pub loop-hits-init : goal.loop-hits-init
loop-hits-init c = globals_run _ _ _ _ _ _ _ _ _ c.requires refl

pub global_at-requires : goal.global_at-requires
global_at-requires c = globals_place _ _ _ _ _ _ _ _ _ _ _ _ _ _ _ _ c.loop-hits.invariant

pub overflow_sub-next : goal.overflow_sub-next
overflow_sub-next c = omega (arith, (global_is _ _ _ _ _ _ c.global_at.ensures c.in-Some.next c.in-Some.is).one)

pub overflow_cast-next : goal.overflow_cast-next
overflow_cast-next c = omega (arith, globals_stop _ _ _ _ _ _ _ _ _ _ _ _ _ _ _ _ c.loop-hits.invariant _ _ _ _ (global_is _ _ _ _ _ _ c.global_at.ensures c.in-Some.next c.in-Some.is))

pub overflow_sub-first : goal.overflow_sub-first
overflow_sub-first c = omega (arith, c.loop-hits-test.true)

pub overflow_cast-count : goal.overflow_cast-count
overflow_cast-count c = omega (arith, globals_few _ _ _ _ _ _ _ _ _ _ _ _ _ _ _ _ c.loop-hits.invariant _ _ _ _ (global_is _ _ _ _ _ _ c.global_at.ensures c.in-Some.next c.in-Some.is) c.loop-hits-test.true _ c.least-count.ensures)

pub offset_bounds-globals-next : goal.offset_bounds-globals-next
offset_bounds-globals-next c = omega (arith, (global_is _ _ _ _ _ _ c.global_at.ensures c.in-Some.next c.in-Some.is).inside)

pub bounds-globals-next : goal.bounds-globals-next
bounds-globals-next c = (global_is _ _ _ _ _ _ c.global_at.ensures c.in-Some.next c.in-Some.is).inside

pub scan_lines-hits-requires : goal.scan_lines-hits-requires
scan_lines-hits-requires c = globals_asks _ _ _ _ _ _ _ _ _ _ _ _ _ _ _ _ c.loop-hits.invariant _ _ _ _ (global_is _ _ _ _ _ _ c.global_at.ensures c.in-Some.next c.in-Some.is) c.loop-hits-test.true _ c.least-count.ensures

pub overflow_cast-tests : goal.overflow_cast-tests
overflow_cast-tests c = omega (arith, globals_few _ _ _ _ _ _ _ _ _ _ _ _ _ _ _ _ c.loop-hits.invariant _ _ _ _ (global_is _ _ _ _ _ _ c.global_at.ensures c.in-Some.next c.in-Some.is) c.loop-hits-test.true _ c.least-count.ensures)

pub overflow_add-tests : goal.overflow_add-tests
overflow_add-tests c = record { fits = globals_small _ _ _ _ _ _ _ _ _ _ _ _ _ _ _ _ c.loop-hits.invariant _ _ _ _ (global_is _ _ _ _ _ _ c.global_at.ensures c.in-Some.next c.in-Some.is) c.loop-hits-test.true _ c.least-count.ensures _ _ _ c.scan_lines-hits.ensures }

pub overflow_add-k : goal.overflow_add-k
overflow_add-k c = record { fits = globals_k _ _ _ _ _ _ _ _ _ _ _ _ _ _ _ _ c.loop-hits.invariant _ _ _ _ (global_is _ _ _ _ _ _ c.global_at.ensures c.in-Some.next c.in-Some.is) c.loop-hits-test.true _ c.least-count.ensures _ _ _ c.scan_lines-hits.ensures }

pub loop-hits-smaller : goal.loop-hits-smaller
loop-hits-smaller c = globals_less _ _ _ _ _ _ _ _ _ _ _ _ _ _ _ _ c.loop-hits.invariant _ _ _ _ (global_is _ _ _ _ _ _ c.global_at.ensures c.in-Some.next c.in-Some.is) c.loop-hits-test.true _ c.least-count.ensures _ _ _ c.scan_lines-hits.ensures

pub loop-hits-preserved : goal.loop-hits-preserved
loop-hits-preserved c = globals_turn _ _ _ _ _ _ _ _ _ _ _ _ _ _ _ _ c.loop-hits.invariant _ _ _ _ (global_is _ _ _ _ _ _ c.global_at.ensures c.in-Some.next c.in-Some.is) c.loop-hits-test.true _ c.least-count.ensures _ _ _ c.scan_lines-hits.ensures

pub shape_of-first-after-loop-hits : goal.shape_of-first-after-loop-hits
shape_of-first-after-loop-hits c = globals_first_long _ _ _ _ _ _ _ _ _ _ _ _ _ _ _ _ c.loop-hits.invariant

pub shape_of-second-after-loop-hits : goal.shape_of-second-after-loop-hits
shape_of-second-after-loop-hits c = globals_second_long _ _ _ _ _ _ _ _ _ _ _ _ _ _ _ _ c.loop-hits.invariant

pub returns-after-loop-hits : goal.returns-after-loop-hits
returns-after-loop-hits c = globals_full _ _ _ _ _ _ _ _ _ _ _ _ _ _ _ _ c.loop-hits.invariant (omega (arith, globals_first_long _ _ _ _ _ _ _ _ _ _ _ _ _ _ _ _ c.loop-hits.invariant, c.loop-hits-test.false))

pub shape_of-first-in_default : goal.shape_of-first-in_default
shape_of-first-in_default c = globals_first_long _ _ _ _ _ _ _ _ _ _ _ _ _ _ _ _ c.loop-hits.invariant

pub shape_of-second-in_default : goal.shape_of-second-in_default
shape_of-second-in_default c = globals_second_long _ _ _ _ _ _ _ _ _ _ _ _ _ _ _ _ c.loop-hits.invariant

pub returns-in_default : goal.returns-in_default
returns-in_default c = globals_over _ _ _ _ _ _ _ _ _ _ _ _ _ _ _ _ c.loop-hits.invariant (global_past _ _ _ _ _ _ c.global_at.ensures c.in_default.is)

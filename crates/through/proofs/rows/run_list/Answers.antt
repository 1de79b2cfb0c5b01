-- `through::rows::run_list` meets its contract. The invariant: what was left at the start is what was made and what is left now. Assumes nothing.
use native.Mathlib.Omega.{arith}
use Rattle.listed.proofs.ListLaws.{row_at_is, row_at_past}
use Rattle.through.proofs.RowTurns.{list_run, list_first_long, list_second_long, list_full, list_over, list_part, list_turn, list_less, list_small}
use Rattle.through.proofs.BriefTurns.{brief_says, brief_asks, brief_ran, brief_scratch}
use Rattle.through.proofs.rows.run_list.Goals as goal

pub run_brief-requires : goal.run_brief-requires
run_brief-requires c = brief_asks _ _ _ _ _ _ _ _ _ (brief_says _ _ _ _ _ c.is_brief.ensures c.if-is_brief.true) c.requires

pub returns-then-is_brief : goal.returns-then-is_brief
returns-then-is_brief c = record { ran = brief_ran _ _ _ _ _ _ _ _ _ _ _ (brief_says _ _ _ _ _ c.is_brief.ensures c.if-is_brief.true) c.run_brief.ensures.ran; same_scratch = brief_scratch _ _ _ c.run_brief.ensures.same_length }

pub loop-hits-init : goal.loop-hits-init
loop-hits-init c = list_run _ _ _ _ _ _ _ _ _ c.requires

pub scan_part-part-requires : goal.scan_part-part-requires
scan_part-part-requires c = list_part _ _ _ _ _ _ _ _ _ _ _ _ _ _ _ _ _ _ _ c.loop-hits.invariant _ _ (row_at_is _ _ _ _ c.row_at.ensures _ _ c.in-Some.is) c.loop-hits-test.true

pub overflow_add-tests : goal.overflow_add-tests
overflow_add-tests c = record { fits = list_small _ _ _ _ _ _ _ _ _ _ _ _ _ _ _ _ _ _ _ c.loop-hits.invariant _ _ (row_at_is _ _ _ _ c.row_at.ensures _ _ c.in-Some.is) _ _ _ _ _ c.scan_part-part.ensures.part c.scan_part-part.ensures.same_scratch }

pub overflow_add-j : goal.overflow_add-j
overflow_add-j c = omega (arith, c.scan_part-part.ensures.part.inside, c)

pub loop-hits-smaller : goal.loop-hits-smaller
loop-hits-smaller c = list_less _ _ _ _ _ _ _ _ _ _ _ _ _ _ _ _ _ _ _ c.loop-hits.invariant _ _ (row_at_is _ _ _ _ c.row_at.ensures _ _ c.in-Some.is) _ _ _ _ _ c.scan_part-part.ensures.part c.scan_part-part.ensures.same_scratch

pub loop-hits-preserved : goal.loop-hits-preserved
loop-hits-preserved c = list_turn _ _ _ _ _ _ _ _ _ _ _ _ _ _ _ _ _ _ _ c.loop-hits.invariant _ _ (row_at_is _ _ _ _ c.row_at.ensures _ _ c.in-Some.is) _ _ _ _ _ c.scan_part-part.ensures.part c.scan_part-part.ensures.same_scratch

pub shape_of-room-after-loop-hits : goal.shape_of-room-after-loop-hits
shape_of-room-after-loop-hits c = c.loop-hits.invariant.same.boxes

pub shape_of-marks-after-loop-hits : goal.shape_of-marks-after-loop-hits
shape_of-marks-after-loop-hits c = c.loop-hits.invariant.same.bytes

pub shape_of-first-after-loop-hits : goal.shape_of-first-after-loop-hits
shape_of-first-after-loop-hits c = list_first_long _ _ _ _ _ _ _ _ _ _ _ _ _ _ _ _ _ _ _ c.loop-hits.invariant

pub shape_of-second-after-loop-hits : goal.shape_of-second-after-loop-hits
shape_of-second-after-loop-hits c = list_second_long _ _ _ _ _ _ _ _ _ _ _ _ _ _ _ _ _ _ _ c.loop-hits.invariant

pub returns-after-loop-hits : goal.returns-after-loop-hits
returns-after-loop-hits c = record { ran = list_full _ _ _ _ _ _ _ _ _ _ _ _ _ _ _ _ _ _ _ c.loop-hits.invariant (omega (arith, list_first_long _ _ _ _ _ _ _ _ _ _ _ _ _ _ _ _ _ _ _ c.loop-hits.invariant, c.loop-hits-test.false)); same_scratch = c.loop-hits.invariant.same }

pub shape_of-room-in_default : goal.shape_of-room-in_default
shape_of-room-in_default c = c.loop-hits.invariant.same.boxes

pub shape_of-marks-in_default : goal.shape_of-marks-in_default
shape_of-marks-in_default c = c.loop-hits.invariant.same.bytes

pub shape_of-first-in_default : goal.shape_of-first-in_default
shape_of-first-in_default c = list_first_long _ _ _ _ _ _ _ _ _ _ _ _ _ _ _ _ _ _ _ c.loop-hits.invariant

pub shape_of-second-in_default : goal.shape_of-second-in_default
shape_of-second-in_default c = list_second_long _ _ _ _ _ _ _ _ _ _ _ _ _ _ _ _ _ _ _ c.loop-hits.invariant

pub returns-in_default : goal.returns-in_default
returns-in_default c = record { ran = list_over _ _ _ _ _ _ _ _ _ _ _ _ _ _ _ _ _ _ _ c.loop-hits.invariant (row_at_past _ _ _ _ c.row_at.ensures c.in_default.is); same_scratch = c.loop-hits.invariant.same }

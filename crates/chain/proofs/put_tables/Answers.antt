-- `chain::put_tables` meets its contract. Assumes nothing.
use mathlib.Core.Path.{refl}
use Rattle.report.proofs.Putting.{puts_text}
use Rattle.chain.proofs.Answers.{tables_refused, tables_counted}
use Rattle.chain.proofs.Standing.{shown}
use Rattle.chain.proofs.put_tables.Goals as goal

pub put_report-requires : goal.put_report-requires
put_report-requires c =
    let s = tables_counted _ _ _ 0 c.visit-visited.ensures c.in-Ok.is in
    shown _ _ _ s.fine refl refl

pub returns-in-Err : goal.returns-in-Err
returns-in-Err c = puts_text (tables_refused _ _ _ _ c.visit-visited.ensures c.in-Err.is) c.refused_line.ensures

pub returns-in-Ok : goal.returns-in-Ok
returns-in-Ok c = puts_text (tables_counted _ _ _ _ c.visit-visited.ensures c.in-Ok.is).text c.put_report.ensures

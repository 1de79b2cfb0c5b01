-- `crossing_chain::put_tables` meets its contract. Assumes nothing.
use Rattle.report.proofs.Putting.{puts_text}
use Rattle.crossing_chain.specs.Printed.{crossings_of_tables, crossings_in}
use Rattle.crossing_chain.proofs.Answers.{listed_refused, listed_pairs}
use Rattle.crossing_chain.proofs.put_tables.Goals as goal

pub put_crossings-requires : goal.put_crossings-requires
put_crossings-requires c =
    let p = listed_pairs c.list_crossings-listed.ensures c.in-Ok.is in
    record { first_lent = p.in_first; second_lent = p.in_second }

pub returns-in-Err : goal.returns-in-Err
unfolding crossings_of_tables crossings_in
returns-in-Err c = puts_text (listed_refused c.list_crossings-listed.ensures c.in-Err.is) c.refused_line.ensures

pub returns-in-Ok : goal.returns-in-Ok
unfolding crossings_of_tables crossings_in
returns-in-Ok c = puts_text (listed_pairs c.list_crossings-listed.ensures c.in-Ok.is).text c.put_crossings.ensures

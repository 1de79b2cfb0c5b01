-- Demand 3 whole: it holds of standing tables of any walk, beside lines that pass their checks. Assumes nothing.
use Rattle.std.specs.Prelude.{Ok}
use mathlib.Core.Path.{◌≡◌}
use mathlib.Core.List.{List}
use Prim.Native.Nat.{ℕ}
use Rattle.grid.specs.declared.Grid.{Grid}
use Rattle.grid.specs.Domain.{Lines, count, lines_check}
use Rattle.tables.specs.Tables.{Tables}
use Rattle.tables.specs.Stands.{Stands}
use Rattle.tables.proofs.Standing as standing
use Rattle.demands.specs.Demand.{Demand3}
use Rattle.demands.proofs.Refusals as refusals
use Rattle.demands.proofs.Calls as calls
use Rattle.demands.proofs.Often as often
use Rattle.demands.proofs.Handed as handed

pub demand_3 : {W : ℕ → List ℕ} {ls : Lines} {g : Grid} {t : Tables} → Stands W (count ls) g t → lines_check ls ≡ (Ok tt) → Demand3 ls g W t
demand_3 {W} {ls} {g} {t} s passed =
    record {
      increasing = standing.list_rises s;
      lists = standing.listed s;
      globals_increasing = standing.globals_rise s;
      globals = standing.global s;
      answered = refusals.answered s ls passed;
      ended = refusals.ended s ls passed;
      firsts_are = calls.visit_firsts ls g t;
      seconds_are = calls.visit_seconds ls g t;
      tested = often.tested s;
      only = often.only s;
      handed = handed.handed_out_lem s ls;
      number = handed.tests_made s ls;
      at_most = often.at_most s;
    }

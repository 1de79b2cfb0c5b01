-- Demand 3 after a build, straight from what `build::build` ensures: the case of no added line. Assumes nothing.
use Rattle.std.specs.Prelude.{Ok, Result}
use Rattle.refusals.specs.declared.Refusal.{Refusal}
use mathlib.Core.Path.{◌≡◌, refl}
use mathlib.Core.List.{List}
use Prim.Native.Nat.{ℕ}
use lib.ListN.{length}
use Rattle.grid.specs.Domain.{Lines}
use Rattle.build.specs.declared.Plan.{Plan}
use Rattle.build.specs.declared.Standing.{Standing}
use Rattle.build.specs.Build.{end_of, BuildIs}
use Rattle.tables.specs.Tables.{beside}
use Rattle.demands.specs.Build.{AfterBuild}
use Rattle.demands.specs.Grown.{Grown, from_build}
use Rattle.demands.proofs.Grown.{after_grown}

module _ (plan : Plan) {ls : Lines} {o t gs s : List ℕ} {r : (Result Standing Refusal)} {o' t' gs' s' : List ℕ} {st : Standing}
    (h : BuildIs plan.mode ls o t gs s r o' t' gs' s' (end_of plan ls (length o) (length t) (length gs) (length s))) (ok : r ≡ Ok st) where
  pub grown_none : Grown plan.mode st.grid ls (beside ls st.grid o' t' gs' st.globals)
  grown_none =
      from_build
      (record {
        plan = plan;
        same_mode = refl;
        offsets = o;
        items = t;
        globals = gs;
        scratch = s;
        answer = r;
        offsets' = o';
        items' = t';
        globals' = gs';
        scratch' = s';
        standing = st;
        is = h;
        made = ok;
        on_grid = refl;
        left = refl;
      })

  pub after_build : AfterBuild plan.mode ls st.grid (beside ls st.grid o' t' gs' st.globals)
  after_build = after_grown grown_none

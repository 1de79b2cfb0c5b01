-- The lists by line that a visit runs on: those that it begins with. Assumes nothing.
use Rattle.std.specs.Prelude.{Ok}
use Rattle.refusals.specs.Refusals.{Check}
use mathlib.Core.Path.{◌≡◌}
use mathlib.Core.List.{List}
use Prim.Native.Nat.{ℕ}
use native.Mathlib.Omega.{arith}
use lib.ListN.{length}
use Rattle.grid.specs.declared.Grid.{Grid}
use Rattle.tables.specs.Tables.{Tables}
use Rattle.lent.specs.Lent.{Begun}
use Rattle.lent.proofs.Beginning.{begun_passed}
use Rattle.first_tests.specs.InsideScan.{RunAsks}

module _ {checked : Check} {g : Grid} {t : Tables} {first second : ℕ} {starts listing counts starts' listing' counts' : List ℕ} {r : Check}
    (b : Begun checked g t first second starts listing counts r starts' listing' counts') (e : r ≡ Ok tt)
    (ls : length starts' ≡ length starts) (ll : length listing' ≡ length listing) (lc : length counts' ≡ length counts) where
  pub run_asks : RunAsks g t starts' listing' counts'
  run_asks =
      let p = begun_passed b e in
      record {
        fine = p.stands;
        starts_are = rw ls p.starts_are;
        listing_is = rw ll p.listing_is;
        starts_long = omega (arith, p.starts_long, ls);
        listing_long = omega (arith, p.listing_long, ll);
        counts_long = omega (arith, p.counts_long, lc);
        counts_are = rw lc p.counts_are;
      }

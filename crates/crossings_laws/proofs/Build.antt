-- EVERY CROSSING IS LISTED after a build in the covering mode, or one followed by lines added in it, straight from what the calls ensure: of the lines whose
-- coordinates are the samples, on whichever grid the build chose. Two that share a point by whole numbers share one as floats, so that a full visit tests
-- them. Assumes nothing.
use mathlib.Core.Path.{◌≡◌}
use Prim.Native.Nat.{ℕ}
use lib.Dec.{lit<}
use Rattle.grid.specs.declared.Grid.{Grid}
use Rattle.grid.specs.Domain.{Lines, segment_at}
use Rattle.grid.specs.Points.{SharePoint}
use Rattle.tables.specs.Tables.{Tables}
use Rattle.walk.specs.declared.Mode.TheVariants.{Covering}
use Rattle.visit.specs.Overlap.{overlap}
use Rattle.samples.specs.Samples.{Samples, sample_count, whole_at}
use Rattle.demands.specs.Points.{Cross}
use Rattle.demands.specs.Grown.{Grown}
use Rattle.demands.proofs.Points.{nothing_dropped, crossings_overlap}
use Rattle.crossings_laws.specs.Words.{Crossing, AsFloats, ListsAll}
use Rattle.crossings_laws.proofs.Listed.{lists_crossings}
use mathlib.Core.Bool.{true}

-- a crossing of samples is one of the floats
module _ {ls : Lines} {ss : Samples} (f : AsFloats ls ss) (a b : ℕ) (x : Crossing ss a b) where
  as_floats : SharePoint (segment_at ls a) (segment_at ls b)
  as_floats =
      record { n = 1; above = lit< tt; s = whole_at ss a; t = whole_at ss b; s_is = f.each a x.first; t_is = f.each b x.second; share = x.point }

  cross : Cross ls a b
  cross = record { different = x.different; first = rw f.many x.first; second = rw f.many x.second; point = as_floats }

  -- segments that share a point have boxes that overlap: all of them are handed out by a visit
  pub handed_out : overlap ls a b ≡ true
  handed_out = crossings_overlap ls a b cross

-- THE THEOREM
module _ {g : Grid} {ls : Lines} {t : Tables} (k : Grown Covering g ls t) {ss : Samples} (f : AsFloats ls ss) where
  pub lists_all : ListsAll ss g t
  lists_all c a b x = (lists_crossings ss g t).once c a b x ((nothing_dropped k).tested a b (cross f a b x))

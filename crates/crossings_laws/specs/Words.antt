-- The words of the laws of crossings: lines of samples that share a point, the same lines as floats, and calls of `crossings::list_crossings`. Definitions
-- only.
use Rattle.std.specs.Prelude.{Ok, ◌≡◌, List, ℕ, ◌<◌, take}
use Rattle.grid.specs.declared.Grid.{Grid}
use Rattle.grid.specs.Domain.{Lines, segment_at}
use Rattle.grid.specs.Domain as domain
use Rattle.grid.specs.Points.{WholeShare, InParts}
use Rattle.tables.specs.Tables.{Tables}
use Rattle.seek.specs.Tests.{tests_of}
use Rattle.visit.specs.Words.{times}
use Rattle.first_tests.specs.Firsts.{PairsAre}
use Rattle.samples.specs.Samples.{Samples, sample_count, whole_at}
use Rattle.crossings.specs.Crossings.{crossings_by}
use Rattle.demands.specs.Calls.{handed_out}

-- two different lines of samples share a point
pub record Crossing (ss : Samples) (a b : ℕ) : Type 0 where
  pub different : a ≡ b → ⊥
  pub first : a < sample_count ss
  pub second : b < sample_count ss
  pub point : WholeShare (whole_at ss a) (whole_at ss b)

-- lines whose coordinates are the samples, as floats: each has the exact value of its sample
pub record AsFloats (ls : Lines) (ss : Samples) : Type 0 where
  pub many : domain.count ls ≡ sample_count ss
  pub each : (i : ℕ) → i < sample_count ss → InParts 1 (segment_at ls i) (whole_at ss i)

-- one call that was not refused: the five slices before it, the two outputs after it, and its answer
pub record CrossingsCall (ss : Samples) (g : Grid) (t : Tables) : Type 0 where
  pub «lent-first» : List ℕ
  pub «lent-second» : List ℕ
  pub starts : List ℕ
  pub listing : List ℕ
  pub counts : List ℕ
  pub first : List ℕ
  pub second : List ℕ
  pub starts' : List ℕ
  pub listing' : List ℕ
  pub counts' : List ℕ
  pub number : ℕ
  pub says : PairsAre (crossings_by ss g t «lent-first» «lent-second» starts listing counts) «lent-first» «lent-second» starts listing counts (Ok number) first second starts' listing' counts'

-- how often it lists a and b, either of them first
abbrev pub listed_in : {ss : Samples} {g : Grid} {t : Tables} → ℕ → ℕ → CrossingsCall ss g t → ℕ
listed_in a b c = handed_out a b (take c.number c.first) (take c.number c.second)

-- NONE IS LEFT OUT of those that are tested, none comes twice, and no other pair is listed
pub record ListsCrossings (ss : Samples) (g : Grid) (t : Tables) : Type 0 where
  pub once : (c : CrossingsCall ss g t) (a b : ℕ) → Crossing ss a b → 0 < times a b (tests_of t) → listed_in a b c ≡ 1
  pub only : (c : CrossingsCall ss g t) (a b : ℕ) → a < sample_count ss → b < sample_count ss → 0 < listed_in a b c → WholeShare (whole_at ss a) (whole_at ss b)

-- EVERY CROSSING IS LISTED, once
abbrev pub ListsAll : Samples → Grid → Tables → Type 0
ListsAll ss g t = (c : CrossingsCall ss g t) (a b : ℕ) → Crossing ss a b → listed_in a b c ≡ 1

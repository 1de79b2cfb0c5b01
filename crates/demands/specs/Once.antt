-- Each pair once, of calls of `once::pairs_once` that are not refused: they hand out the pairs, taken without order, that a full visit hands
-- out, each once; and after a build in the covering mode, or one followed by lines added in it, any two different lines that share an exact point. Definitions only.
use Rattle.std.specs.Prelude.{Ok, ◌≡◌, List, ℕ, ltb, take}
use Rattle.grid.specs.declared.Grid.{Grid}
use Rattle.grid.specs.Domain.{Lines}
use Rattle.tables.specs.Tables.{Tables}
use Rattle.visit.specs.Words.{one_where}
use Rattle.first_tests.specs.Firsts.{PairsAre}
use Rattle.once.specs.Once.{once_by}
use Rattle.demands.specs.Calls.{Call, FullVisit, firsts_of, seconds_of, handed_out}
use Rattle.demands.specs.Points.{Cross}

-- one call that was not refused: the five slices before it, the two outputs after it, and its answer; what it leaves in the scratch is zero
pub record OnceCall (ls : Lines) (g : Grid) (t : Tables) : Type 0 where
  pub «lent-first» : List ℕ
  pub «lent-second» : List ℕ
  pub starts : List ℕ
  pub listing : List ℕ
  pub counts : List ℕ
  pub first : List ℕ
  pub second : List ℕ
  pub starts' : List ℕ
  pub listing' : List ℕ
  pub counts' : List ℕ
  pub number : ℕ
  pub says : PairsAre (once_by ls g t «lent-first» «lent-second» starts listing counts) «lent-first» «lent-second» starts listing counts (Ok number) first second starts' listing' counts'

-- how often it hands out a and b, either of them first
abbrev pub once_out : {ls : Lines} {g : Grid} {t : Tables} → ℕ → ℕ → OnceCall ls g t → ℕ
once_out a b c = handed_out a b (take c.number c.first) (take c.number c.second)

-- once if a full visit, as calls of `batch`, hands them out at all, and else never
abbrev pub VisitOnce : Lines → Grid → Tables → Type 0
VisitOnce ls g t =
    (c : OnceCall ls g t) (cs : List Call) → FullVisit ls g t cs → (a b : ℕ) → once_out a b c ≡ one_where (ltb 0 (handed_out a b (firsts_of cs) (seconds_of cs)))

-- and once if they share an exact point
abbrev pub CrossingsOnce : Lines → Grid → Tables → Type 0
CrossingsOnce ls g t = (c : OnceCall ls g t) (a b : ℕ) → Cross ls a b → once_out a b c ≡ 1

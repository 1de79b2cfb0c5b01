-- Demand 3, sentence by sentence, of the lines ls, a grid g, any walk W of the lines, and the tables t. Definitions only.
use Rattle.std.specs.Prelude.{Ok, Some, None, ◌≡◌, false, not, cond, ◌&&◌, List, ℕ, ◌+◌, ◌-◌, ◌*◌, ◌≤◌, ◌<◌, ltb, length, get_or}
use Rattle.slices.specs.Lists.{elem, Rising}
use Rattle.grid.specs.declared.Grid.{Grid}
use Rattle.grid.specs.Domain.{Lines, count}
use Rattle.tables.specs.Tables.{Tables, cells, list_of, globals_of}
use Rattle.seek.specs.Tests.{Pair, tests_of}
use Rattle.visit.specs.Overlap.{overlap}
use Rattle.visit.specs.Batches.{overlapping, firsts, seconds}
use Rattle.visit.specs.Entries.{test_of, test_at}
use Rattle.visit.specs.Words.{half_down, sum_below, times, Different}
use Rattle.demands.specs.Words.{is_global, visits, due}
use Rattle.demands.specs.Calls.{Call, FullVisit, firsts_of, seconds_of, tests_in, handed_out}

pub record Demand3 (ls : Lines) (g : Grid) (W : ℕ → List ℕ) (t : Tables) : Type 0 where
  -- "a cell lists, increasing, exactly the lines whose walk visits it and visits at most 2,048 distinct cells;"
  pub increasing : (c : ℕ) → c < cells t → Rising 0 (list_of t c)
  pub lists : (c : ℕ) → c < cells t → (k : ℕ) → elem k (list_of t c) ≡ (ltb k (count ls) && (not (is_global W k) && visits W k c))
  -- "the global list holds exactly the others."
  pub globals_increasing : Rising 0 (globals_of t)
  pub globals : (k : ℕ) → elem k (globals_of t) ≡ (ltb k (count ls) && is_global W k)
  -- a full visit is what the entries answer: asked by bookmark, `visit::visits::test_at` answers each of the tests, in their order, with its
  -- place, its two lines and whether they overlap, and at the total the end mark
  pub answered : (b : ℕ) (p : Pair) → b < length (tests_of t) → test_at ls g t b ≡ Ok (Some (test_of ls (get_or (tests_of t) b p)))
  pub ended : test_at ls g t (length (tests_of t)) ≡ Ok None
  -- and over calls of `visit::visits::batch` laid end to end the pairs handed out are, in order, those of the tests that overlap, and no others
  pub firsts_are : (cs : List Call) → FullVisit ls g t cs → firsts_of cs ≡ firsts (overlapping ls (tests_of t))
  pub seconds_are : (cs : List Call) → FullVisit ls g t cs → seconds_of cs ≡ seconds (overlapping ls (tests_of t))
  -- "A full visit tests each two different lines once per shared cell if neither is global, else once,"
  pub tested : (a b : ℕ) → (a ≡ b → ⊥) → a < count ls → b < count ls → times a b (tests_of t) ≡ due g W a b
  -- it tests no line with itself, and none that there is not
  pub only : Different (count ls) (tests_of t)
  -- "and hands them out each time their boxes overlap."
  pub handed : (cs : List Call) → FullVisit ls g t cs → (a b : ℕ) → (a ≡ b → ⊥) → a < count ls → b < count ls
      → handed_out a b (firsts_of cs) (seconds_of cs) ≡ cond (overlap ls a b) (due g W a b) 0
  -- "Its test count is the sum of k(k-1)/2 over list lengths k, plus G(n-1) - G(G-1)/2 for G globals among n lines;"
  pub number : (cs : List Call) → FullVisit ls g t cs
      → tests_in cs ≡ sum_below (cells t) (λ c. half_down (length (list_of t c))) + (length (globals_of t) * (count ls - 1) - half_down (length (globals_of t)))
  -- "a pair without a global is tested at most 2,048 times."
  pub at_most : (a b : ℕ) → (a ≡ b → ⊥) → a < count ls → b < count ls → is_global W a ≡ false → is_global W b ≡ false → times a b (tests_of t) ≤ 2048

-- The cells that are looked at and the globals as they are, as the code finds them. Assumes nothing.
use mathlib.Core.Path.{◌≡◌, ◌∙◌}
use mathlib.Core.Bool.{Bool, true, false, cond, ◌&&◌}
use mathlib.Core.List.{List, []}
use Prim.Native.Nat.{ℕ, ◌-◌, ◌≤◌, ◌<◌, min}
use native.Mathlib.Omega.{arith}
use lib.ListN.{length, take}
use lib.Dec.{leb, ltb}
use borrow.Author.Tests.{le-leb, lt-leb, lt-ltb, le-ltb}
use Rattle.grid.proofs.Bools.{and_right}
use Rattle.tables.specs.Fit.{increases, Increasing}
use Rattle.tables.proofs.Facts.{increases_says}
use Rattle.listed.proofs.AsIs.{if_true, if_false, if_says, none_increasing}
use Rattle.resume.specs.AsTheyAre.{cells_looked_at, globals_by}

-- ---- the globals

pub globals_increase : (n : ℕ) (globals : List ℕ) (m : ℕ) → Increasing n (globals_by n globals m)
unfolding globals_by
globals_increase n globals m =
    if_says (Increasing n) (leb m (length globals) && increases 0 n (take m globals)) (take m globals) (none_increasing n)
    (λ e. increases_says n (take m globals) (and_right (leb m (length globals)) (increases 0 n (take m globals)) e))

module _ (n : ℕ) (globals : List ℕ) (m : ℕ) where
  pub globals_beyond : length globals < m → [] ≡ globals_by n globals m
  unfolding globals_by
  globals_beyond h = if_false _ (take m globals) (rw (lt-leb m (length globals) h))

  module _ (within : m ≤ length globals) (b : Bool) (e : b ≡ increases 0 n (take m globals)) where
    pub globals_unfit : b ≡ false → [] ≡ globals_by n globals m
    unfolding globals_by
    globals_unfit h = if_false _ (take m globals) (rw (le-leb m (length globals) within, ← e, h))

    pub globals_fit : b ≡ true → take m globals ≡ globals_by n globals m
    unfolding globals_by
    globals_fit h = if_true _ (take m globals) (rw (le-leb m (length globals) within, ← e, h))

pub reach_is : (cells told a b d : ℕ) → a ≡ told - 1 → b ≡ min cells a → d ≡ min b 1002001 → d ≡ cells_looked_at cells told
unfolding cells_looked_at
reach_is cells told a b d p q s = s ∙ rw (q, p)

-- ---- the line of a cursor

pub line_first : (n place m j : ℕ) → place < m → 0 ≡ min (cond (ltb place m) 0 j) n
line_first n place m j h = rw (lt-ltb place m h) (omega arith)

pub line_then : (n place m j r w : ℕ) → m ≤ place → w ≡ n → r ≡ min j w → r ≡ min (cond (ltb place m) 0 j) n
line_then n place m j r w h e k = k ∙ rw (le-ltb place m h, e)

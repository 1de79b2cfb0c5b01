-- The loop that settles a place among the globals. Assumes nothing.
use mathlib.Core.Path.{◌≡◌, refl, ◌∙◌}
use mathlib.Core.List.{List, []}
use Prim.Native.Nat.{ℕ, ◌+◌, ◌-◌, ◌*◌, ◌^◌, ◌≤◌, ◌<◌}
use native.Mathlib.Nat.{suc-mul}
use native.Mathlib.Numerals.{add-one}
use native.Mathlib.Omega.{arith}
use lib.ListN.{get_or}
use Rattle.tables.specs.InsideFit.{GlobalsFit}
use Rattle.seek.specs.Inside.{stop_of}
use Rattle.seek.specs.Cursors.{globals_rest, LineFits}
use Rattle.seek.proofs.Clauses.{left_suc}
use Rattle.seek.proofs.GlobalRests.{stop_in, stop_out, globals_done, k_most, pass_same, pass_fits, next_same, next_fits}
use Rattle.visit.specs.Inside.{StopAsks, GlobalAsks, GlobalIs}

-- the measure falls to the next global
pub global_less : (m p q : ℕ) → p < m → p < q → q ≤ p + 1 → (m - (p + 1)) * (m + 2) + (p + 1 + 1 - 0) < (m - p) * (m + 2) + (p + 1 - q)
global_less m p q h a b = simp (left_suc m p h, add-one, suc-mul) (omega arith)

-- ---- the loop that settles a place

pub record Gliding (n m : ℕ) (globals : List ℕ) (p₀ q₀ k₀ p q k : ℕ) : Type 0 where
  pub table : GlobalsFit n m globals
  pub fits : LineFits n m globals p q k
  pub same : globals_rest n globals (m - p₀) p₀ k₀ ≡ globals_rest n globals (m - p) p k

pub gliding_none : (n m : ℕ) (globals : List ℕ) (p q k : ℕ) → GlobalAsks n m globals p q k → Gliding n m globals p q k p q k
gliding_none n m globals p q k a = record { table = a.table; fits = a.place; same = refl }

module _ (n m : ℕ) (globals : List ℕ) (p₀ q₀ k₀ p q k : ℕ) (s : Gliding n m globals p₀ q₀ k₀ p q k) where
  pub glided_past : m ≤ p → globals_rest n globals (m - p₀) p₀ k₀ ≡ []
  glided_past h = s.same ∙ globals_done n globals m p k h

  module _ (h : p < m) where
    pub stop_asks : StopAsks globals p q
    stop_asks = record { inside = λ l. omega (arith, s.table.long) }

    module _ (stop : ℕ) (e : stop ≡ stop_of n globals p q) where
      pub glided_here : k < stop → GlobalIs n m globals p₀ q₀ k₀ p q k stop
      glided_here l = record { same = s.same; fits = s.fits; inside = h; one = l; stops = e }

      pub stop_fits : q ≤ p → n < 2 ^ 32 → stop + 1 < 2 ^ 32
      stop_fits l b = omega (arith, e, stop_in n globals p q l, s.table.below q (omega arith))

      pub gliding_pass : stop ≤ k → q ≤ p → Gliding n m globals p₀ q₀ k₀ p (q + 1) (stop + 1)
      gliding_pass a l =
          let i : get_or globals q 0 ≤ k = omega (arith, e, stop_in n globals p q l) in
          let z : stop ≡ k = omega (arith, e, k_most n m globals s.table p q k s.fits h) in
          record {
            table = s.table;
            fits = rw z (pass_fits n m globals s.table p q k s.fits h l i);
            same = s.same ∙ rw z (pass_same n m globals s.table p q k s.fits h l i);
          }

      pub gliding_next : stop ≤ k → p < q → Gliding n m globals p₀ q₀ k₀ (p + 1) 0 0
      gliding_next a l =
          let i : n ≤ k = omega (arith, e, stop_out n globals p q l) in
          record {
            table = s.table;
            fits = next_fits n m globals s.table p q k s.fits h i;
            same = s.same ∙ next_same n m globals s.table p q k s.fits h i;
          }

-- What lines of samples say that pass the checks 3, 2 and 15, and the steps of the search for the first bad line. Assumes nothing.
use Rattle.std.specs.Prelude.{Ok, Err}
use mathlib.Core.Path.{◌≡◌, refl, sym, ◌∙◌}
use mathlib.Core.Bool.{Bool, true, false, ◌&&◌}
use Prim.Native.Nat.{ℕ, ◌+◌, ◌-◌, ◌≤◌, ◌<◌}
use native.Mathlib.Omega.{arith}
use borrow.Author.Tests.{eqb-true, leb-true}
use lib.Dec.{eqb}
use lib.ListN.{length}
use Rattle.refusals.specs.Refusals.{refusal, each_from, clears}
use Rattle.refusals.proofs.Leaving.{Clearing, clearing_unless, clearing_then, clearing_each}
use Rattle.refusals.proofs.Checks.{unless_fine, and_then_left, and_then_right, each_good, each_bad, each_over, each_says}
use Rattle.grid.specs.Domain.{count_check}
use Rattle.grid.proofs.Bools.{and_left, and_right}
use Rattle.samples.specs.Samples.{Samples, sample_count, whole_at, raised_at, all_samples, sampled, sample_lengths_check, samples_check, sample_lines_check}
use Rattle.samples.proofs.Raising.{sampled_raised}

-- ---- the search for the first bad line

abbrev fits : Samples → ℕ → Bool
fits ss i = all_samples (whole_at ss i)

-- the search stands at line i: no line before it was bad
pub record Searched (ss : Samples) (i : ℕ) : Type 0 where
  pub at : i ≤ sample_count ss
  pub rest : samples_check ss ≡ each_from (fits ss) 15 (sample_count ss - i) i

pub searched_none : (ss : Samples) → Searched ss 0
unfolding samples_check
searched_none ss = let e : sample_count ss - 0 ≡ sample_count ss = omega arith in record { at = omega arith; rest = rw e }

module _ {ss : Samples} {i : ℕ} (h : Searched ss i) where
  pub searched_more : i < sample_count ss → sampled (raised_at ss i) ≡ true → Searched ss (i + 1)
  searched_more l e =
      record { at = omega arith; rest = h.rest ∙ each_good (fits ss) 15 (sample_count ss) i l (sym (sampled_raised (whole_at ss i)) ∙ e) }

  pub searched_bad : i < sample_count ss → sampled (raised_at ss i) ≡ false → Err (refusal 15 i) ≡ samples_check ss
  searched_bad l e = sym (h.rest ∙ each_bad (fits ss) 15 (sample_count ss) i l (sym (sampled_raised (whole_at ss i)) ∙ e))

  pub searched_over : sample_count ss ≤ i → Ok tt ≡ samples_check ss
  searched_over l = sym (h.rest ∙ each_over (fits ss) 15 (sample_count ss) i l)

-- ---- what lines say that pass

pub record SamplesFit (ss : Samples) : Type 0 where
  pub start_y : length ss.start_y ≡ sample_count ss
  pub end_x : length ss.end_x ≡ sample_count ss
  pub end_y : length ss.end_y ≡ sample_count ss
  pub few : sample_count ss ≤ 65536
  pub each : (i : ℕ) → i < sample_count ss → all_samples (whole_at ss i) ≡ true

pub sample_lines_fine : (ss : Samples) → sample_lines_check ss ≡ Ok tt → SamplesFit ss
unfolding sample_lines_check sample_lengths_check count_check samples_check
sample_lines_fine ss h =
    let a = unless_fine _ _ _ (and_then_left _ _ h) in
    let b = and_right sy (ex && ey) a in
    record {
      start_y = eqb-true _ _ (and_left sy (ex && ey) a);
      end_x = eqb-true _ _ (and_left ex ey b);
      end_y = eqb-true _ _ (and_right ex ey b);
      few = leb-true _ _ (unless_fine _ _ _ (and_then_left _ _ (and_then_right _ _ h)));
      each = λ i l. each_says (fits ss) 15 (sample_count ss) 0 i (and_then_right _ _ (and_then_right _ _ h)) (omega arith) (omega arith);
    }
  where
    sy : Bool
    sy = eqb (length ss.start_y) (sample_count ss)

    ex : Bool
    ex = eqb (length ss.end_x) (sample_count ss)

    ey : Bool
    ey = eqb (length ss.end_y) (sample_count ss)

-- 2 has passed
pub samples_counted : (ss : Samples) → sample_lines_check ss ≡ Ok tt → count_check (sample_count ss) ≡ Ok tt
unfolding sample_lines_check
samples_counted ss h = and_then_left _ _ (and_then_right _ _ h)

-- none of these refuses by 4 to 7
pub samples_spare : (ss : Samples) → Clearing false (sample_lines_check ss)
unfolding sample_lines_check sample_lengths_check count_check samples_check clears
samples_spare ss =
    clearing_then (clearing_unless _ 3 0 refl) (clearing_then (clearing_unless _ 2 (sample_count ss) refl) (clearing_each (fits ss) 15 (sample_count ss) 0 refl))

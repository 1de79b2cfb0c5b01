-- Document 02, 7: "The bench logger delivers whole numbers, magnitude up to 2^29". What a sample is, lines of samples, and their checks: 3, 2, and "15, a
-- sample beyond 2^29 [..] (returns the first such line [..]), in the place of 1". Definitions only.
use Rattle.refusals.specs.Refusals.{Check}
use Rattle.std.specs.Prelude.{Bool, cond, ◌&&◌, List, ℕ, suc, ◌+◌, ◌-◌, leb, eqb, ℤ, pos, negsuc, nat_abs, length, get_or}
use Rattle.refusals.specs.Refusals.{unless, and_then, each_from}
use Rattle.grid.specs.Domain.{count_check}
use Rattle.grid.specs.Points.{WholeSegment}
use Rattle.samples.specs.declared.Raised.{Raised}

-- ---- samples

-- a sample: magnitude at most 2^29, which is 536,870,912
unfoldable pub sample : ℤ → Bool
sample z = leb (nat_abs z) 536870912

-- z + 2^29, which is a natural for a sample
unfoldable pub lifted : ℤ → ℕ
lifted (pos n) = 536870912 + n
lifted (negsuc n) = 536870912 - suc n

-- a sample, raised by 2^29; 2^32 - 1 for a number that is none
unfoldable pub raised : ℤ → ℕ
raised z = cond (sample z) (lifted z) 4294967295

-- ---- lines of samples

-- lines, as they are lent: line i goes from entry i of the starts to entry i of the ends
pub record Samples : Type 0 where
  pub start_x : List ℤ
  pub start_y : List ℤ
  pub end_x : List ℤ
  pub end_y : List ℤ

abbrev pub samples : List ℤ → List ℤ → List ℤ → List ℤ → Samples
samples x₀ y₀ x₁ y₁ = record { start_x = x₀; start_y = y₀; end_x = x₁; end_y = y₁ }

-- the number of lines
abbrev pub sample_count : Samples → ℕ
sample_count ss = length ss.start_x

-- an entry; 0 beyond the end
abbrev pub entry_at : List ℤ → ℕ → ℤ
entry_at xs i = get_or xs i (pos 0)

-- line i, as document 02's definition of a common point takes it
abbrev pub whole_at : Samples → ℕ → WholeSegment
whole_at ss i =
    record {
      start_x = entry_at ss.start_x i;
      start_y = entry_at ss.start_y i;
      end_x = entry_at ss.end_x i;
      end_y = entry_at ss.end_y i;
    }

-- a line, raised
abbrev pub raised_of : WholeSegment → Raised
raised_of s =
    record {
      start_x = raised s.start_x;
      start_y = raised s.start_y;
      end_x = raised s.end_x;
      end_y = raised s.end_y;
    }

abbrev pub raised_in : List ℤ → ℕ → ℕ
raised_in xs i = raised (entry_at xs i)

abbrev pub raised_at : Samples → ℕ → Raised
raised_at ss i = raised_of (whole_at ss i)

-- the four numbers of a line are samples
unfoldable pub all_samples : WholeSegment → Bool
all_samples s = sample s.start_x && (sample s.start_y && (sample s.end_x && sample s.end_y))

-- the same of a raised line: none is above 2^30
unfoldable pub sampled : Raised → Bool
sampled a =
    leb a.start_x 1073741824 && (leb a.start_y 1073741824 && (leb a.end_x 1073741824 && leb a.end_y 1073741824))

-- ---- the checks

-- 3: the slices differ in length
unfoldable pub sample_lengths_check : Samples → Check
sample_lengths_check ss =
    unless (eqb (length ss.start_y) (sample_count ss) && (eqb (length ss.end_x) (sample_count ss) && eqb (length ss.end_y) (sample_count ss))) 3 0

-- 15: a number is no sample; the first such line
unfoldable pub samples_check : Samples → Check
samples_check ss = each_from (λ i. all_samples (whole_at ss i)) 15 (sample_count ss) 0

-- 3, 2, 15, in that order
unfoldable pub sample_lines_check : Samples → Check
sample_lines_check ss = and_then (sample_lengths_check ss) (and_then (count_check (sample_count ss)) (samples_check ss))

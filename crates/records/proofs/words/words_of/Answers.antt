-- `records::words::words_of` meets its contract. The invariant: the first i entries are the words of the bytes, and the others as they were. Assumes nothing.
use mathlib.Core.Path.{◌≡◌, refl, ap, ◌∙◌}
use mathlib.Core.List.{List, ◌++◌}
use Prim.Native.Nat.{ℕ, ◌+◌, ◌*◌, ◌/◌, ◌≤◌, ◌<◌, min}
use native.Mathlib.Omega.{arith}
use lib.ListN.{length, drop, set, length-set}
use Rattle.records.specs.Words.{little_at, words_of}
use Rattle.records.proofs.Bytes.{words_more, words_none}
use Rattle.records.proofs.words.words_of.Invariants.{Filled}
use Rattle.records.proofs.words.words_of.Goals as goal

more : {bs out₀ : List ℕ} {n i v : ℕ} {out : List ℕ} → Filled bs out₀ n i out → i < n → v ≡ little_at 8 (8 * i) bs → Filled bs out₀ n (i + 1) (set out i v)
more {bs} {out₀} {n} {i} {v} {out} f h e = record {
  least = f.least;
  len = length-set out i v ∙ f.len;
  within = omega arith;
  is = ap (λ (o : List ℕ). set o i v) f.is ∙ words_more i v bs out₀ (omega (arith, f.least)) e;
}

-- eight bytes stand at each word
room : {bs out₀ : List ℕ} {n i : ℕ} {out : List ℕ} → Filled bs out₀ n i out → i < n → 8 * i + 7 < length bs
room f h = omega (arith, f.least, h)

ended : {bs out₀ : List ℕ} {n i : ℕ} {out : List ℕ} → Filled bs out₀ n i out → n ≤ i → out ≡ words_of (min (length bs / 8) (length out₀)) bs ++ drop (min (length bs / 8) (length out₀)) out₀
ended {bs} {out₀} {n} {i} {out} f h =
    let e : i ≡ min (length bs / 8) (length out₀) = omega (arith, f.least, f.within, h) in
    f.is ∙ ap (λ (m : ℕ). words_of m bs ++ drop m out₀) e

pub loop-i-init : goal.loop-i-init
loop-i-init c = record { least = c.least-n.ensures; len = refl; within = omega arith; is = words_none _ _ }

pub overflow_mul-i : goal.overflow_mul-i
overflow_mul-i c = let r = room c.loop-i.invariant c.loop-i-test.true in omega (arith, r)

pub eight-requires : goal.eight-requires
eight-requires c = let r = room c.loop-i.invariant c.loop-i-test.true in omega (arith, r)

pub bounds-out-i : goal.bounds-out-i
bounds-out-i c = let l = c.loop-i.invariant in omega (arith, l.least, l.len)

pub loop-i-preserved : goal.loop-i-preserved
loop-i-preserved c = more c.loop-i.invariant (omega arith) c.eight.ensures

pub shape_of-out : goal.shape_of-out
shape_of-out c = c.loop-i.invariant.len

pub returns : goal.returns
returns c = ended c.loop-i.invariant (omega arith)

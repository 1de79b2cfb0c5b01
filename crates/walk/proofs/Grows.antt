-- Cells at the front of a slice that may stand in another order, or more than once. Assumes nothing.
use mathlib.Core.Path.{sym, ap, ◌∙◌}
use Prim.Native.Nat.{ℕ, ◌+◌, ◌≤◌}
use native.Mathlib.Omega.{arith}
use mathlib.Core.Bool.{Bool, ◌||◌}
use mathlib.Core.List.{List, ◌++◌, append_assoc}
use lib.ListN.{length, take}
use Rattle.slices.specs.Lists.{any}
use Rattle.slices.proofs.Members.{any_append}
use Rattle.cover.specs.Inside.{Appended}
use Rattle.walk.specs.Inside.{Covers}

pub covers : {xs ys : List ℕ} {n r : ℕ} {more : List ℕ} (b : ℕ) → length more ≤ b → Appended xs ys n r more → Covers xs ys n r b more
covers b l g = record { len = g.len; count = omega (arith, g.count); within = g.within; same = λ f. ap (any f) g.is }

pub and_then_lem : {xs ys zs : List ℕ} {n m r b : ℕ} {more last : List ℕ} (d : ℕ) → length last ≤ d → Covers xs ys n m b more → Appended ys zs m r last → Covers xs zs n r (b + d) (more ++ last)
and_then_lem {xs} {ys} {zs} {n} {m} {r} {b} {more} {last} d l g h = record {
  len = h.len ∙ g.len;
  count = omega (arith, g.count, h.count);
  within = h.within;
  same = λ f.
      ap (any f) h.is
      ∙ any_append f (take m ys) last
      ∙ ap (λ (z : Bool). z || any f last) (g.same f)
      ∙ sym (any_append f (take n xs ++ more) last)
      ∙ ap (any f) (append_assoc (take n xs) more last);
}

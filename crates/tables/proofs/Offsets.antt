-- The check of the offsets, and then of the lists by the two counts of `Breaks`. Assumes nothing.
use mathlib.Core.Path.{◌≡◌, refl, ap, ◌∙◌}
use mathlib.Core.Bool.{Bool, true, false}
use mathlib.Core.List.{List}
use Prim.Native.Nat.{ℕ, zero, suc, ◌^◌, ◌≤◌, ◌<◌}
use native.Mathlib.Omega.{arith}
use lib.ListN.{length, get_or, take, drop}
use lib.Seq.{take-take, length-take-le}
use lib.Dec.{leb}
use borrow.Author.Tests.{leb-true, le-leb, lt-leb, eq-eqb}
use Rattle.tables.specs.Tables.{list_in}
use Rattle.tables.specs.Fit.{increases, every, lists_fit}
use Rattle.tables.specs.Inside.{LaidOut}
use Rattle.tables.proofs.Facts.{every_says}
use Rattle.tables.proofs.Breaks.{laid_within}

pub every_same : (m : ℕ) (f g : ℕ → Bool) → ((c : ℕ) → c < m → f c ≡ g c) → every m f ≡ every m g
unfolding every
every_same zero f g h = refl
every_same (suc m) f g h = rw (every_same m f g (λ c l. h c (omega arith)), h m (omega arith))

module _ (m n : ℕ) (offsets items : List ℕ) where
  abbrev up : ℕ → Bool
  up c = leb (get_or offsets c 0) (get_or offsets (suc c) 0)

  module _ (first : get_or offsets 0 0 ≡ 0) where
    pub falls_bad : every m up ≡ false → false ≡ lists_fit m n offsets items
    unfolding lists_fit
    falls_bad h = rw (eq-eqb (get_or offsets 0 0) 0 first, h)

    -- no offset falls, and the last is `total`
    module _ (rises : every m up ≡ true) (total : ℕ) (last : total ≡ get_or offsets m 0) where
      pub beyond_bad : length items < total → false ≡ lists_fit m n offsets items
      unfolding lists_fit
      beyond_bad h = rw (eq-eqb (get_or offsets 0 0) 0 first, rises, lt-leb (get_or offsets m 0) (length items) (omega arith))

      module _ (within : total ≤ length items) where
        pub laid_out : m < length offsets → get_or offsets m 0 < 2 ^ 32 → LaidOut m offsets (take total items)
        laid_out l h =
            let e = length-take-le total items within in
            record {
              long = l;
              first = first;
              rises = λ c k. leb-true (get_or offsets c 0) (get_or offsets (suc c) 0) (every_says m up rises c k);
              last = omega (arith, e);
              small = omega (arith, e);
            }

        -- the lists of the items up to there are those of the items
        pub laid_fits : m < length offsets → get_or offsets m 0 < 2 ^ 32 → every m (λ c. increases 0 n (list_in offsets (take total items) c)) ≡ lists_fit m n offsets items
        unfolding lists_fit
        laid_fits l h =
            let laid = laid_out l h in
            let e = length-take-le total items within in
            let same : every m (λ c. increases 0 n (list_in offsets (take total items) c)) ≡ every m (λ c. increases 0 n (list_in offsets items c)) =
            every_same m (λ c. increases 0 n (list_in offsets (take total items) c)) (λ c. increases 0 n (list_in offsets items c))
            (λ c k. ap (λ (l : List ℕ). increases 0 n (drop (get_or offsets c 0) l)) (take-take (get_or offsets (suc c) 0) total items (omega (arith, e, laid_within m offsets (take total items) laid (suc c) k)))) in
            same ∙ rw (eq-eqb (get_or offsets 0 0) 0 first, rises, le-leb (get_or offsets m 0) (length items) (omega arith))

-- Lists as they are: what the code finds of one, and what one says. Assumes nothing.
use mathlib.Core.Path.{◌≡◌, refl, sym, ◌∙◌}
use mathlib.Core.Bool.{Bool, true, false, ◌&&◌}
use mathlib.Core.List.{List, []}
use Prim.Native.Nat.{ℕ, suc, ◌+◌, ◌-◌, ◌≤◌, ◌<◌}
use native.Mathlib.Nat.{zero-sub}
use native.Mathlib.Numerals.{add-one}
use native.Mathlib.Omega.{arith}
use lib.ListN.{length, get_or, take, drop, length-take, get_or-eq_default}
use lib.Dec.{leb}
use borrow.Author.Tests.{le-leb, lt-leb}
use Rattle.grid.proofs.Bools.{and_right}
use Rattle.tables.specs.Tables.{list_in}
use Rattle.tables.specs.Fit.{increases, Increasing}
use Rattle.tables.proofs.Facts.{increases_says, part_slice}
use Rattle.listed.specs.Lists.{list_if, list_by}

pub if_true : (b : Bool) (xs : List ℕ) → b ≡ true → xs ≡ list_if b xs
unfolding list_if
if_true b xs e = rw e

pub if_false : (b : Bool) (xs : List ℕ) → b ≡ false → [] ≡ list_if b xs
unfolding list_if
if_false b xs e = rw e

if_nil : (b : Bool) (xs : List ℕ) → xs ≡ [] → [] ≡ list_if b xs
unfolding list_if
if_nil true xs e = sym e
if_nil false xs e = refl

-- what holds of the empty list, and of a list where the test passes
pub if_says : (P : List ℕ → Type 0) (b : Bool) (xs : List ℕ) → P [] → (b ≡ true → P xs) → P (list_if b xs)
unfolding list_if
if_says P true xs n y = y refl
if_says P false xs n y = n

pub none_increasing : (n : ℕ) → Increasing n []
none_increasing n = record { rises = tt; below = tt }

pub list_increases : (n : ℕ) (offsets items : List ℕ) (c : ℕ) → Increasing n (list_by n offsets items c)
unfolding list_by
list_increases n offsets items c =
    if_says (Increasing n) (leb (get_or offsets c 0) (get_or offsets (suc c) 0) && (leb (get_or offsets (suc c) 0) (length items) && increases 0 n (list_in offsets items c))) (list_in offsets items c) (none_increasing n)
    (λ e. increases_says n (list_in offsets items c)
    (and_right (leb (get_or offsets (suc c) 0) (length items)) (increases 0 n (list_in offsets items c))
    (and_right (leb (get_or offsets c 0) (get_or offsets (suc c) 0)) (leb (get_or offsets (suc c) 0) (length items) && increases 0 n (list_in offsets items c)) e)))

-- ---- the list of a cell, as the code finds it

module _ (n : ℕ) (offsets items : List ℕ) (c : ℕ) where
  pub list_untold : (told : ℕ) → told ≡ length offsets - 1 → told ≤ c → [] ≡ list_by n offsets items c
  unfolding list_by
  list_untold told e h =
      let z : get_or offsets (suc c) 0 ≡ 0 = get_or-eq_default offsets 0 {n = suc c} (omega arith) in
      if_nil (leb (get_or offsets c 0) (get_or offsets (suc c) 0) && (leb (get_or offsets (suc c) 0) (length items) && increases 0 n (list_in offsets items c))) (list_in offsets items c)
      (sym (part_slice (get_or offsets c 0) (get_or offsets (suc c) 0) items) ∙ rw (z, zero-sub))

  module _ (from to : ℕ) (ef : from ≡ get_or offsets c 0) (et : to ≡ get_or offsets (c + 1) 0) where
    to_is : get_or offsets (suc c) 0 ≡ to
    to_is = sym (et ∙ rw add-one)

    -- a list is no longer than its offsets are apart
    pub list_short : to < from + 2 → length (list_by n offsets items c) ≤ 1
    unfolding list_by
    list_short h =
        let part : length (take (to - from) (drop from items)) ≤ 1 = rw (length-take (to - from) (drop from items)) (omega arith) in
        if_says (λ (xs : List ℕ). length xs ≤ 1) _ (list_in offsets items c) (omega arith)
        (λ e. rw (← ef, to_is) (rw (part_slice from to items) at part))

    pub list_falls : to < from → [] ≡ list_by n offsets items c
    unfolding list_by
    list_falls h = if_false _ (list_in offsets items c) (rw (← ef, to_is, lt-leb from to h))

    module _ (rises : from ≤ to) where
      pub list_beyond : length items < to → [] ≡ list_by n offsets items c
      unfolding list_by
      list_beyond h = if_false _ (list_in offsets items c) (rw (← ef, to_is, le-leb from to rises, lt-leb to (length items) h))

      module _ (within : to ≤ length items) where
        part_is : take (to - from) (drop from items) ≡ list_in offsets items c
        part_is = part_slice from to items ∙ rw (ef, to_is)

        pub list_unfit : (b : Bool) → b ≡ increases 0 n (take (to - from) (drop from items)) → b ≡ false → [] ≡ list_by n offsets items c
        unfolding list_by
        list_unfit b e h =
            let k : increases 0 n (list_in offsets items c) ≡ false = sym (e ∙ rw part_is) ∙ h in
            if_false _ (list_in offsets items c) (rw k (rw (← ef, to_is, le-leb from to rises, le-leb to (length items) within)))

        pub list_fits : (b : Bool) → b ≡ increases 0 n (take (to - from) (drop from items)) → b ≡ true → take (to - from) (drop from items) ≡ list_by n offsets items c
        unfolding list_by
        list_fits b e h =
            let k : increases 0 n (list_in offsets items c) ≡ true = sym (e ∙ rw part_is) ∙ h in
            part_is ∙ if_true _ (list_in offsets items c) (rw k (rw (← ef, to_is, le-leb from to rises, le-leb to (length items) within)))

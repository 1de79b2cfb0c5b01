-- Laws of points held member by member: which of a part of them are starts and ends of lines, and how many lines they make. Assumes nothing.
use Rattle.std.specs.Prelude.{Ok}
use mathlib.Core.Path.{◌≡◌, refl, sym}
use mathlib.Core.List.{List, [], ◌∷◌, flatten, flat_map}
use Prim.Native.Nat.{ℕ, zero, suc, ◌+◌, ◌-◌, ◌≤◌}
use native.Mathlib.Omega.{arith}
use lib.ListN.{length, take, drop, length-append}
use lib.Seq.{length-take-le, take-take, take-nil}
use Rattle.wkb.specs.Reading.{end_at}
use Rattle.wkb.specs.Multi.{starts, ends, starts_of, members_check, chains_at}
use Rattle.wkb.proofs.Fields.{line_passed}
use Rattle.wkb.proofs.Walks.{members_line, members_rest, length_line_at}

-- ---- of the first n

pub start_parts : {A : Type 0} (n : ℕ) (ps : List A) → n ≤ length ps → starts (take n ps) ≡ take (n - 1) ps
start_parts n ps h = rw (length-take-le n ps h) (take-take (n - 1) n ps (omega arith))

pub end_parts : {A : Type 0} (n : ℕ) (ps : List A) → 1 ≤ n → ends (take n ps) ≡ take (n - 1) (drop 1 ps)
end_parts zero ps h = absurd (omega arith)
end_parts (suc n) [] h = let e : suc n - 1 ≡ n = omega arith in rw e (sym (take-nil n))
end_parts (suc n) (p ∷ ps) h = let e : suc n - 1 ≡ n = omega arith in rw e

-- ---- how many

-- each member has a point
abbrev pub Some : {A : Type 0} → List (List A) → Type 0
Some [] = Unit {0}
Some (ps ∷ pss) = (1 ≤ length ps) × Some pss

-- a member makes one line fewer than it has points
pub length_starts : {A : Type 0} (pss : List (List A)) → Some pss → length (starts_of pss) + length pss ≡ length (flatten pss)
unfolding starts_of flat_map flatten
length_starts [] s = refl
length_starts (ps ∷ pss) s =
    let n : length (starts ps) ≡ length ps - 1 = length-take-le (length ps - 1) ps (omega arith) in
    let ih = length_starts pss s.1 in
    simp length-append (omega (arith, s.0))

pub chains_some : (m at : ℕ) (bs : List ℕ) → members_check m at bs ≡ (Ok tt) → Some (chains_at m at bs)
unfolding chains_at
chains_some zero at bs h = tt
chains_some (suc m) at bs h =
    let l = line_passed at bs (members_line m at bs h) in
    (rw (length_line_at at bs) l.some, chains_some m (end_at at bs) bs (members_rest m at bs h))

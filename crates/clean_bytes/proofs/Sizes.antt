-- How much is found in so many bytes, and how much of it is kept: the file of what is kept is no longer than a MultiLineString of what came in.
-- Assumes nothing.
use mathlib.Core.Path.{◌≡◌, refl, sym, ap, ◌∙◌, subst}
use mathlib.Core.Bool.{Bool, true, false, cond}
use mathlib.Core.List.{List, [], ◌∷◌, ◌++◌, map, flatten, flat_map}
use Prim.Native.Nat.{ℕ, ◌+◌, ◌*◌, ◌≤◌}
use native.Mathlib.Omega.{arith}
use lib.ListN.{length, length-append}
use Rattle.wkb.specs.Bytes.{Point, Members, none, more}
use Rattle.wkb.proofs.LineStrings.{length_line}
use Rattle.members.specs.Held.{all_lengths}
use Rattle.members.proofs.Held.{is_length_lem}
use Rattle.clean.specs.Cleaning.{thin, is_piece, kept_of, cleaned_member, cleaned}
use Rattle.clean.proofs.Rules.{Split, whole, broken, split, cleaned_whole, cleaned_broken, flatten_append, thin_most, AllClean}

-- ---- what is found

-- 9 bytes for each member, and 16 for each point; a member has 1 to 1,024 points
pub record Sized (rest : List ℕ) (pss : List (List Point)) : Type 0 where
  pub bytes : length rest ≡ 9 * length pss + 16 * length (flatten pss)
  pub each : all_lengths (map length pss) ≡ true
  pub some : length pss ≤ length (flatten pss)

pub sized : {rest : List ℕ} {pss : List (List Point)} → Members rest pss → Sized rest pss
unfolding flatten all_lengths
sized none = record { bytes = refl; each = refl; some = omega arith }
sized (more {bs} {rest} {ps} {pss} l r) =
    let s = sized r in
    let n : length bs ≡ 9 + 16 * length ps = ap length l.bytes ∙ length_line l.order ps in
    record {
      bytes = length-append bs rest ∙ simp length-append (omega (arith, s.bytes));
      each = rw (is_length_lem (length ps) l.some l.most, s.each);
      some = simp length-append (omega (arith, s.some, l.some));
    }

-- ---- what is kept of it

-- each has at most k points
abbrev pub AllMost : ℕ → List (List Point) → Type 0
AllMost k [] = Unit {0}
AllMost k (ps ∷ pss) = (length ps ≤ k) × AllMost k pss

most_append : (k : ℕ) (pss qss : List (List Point)) → AllMost k pss → AllMost k qss → AllMost k (pss ++ qss)
most_append k [] qss h l = l
most_append k (ps ∷ pss) qss h l = (h.0, most_append k pss qss h.1 l)

-- of a piece of at most k points
piece_most : (k : ℕ) (ps : List Point) → length ps ≤ k → AllMost k (kept_of ps)
unfolding kept_of
piece_most k ps h = go (is_piece (thin ps))
  where
    go : (b : Bool) → AllMost k (cond b (thin ps ∷ []) [])
    go true = (let u = thin_most ps in omega arith, tt)
    go false = tt

split_most : (k : ℕ) {ps : List Point} → Split ps → length ps ≤ k → AllMost k (cleaned_member ps)
split_most k (whole {g} h) l = subst (AllMost k) (sym (cleaned_whole h)) (piece_most k g l)
split_most k (broken {g} rest b h f s) l =
    let n = length-append g (b ∷ rest) in
    subst (AllMost k) (sym (cleaned_broken rest b h f)) (most_append k (kept_of g) (cleaned_member rest) (piece_most k g (omega arith)) (split_most k s (omega arith)))

-- 9 bytes for each piece, and 16 for each of its points
piece_size : (ps : List Point) → 9 * length (kept_of ps) + 16 * length (flatten (kept_of ps)) ≤ 9 + 16 * length ps
unfolding kept_of flatten
piece_size ps = go (is_piece (thin ps))
  where
    go : (b : Bool) → 9 * length (cond b (thin ps ∷ []) []) + 16 * length (flatten (cond b (thin ps ∷ []) [])) ≤ 9 + 16 * length ps
    go true = simp length-append (let u = thin_most ps in omega arith)
    go false = omega arith

-- a split adds 9 bytes and drops 16
split_size : {ps : List Point} → Split ps → 9 * length (cleaned_member ps) + 16 * length (flatten (cleaned_member ps)) ≤ 9 + 16 * length ps
split_size (whole {g} h) = rw (cleaned_whole h) (piece_size g)
split_size (broken {g} rest b h f s) =
    let u = piece_size g in
    let v = split_size s in
    let e : length (cleaned_member (g ++ (b ∷ rest))) ≡ length (kept_of g) + length (cleaned_member rest) = ap length (cleaned_broken rest b h f) ∙ length-append (kept_of g) (cleaned_member rest) in
    let d : length (flatten (cleaned_member (g ++ (b ∷ rest)))) ≡ length (flatten (kept_of g)) + length (flatten (cleaned_member rest)) = ap (λ (q : List (List Point)). length (flatten q)) (cleaned_broken rest b h f) ∙ ap length (flatten_append (kept_of g) (cleaned_member rest)) ∙ length-append (flatten (kept_of g)) (flatten (cleaned_member rest)) in
    let n = length-append g (b ∷ rest) in
    omega arith

pub cleaned_size : (pss : List (List Point)) → 9 * length (cleaned pss) + 16 * length (flatten (cleaned pss)) ≤ 9 * length pss + 16 * length (flatten pss)
unfolding cleaned flat_map flatten
cleaned_size [] = omega arith
cleaned_size (ps ∷ pss) =
    let u = split_size (split ps) in
    let v = cleaned_size pss in
    let e = length-append (cleaned_member ps) (flat_map cleaned_member pss) in
    let d : length (flatten (cleaned_member ps ++ flat_map cleaned_member pss)) ≡ length (flatten (cleaned_member ps)) + length (flatten (flat_map cleaned_member pss)) = ap length (flatten_append (cleaned_member ps) (flat_map cleaned_member pss)) ∙ length-append (flatten (cleaned_member ps)) (flatten (flat_map cleaned_member pss)) in
    let n = length-append ps (flatten pss) in
    omega arith

pub cleaned_most : (k : ℕ) (pss : List (List Point)) → AllMost k pss → AllMost k (cleaned pss)
unfolding cleaned flat_map
cleaned_most k [] h = tt
cleaned_most k (ps ∷ pss) h = most_append k (cleaned_member ps) (flat_map cleaned_member pss) (split_most k (split ps) h.0) (cleaned_most k pss h.1)

-- pieces of at most 1,024 points have lengths that members may have
pub kept_lengths : (pss : List (List Point)) → AllClean pss → AllMost 1024 pss → all_lengths (map length pss) ≡ true
unfolding all_lengths
kept_lengths [] h k = refl
kept_lengths (ps ∷ pss) h k = rw (is_length_lem (length ps) (let u = h.0.long in omega arith) k.0, kept_lengths pss h.1 k.1)

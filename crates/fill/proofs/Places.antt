-- The second pass over all lines, with the global lines listed on the way. Assumes nothing.
use mathlib.Core.Path.{◌≡◌, refl, ap, subst, ◌∙◌}
use mathlib.Core.Bool.{Bool, true, false, not}
use mathlib.Core.List.{List, [], ◌∷◌, ◌++◌, append-nil}
use Prim.Native.Nat.{ℕ, zero, suc, ◌+◌, ◌-◌, ◌≤◌, ◌<◌}
use native.Mathlib.Numerals.{add-one}
use native.Mathlib.Omega.{arith}
use mir.Val.{Fits}
use mir.Syntax.{w64}
use lib.ListN.{length, set, replicate, length-append, length-set}
use Rattle.grid.specs.declared.Grid.{Grid}
use Rattle.grid.specs.Domain.{Lines, count}
use Rattle.walk.specs.declared.Mode.{Mode}
use Rattle.tables.specs.Lists.{long, only, global_lines}
use Rattle.tables.specs.InsidePasses.{CanPlace}
use Rattle.fill.specs.declared.passes.Walked.{Walked}
use Rattle.fill.specs.OnGrid.{walk_on, completes, cells_on, globals_on, one_if}
use Rattle.fill.specs.Inside.{Walkable, WalkAsks, LineFront, WalkedIs, VisitsPlaced, PlacedTo, LineAsks, LinePlaced, PlaceAsks, AllPlaced}
use Rattle.fill.proofs.Lines.{can_place, line_placed}
use Rattle.fill.proofs.Counts.{globals_count, one_if_lem, walkable_again, turns_all}

-- a global line written at its place
abbrev listed : ℕ → List ℕ → ℕ → ℕ → List ℕ
listed zero xs at i = xs
listed (suc n) xs at i = set xs at i

listed_some : (more : ℕ) (xs : List ℕ) (at i : ℕ) → 0 < more → set xs at i ≡ listed more xs at i
listed_some zero xs at i h = absurd (omega arith)
listed_some (suc n) xs at i h = refl

-- a store just past xs, in zeros
put_past : (xs : List ℕ) (m v : ℕ) → set (xs ++ replicate (suc m) 0) (length xs) v ≡ (xs ++ (v ∷ [])) ++ replicate m 0
put_past [] m v = refl
put_past (x ∷ xs) m v = ap (λ (zs : List ℕ). x ∷ zs) (put_past xs m v)

-- the list of globals, with zeros beyond, when line i is listed
listed_next : (W : ℕ → List ℕ) (i room : ℕ) → length (global_lines W (i + 1)) ≤ room
    → listed (one_if (long (W i))) (global_lines W i ++ replicate (room - length (global_lines W i)) 0) (length (global_lines W i)) i ≡ global_lines W (i + 1) ++ replicate (room - length (global_lines W (i + 1))) 0
unfolding global_lines
listed_next W i room l = rw add-one (go (long (W i)) (rw add-one at l))
  where
    go : (b : Bool) → length (global_lines W i ++ only b i) ≤ room
        → listed (one_if b) (global_lines W i ++ replicate (room - length (global_lines W i)) 0) (length (global_lines W i)) i ≡ (global_lines W i ++ only b i) ++ replicate (room - length (global_lines W i ++ only b i)) 0
    go true k =
        let k' : length (global_lines W i) + 1 ≤ room = simp length-append at k in
        let e : room - length (global_lines W i) ≡ suc (room - (length (global_lines W i) + 1)) = omega arith in
        rw (e, length-append) (put_past (global_lines W i) (room - (length (global_lines W i) + 1)) i)
    go false k = rw append-nil

globals_mono : (W : ℕ → List ℕ) (i d : ℕ) → length (global_lines W i) ≤ length (global_lines W (i + d))
globals_mono W i zero = let e : i + 0 ≡ i = omega arith in rw e (omega arith)
globals_mono W i (suc d) =
    let e : i + suc d ≡ (i + d) + 1 = omega arith in
    rw (e, globals_count W (i + d)) (omega (arith, globals_mono W i d))

globals_within : (mode : Mode) (g : Grid) (ls : Lines) (i : ℕ) → i ≤ count ls → length (global_lines (cells_on mode g ls) i) ≤ length (globals_on mode g ls)
unfolding globals_on
globals_within mode g ls i l = let e : count ls ≡ i + (count ls - i) = omega arith in rw e (globals_mono (cells_on mode g ls) i (count ls - i))

globals_few : (W : ℕ → List ℕ) (i : ℕ) → length (global_lines W i) ≤ i
unfolding global_lines
globals_few W zero = omega arith
globals_few W (suc i) = let e = rw add-one at (globals_count W i) in omega (arith, e, globals_few W i, one_if_lem (long (W i)))

pub record PlacingAll (mode : Mode) (g : Grid) (ls : Lines) (o₀ t₀ gs₀ s₀ o t gs s : List ℕ) (found i : ℕ) : Type 0 where
  pub walkable : Walkable g ls s
  pub ended : (j : ℕ) → j < count ls → completes (walk_on mode g ls j) ≡ true
  pub at : i ≤ count ls
  pub len : length o ≡ length o₀
  pub len_items : length t ≡ length t₀
  pub len_globals : length gs ≡ length gs₀
  pub len_scratch : length s ≡ length s₀
  pub placed : PlacedTo mode g ls i o t
  pub fits : length (globals_on mode g ls) ≤ length gs₀
  pub so_far : found ≡ length (global_lines (cells_on mode g ls) i)
  pub listing : gs ≡ global_lines (cells_on mode g ls) i ++ replicate (length gs₀ - length (global_lines (cells_on mode g ls) i)) 0

pub placing_all : {mode : Mode} {g : Grid} {ls : Lines} {o t gs s : List ℕ} → PlaceAsks mode g ls o t gs s → PlacingAll mode g ls o t gs s o t gs s 0 0
unfolding global_lines
placing_all {mode} {g} {ls} {gs = gs} h =
    let e : length gs - 0 ≡ length gs = omega arith in
    record {
      walkable = h.walkable;
      ended = turns_all mode g ls h.turns;
      at = omega arith;
      len = refl;
      len_items = refl;
      len_globals = refl;
      len_scratch = refl;
      placed = h.first;
      fits = h.fits;
      so_far = refl;
      listing = rw e h.clear;
    }

module _ {mode : Mode} {g : Grid} {ls : Lines} {o₀ t₀ gs₀ s₀ o t gs s : List ℕ} {found i : ℕ} (k : PlacingAll mode g ls o₀ t₀ gs₀ s₀ o t gs s found i) (l : i < count ls) where
  pub placing_walk : WalkAsks g ls i s
  placing_walk = record { at = l; walkable = k.walkable }

  placing_line : LineAsks mode g ls i o t s
  placing_line = record { at = l; walkable = k.walkable; ended = k.ended i l; placed = k.placed }

  pub placing_few : found < 65536
  placing_few = omega (arith, k.so_far, globals_few (cells_on mode g ls) i, k.walkable.few)

  next_fits : length (global_lines (cells_on mode g ls) (i + 1)) ≤ length gs₀
  next_fits = omega (arith, globals_within mode g ls (i + 1) (omega arith), k.fits)

  module _ {s' : List ℕ} {w : Walked} (v : WalkedIs mode g ls i s' w) where
    front : LineFront mode g ls i s' w.cells
    front = v.cells_are (v.over_is ∙ ap not (k.ended i l))

    pub placing_can : w.cells ≤ 2048 → CanPlace i o t s' w.cells
    placing_can b = can_place placing_line front b

    module _ {o' t' : List ℕ} {more : ℕ} (p : VisitsPlaced i o t s' w.cells o' t' more) (a : length o' ≡ length o) (b : length t' ≡ length t) where
      placing_done : LinePlaced mode g ls i o' t' more
      placing_done = line_placed placing_line front p a b

      pub placing_room : 0 < more → found < length gs
      placing_room p = omega (arith, next_fits, globals_count (cells_on mode g ls) i, placing_done.kind, k.so_far, k.len_globals)

      pub placing_found : Fits w64 (found + more)
      placing_found =
          record { fits = omega (arith, placing_done.kind, k.so_far, one_if_lem (long (cells_on mode g ls i)), globals_few (cells_on mode g ls) i, k.walkable.few) }

      placing_next : {gs' : List ℕ} → gs' ≡ listed more gs found i → length gs' ≡ length gs → length s' ≡ length s → PlacingAll mode g ls o₀ t₀ gs₀ s₀ o' t' gs' s' (found + more) (i + 1)
      placing_next q d f =
          let h = placing_done in
          record {
            walkable = walkable_again k.walkable f;
            ended = k.ended;
            at = omega arith;
            len = a ∙ k.len;
            len_items = b ∙ k.len_items;
            len_globals = d ∙ k.len_globals;
            len_scratch = f ∙ k.len_scratch;
            placed = h.next;
            fits = k.fits;
            so_far = omega (arith, k.so_far, h.kind, globals_count (cells_on mode g ls) i);
            listing = q ∙ rw (h.kind, k.so_far, k.listing) (listed_next (cells_on mode g ls) i (length gs₀) next_fits);
          }

      pub placing_global : 0 < more → length s' ≡ length s → PlacingAll mode g ls o₀ t₀ gs₀ s₀ o' t' (set gs found i) s' (found + more) (i + 1)
      placing_global l f = placing_next (listed_some more gs found i l) (length-set gs found i) f

      pub placing_local : more ≤ 0 → length s' ≡ length s → PlacingAll mode g ls o₀ t₀ gs₀ s₀ o' t' gs s' found (i + 1)
      placing_local l f =
          let e : more ≡ 0 = omega arith in
          let d : found + more ≡ found = omega arith in
          subst (λ (n : ℕ). PlacingAll mode g ls o₀ t₀ gs₀ s₀ o' t' gs s' n (i + 1)) d (placing_next (rw e) refl f)

pub placing_end : {mode : Mode} {g : Grid} {ls : Lines} {o₀ t₀ gs₀ s₀ o t gs s : List ℕ} {found i : ℕ} → PlacingAll mode g ls o₀ t₀ gs₀ s₀ o t gs s found i → count ls ≤ i → AllPlaced mode g ls o t (length gs₀) gs
unfolding globals_on
placing_end {mode} {g} {ls} {i = i} k l =
    let e : i ≡ count ls = omega (arith, k.at) in
    record { last = rw e at k.placed; globals = rw e at k.listing }

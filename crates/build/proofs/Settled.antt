-- What an end on a grid says: the lines passed the checks, the grid that was settled on is fit, every walk on it ends, and each slice has room.
-- Assumes nothing.
use Rattle.std.specs.Prelude.{Ok}
use mathlib.Core.Path.{◌≡◌, refl}
use mathlib.Core.Bool.{Bool, true, false, cond}
use Prim.Native.Nat.{ℕ, zero, suc, ◌+◌, ◌*◌, ◌≤◌, ◌<◌}
use borrow.Author.Tests.{le-leb, leb-true, ltb-true}
use lib.Dec.{leb, ltb}
use lib.ListN.{length}
use Rattle.refusals.specs.Refusals.{and_then, Answer, gives, ◌into◌}
use Rattle.refusals.proofs.Checks.{unless_fine, and_then_left, and_then_right}
use Rattle.refusals.proofs.Answers.{then_passed, into_passed}
use Rattle.grid.specs.declared.Grid.{Grid}
use Rattle.grid.specs.Domain.{Lines, count, fit, scratch_check, lines_check}
use Rattle.grid.proofs.Bools.{and_right}
use Rattle.grid.proofs.Fine.{LinesFit, lines_fine}
use Rattle.walk.specs.declared.Mode.{Mode}
use Rattle.sizing.specs.declared.Extent.{Extent}
use Rattle.sizing.specs.declared.Size.{Size}
use Rattle.sizing.specs.Bounds.{extent_of}
use Rattle.sizing.specs.Size.{first_size, half_of}
use Rattle.sizing.specs.Counts.{grid_of, empty_grid}
use Rattle.sizing.proofs.FitLaws.{AllFit, all_fit, AllSome, all_some, empty_fits}
use Rattle.fill.specs.OnGrid.{grid_cells, list_on, globals_on, total}
use Rattle.fill.specs.Checks.{room_check, turns_check, tried_check, space_check}
use Rattle.fill.specs.Fill.{more_than}
use Rattle.build.specs.declared.Plan.{Plan}
use Rattle.build.specs.Choice.{crowded, chosen_first, chosen_none, choice}
use Rattle.build.specs.Choice as choosing
use Rattle.build.specs.Build.{room_on, end_of}

-- ---- a choice that settled on a grid

if_settled : (P : Type 0) (b : Bool) (x y : Answer Grid) (g : Grid) → (b ≡ true → x ≡ gives g → P) → (y ≡ gives g → P) → cond b x y ≡ gives g → P
if_settled P true x y g some none h = some refl h
if_settled P false x y g some none h = none h

-- the grid is fit, and neither 4 nor 7 applies to it
pub record SettledOn (mode : Mode) (g : Grid) (ls : Lines) (room : ℕ) : Type 0 where
  pub fits : fit g ≡ true
  pub tried : tried_check mode g ls room ≡ Ok tt

settled_here : (mode : Mode) (f g : Grid) (ls : Lines) (room : ℕ) → fit f ≡ true → tried_check mode f ls room ≡ Ok tt → ◌≡◌ {A = Answer Grid} (gives f) (gives g) → SettledOn mode g ls room
settled_here mode f g ls room a b h = let e : f ≡ g = cc in record { fits = rw e at a; tried = rw e at b }

pub crowded_few : (mode : Mode) (g : Grid) (ls : Lines) → crowded mode g ls ≡ true → grid_cells g * 4 < 1000000
unfolding crowded
crowded_few mode g ls h =
    ltb-true (grid_cells g * 4) 1000000 (and_right (more_than 500 (λ c. length (list_on mode g ls c)) (grid_cells g)) (ltb (grid_cells g * 4) 1000000) h)

-- from a size on of which every grid that can be tried is fit
chosen_settled : (mode : Mode) (e : Extent) (ls : Lines) (room : ℕ) (g : Grid) (left : ℕ) (s : Size) → AllFit left e s → choosing.chosen mode left e s ls room ≡ gives g → SettledOn mode g ls room
unfolding choosing.chosen
chosen_settled mode e ls room g zero s f h =
    let u = then_passed (tried_check mode (grid_of e s) ls room) (gives (grid_of e s)) h in
    settled_here mode (grid_of e s) g ls room f u.0 u.1
chosen_settled mode e ls room g (suc left) s f h =
    let next = choosing.chosen mode left e (half_of s) ls room in
    let u = then_passed (tried_check mode (grid_of e s) ls room) (cond (crowded mode (grid_of e s) ls) next (gives (grid_of e s))) h in
    if_settled (SettledOn mode g ls room) (crowded mode (grid_of e s) ls) next (gives (grid_of e s)) g
    (λ c n. chosen_settled mode e ls room g left (half_of s) (f.1 (crowded_few mode (grid_of e s) ls c)) n)
    (λ n. settled_here mode (grid_of e s) g ls room f.0 u.0 n) u.1

choice_settled : (plan : Plan) (ls : Lines) (room : ℕ) (g : Grid) → LinesFit ls → choice plan ls room ≡ gives g → SettledOn plan.mode g ls room
unfolding choice chosen_first chosen_none
choice_settled plan ls room g f h =
    if_settled (SettledOn plan.mode g ls room) (leb 1 (count ls)) (chosen_first plan ls room) (chosen_none plan.mode ls room) g
    (λ b n. chosen_settled plan.mode (extent_of ls) ls room g 2 (first_size plan.sizing (extent_of ls) (count ls)) (all_fit plan.sizing ls f (leb-true 1 (count ls) b)) n)
    (λ n.
    let u = then_passed (tried_check plan.mode empty_grid ls room) (gives empty_grid) n in
    settled_here plan.mode empty_grid g ls room empty_fits u.0 u.1) h

-- ---- a grid of some lines has a column

some_here : (f g : Grid) → 1 ≤ f.cols → ◌≡◌ {A = Answer Grid} (gives f) (gives g) → 1 ≤ g.cols
some_here f g a h = let e : f ≡ g = cc in rw e at a

chosen_some : (mode : Mode) (e : Extent) (ls : Lines) (room : ℕ) (g : Grid) (left : ℕ) (s : Size) → AllSome left e s → choosing.chosen mode left e s ls room ≡ gives g → 1 ≤ g.cols
unfolding choosing.chosen
chosen_some mode e ls room g zero s f h = some_here (grid_of e s) g f (then_passed (tried_check mode (grid_of e s) ls room) (gives (grid_of e s)) h).1
chosen_some mode e ls room g (suc left) s f h =
    let next = choosing.chosen mode left e (half_of s) ls room in
    let u = then_passed (tried_check mode (grid_of e s) ls room) (cond (crowded mode (grid_of e s) ls) next (gives (grid_of e s))) h in
    if_settled (1 ≤ g.cols) (crowded mode (grid_of e s) ls) next (gives (grid_of e s)) g
    (λ c n. chosen_some mode e ls room g left (half_of s) (f.1 (crowded_few mode (grid_of e s) ls c)) n)
    (λ n. some_here (grid_of e s) g f.0 n) u.1

choice_some : (plan : Plan) (ls : Lines) (room : ℕ) (g : Grid) → LinesFit ls → 1 ≤ count ls → choice plan ls room ≡ gives g → 1 ≤ g.cols
unfolding choice chosen_first
choice_some plan ls room g f N h =
    chosen_some plan.mode (extent_of ls) ls room g 2 (first_size plan.sizing (extent_of ls) (count ls)) (all_some plan.sizing ls f N) (rw (le-leb 1 (count ls) N) at h)

-- ---- an end on a grid

turns_say : (mode : Mode) (g : Grid) (ls : Lines) (room : ℕ) → tried_check mode g ls room ≡ Ok tt → turns_check mode g ls ≡ Ok tt
unfolding tried_check
turns_say mode g ls room h = and_then_right (room_check g room) (turns_check mode g ls) h

room_says : (mode : Mode) (g : Grid) (ls : Lines) (room : ℕ) → tried_check mode g ls room ≡ Ok tt → grid_cells g + 1 ≤ room
unfolding tried_check room_check
room_says mode g ls room h =
    leb-true (grid_cells g + 1) room (unless_fine (leb (grid_cells g + 1) room) 4 (grid_cells g + 1) (and_then_left (room_check g room) (turns_check mode g ls) h))

module _ (mode : Mode) (g : Grid) (ls : Lines) (items globals : ℕ) (h : space_check mode g ls items globals ≡ Ok tt) where
  space_items : total mode g ls ≤ items
  unfolding space_check
  space_items = leb-true (total mode g ls) items (unless_fine (leb (total mode g ls) items) 5 (total mode g ls) (and_then_left _ _ h))

  space_globals : length (globals_on mode g ls) ≤ globals
  unfolding space_check
  space_globals =
      leb-true (length (globals_on mode g ls)) globals (unless_fine (leb (length (globals_on mode g ls)) globals) 6 (length (globals_on mode g ls)) (and_then_right _ _ h))

-- in slices of these lengths
pub record Made (mode : Mode) (ls : Lines) (offsets items globals : ℕ) (g : Grid) : Type 0 where
  pub lines_fit : LinesFit ls
  pub fits : fit g ≡ true
  pub some : 1 ≤ count ls → 1 ≤ g.cols
  pub turns : turns_check mode g ls ≡ Ok tt
  pub room : grid_cells g + 1 ≤ offsets
  pub space : total mode g ls ≤ items
  pub listed : length (globals_on mode g ls) ≤ globals

pub made_says : (plan : Plan) (ls : Lines) (offsets items globals scratch : ℕ) (g : Grid) → end_of plan ls offsets items globals scratch ≡ gives g → Made plan.mode ls offsets items globals g
unfolding end_of room_on
made_says plan ls offsets items globals scratch g h =
    let a = then_passed (and_then (scratch_check scratch) (lines_check ls)) (choice plan ls offsets into room_on plan.mode ls items globals) h in
    let f : LinesFit ls = lines_fine ls (and_then_right (scratch_check scratch) (lines_check ls) a.0) in
    into_passed (choice plan ls offsets) (room_on plan.mode ls items globals) a.1
    (λ k c d.
    let b = then_passed (space_check plan.mode k ls items globals) (gives k) d in
    let e : k ≡ g = cc in
    let s : SettledOn plan.mode k ls offsets = choice_settled plan ls offsets k f c in
    rw (← e)
    (record {
      lines_fit = f;
      fits = s.fits;
      some = λ N. choice_some plan ls offsets k f N c;
      turns = turns_say plan.mode k ls offsets s.tried;
      room = room_says plan.mode k ls offsets s.tried;
      space = space_items plan.mode k ls items globals b.0;
      listed = space_globals plan.mode k ls items globals b.0;
    }))

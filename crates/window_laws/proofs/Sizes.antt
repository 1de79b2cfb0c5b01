-- The cell sizes of the grid that a build of some lines settles on are values of the format: its size is the first one of its sizing, or a half or a quarter of
-- that. Assumes nothing.
use Rattle.std.specs.Prelude.{Ok, Result}
use Rattle.refusals.specs.declared.Refusal.{Refusal}
use mathlib.Core.Path.{◌≡◌, refl, sym, ◌∙◌}
use mathlib.Core.Bool.{Bool, true, false, cond}
use mathlib.Core.List.{List}
use Prim.Native.Nat.{ℕ, zero, suc, ◌+◌, ◌≤◌}
use native.Mathlib.Omega.{arith}
use borrow.Author.Tests.{le-leb}
use lib.Dec.{T}
use lib.ListN.{length}
use lib.Ieee.{binary64, fits}
use Rattle.refusals.specs.Refusals.{and_then, Answer, gives, ◌into◌}
use Rattle.refusals.proofs.Answers.{then_passed, into_passed}
use Rattle.grid.specs.declared.Grid.{Grid}
use Rattle.grid.specs.Domain.{Lines, count, scratch_check, lines_check}
use Rattle.grid.proofs.Fine.{LinesFit, lines_fine}
use Rattle.walk.specs.declared.Mode.{Mode}
use Rattle.sizing.specs.declared.Extent.{Extent}
use Rattle.sizing.specs.declared.Size.{Size}
use Rattle.sizing.specs.Bounds.{extent_of}
use Rattle.sizing.specs.Size.{first_size, half_of}
use Rattle.sizing.specs.Counts.{grid_of}
use Rattle.sizing.proofs.FitLaws.{Within, Tried, lines_within, first_tried, again_tried}
use Rattle.fill.specs.Checks.{tried_check, space_check}
use Rattle.build.specs.declared.Plan.{Plan}
use Rattle.build.specs.declared.Standing.{Standing}
use Rattle.build.specs.Choice.{crowded, chosen, chosen_first, choice}
use Rattle.build.specs.Build.{room_on, end_of, BuildIs}
use Rattle.build.proofs.Settled.{crowded_few}
use Rattle.build.proofs.Theorems.{answer_made, lines_passed}

pub record Held (g : Grid) : Type 0 where
  pub wide : T (fits binary64 g.cell_width)
  pub high : T (fits binary64 g.cell_height)

tried_held : (e : Extent) (k : ℕ) (s : Size) → Tried e k s → Held (grid_of e s)
unfolding grid_of
tried_held e k s t = record { wide = t.sized.wide.sized.held; high = t.sized.high.sized.held }

held_here : (f g : Grid) → Held f → ◌≡◌ {A = Answer Grid} (gives f) (gives g) → Held g
held_here f g a h = let e : f ≡ g = cc in rw e at a

chosen_held : (mode : Mode) (e : Extent) (ls : Lines) (room : ℕ) (g : Grid) → Within e → (left k : ℕ) (s : Size) → k + left ≡ 2 → Tried e k s → chosen mode left e s ls room ≡ gives g → Held g
unfolding chosen
chosen_held mode e ls room g w zero k s z t h = held_here (grid_of e s) g (tried_held e k s t) (then_passed (tried_check mode (grid_of e s) ls room) (gives (grid_of e s)) h).1
chosen_held mode e ls room g w (suc left) k s z t h =
    go (crowded mode (grid_of e s) ls) refl
    (then_passed (tried_check mode (grid_of e s) ls room) (cond (crowded mode (grid_of e s) ls) (chosen mode left e (half_of s) ls room) (gives (grid_of e s))) h).1
    (λ c. chosen_held mode e ls room g w left (k + 1) (half_of s) (omega arith) (again_tried e k s w t (omega arith) (crowded_few mode (grid_of e s) ls c)))
  where
    go : (b : Bool) → crowded mode (grid_of e s) ls ≡ b → cond b (chosen mode left e (half_of s) ls room) (gives (grid_of e s)) ≡ gives g
        → (crowded mode (grid_of e s) ls ≡ true → chosen mode left e (half_of s) ls room ≡ gives g → Held g) → Held g
    go true c n next = next c n
    go false c n next = held_here (grid_of e s) g (tried_held e k s t) n

choice_held : (plan : Plan) (ls : Lines) (room : ℕ) (g : Grid) → LinesFit ls → 1 ≤ count ls → choice plan ls room ≡ gives g → Held g
unfolding choice chosen_first
choice_held plan ls room g f N h =
    let e = extent_of ls in
    let w : Within e = lines_within ls f N in
    chosen_held plan.mode e ls room g w 2 0 (first_size plan.sizing e (count ls)) refl (first_tried plan.sizing e (count ls) w N (omega (arith, f.few))) (rw (le-leb 1 (count ls) N) at h)

end_held : (plan : Plan) (ls : Lines) (offsets items globals scratch : ℕ) (g : Grid) → LinesFit ls → 1 ≤ count ls → end_of plan ls offsets items globals scratch ≡ gives g → Held g
unfolding end_of room_on
end_held plan ls offsets items globals scratch g f N h =
    into_passed (choice plan ls offsets) (room_on plan.mode ls items globals) (then_passed (and_then (scratch_check scratch) (lines_check ls)) (choice plan ls offsets into room_on plan.mode ls items globals) h).1
    (λ k c d. held_here k g (choice_held plan ls offsets k f N c) (then_passed (space_check plan.mode k ls items globals) (gives k) d).1)

pub build_held : (plan : Plan) {ls : Lines} {o t gs s : List ℕ} {r : (Result Standing Refusal)} {o' t' gs' s' : List ℕ} {st : Standing}
    → BuildIs plan.mode ls o t gs s r o' t' gs' s' (end_of plan ls (length o) (length t) (length gs) (length s)) → r ≡ Ok st → 1 ≤ count ls → Held st.grid
build_held plan {ls} {o} {t} {gs} {s} {st = st} h ok N =
    end_held plan ls (length o) (length t) (length gs) (length s) st.grid (lines_fine ls (lines_passed plan h ok)) N
    (answer_made plan.mode (end_of plan ls (length o) (length t) (length gs) (length s)) ls st (sym h.answer ∙ ok)).0

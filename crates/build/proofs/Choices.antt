-- One grid tried, and the choice that goes on from it. Assumes nothing.
use Rattle.std.specs.Prelude.{Ok, Err, Some, None, Result, Option}
use Rattle.refusals.specs.Refusals.{Check, unless, and_then, Answer, refused, gives, ◌then◌, ◌into◌, answer_by, left_in, zero_beyond}
use Rattle.build.specs.declared.Standing.{Standing}
use mathlib.Core.Path.{◌≡◌, refl, sym, ap, ◌∙◌, subst}
use mathlib.Core.Bool.{Bool, true, false, cond, ◌&&◌}
use mathlib.Core.List.{List}
use Prim.Native.Nat.{ℕ, zero, suc, ◌-◌, ◌*◌, ◌≤◌, ◌<◌}
use native.Mathlib.Nat.{le_trans}
use native.Mathlib.Omega.{arith}
use borrow.Author.Tests.{le-leb, lt-leb, lt-ltb, le-ltb, ltb-true}
use lib.Dec.{ltb}
use lib.ListN.{length, replicate}
use Rattle.refusals.specs.declared.Refusal.{Refusal}
use Rattle.refusals.proofs.Checks.{and_then_right}
use Rattle.refusals.proofs.Leaving.{Clears, clears_gives, clears_then, clears_if, clears_into, in_alike}
use Rattle.grid.specs.declared.Grid.{Grid}
use Rattle.grid.specs.Domain.{Lines, count, fit, scratch_check, lines_check, grid_check}
use Rattle.grid.proofs.Fine.{LinesFit, lines_fine}
use Rattle.walk.specs.declared.Mode.{Mode}
use Rattle.tables.specs.Lists.{items_of, offsets_of}
use Rattle.tables.proofs.Laws.{lines_few}
use Rattle.sizing.specs.declared.Extent.{Extent}
use Rattle.sizing.specs.declared.Size.{Size}
use Rattle.sizing.specs.declared.Sizing.{Sizing}
use Rattle.sizing.specs.Bounds.{extent_of}
use Rattle.sizing.specs.Size.{first_size, half_of}
use Rattle.sizing.specs.Counts.{grid_of, empty_grid}
use Rattle.sizing.proofs.FitLaws.{AllFit, fit_now, fit_next, all_fit, empty_fits}
use Rattle.fill.specs.declared.Filled.{Filled}
use Rattle.fill.specs.OnGrid.{grid_cells, list_on, globals_on}
use Rattle.fill.specs.Checks.{on_grid_check, tried_check, counting_check, space_check}
use Rattle.fill.specs.Fill.{more_than, made, filling_of, filled_of, written_in, FillIs}
use Rattle.fill.specs.Fill as filling
use Rattle.fill.specs.Inside.{local_on}
use Rattle.fill.proofs.Leaves.{tried_clears, space_clears}
use Rattle.fill.proofs.Sums.{above_never}
use Rattle.build.specs.declared.Plan.{Plan}
use Rattle.build.specs.Choice.{crowded, chosen, chosen_first, chosen_none, choice}
use Rattle.build.specs.Build.{room_on, end_of, built_on, answer_of, BuildIs}
use Rattle.build.specs.Inside.{most_on, attempt_by, lent_of, AttemptAsks, end_from, Halved, AttemptIs}

-- ---- the checks, as `fill` has them

then_then : (a b c : Check) → and_then a (and_then b c) ≡ and_then (and_then a b) c
unfolding and_then
then_then (Ok _) b c = refl
then_then (Err r) b c = refl

module _ (mode : Mode) (g : Grid) (ls : Lines) (offsets scratch : ℕ) where
  counting_is : counting_check mode g ls offsets scratch ≡ and_then (and_then (lent_of ls scratch) (grid_check g)) (tried_check mode g ls offsets)
  unfolding counting_check on_grid_check
  counting_is = ap (λ (k : Check). and_then k (tried_check mode g ls offsets)) (then_then (scratch_check scratch) (lines_check ls) (grid_check g))

  counting_lent : (r : Refusal) → lent_of ls scratch ≡ Err r → counting_check mode g ls offsets scratch ≡ Err r
  unfolding and_then
  counting_lent r h = counting_is ∙ rw h

  counting_tried : lent_of ls scratch ≡ Ok tt → fit g ≡ true → counting_check mode g ls offsets scratch ≡ tried_check mode g ls offsets
  unfolding and_then grid_check unless
  counting_tried h f = counting_is ∙ rw (h, f)

-- ---- how the tables of a grid end

module _ {mode : Mode} {ls : Lines} {g : Grid} {o t gs s : List ℕ} {w : Result Filled Refusal} {o' t' gs' s' : List ℕ} where
  ends_refused : (r : Refusal) → FillIs mode g ls o t gs s w o' t' gs' s' (refused r)
      → (attempt_by g w ≡ Some (Err r)) × BuildIs mode ls o t gs s (Err r) o' t' gs' s' (refused r)
  unfolding answer_by left_in answer_of
  ends_refused r k = (
    ap (attempt_by g) k.answer,
    record {
      answer = refl;
      cell_offsets = k.offsets_are;
      cell_items = k.items_are;
      global_lines = k.globals_are;
      scratch_is = k.scratch_is;
    },
  )

  ends_made : FillIs mode g ls o t gs s w o' t' gs' s' (gives made)
      → (attempt_by g w ≡ Some (built_on mode ls g)) × BuildIs mode ls o t gs s (built_on mode ls g) o' t' gs' s' (gives g)
  unfolding answer_by left_in filled_of written_in answer_of built_on
  ends_made k = (
    ap (attempt_by g) k.answer,
    record {
      answer = refl;
      cell_offsets = k.offsets_are;
      cell_items = k.items_are;
      global_lines = k.globals_are;
      scratch_is = k.scratch_is;
    },
  )

-- how a build ends where the grid g is tried, and `next` is the choice that goes on from it
abbrev end_on : Mode → Lines → Grid → Answer Grid → ℕ → ℕ → ℕ → ℕ → Answer Grid
end_on mode ls g next offsets items globals scratch = lent_of ls scratch then ((tried_check mode g ls offsets then next) into room_on mode ls items globals)

-- what a grid tried comes to: the end of the build, or a crowded cell
data Tried (mode : Mode) (ls : Lines) (g : Grid) (most : ℕ) (next : Answer Grid) (o t gs s : List ℕ) (w : Result Filled Refusal) (o' t' gs' s' : List ℕ) : Type 0 where
  ended : (b : Result Standing Refusal) → attempt_by g w ≡ Some b → BuildIs mode ls o t gs s b o' t' gs' s' (end_on mode ls g next (length o) (length t) (length gs) (length s))
      → Tried mode ls g most next o t gs s w o' t' gs' s'
  halved : attempt_by g w ≡ None → lent_of ls (length s) ≡ Ok tt → tried_check mode g ls (length o) ≡ Ok tt → more_than most (λ c. length (list_on mode g ls c)) (grid_cells g) ≡ true
      → Tried mode ls g most next o t gs s w o' t' gs' s'

module _ (mode : Mode) (ls : Lines) (g : Grid) (most : ℕ) (next : Answer Grid) {o t gs s : List ℕ} {w : Result Filled Refusal} {o' t' gs' s' : List ℕ}
    (k : FillIs mode g ls o t gs s w o' t' gs' s' (filling_of mode g ls most (length o) (length t) (length gs) (length s)))
    (fits : lent_of ls (length s) ≡ Ok tt → fit g ≡ true)
    (stop : lent_of ls (length s) ≡ Ok tt → more_than most (λ c. length (list_on mode g ls c)) (grid_cells g) ≡ false → next ≡ gives g) where
  abbrev Comes : Type 0
  Comes = Tried mode ls g most next o t gs s w o' t' gs' s'

  module _ (lent : lent_of ls (length s) ≡ Ok tt) (tried : tried_check mode g ls (length o) ≡ Ok tt) where
    counting : counting_check mode g ls (length o) (length s) ≡ Ok tt
    counting = counting_tried mode g ls (length o) (length s) lent (fits lent) ∙ tried

    on_space : (c : Check) → space_check mode g ls (length t) (length gs) ≡ c → more_than most (λ c. length (list_on mode g ls c)) (grid_cells g) ≡ false → Comes
    unfolding filling_of ◌then◌ ◌into◌ room_on
    on_space (Err r) q b = let e = ends_refused r (rw (counting, b, q) at k) in ended (Err r) e.0 (rw (lent, tried, stop lent b, q) e.1)
    on_space (Ok _) q b = let e = ends_made (rw (counting, b, q) at k) in ended (built_on mode ls g) e.0 (rw (lent, tried, stop lent b, q) e.1)

    on_crowd : (b : Bool) → more_than most (λ c. length (list_on mode g ls c)) (grid_cells g) ≡ b → Comes
    unfolding filling_of ◌then◌ answer_by filled_of
    on_crowd true b = halved (let f : FillIs mode g ls o t gs s w o' t' gs' s' (gives filling.crowded) = rw (counting, b) at k in ap (attempt_by g) f.answer) lent tried b
    on_crowd false b = on_space (space_check mode g ls (length t) (length gs)) refl b

  on_tried : (c : Check) → lent_of ls (length s) ≡ Ok tt → tried_check mode g ls (length o) ≡ c → Comes
  unfolding filling_of ◌then◌ ◌into◌
  on_tried (Err r) h q =
      let e = ends_refused r (rw (counting_tried mode g ls (length o) (length s) h (fits h), q) at k) in
      ended (Err r) e.0 (rw (h, q) e.1)
  on_tried (Ok _) h q = on_crowd h q (more_than most (λ c. length (list_on mode g ls c)) (grid_cells g)) refl

  on_lent : (c : Check) → lent_of ls (length s) ≡ c → Comes
  unfolding filling_of ◌then◌
  on_lent (Err r) h =
      let e = ends_refused r (rw (counting_lent mode g ls (length o) (length s) r h) at k) in
      ended (Err r) e.0 (rw h e.1)
  on_lent (Ok _) h = on_tried (tried_check mode g ls (length o)) h refl

  comes : Comes
  comes = on_lent (lent_of ls (length s)) refl

-- ---- the limit: no cell lists more than all lines

lists_most : (mode : Mode) (g : Grid) (ls : Lines) (scratch : ℕ) → lent_of ls scratch ≡ Ok tt → more_than 65536 (λ c. length (list_on mode g ls c)) (grid_cells g) ≡ false
unfolding list_on
lists_most mode g ls scratch h =
    let f : LinesFit ls = lines_fine ls (and_then_right (scratch_check scratch) (lines_check ls) h) in
    above_never 65536 _ (λ c. le_trans (lines_few (local_on mode g ls) (count ls) c) f.few) (grid_cells g)

pub most_none : (g : Grid) (left : ℕ) → left ≡ 0 → 65536 ≡ most_on g left
most_none g left h = rw h

pub most_some : (g : Grid) (left : ℕ) → (left ≡ 0 → ⊥) → grid_cells g < 250000 → 500 ≡ most_on g left
most_some g left h l =
    let a : 0 < left = omega arith in
    let b : grid_cells g * 4 < 1000000 = omega arith in
    rw (lt-ltb 0 left a, lt-ltb (grid_cells g * 4) 1000000 b)

pub most_many : (g : Grid) (left : ℕ) → (left ≡ 0 → ⊥) → 250000 ≤ grid_cells g → 65536 ≡ most_on g left
most_many g left h l =
    let a : 0 < left = omega arith in
    let b : 1000000 ≤ grid_cells g * 4 = omega arith in
    rw (lt-ltb 0 left a, le-ltb (grid_cells g * 4) 1000000 b)

-- ---- the choice from a size on

module _ (mode : Mode) (e : Extent) (size : Size) (ls : Lines) (offsets scratch : ℕ) where
  -- what goes on where the grid of the size is not refused
  next : ℕ → Answer Grid
  next zero = gives (grid_of e size)
  next (suc left) = cond (crowded mode (grid_of e size) ls) (chosen mode left e (half_of size) ls offsets) (gives (grid_of e size))

  chosen_is : (left : ℕ) → chosen mode left e size ls offsets ≡ (tried_check mode (grid_of e size) ls offsets then next left)
  unfolding chosen next
  chosen_is zero = refl
  chosen_is (suc left) = refl

  module _ (lent : lent_of ls scratch ≡ Ok tt) where
    limit : (b : Bool) → (more_than 65536 (λ c. length (list_on mode (grid_of e size) ls c)) (grid_cells (grid_of e size)) ≡ true) → b ≡ false
    limit b h = let z : ◌≡◌ {A = Bool} true false = sym h ∙ lists_most mode (grid_of e size) ls scratch lent in let y : ◌≡◌ {A = ℕ} 0 1 = cc in absurd (omega arith)

    -- no cell above the limit: the grid is settled on
    next_stops : (left : ℕ) → more_than (most_on (grid_of e size) left) (λ c. length (list_on mode (grid_of e size) ls c)) (grid_cells (grid_of e size)) ≡ false → next left ≡ gives (grid_of e size)
    unfolding next crowded
    next_stops zero h = refl
    next_stops (suc left) h = go (ltb (grid_cells (grid_of e size) * 4) 1000000) refl
      where
        and_false : (p : Bool) → (p && false) ≡ false
        and_false true = refl
        and_false false = refl

        go : (b : Bool) → ltb (grid_cells (grid_of e size) * 4) 1000000 ≡ b → next (suc left) ≡ gives (grid_of e size)
        go true q = let a = rw (lt-ltb 0 (suc left) (omega arith), q) at h in rw a
        go false q = rw (q, and_false (more_than 500 (λ c. length (list_on mode (grid_of e size) ls c)) (grid_cells (grid_of e size))))

    -- some cell above it: the choice goes on from half the size
    next_halves : (left : ℕ) → tried_check mode (grid_of e size) ls offsets ≡ Ok tt → more_than (most_on (grid_of e size) left) (λ c. length (list_on mode (grid_of e size) ls c)) (grid_cells (grid_of e size)) ≡ true → Halved mode left e size ls offsets scratch
    unfolding next crowded ◌then◌
    next_halves zero t h = let z : ◌≡◌ {A = Bool} true false = limit true h in let y : ◌≡◌ {A = ℕ} 0 1 = cc in absurd (omega arith)
    next_halves (suc left) t h = go (ltb (grid_cells (grid_of e size) * 4) 1000000) refl
      where
        go : (b : Bool) → ltb (grid_cells (grid_of e size) * 4) 1000000 ≡ b → Halved mode (suc left) e size ls offsets scratch
        go true q =
            let a = rw (lt-ltb 0 (suc left) (omega arith), q) at h in
            let z : suc left - 1 ≡ left = omega arith in
            record { some = omega arith; lent = lent; next = chosen_is (suc left) ∙ rw (t, a, q, z); few = ltb-true _ _ q }
        go false q =
            let a = rw (lt-ltb 0 (suc left) (omega arith), q) at h in
            let z : ◌≡◌ {A = Bool} true false = limit true a in
            let y : ◌≡◌ {A = ℕ} 0 1 = cc in
            absurd (omega arith)

-- ---- one size tried

module _ (mode : Mode) (left : ℕ) (e : Extent) (size : Size) {ls : Lines} {o t gs s : List ℕ} {w : Result Filled Refusal} {o' t' gs' s' : List ℕ} where
  attempt_comes : {r : (Option (Result Standing Refusal))} → Tried mode ls (grid_of e size) (most_on (grid_of e size) left) (next mode e size ls (length o) (length s) left) o t gs s w o' t' gs' s' → r ≡ attempt_by (grid_of e size) w
      → AttemptIs mode left e size ls o t gs s o' t' gs' s' r
  attempt_comes {r} (ended b q h) p =
      subst (λ (r : (Option (Result Standing Refusal))). AttemptIs mode left e size ls o t gs s o' t' gs' s' r) (sym (p ∙ q)) (rw (chosen_is mode e size ls (length o) (length s) left) h)
  attempt_comes {r} (halved q lent tried b) p =
      subst (λ (r : (Option (Result Standing Refusal))). AttemptIs mode left e size ls o t gs s o' t' gs' s' r) (sym (p ∙ q)) (next_halves mode e size ls (length o) (length s) lent left tried b)

  pub attempt_is : {g : Grid} {most : ℕ} {r : (Option (Result Standing Refusal))} → AttemptAsks ls e size s → g ≡ grid_of e size → most ≡ most_on g left → FillIs mode g ls o t gs s w o' t' gs' s' (filling_of mode g ls most (length o) (length t) (length gs) (length s))
      → r ≡ attempt_by g w → AttemptIs mode left e size ls o t gs s o' t' gs' s' r
  attempt_is a is m k p =
      attempt_comes
      (comes mode ls (grid_of e size) (most_on (grid_of e size) left) (next mode e size ls (length o) (length s) left) (rw (m, is) at k) a.fits
      (λ lent h. next_stops mode e size ls (length o) (length s) lent left h)) (rw is at p)

-- ---- the sizes tried, one after another

-- what the end of the build leaves of a slice does not tell `was` from `now`
abbrev Same : Answer Grid → List ℕ → List ℕ → Type 0
Same e was now = (on : ℕ → Grid → List ℕ) → left_in 0 now e (on (length now)) ≡ left_in 0 was e (on (length was))

-- a choice refuses by 4 and 7 alone, and the room after it by 5 and 6
chosen_clears : (mode : Mode) (left : ℕ) (e : Extent) (size : Size) (ls : Lines) (room : ℕ) → Clears (chosen mode left e size ls room)
unfolding chosen
chosen_clears mode zero e size ls room = clears_then (tried_clears mode (grid_of e size) ls room) clears_gives
chosen_clears mode (suc left) e size ls room =
    clears_then (tried_clears mode (grid_of e size) ls room)
    (clears_if (crowded mode (grid_of e size) ls) (chosen_clears mode left e (half_of size) ls room) clears_gives)

room_clears : (mode : Mode) (ls : Lines) (items globals : ℕ) (g : Grid) → Clears (room_on mode ls items globals g)
unfolding room_on
room_clears mode ls items globals g = clears_then (space_clears mode g ls items globals) clears_gives

pub record Choosing (mode : Mode) (ls : Lines) (o₀ t₀ gs₀ s₀ : List ℕ) (e : Extent) (size₀ : Size) (o t gs s : List ℕ) (size : Size) (left : ℕ) : Type 0 where
  pub is : end_from mode 2 e size₀ ls (length o₀) (length t₀) (length gs₀) (length s₀) ≡ end_from mode left e size ls (length o₀) (length t₀) (length gs₀) (length s₀)
  pub fits : lent_of ls (length s₀) ≡ Ok tt → AllFit left e size
  pub len : length o ≡ length o₀
  pub len_items : length t ≡ length t₀
  pub len_globals : length gs ≡ length gs₀
  pub len_scratch : length s ≡ length s₀
  pub offsets : Same (end_from mode 2 e size₀ ls (length o₀) (length t₀) (length gs₀) (length s₀)) o₀ o
  pub items : Same (end_from mode 2 e size₀ ls (length o₀) (length t₀) (length gs₀) (length s₀)) t₀ t
  pub globals : Same (end_from mode 2 e size₀ ls (length o₀) (length t₀) (length gs₀) (length s₀)) gs₀ gs
  pub scratch : Same (end_from mode 2 e size₀ ls (length o₀) (length t₀) (length gs₀) (length s₀)) s₀ s

pub choosing_first : (z : Sizing) {mode : Mode} {ls : Lines} {o t gs s : List ℕ} {e : Extent} {size : Size} → (count ls ≡ 0 → ⊥) → e ≡ extent_of ls → size ≡ first_size z e (count ls)
    → Choosing mode ls o t gs s e size o t gs s size 2
choosing_first z {mode} {ls} {o} {t} {gs} {s} {e} {size} n d q =
    record {
      is = refl;
      fits = λ h. rw (q, d) (all_fit z ls (lines_fine ls (and_then_right (scratch_check (length s)) (lines_check ls) h)) (omega arith));
      len = refl;
      len_items = refl;
      len_globals = refl;
      len_scratch = refl;
      offsets = λ on. refl;
      items = λ on. refl;
      globals = λ on. refl;
      scratch = λ on. refl;
    }

-- from the first size of a plan on: the end of its build
pub end_first : (plan : Plan) (ls : Lines) (offsets items globals scratch : ℕ) {e : Extent} {size : Size} → (count ls ≡ 0 → ⊥) → e ≡ extent_of ls
    → size ≡ first_size plan.sizing e (count ls) → end_from plan.mode 2 e size ls offsets items globals scratch ≡ end_of plan ls offsets items globals scratch
unfolding end_of choice chosen_first
end_first plan ls offsets items globals scratch n d q = let l : 1 ≤ count ls = omega arith in rw (q, d, le-leb 1 (count ls) l)

module _ {mode : Mode} {ls : Lines} {o₀ t₀ gs₀ s₀ : List ℕ} {e : Extent} {size₀ : Size} {o t gs s : List ℕ} {size : Size} {left : ℕ} (k : Choosing mode ls o₀ t₀ gs₀ s₀ e size₀ o t gs s size left) where
  pub choosing_asks : AttemptAsks ls e size s
  choosing_asks = record { fits = λ h. fit_now left e size (k.fits (rw k.len_scratch at h)) }

  pub choosing_next : {o' t' gs' s' : List ℕ} {half : Size} → Halved mode left e size ls (length o) (length s) → half ≡ half_of size → length o' ≡ length o → length t' ≡ length t → length gs' ≡ length gs → length s' ≡ length s
      → Choosing mode ls o₀ t₀ gs₀ s₀ e size₀ o' t' gs' s' half (left - 1)
  unfolding ◌then◌
  choosing_next {o'} {t'} {gs'} {s'} h z a b c d =
      let lent : lent_of ls (length s₀) ≡ Ok tt = rw k.len_scratch at h.lent in
      let again : chosen mode left e size ls (length o₀) ≡ chosen mode (left - 1) e (half_of size) ls (length o₀) = rw k.len at h.next in
      let E = end_from mode 2 e size₀ ls (length o₀) (length t₀) (length gs₀) (length s₀) in
      let by : E ≡ (chosen mode left e size ls (length o₀) into room_on mode ls (length t₀) (length gs₀)) = k.is ∙ rw lent in
      let clear : Clears E = rw by (clears_into (chosen_clears mode left e size ls (length o₀)) (room_clears mode ls (length t₀) (length gs₀))) in
      record {
        is = k.is ∙ rw (again, z);
        fits = λ q. rw z (fit_next left e size h.some (k.fits q) h.few);
        len = a ∙ k.len;
        len_items = b ∙ k.len_items;
        len_globals = c ∙ k.len_globals;
        len_scratch = d ∙ k.len_scratch;
        offsets = λ on. in_alike 0 E o₀ o' on clear (a ∙ k.len);
        items = λ on. in_alike 0 E t₀ t' on clear (b ∙ k.len_items);
        globals = λ on. in_alike 0 E gs₀ gs' on clear (c ∙ k.len_globals);
        scratch = λ on. in_alike 0 E s₀ s' on clear (d ∙ k.len_scratch);
      }

  pub choosing_done : {b : Result Standing Refusal} {o' t' gs' s' : List ℕ} {E : Answer Grid} → BuildIs mode ls o t gs s b o' t' gs' s' (end_from mode left e size ls (length o) (length t) (length gs) (length s))
      → end_from mode 2 e size₀ ls (length o₀) (length t₀) (length gs₀) (length s₀) ≡ E → BuildIs mode ls o₀ t₀ gs₀ s₀ b o' t' gs' s' E
  choosing_done {b} {o'} {t'} {gs'} {s'} h end =
      let q : end_from mode left e size ls (length o) (length t) (length gs) (length s) ≡ end_from mode 2 e size₀ ls (length o₀) (length t₀) (length gs₀) (length s₀) =
      rw (k.len, k.len_items, k.len_globals, k.len_scratch) (sym k.is) in
      let d = subst (λ (x : Answer Grid). BuildIs mode ls o t gs s b o' t' gs' s' x) q h in
      rw (← end)
      (record {
        answer = d.answer;
        cell_offsets = d.cell_offsets ∙ k.offsets (λ n g. offsets_of (list_on mode g ls) (grid_cells g) n);
        cell_items = d.cell_items ∙ k.items (λ n g. items_of (list_on mode g ls) (grid_cells g) n);
        global_lines = d.global_lines ∙ k.globals (λ n g. zero_beyond 0 n (globals_on mode g ls));
        scratch_is = d.scratch_is ∙ k.scratch (λ n g. replicate {A = ℕ} n 0);
      })

-- ---- no lines

module _ (plan : Plan) {ls : Lines} (none : count ls ≡ 0) {g : Grid} (is : g ≡ empty_grid) {o t gs s : List ℕ} {w : Result Filled Refusal} {o' t' gs' s' : List ℕ}
    (k : FillIs plan.mode g ls o t gs s w o' t' gs' s' (filling_of plan.mode g ls 65536 (length o) (length t) (length gs) (length s))) {r : (Option (Result Standing Refusal))} (p : r ≡ attempt_by g w) where
  none_comes : Tried plan.mode ls empty_grid 65536 (gives empty_grid) o t gs s w o' t' gs' s'
  none_comes = comes plan.mode ls empty_grid 65536 (gives empty_grid) (rw is at k) (λ _. empty_fits) (λ _ _. refl)

  pub none_ends : (b : Result Standing Refusal) → r ≡ Some b → BuildIs plan.mode ls o t gs s b o' t' gs' s' (end_of plan ls (length o) (length t) (length gs) (length s))
  unfolding end_of choice chosen_none
  none_ends b q = go none_comes
    where
      go : Tried plan.mode ls empty_grid 65536 (gives empty_grid) o t gs s w o' t' gs' s' → BuildIs plan.mode ls o t gs s b o' t' gs' s' (end_of plan ls (length o) (length t) (length gs) (length s))
      go (ended d e h) =
          let l : count ls < 1 = omega arith in
          let x : Some b ≡ Some d = sym q ∙ (rw is at p) ∙ e in
          let y : d ≡ b = cc in
          rw (lt-leb 1 (count ls) l, ← y) h
      go (halved e lent tried h) =
          let x : Some b ≡ None = sym q ∙ (rw is at p) ∙ e in
          let y : ◌≡◌ {A = ℕ} 0 1 = cc in
          absurd (omega arith)

  pub none_halves : r ≡ None → ⊥
  none_halves q = go none_comes
    where
      go : Tried plan.mode ls empty_grid 65536 (gives empty_grid) o t gs s w o' t' gs' s' → ⊥
      go (ended d e h) =
          let x : None ≡ Some d = sym q ∙ (rw is at p) ∙ e in
          let y : ◌≡◌ {A = ℕ} 0 1 = cc in
          omega arith
      go (halved e lent tried h) =
          let x : ◌≡◌ {A = Bool} true false = sym h ∙ lists_most plan.mode empty_grid ls (length s) lent in
          let y : ◌≡◌ {A = ℕ} 0 1 = cc in
          omega arith

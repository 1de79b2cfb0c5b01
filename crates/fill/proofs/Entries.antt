-- The entries: the checks, and what each answer leaves. Assumes nothing.
use Rattle.std.specs.Prelude.{Ok, Err, Result}
use Rattle.refusals.specs.Refusals.{Check, refusal, and_then, Answer, gives, ◌then◌, answer_by, left_by, left_in}
use mathlib.Core.Path.{◌≡◌, refl, sym, ap, ap₂, ◌∙◌, subst}
use mathlib.Core.Bool.{Bool, true, false}
use mathlib.Core.List.{List, ◌++◌}
use Prim.Native.Nat.{ℕ, ◌≤◌, ◌<◌}
use native.Mathlib.Omega.{arith}
use borrow.Author.Tests.{leb-true}
use lib.ListN.{length, get_or, replicate, take-append-drop}
use Rattle.refusals.specs.declared.Refusal.{Refusal}
use Rattle.refusals.proofs.Checks.{unless_fine, and_then_left, and_then_right}
use Rattle.refusals.proofs.Leaving.{numbers_clear, left_alike}
use Rattle.grid.specs.declared.Grid.{Grid}
use Rattle.grid.specs.Domain.{Lines, count, fit, scratch_check, lines_check, grid_check}
use Rattle.grid.proofs.Fine.{LinesFit, lines_fine}
use Rattle.walk.specs.declared.Mode.{Mode}
use Rattle.tables.specs.Lists.{lines_at, offsets_of}
use Rattle.tables.proofs.Laws.{take_tabulate, drop_zeros, beyond}
use Rattle.fill.specs.declared.Filled.{Filled}
use Rattle.fill.specs.declared.Filled.TheVariants as filled
use Rattle.fill.specs.OnGrid.{grid_cells, list_on, total, counts_on}
use Rattle.fill.specs.Checks.{on_grid_check, turns_check, room_check, tried_check, counting_check, space_check}
use Rattle.fill.specs.Fill.{count_of, CountIs, more_than, Filling, crowded, made, filling_of, filled_of, written_in, FillIs}
use Rattle.fill.specs.Inside.{CountAs, Walkable, local_on, CountedTo, PassAsks, AllCounted, CountLent, Summed, FillAsks, LayAsks, DueRefusal, PlanIs}
use Rattle.fill.proofs.Walks.{all_walks}
use Rattle.fill.proofs.Counts.{walkable_again, counted_clear}
use Rattle.fill.proofs.Leaves.{turns_clear}
use Rattle.fill.proofs.Fills.{space_short, space_globals, space_fine, sum_total, counts_above}

-- ---- one check after another

pub first_refuses : (a b : Check) (r : Refusal) → a ≡ Err r → Err r ≡ and_then a b
unfolding and_then
first_refuses a b r h = rw h

pub first_passes : (a b : Check) → a ≡ Ok tt → b ≡ and_then a b
unfolding and_then
first_passes a b h = rw h

-- 3, 2, 1, 8, then 4
module _ (g : Grid) (ls : Lines) (scratch room : ℕ) where
  abbrev check_of : Check
  check_of = and_then (on_grid_check g ls scratch) (room_check g room)

  pub scratch_refused : (r : Refusal) → scratch_check scratch ≡ Err r → Err r ≡ check_of
  unfolding on_grid_check and_then
  scratch_refused r e = rw e

  pub lines_refused : (r : Refusal) → scratch_check scratch ≡ Ok tt → lines_check ls ≡ Err r → Err r ≡ check_of
  unfolding on_grid_check and_then
  lines_refused r a e = rw (a, e)

  pub grid_refused : (r : Refusal) → scratch_check scratch ≡ Ok tt → lines_check ls ≡ Ok tt → grid_check g ≡ Err r → Err r ≡ check_of
  unfolding on_grid_check and_then
  grid_refused r a b e = rw (a, b, e)

  pub room_last : scratch_check scratch ≡ Ok tt → lines_check ls ≡ Ok tt → grid_check g ≡ Ok tt → room_check g room ≡ check_of
  unfolding on_grid_check and_then
  room_last a b d = rw (a, b, d)

pub grid_fits : (g : Grid) → grid_check g ≡ Ok tt → fit g ≡ true
unfolding grid_check
grid_fits g h = unless_fine (fit g) 8 0 h

pub lent_walkable : {g : Grid} {ls : Lines} {s : List ℕ} → on_grid_check g ls (length s) ≡ Ok tt → Walkable g ls s
unfolding on_grid_check scratch_check grid_check
lent_walkable {g} {ls} {s} h =
    let n : ℕ = length s in
    let k = and_then_right (scratch_check n) (and_then (lines_check ls) (grid_check g)) h in
    let f : LinesFit ls = lines_fine ls (and_then_left (lines_check ls) (grid_check g) k) in
    record {
      same = f.same;
      few = f.few;
      each = f.each;
      fits = unless_fine (fit g) 8 0 (and_then_right (lines_check ls) (grid_check g) k);
      space = leb-true 16384 n (unless_fine _ 3 0 (and_then_left (scratch_check n) (and_then (lines_check ls) (grid_check g)) h));
    }

-- ---- the checks and the count

-- the order of what a count checks, by what is checked first
counting_is : (mode : Mode) (g : Grid) (ls : Lines) (room scratch : ℕ) → counting_check mode g ls room scratch ≡ and_then (check_of g ls scratch room) (turns_check mode g ls)
unfolding counting_check tried_check and_then
counting_is mode g ls room scratch = go (on_grid_check g ls scratch)
  where
    go : (a : Check) → and_then a (and_then (room_check g room) (turns_check mode g ls)) ≡ and_then (and_then a (room_check g room)) (turns_check mode g ls)
    go (Ok _) = refl
    go (Err r) = refl

module _ {mode : Mode} {g : Grid} {ls : Lines} (o : List ℕ) {s : List ℕ} where
  pub lent_refused : {r : Refusal} → check_of g ls (length s) (length o) ≡ Err r → CountLent mode g ls o s (Err r) o s
  lent_refused {r} h =
      record {
        is = counting_is mode g ls (length o) (length s) ∙ sym (first_refuses (check_of g ls (length s) (length o)) (turns_check mode g ls) r h);
        offsets = λ q e. refl;
        scratch = λ q e. refl;
      }

  module _ (h : check_of g ls (length s) (length o) ≡ Ok tt) where
    pub lent_asks : {o₁ : List ℕ} → o₁ ≡ replicate (length o) 0 → length o₁ ≡ length o → PassAsks mode g ls o₁ s
    lent_asks {o₁} z e =
        record {
          walkable = lent_walkable (and_then_left (on_grid_check g ls (length s)) (room_check g (length o)) h);
          counted = counted_clear mode g ls o o₁ z e (and_then_right (on_grid_check g ls (length s)) (room_check g (length o)) h);
        }

    pub lent_counted : {r : Result ℕ Refusal} {o' s' : List ℕ} → CountAs (turns_check mode g ls) (AllCounted mode g ls o') r → length o' ≡ length o → length s' ≡ length s → CountLent mode g ls o s r o' s'
    lent_counted {r} {o'} {s'} k a b =
        record {
          is = subst (λ (x : Check). CountAs x (AllCounted mode g ls o') r) (first_passes (check_of g ls (length s) (length o)) (turns_check mode g ls) h ∙ sym (counting_is mode g ls (length o) (length s))) k;
          offsets = λ q e. left_alike 0 q o o' ((turns_clear mode g ls).says q (rw e at k)) a;
          scratch = λ q e. left_alike 0 q s s' ((turns_clear mode g ls).says q (rw e at k)) b;
        }

-- ---- the count

-- the counts, as a list
counts_are : {mode : Mode} {g : Grid} {ls : Lines} {o : List ℕ} → fit g ≡ true → CountedTo mode g ls (count ls) o → o ≡ counts_on mode g ls (length o)
unfolding counts_on list_on
counts_are {mode} {g} {ls} {o} f h =
    let W = local_on mode g ls in
    let n : ℕ = grid_cells g in
    let l : n ≤ length o = let r = h.room in omega arith in
    sym (take-append-drop n o)
    ∙ ap₂ ◌++◌ (take_tabulate (λ c. length (lines_at W (count ls) c)) o n l (λ c _. h.counts.count_is c))
    (drop_zeros o n l (λ p q. h.counts.count_is p ∙ beyond W (count ls) n (all_walks mode g ls f) p q))

module _ {mode : Mode} {g : Grid} {ls : Lines} {o s : List ℕ} {r : Result ℕ Refusal} {o₁ s₁ : List ℕ} (h : CountLent mode g ls o s r o₁ s₁) where
  -- what is known where nothing was refused
  counting_fine : (n : ℕ) → r ≡ Ok n → CountAs (counting_check mode g ls (length o) (length s)) (AllCounted mode g ls o₁) (Ok n)
  counting_fine n e = rw e at h.is

  counting_walkable : (n : ℕ) → r ≡ Ok n → Walkable g ls s
  unfolding counting_check
  counting_walkable n e = lent_walkable (and_then_left (on_grid_check g ls (length s)) (tried_check mode g ls (length o)) (counting_fine n e).0)

  pub count_done : (n : ℕ) {s₂ : List ℕ} {long : ℕ} → r ≡ Ok n → length o₁ ≡ length o → s₂ ≡ replicate long 0 → long ≡ length s
      → CountIs mode g ls o s r o₁ s₂ (count_of mode g ls (length o) (length s))
  unfolding count_of ◌then◌ answer_by left_in
  count_done n e a z b =
      let k = counting_fine n e in
      rw k.0
      (record {
        answer = e ∙ ap Ok k.1.found;
        counts_are = counts_are (counting_walkable n e).fits k.1.counted ∙ ap (counts_on mode g ls) a;
        scratch_is = z ∙ ap (λ (n : ℕ). replicate {A = ℕ} n 0) b;
      })

  counting_refused : (q : Refusal) → r ≡ Err q → counting_check mode g ls (length o) (length s) ≡ Err q
  counting_refused q e = rw e at h.is

  pub count_refused : (q : Refusal) {o₂ s₂ : List ℕ} → r ≡ Err q → o₂ ≡ left_by 0 q o₁ → s₂ ≡ left_by 0 q s₁ → CountIs mode g ls o s (Err q) o₂ s₂ (count_of mode g ls (length o) (length s))
  unfolding count_of ◌then◌ answer_by left_in
  count_refused q e x y =
      rw (counting_refused q e) (record { answer = refl; counts_are = x ∙ h.offsets q e; scratch_is = y ∙ h.scratch q e })

  -- ---- what is due, and the tables

  pub plan_asks : (n : ℕ) → r ≡ Ok n → length s₁ ≡ length s → FillAsks mode g ls n o₁ s₁
  unfolding counting_check tried_check
  plan_asks n e b =
      let k = counting_fine n e in
      record {
        walkable = walkable_again (counting_walkable n e) b;
        turns = and_then_right (room_check g (length o)) (turns_check mode g ls) (and_then_right (on_grid_check g ls (length s)) (tried_check mode g ls (length o)) k.0);
        all = k.1;
      }

  module _ (most items globals : ℕ) where
    abbrev due : Answer Filling
    due = filling_of mode g ls most (length o) items globals (length s)

    pub plan_refused : (q : Refusal) → r ≡ Err q → DueRefusal o s o₁ s₁ due q
    unfolding filling_of ◌then◌
    plan_refused q e = record { due = rw (counting_refused q e); offsets = h.offsets q e; scratch = h.scratch q e }

    module _ (n : ℕ) (e : r ≡ Ok n) (b : length s₁ ≡ length s) (m : ℕ) (d : m ≡ grid_cells g) {x : Bool} (u : x ≡ more_than most (λ c. get_or o₁ c 0) m) where
      pub plan_crowded : x ≡ true → due ≡ gives crowded
      unfolding filling_of ◌then◌
      plan_crowded y = rw ((counting_fine n e).0, sym (counts_above (plan_asks n e b) most m d) ∙ sym u ∙ y)

      plan_on : x ≡ false → due ≡ (space_check mode g ls items globals then gives made)
      unfolding filling_of ◌then◌
      plan_on y = rw ((counting_fine n e).0, sym (counts_above (plan_asks n e b) most m d) ∙ sym u ∙ y)

      module _ (y : x ≡ false) {o₂ : List ℕ} {all : ℕ} (k : Summed o₁ o₂ m all) (c : length o₂ ≡ length o₁) (a : length o₁ ≡ length o) where
        plan_total : all ≡ total mode g ls
        plan_total = sum_total (plan_asks n e b) (rw d at k)

        plan_short : (number value : ℕ) → 4 ≤ number → number ≤ 7 → space_check mode g ls items globals ≡ Err (refusal number value) → DueRefusal o s o₂ s₁ due (refusal number value)
        unfolding ◌then◌
        plan_short number value low high z =
            record {
              due = plan_on y ∙ rw z;
              offsets = left_alike 0 (refusal number value) o o₂ (numbers_clear number low high) (c ∙ a);
              scratch = left_alike 0 (refusal number value) s s₁ (numbers_clear number low high) b;
            }

        pub plan_five : items < all → DueRefusal o s o₂ s₁ due (refusal 5 all)
        plan_five l = plan_short 5 all (omega arith) (omega arith) (space_short mode g ls items globals all n plan_total (counting_fine n e).1.found l)

        pub plan_six : all ≤ items → globals < n → DueRefusal o s o₂ s₁ due (refusal 6 n)
        plan_six l q = plan_short 6 n (omega arith) (omega arith) (space_globals mode g ls items globals all n plan_total (counting_fine n e).1.found l q)

        pub plan_made : all ≤ items → n ≤ globals → (due ≡ gives made) × LayAsks mode g ls all n items globals o₂ s₁
        unfolding ◌then◌
        plan_made l q = (
          plan_on y ∙ rw (space_fine mode g ls items globals all n plan_total (counting_fine n e).1.found l q),
          record { counts = o₁; asks = plan_asks n e b; summed = rw d at k; same = c; space = l; listing = q },
        )

-- ---- the tables

pub fill_asks : {mode : Mode} {g : Grid} {ls : Lines} {items globals : ℕ} {o s o₁ s₁ : List ℕ} {f : Answer Filling} {w : Result Filled Refusal} → PlanIs mode g ls items globals o s o₁ s₁ f w → (all found : ℕ) → w ≡ Ok (filled.Tables all found)
    → LayAsks mode g ls all found items globals o₁ s₁
fill_asks p all found e = (rw e at p.by).1

module _ {mode : Mode} {g : Grid} {ls : Lines} {o t gs s o₁ s₁ : List ℕ} {f : Answer Filling} {w : Result Filled Refusal} (p : PlanIs mode g ls (length t) (length gs) o s o₁ s₁ f w) (a : length o₁ ≡ length o) (b : length s₁ ≡ length s) where
  pub fill_made : (all found : ℕ) {r : Result Filled Refusal} {o₂ t₂ gs₂ s₂ : List ℕ} → w ≡ Ok (filled.Tables all found) → FillIs mode g ls o₁ t gs s₁ r o₂ t₂ gs₂ s₂ (gives made) → FillIs mode g ls o t gs s r o₂ t₂ gs₂ s₂ f
  unfolding answer_by left_in written_in
  fill_made all found e k =
      rw (rw e at p.by).0
      (record {
        answer = k.answer;
        offsets_are = k.offsets_are ∙ ap (λ (n : ℕ). offsets_of (list_on mode g ls) (grid_cells g) n) a;
        items_are = k.items_are;
        globals_are = k.globals_are;
        scratch_is = k.scratch_is ∙ ap (λ (n : ℕ). replicate {A = ℕ} n 0) b;
      })

  -- where some cell is crowded, all is cleared
  pub fill_crowded : {o₂ t₂ gs₂ s₂ : List ℕ} → w ≡ Ok filled.Crowded → o₂ ≡ replicate (length o₁) 0 → t₂ ≡ replicate (length t) 0 → gs₂ ≡ replicate (length gs) 0 → s₂ ≡ replicate (length s₁) 0
      → FillIs mode g ls o t gs s w o₂ t₂ gs₂ s₂ f
  unfolding answer_by left_in written_in filled_of
  fill_crowded e x y z v =
      rw (rw e at p.by)
      (record {
        answer = e;
        offsets_are = x ∙ ap (λ (n : ℕ). replicate {A = ℕ} n 0) a;
        items_are = y;
        globals_are = z;
        scratch_is = v ∙ ap (λ (n : ℕ). replicate {A = ℕ} n 0) b;
      })

  -- a refusal leaves by its rule
  pub fill_refused : (q : Refusal) {o₂ t₂ gs₂ s₂ : List ℕ} → w ≡ Err q → o₂ ≡ left_by 0 q o₁ → t₂ ≡ left_by 0 q t → gs₂ ≡ left_by 0 q gs → s₂ ≡ left_by 0 q s₁
      → FillIs mode g ls o t gs s (Err q) o₂ t₂ gs₂ s₂ f
  unfolding answer_by left_in
  fill_refused q e x y z v =
      let k : DueRefusal o s o₁ s₁ f q = rw e at p.by in
      rw k.due
      (record {
        answer = refl;
        offsets_are = x ∙ k.offsets;
        items_are = y;
        globals_are = z;
        scratch_is = v ∙ k.scratch;
      })

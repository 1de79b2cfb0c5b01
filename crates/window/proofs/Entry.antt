-- The query case by case: its checks in their order, which lines are met, and the answer. Assumes nothing.
use Rattle.std.specs.Prelude.{Ok, Err}
use mathlib.Core.Path.{◌≡◌, refl, sym, ap, subst, ◌∙◌}
use mathlib.Core.Bool.{Bool, true, false, cond, ◌&&◌, ◌||◌}
use mathlib.Core.List.{List, []}
use Prim.Native.Nat.{ℕ, ◌≤◌, ◌<◌}
use native.Mathlib.Nat.{sub-zero}
use native.Mathlib.Omega.{arith}
use borrow.Author.Tests.{le-leb, lt-leb}
use lib.Dec.{eqb}
use lib.ListN.{length, get_or, replicate, length-replicate, get_or-replicate}
use Rattle.slices.specs.Slices.{cleared_from}
use Rattle.slices.specs.Lists.{elem, Below}
use Rattle.slices.proofs.Members.{below_elem, below_of}
use Rattle.refusals.specs.declared.Refusal.{Refusal}
use Rattle.refusals.specs.Refusals.{Check, refusal, unless, and_then, Answer, refused, gives, ◌then◌, answer_by, clears, left_in, zero_beyond}
use Rattle.refusals.proofs.Answers.{then_refused, then_fine, then_and_then}
use Rattle.refusals.proofs.Leaving.{left_zero, left_same, Clearing, clearing_unless, clearing_then, numbers_clear}
use Rattle.grid.specs.declared.Grid.{Grid}
use Rattle.grid.specs.declared.Box.{Box}
use Rattle.grid.specs.Boxes.{box_of, overlaps}
use Rattle.grid.specs.Domain.{Lines, count, segment_at, fit, lines_check, grid_check}
use Rattle.grid.proofs.Fine.{lines_fine, lines_counted, lines_spare, grid_spares}
use Rattle.refusals.proofs.Checks.{and_then_refused, and_then_fine, and_then_left, and_then_right, unless_fine}
use Rattle.tables.specs.Tables.{Tables, globals_of}
use Rattle.tables.specs.Fit.{TablesFit, tables_check, standing_check}
use Rattle.tables.proofs.Facts.{check_facts}
use Rattle.window.specs.Window.{in_order, listed, may_enter, those, lines_in, window_check, output_room_check, window_end, window_answer, WindowIs}
use Rattle.window.specs.Inside.{marked_with, LinesMarked, met, Wrote, WindowChecked}
use Rattle.window.proofs.Marking.{marked_length, marked_at}
use Rattle.window.proofs.Those.{those_same, those_none, written_length, cleared_beyond}

nothing_beyond : (n : ℕ) → zero_beyond {B = ℕ} 0 n [] ≡ replicate n 0
unfolding zero_beyond
nothing_beyond n = ap (λ (k : ℕ). replicate {A = ℕ} k 0) (sub-zero n)

-- ---- the checks

-- 3, 2, 1 of the lines, 1 of the window, 8, 10
abbrev pub checks : Lines → Grid → Tables → Box → Check
checks ls g t w = and_then (lines_check ls) (and_then (window_check w) (and_then (grid_check g) (tables_check t)))

module _ (ls : Lines) (g : Grid) (t : Tables) (w : Box) where
  pub lines_refused : (r : Refusal) → lines_check ls ≡ Err r → Err r ≡ checks ls g t w
  lines_refused r e = sym (and_then_refused _ _ r e)

  pub window_refused : (r : Refusal) → lines_check ls ≡ Ok tt → window_check w ≡ Err r → Err r ≡ checks ls g t w
  window_refused r f e = sym (and_then_fine _ _ f ∙ and_then_refused _ _ r e)

  -- 2 has passed with the lines: what is left of the tables' check is 8 and 10
  pub tables_checked : lines_check ls ≡ Ok tt → window_check w ≡ Ok tt → t.lines ≡ count ls → standing_check g t ≡ checks ls g t w
  unfolding standing_check
  tables_checked f h e = and_then_fine _ _ (rw e (lines_counted ls f)) ∙ sym (and_then_fine _ _ f ∙ and_then_fine _ _ h)

  pub checked : checks ls g t w ≡ Ok tt → WindowChecked ls g t
  unfolding grid_check
  checked e =
      let l = lines_fine ls (and_then_left _ _ e) in
      let r = and_then_right _ _ (and_then_right _ _ e) in
      record {
        alike = l.same;
        few = l.few;
        grid_fit = unless_fine (fit g) 8 0 (and_then_left _ _ r);
        tables_fit_lem = check_facts t (and_then_right _ _ r);
      }

  -- no check but 5 clears the output
  checks_spare : Clearing false (checks ls g t w)
  unfolding window_check tables_check clears
  checks_spare = clearing_then (lines_spare ls) (clearing_then (clearing_unless _ 1 0 refl) (clearing_then (grid_spares g) (clearing_unless _ 10 0 refl)))

  -- ---- the end, by the checks

  abbrev found : List ℕ
  found = lines_in ls g t w

  end_is : (room : ℕ) → window_end ls g t w room ≡ (checks ls g t w then output_room_check found room then gives found)
  unfolding window_end
  end_is room =
      sym (then_and_then _ _ _
      ∙ ap (λ (a : Answer (List ℕ)). lines_check ls then a) (then_and_then _ _ _
      ∙ ap (λ (a : Answer (List ℕ)). window_check w then a) (then_and_then _ _ _)))

  module _ (was : List ℕ) where
    pub refused_first : (r : Refusal) → checks ls g t w ≡ Err r → WindowIs ls g t w was (Err r) was
    unfolding window_answer answer_by left_in
    refused_first r e =
        let d = end_is (length was) ∙ then_refused _ _ r e in
        record { answer = rw d; left = rw d (sym (left_same 0 r was (checks_spare.says r e))) }

    module _ (f : checks ls g t w ≡ Ok tt) where
      past_checks : window_end ls g t w (length was) ≡ (output_room_check found (length was) then gives found)
      past_checks = end_is (length was) ∙ then_fine _ _ f

      with_room : length found ≤ length was → window_end ls g t w (length was) ≡ gives found
      unfolding output_room_check unless
      with_room l = past_checks ∙ then_fine _ _ (rw (le-leb (length found) (length was) l))

      without_room : length was < length found → window_end ls g t w (length was) ≡ refused (refusal 5 (length found))
      unfolding output_room_check unless
      without_room l = past_checks ∙ then_refused _ _ _ (rw (lt-leb (length found) (length was) l))

      pub none_in : found ≡ [] → (now : List ℕ) → now ≡ replicate {A = ℕ} (length was) 0 → WindowIs ls g t w was (Ok 0) now
      unfolding window_answer answer_by left_in zero_beyond
      none_in e now h =
          let n : length found ≡ 0 = rw e in
          let d = with_room (omega (arith, n)) in
          record { answer = rw d (ap Ok (sym n)); left = rw d (h ∙ sym (ap (zero_beyond 0 (length was)) e ∙ nothing_beyond (length was))) }

      module _ (n : ℕ) (mid : List ℕ) (h : Wrote found was n mid) where
        same_length : length mid ≡ length was
        same_length = ap (λ (xs : List ℕ). length xs) h.left ∙ written_length found was

        pub too_many : length mid < n → (now : List ℕ) → now ≡ replicate {A = ℕ} (length mid) 0 → WindowIs ls g t w was (Err (refusal 5 n)) now
        unfolding window_answer answer_by left_in
        too_many l now e =
            let m = same_length in
            let d = without_room (omega (arith, h.counted)) in
            record {
              answer = rw d (ap (λ (k : ℕ). Err (refusal 5 k)) h.counted);
              left = rw d (e ∙ ap (λ (k : ℕ). replicate {A = ℕ} k 0) m ∙ sym (left_zero 0 (refusal 5 (length found)) was (numbers_clear 5 (omega arith) (omega arith))));
            }

        pub all_in : n ≤ length mid → (now : List ℕ) → now ≡ cleared_from n mid → WindowIs ls g t w was (Ok n) now
        unfolding window_answer answer_by left_in
        all_in l now e =
            let m = same_length in
            let d = with_room (omega (arith, h.counted)) in
            record {
              answer = rw d (ap Ok h.counted);
              left = rw d (cleared_beyond found was mid now n h.counted h.left l e);
            }

-- ---- which lines are met

-- a window out of order matches nothing
pub out_of_order : (ls : Lines) (g : Grid) (t : Tables) (w : Box) → in_order w ≡ false → lines_in ls g t w ≡ []
unfolding lines_in may_enter
out_of_order ls g t w h = those_none (may_enter ls g t w) (count ls) (λ i. rw h)

one_or_none : (a b : Bool) → eqb (cond b 1 (cond a 1 0)) 1 ≡ (a || b)
one_or_none true true = refl
one_or_none true false = refl
one_or_none false true = refl
one_or_none false false = refl

-- marks of which none is set
pub record Fresh (marks : List ℕ) : Type 0 where
  pub len : length marks ≡ 65536
  pub none : (i : ℕ) → i < 65536 → get_or marks i 0 ≡ 0

pub fresh : Fresh (replicate {A = ℕ} 65536 0)
fresh = record { len = length-replicate {A = ℕ} 65536 0; none = λ i l. get_or-replicate 65536 i 0 0 l }

-- there is a mark for each line, so the global lines can be marked
pub fresh_few : (was : List ℕ) (n : ℕ) → Fresh was → n ≤ 65536 → n ≤ length was
fresh_few was n f l = omega (arith, f.len)

pub globals_below : (t : Tables) → TablesFit t → (n : ℕ) → t.lines ≤ n → Below n (globals_of t)
globals_below t f n l = below_of n (globals_of t) (λ v h. let u = below_elem t.lines v (globals_of t) f.globals.below h in omega arith)

module _ (ls : Lines) (g : Grid) (t : Tables) (w : Box) (few : count ls ≤ 65536) (was mid : List ℕ) (f : Fresh was) (e : mid ≡ marked_with (globals_of t) was) where
  mid_long : length mid ≡ 65536
  mid_long = ap (λ (xs : List ℕ). length xs) e ∙ marked_length (globals_of t) was ∙ f.len

  pub mid_enough : count ls ≤ length mid
  mid_enough = omega (arith, mid_long, few)

  module _ (marks : List ℕ) (m : LinesMarked (listed g t w) mid marks) where
    pub marks_enough : count ls ≤ length marks
    marks_enough = omega (arith, mid_long, m.len, few)

    mark_says : (i : ℕ) → i < count ls → get_or marks i 0 ≡ cond (listed g t w i) 1 (cond (elem i (globals_of t)) 1 0)
    mark_says i l =
        m.at i (omega (arith, mid_long, few))
        ∙ ap (cond (listed g t w i) 1)
        (ap (λ (xs : List ℕ). get_or xs i 0) e
        ∙ marked_at (globals_of t) was i (omega (arith, f.len, few))
        ∙ ap (cond (elem i (globals_of t)) 1) (f.none i (omega (arith, few))))

    met_is : in_order w ≡ true → (i : ℕ) → i < count ls → met ls w marks i ≡ may_enter ls g t w i
    unfolding met may_enter
    met_is order i l =
        rw order
        (ap (λ (b : Bool). overlaps (box_of (segment_at ls i)) w && b)
        (ap (λ (k : ℕ). eqb k 1) (mark_says i l) ∙ one_or_none (elem i (globals_of t)) (listed g t w i)))

    pub met_all : in_order w ≡ true → (out now : List ℕ) (r : ℕ) → Wrote (those (met ls w marks) (count ls)) out r now → Wrote (lines_in ls g t w) out r now
    unfolding lines_in
    met_all order out now r h = subst (λ (xs : List ℕ). Wrote xs out r now) (those_same (met ls w marks) (may_enter ls g t w) (count ls) (met_is order)) h

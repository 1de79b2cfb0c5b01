-- Members are found exactly in the bytes of a MultiLineString: `multi_sound` and `multi_complete`; and what the look at its fields comes to.
-- Assumes nothing.
use Rattle.std.specs.Prelude.{Ok, Err, Result}
use mathlib.Core.Path.{◌≡◌, refl, sym, ap, ◌∙◌, subst}
use mathlib.Core.Bool.{true}
use mathlib.Core.List.{List, [], ◌∷◌, ◌++◌, append_assoc}
use Prim.Native.Nat.{ℕ, zero, suc, ◌+◌, ◌*◌, ◌^◌, ◌≤◌, ◌<◌}
use native.Mathlib.Omega.{arith}
use lib.ListN.{length, take, drop, take-append-drop, drop_of_length-le}
use lib.Seq.{drop-drop}
use Rattle.refusals.specs.Refusals.{refusal, gives}
use Rattle.refusals.proofs.Checks.{and_then_refused, and_then_fine, and_then_left, and_then_right}
use Rattle.refusals.proofs.Answers.{then_passed, then_fine}
use Rattle.wkb.specs.Bytes.{order_byte, word_bytes, Point, Members, none, more, multi_head, MultiLineString}
use Rattle.wkb.specs.Reading.{field_check, order_at, count_at, line_at, end_at, head_check}
use Rattle.wkb.specs.Multi.{members_check, multi_check, chains_at, found_multi}
use Rattle.wkb.specs.Inside.{MembersAs, LookedAs}
use Rattle.wkb.specs.declared.Looked.{Looked}
use Rattle.wkb.proofs.Words.{Small, at_below}
use Rattle.wkb.proofs.Fields.{field_cut, field_right, field_passed, head_right, head_passed, line_right, line_passed, end_right, end_passed}
use Rattle.wkb.proofs.LineStrings.{none_left, gives_same, head_bytes, HeadStands, head_stands, line_there, line_stands}
use Rattle.wkb.proofs.Walks.{members_line, members_rest, length_chains}

-- ---- the look at the fields

module _ (bs : List ℕ) where
  pub multi_head_lem : (f : ℕ) → head_check 5 0 bs ≡ Err (refusal 11 f) → multi_check bs ≡ Err (refusal 11 f)
  unfolding multi_check
  multi_head_lem f h = and_then_refused _ _ _ h

  pub multi_cut : head_check 5 0 bs ≡ (Ok tt) → length bs < 9 → multi_check bs ≡ Err (refusal 11 (length bs))
  unfolding multi_check
  multi_cut h l = and_then_fine _ _ h ∙ and_then_refused _ _ _ (field_cut bs 5 9 true l)

  pub to_members : head_check 5 0 bs ≡ (Ok tt) → 9 ≤ length bs → multi_check bs ≡ members_check (count_at 0 bs) 9 bs
  unfolding multi_check
  to_members h l = and_then_fine _ _ h ∙ and_then_fine _ _ (field_right bs 5 9 true l refl)

  pub looked_members : (m : ℕ) (r : Result Looked ℕ) → MembersAs bs m r → m ≡ count_at 0 bs → multi_check bs ≡ members_check (count_at 0 bs) 9 bs → LookedAs bs r
  looked_members m (Ok l) h e s =
      record { fine = s ∙ ap (λ (i : ℕ). members_check i 9 bs) (sym e) ∙ h.1.fine; count = h.0 ∙ e; members = rw h.0 h.1 }
  looked_members m (Err f) h e s = s ∙ ap (λ (i : ℕ). members_check i 9 bs) (sym e) ∙ h

-- ---- the members

end_of : (at : ℕ) (bs : List ℕ) → at + (9 + 16 * count_at at bs) ≡ end_at at bs
unfolding end_at
end_of at bs = omega arith

pub members_sound : (m at : ℕ) (bs : List ℕ) → Small bs → members_check m at bs ≡ (Ok tt) → Members (drop at bs) (chains_at m at bs)
unfolding members_check chains_at
members_sound zero at bs s h =
    subst (λ (b : List ℕ). Members b []) (sym (drop_of_length-le bs (end_passed at bs h))) none
members_sound (suc m) at bs s h =
    let l = line_passed at bs (members_line m at bs h) in
    let k = 9 + 16 * count_at at bs in
    let e : drop k (drop at bs) ≡ drop (end_at at bs) bs = drop-drop k at bs ∙ ap (λ (i : ℕ). drop i bs) (end_of at bs) in
    let whole : take k (drop at bs) ++ drop (end_at at bs) bs ≡ drop at bs =
    ap (λ (r : List ℕ). take k (drop at bs) ++ r) (sym e) ∙ take-append-drop k (drop at bs) in
    subst (λ (b : List ℕ). Members b (line_at at bs ∷ chains_at m (end_at at bs) bs)) whole
    (more (line_there at bs s l) (members_sound m (end_at at bs) bs s (members_rest m at bs h)))

-- what is found in members whose bytes stand at a position
pub record Found (at : ℕ) (bs : List ℕ) (pss : List (List Point)) : Type 0 where
  pub fine : members_check (length pss) at bs ≡ Ok tt
  pub are : chains_at (length pss) at bs ≡ pss

pub members_complete : {rest : List ℕ} {pss : List (List Point)} → Members rest pss → (at : ℕ) (bs : List ℕ) → drop at bs ≡ rest → Found at bs pss
unfolding members_check chains_at
members_complete none at bs e = record { fine = end_right at bs (none_left at bs e); are = refl }
members_complete (more {rest = rest} l r) at bs e =
    let d = line_stands at bs rest l e in
    let f = members_complete r (end_at at bs) bs d.after in
    record { fine = and_then_fine _ _ (line_right d.fits) ∙ f.fine; are = rw (d.points, f.are) }

-- ---- the whole

count_below : (bs : List ℕ) → Small bs → 9 ≤ length bs → count_at 0 bs < 2 ^ 32
unfolding count_at
count_below bs s l = at_below (order_at 0 bs) 4 5 bs s (omega arith)

multi_there : (bs : List ℕ) → Small bs → bs ≡ order_byte (order_at 0 bs) ∷ (word_bytes (order_at 0 bs) 4 5 ++ (word_bytes (order_at 0 bs) 4 (count_at 0 bs) ++ drop 9 bs))
    → 9 ≤ length bs → Members (drop 9 bs) (chains_at (count_at 0 bs) 9 bs) → MultiLineString bs (chains_at (count_at 0 bs) 9 bs)
unfolding multi_head
multi_there bs s b l ms =
    let n : length (chains_at (count_at 0 bs) 9 bs) ≡ count_at 0 bs = length_chains bs (count_at 0 bs) 9 in
    record {
      order = order_at 0 bs;
      rest = drop 9 bs;
      bytes = b ∙ simp (n, append_assoc);
      most = rw n (count_below bs s l);
      members = ms;
    }

-- where members are found, the bytes are those of their MultiLineString
pub multi_sound : (bs : List ℕ) (pss : List (List Point)) → Small bs → found_multi bs ≡ gives pss → MultiLineString bs pss
unfolding found_multi multi_check
multi_sound bs pss s h =
    let m = count_at 0 bs in
    let a = then_passed (multi_check bs) _ h in
    let rest = and_then_right (head_check 5 0 bs) _ a.0 in
    let long : 9 ≤ length bs = (field_passed bs 5 9 true (and_then_left _ _ rest)).0 in
    let head = head_passed 5 0 bs (and_then_left _ _ a.0) in
    subst (MultiLineString bs) (gives_same a.1)
    (multi_there bs s (head_bytes 5 0 bs s head long) long (members_sound m 9 bs s (and_then_right (field_check bs 5 9 true) _ rest)))

-- in the bytes of a MultiLineString its members are found
pub multi_complete : (bs : List ℕ) (pss : List (List Point)) → MultiLineString bs pss → found_multi bs ≡ gives pss
unfolding found_multi multi_head
multi_complete bs pss l =
    let o = l.order in
    let h : HeadStands 5 0 (length pss) o bs l.rest =
    head_stands 5 0 (length pss) o bs l.rest (omega arith) (omega (arith, l.most)) (l.bytes ∙ simp append_assoc) in
    let f : Found 9 bs pss = members_complete l.members 9 bs h.after in
    then_fine _ _ (to_members bs (head_right h.fits) h.long ∙ rw h.count f.fine) ∙ rw (h.count, f.are)

-- What the readers find in the bytes of an input: a LineString with a head before it is a MultiLineString of one member; of so few bytes all
-- members have room in the buffers; and what is no MultiLineString is refused by 11. Assumes nothing.
use Rattle.std.specs.Prelude.{Ok, Err, Result}
use Rattle.refusals.specs.Refusals.{Check}
use mathlib.Core.Path.{◌≡◌, refl, sym, ap, ◌∙◌}
use mathlib.Core.Bool.{Bool, true, false}
use mathlib.Core.List.{List, [], ◌∷◌, ◌++◌, append-nil, map, flatten}
use Prim.Native.Nat.{ℕ, zero, suc, ◌+◌, ◌*◌, ◌≤◌}
use native.Mathlib.Omega.{arith}
use lib.Dec.{leb}
use lib.Ieee.{Float}
use lib.ListN.{length, take, length-append}
use lib.Seq.{take_at}
use borrow.Author.Tests.{le-leb}
use Rattle.refusals.specs.declared.Refusal.{Refusal}
use Rattle.refusals.specs.Refusals.{unless, and_then, Answer, refused, gives, ◌then◌, ◌into◌, answer_by, clears}
use Rattle.refusals.proofs.Answers.{then_passed}
use Rattle.refusals.proofs.Leaving.{Clearing, clearing_unless, clearing_then}
use Rattle.grid.specs.Domain.{count_check}
use Rattle.wkb.specs.declared.Order.TheVariants.{Little}
use Rattle.wkb.specs.Bytes.{Point, order_byte, little_bytes, word_bytes, LineString, Members, none, more, multi_head, MultiLineString}
use Rattle.wkb.specs.Reading.{field_check, end_at, head_check, line_check, end_check, count_at, found, slices_check, outcome, read_of, ReadAs}
use Rattle.wkb.specs.Multi.{starts_of, members_check, multi_check, chains_at, found_multi, pair_check, members_room_check, multi_outcome}
use Rattle.wkb.specs.Inside.{PutIn}
use Rattle.wkb.proofs.Words.{length_word}
use Rattle.wkb.proofs.Stores.{put_length, put_then}
use Rattle.wkb.proofs.Chains.{Some, length_starts}
use Rattle.wkb.proofs.MultiLineStrings.{multi_complete}
use Rattle.members.specs.Held.{all_lengths}
use Rattle.clean_bytes.specs.Printed.{chains_found}
use Rattle.clean_bytes.specs.Inside.{Widened}
use Rattle.clean_bytes.proofs.Sizes.{sized}

-- ---- a LineString

-- the head of one member, byte by byte
abbrev head : List ℕ
head = 1 ∷ 5 ∷ 0 ∷ 0 ∷ 0 ∷ 1 ∷ 0 ∷ 0 ∷ 0 ∷ []

head_is : multi_head Little 1 ≡ head
unfolding multi_head order_byte word_bytes little_bytes
head_is = refl

pub one_member : {bs : List ℕ} {ps : List Point} → LineString bs ps → MultiLineString (multi_head Little 1 ++ bs) (ps ∷ [])
one_member {bs} l = record {
  order = Little;
  rest = bs ++ [];
  bytes = ap (λ (r : List ℕ). multi_head Little 1 ++ r) (sym (append-nil bs));
  most = omega arith;
  members = more l none;
}

-- it was read
pub line_found : {bs : List ℕ} {x₀ y₀ x₁ y₁ : List Float} {r : Result ℕ Refusal} {n : ℕ} → ReadAs bs x₀ y₀ r x₁ y₁ → r ≡ Ok n → found_multi (multi_head Little 1 ++ bs) ≡ chains_found bs
unfolding read_of answer_by outcome chains_found
line_found {bs} {x₀} {y₀} {x₁} {y₁} {r} {n} a e = go (outcome (length x₀) (length y₀) bs) refl (sym e ∙ a.answer)
  where
    go : (o : Answer (List Point)) → outcome (length x₀) (length y₀) bs ≡ o → Ok n ≡ read_of o → found_multi (multi_head Little 1 ++ bs) ≡ chains_found bs
    go (refused q) h d = absurd (let z : ◌≡◌ {A = ℕ} 0 1 = cc in omega arith)
    go (gives ps) h d =
        let f : found bs ≡ gives ps = (then_passed (slices_check (length x₀) (length y₀)) (found bs) h).1 in
        multi_complete _ (ps ∷ []) (one_member (a.only ps f)) ∙ sym (ap (answer_by (λ (q : Refusal). found_multi bs) (λ (qs : List Point). gives (qs ∷ []))) f)

-- there is none
pub line_none : {bs : List ℕ} {x₀ y₀ x₁ y₁ : List Float} {r : Result ℕ Refusal} {q : Refusal} → ReadAs bs x₀ y₀ r x₁ y₁ → r ≡ Err q → length x₀ ≡ 1024 → length y₀ ≡ 1024 → found_multi bs ≡ chains_found bs
unfolding read_of answer_by outcome chains_found slices_check unless ◌then◌
line_none {bs} {x₀} {y₀} {x₁} {y₁} {r} {q} a e ex ey = go (found bs) refl
  where
    go : (f : Answer (List Point)) → found bs ≡ f → found_multi bs ≡ answer_by (λ s. found_multi bs) (λ ps. gives (ps ∷ [])) f
    go (refused s) h = refl
    go (gives ps) h =
        let d : Err q ≡ read_of (outcome 1024 1024 bs) = sym e ∙ rw (ex, ey) at a.answer in
        let g : Err q ≡ read_of (gives ps) = d ∙ ap read_of h in
        absurd (let z : ◌≡◌ {A = ℕ} 0 1 = cc in omega arith)

-- ---- what is put at the start of a slice

put_front : {xs s₀ s₁ : List ℕ} (n : ℕ) → PutIn 0 xs s₀ s₁ → length xs ≡ n → take n s₁ ≡ xs
put_front {xs} n p e = ap (take n) p.is ∙ take_at xs _ n e

pub widened_line : {bs s₀ s₁ s₂ : List ℕ} → found_multi (multi_head Little 1 ++ bs) ≡ chains_found bs → PutIn 0 head s₀ s₁ → PutIn 9 bs s₁ s₂
    → Widened bs (9 + length bs) s₂
widened_line {bs} {s₀} {s₁} {s₂} f p q =
    let all = put_then p q refl in
    let e = put_length all in
    let w = all.within in
    record {
      within = omega arith;
      few = omega arith;
      is = ap found_multi (put_front (9 + length bs) all (length-append head bs) ∙ ap (λ (h : List ℕ). h ++ bs) (sym head_is)) ∙ f;
    }

pub widened_same : {bs s₀ s₁ : List ℕ} → found_multi bs ≡ chains_found bs → PutIn 0 bs s₀ s₁ → Widened bs (length bs) s₁
widened_same {bs} f p =
    let e = put_length p in
    let w = p.within in
    record { within = omega arith; few = omega arith; is = ap found_multi (put_front (length bs) p refl) ∙ f }

-- ---- all members have room

members_some : {rest : List ℕ} {pss : List (List Point)} → Members rest pss → Some pss
members_some none = tt
members_some (more l r) = (l.some, members_some r)

pub few_lines : (pss : List (List Point)) → Some pss → length (flatten pss) ≤ 4096 → count_check (length (starts_of pss)) ≡ Ok tt
unfolding count_check unless
few_lines pss s h = let n = length_starts pss s in rw (le-leb (length (starts_of pss)) 65536 (omega arith))

-- members in so few bytes
pub record Few (pss : List (List Point)) : Type 0 where
  pub bytes : 9 + 9 * length pss + 16 * length (flatten pss) ≤ 65545
  pub each : all_lengths (map length pss) ≡ true
  pub some : length pss ≤ length (flatten pss)

pub few_of : {bs : List ℕ} {pss : List (List Point)} → MultiLineString bs pss → length bs ≤ 65545 → Few pss
unfolding multi_head
few_of {bs} {pss} l h =
    let s = sized l.members in
    let b = s.bytes in
    let n : length bs ≡ 9 + length l.rest = ap length l.bytes ∙ simp (length-append, length_word) in
    record { bytes = omega arith; each = s.each; some = s.some }

module _ {bs : List ℕ} (only : (pss : List (List Point)) → found_multi bs ≡ gives pss → MultiLineString bs pss) (h : length bs ≤ 65545) where
  pub all_read : multi_outcome 4096 4096 4096 bs ≡ found_multi bs
  unfolding multi_outcome pair_check members_room_check unless and_then ◌then◌ ◌into◌
  all_read = go (found_multi bs) refl
    where
      go : (f : Answer (List (List Point))) → found_multi bs ≡ f → multi_outcome 4096 4096 4096 bs ≡ f
      go (refused r) e = rw e
      go (gives pss) e =
          let l = only pss e in
          let k = few_of l h in
          let b = k.bytes in
          let s = k.some in
          rw (e, few_lines pss (members_some l.members) (omega arith), le-leb (length (flatten pss)) 4096 (omega arith), le-leb (length pss) 4096 (omega arith))

-- ---- the refusal is 11, which clears nothing

field_same : (bs : List ℕ) (start end : ℕ) (right : Bool) → Clearing false (field_check bs start end right)
unfolding field_check clears
field_same bs start end right = clearing_then (clearing_unless (leb end (length bs)) 11 (length bs) refl) (clearing_unless right 11 start refl)

head_same : (type at : ℕ) (bs : List ℕ) → Clearing false (head_check type at bs)
unfolding head_check
head_same type at bs = clearing_then (field_same _ _ _ _) (field_same _ _ _ _)

members_same : (m at : ℕ) (bs : List ℕ) → Clearing false (members_check m at bs)
unfolding members_check line_check end_check clears
members_same zero at bs = clearing_unless (leb (length bs) at) 11 at refl
members_same (suc m) at bs = clearing_then (clearing_then (head_same 2 at bs) (clearing_then (field_same _ _ _ _) (field_same _ _ _ _))) (members_same m (end_at at bs) bs)

pub none_clears : (bs : List ℕ) {r : Refusal} → found_multi bs ≡ refused r → clears r.number ≡ false
unfolding found_multi multi_check ◌then◌
none_clears bs {r} e = go (multi_check bs) (clearing_then (head_same 5 0 bs) (clearing_then (field_same _ _ _ _) (members_same (count_at 0 bs) 9 bs))) e
  where
    go : (c : Check) → Clearing false c → (c then gives (chains_at (count_at 0 bs) 9 bs)) ≡ refused r → clears r.number ≡ false
    go (Ok _) k d = absurd (let z : ◌≡◌ {A = ℕ} 0 1 = cc in omega arith)
    go (Err s) k d = let z : Err s ≡ Err r = cc in k.says r z

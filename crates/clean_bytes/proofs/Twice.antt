-- Cleaning the file that was written (document 02, 10: "Cleaning cleaned data changes nothing"), over bytes. Assumes nothing.
--   file-accepted   of every input that is accepted, the file is accepted too, and its members are the kept ones
--   cleaned-twice   nothing is printed of it, and its own file is the same, byte for byte
--   same-file       the same from the promises of two calls alone
use Rattle.std.specs.Prelude.{Ok}
use mathlib.Core.Path.{◌≡◌, refl, sym, ap, ◌∙◌, subst}
use mathlib.Core.Bool.{Bool, true, false, cond}
use mathlib.Core.List.{List, [], ◌∷◌, ◌++◌, append_assoc, append-nil, map, flatten, flat_map}
use Prim.Native.Nat.{ℕ, zero, suc, ◌+◌, ◌-◌, ◌*◌, ◌≤◌}
use native.Mathlib.Omega.{arith}
use lib.Dec.{leb}
use lib.ListN.{length, take, replicate, length-append}
use lib.Seq.{take-nil}
use borrow.Author.Tests.{le-leb, leb-true}
use Rattle.refusals.specs.declared.Refusal.{Refusal}
use Rattle.refusals.specs.Refusals.{unless, and_then, Answer, refused, gives, answer_by, left_in}
use Rattle.refusals.proofs.Answers.{then_fine, then_passed}
use Rattle.refusals.proofs.Checks.{unless_fine, and_then_right}
use Rattle.report.specs.Pages.{Prints}
use Rattle.wkb.specs.declared.Order.TheVariants.{Little}
use Rattle.wkb.specs.Bytes.{Point, Patterns, LineString, Members, none, more, multi_head, MultiLineString, multi_bytes}
use Rattle.wkb.specs.Reading.{found, line_check}
use Rattle.wkb.specs.Multi.{found_multi}
use Rattle.wkb.proofs.Words.{Small, length_word}
use Rattle.wkb.proofs.Fields.{line_passed}
use Rattle.wkb.proofs.LineStrings.{length_line, head_stands, sound, gives_same}
use Rattle.wkb.proofs.MultiLineStrings.{multi_sound, multi_complete}
use Rattle.members.proofs.Held.{Fits, chains_fit, chains_back, sum_back}
use Rattle.members.proofs.Putting.{length_multi, multi_is}
use Rattle.members.proofs.RoundTrips.{start}
use Rattle.clean.specs.Cleaning.{cleaned, kept, kept_values, member_reasons, reasons}
use Rattle.clean.proofs.Rules.{kept_are, AllClean, Clean, cleaned_clean, clean_same, cleaned_again}
use Rattle.clean_bytes.specs.declared.Ends.{Ends}
use Rattle.clean_bytes.specs.Printed.{chains_found, sizes_check, chains_in, dropped_if, member_text, text_from, text_of, file_of, file_left, CleansAs}
use Rattle.clean_bytes.proofs.Sizes.{sized, cleaned_size}
use Rattle.clean_bytes.proofs.Reading.{few_of, one_member}
use Rattle.clean_bytes.proofs.Keeping.{kept_few}

-- ---- bit patterns

patterns_append : (ps qs : List Point) → Patterns ps → Patterns qs → Patterns (ps ++ qs)
patterns_append [] qs h k = k
patterns_append (p ∷ ps) qs h k = (h.0, h.1, patterns_append ps qs h.2 k)

-- of members that were read
members_patterns : {rest : List ℕ} {pss : List (List Point)} → Members rest pss → Patterns (flatten pss)
unfolding flatten
members_patterns none = tt
members_patterns (more {bs} {rest} {ps} {pss} l r) = patterns_append ps (flatten pss) l.patterns (members_patterns r)

-- of some of them
kept_patterns : (rs : List ℕ) (ps : List Point) → Patterns ps → Patterns (kept_values rs ps)
unfolding kept_values
kept_patterns [] ps h = tt
kept_patterns (r ∷ rs) [] h = tt
kept_patterns (r ∷ rs) (p ∷ ps) h = go (leb r kept) (kept_patterns rs ps h.2)
  where
    go : (b : Bool) → Patterns (kept_values rs ps) → Patterns (cond b (p ∷ kept_values rs ps) (kept_values rs ps))
    go true k = (h.0, h.1, k)
    go false k = k

-- ---- what is accepted

multi_size : {bs : List ℕ} {pss : List (List Point)} → MultiLineString bs pss → length bs ≡ 9 + 9 * length pss + 16 * length (flatten pss)
unfolding multi_head
multi_size {bs} {pss} l =
    let s = (sized l.members).bytes in
    let n : length bs ≡ 9 + length l.rest = ap length l.bytes ∙ simp (length-append, length_word) in
    omega arith

-- members that stand in 65,536 bytes as a MultiLineString
pub record Accepted (pss : List (List Point)) : Type 0 where
  pub bytes : List ℕ
  pub is : MultiLineString bytes pss
  pub few : length bytes ≤ 65536

-- a LineString has at most 1,024 points: with a head before it, it has 16,402 bytes
line_accepted : {bs : List ℕ} {ps : List Point} → LineString bs ps → Accepted (ps ∷ [])
unfolding multi_head
line_accepted {bs} {ps} l =
    let n : length bs ≡ 9 + 16 * length ps = ap length l.bytes ∙ length_line l.order ps in
    let m = l.most in
    let k : length (multi_head Little 1 ++ bs) ≡ 9 + length bs = simp (length-append, length_word) in
    record { bytes = multi_head Little 1 ++ bs; is = one_member l; few = omega arith }

pub accepted : (bs : List ℕ) (pss : List (List Point)) → Small bs → length bs ≤ 65536 → chains_found bs ≡ gives pss → Accepted pss
unfolding chains_found answer_by
accepted bs pss s h e = go (found bs) refl e
  where
    go : (f : Answer (List Point)) → found bs ≡ f → answer_by (λ (r : Refusal). found_multi bs) (λ (ps : List Point). gives (ps ∷ [])) f ≡ gives pss → Accepted pss
    go (refused r) g d = record { bytes = bs; is = multi_sound bs pss s d; few = h }
    go (gives ps) g d = subst Accepted (gives_same d) (line_accepted (sound bs ps s g))

-- what is kept of it is written in no more bytes
module _ {pss : List (List Point)} (a : Accepted pss) where
  pub file_few : length (multi_bytes (cleaned pss)) ≤ 65536
  file_few =
      let n = length_multi (cleaned pss) in
      let m = multi_size a.is in
      let c = cleaned_size pss in
      let f = a.few in
      omega arith

  file_fits : Fits (cleaned pss)
  file_fits =
      let f = a.few in
      let k = kept_few pss (few_of a.is (omega arith)) in
      let p : Patterns (flatten (cleaned pss)) = subst Patterns (kept_are pss) (kept_patterns (reasons pss) (flatten pss) (members_patterns a.is.members)) in
      subst Fits (chains_back (cleaned pss)) (chains_fit (map length (cleaned pss)) (flatten (cleaned pss)) k.each (sum_back (cleaned pss)) p)

  -- and it is a MultiLineString
  pub file_is : MultiLineString (multi_bytes (cleaned pss)) (cleaned pss)
  file_is =
      let n = length_multi (cleaned pss) in
      let m = file_few in
      multi_is (cleaned pss) file_fits (omega arith)

-- ---- which is no LineString: its type is 5

no_line : {bs : List ℕ} {pss : List (List Point)} {ps : List Point} → MultiLineString bs pss → found bs ≡ gives ps → ⊥
unfolding found multi_head
no_line {bs} {pss} l e =
    let two = (line_passed 0 bs (then_passed (line_check 0 bs) _ e).0).head.is in
    let five = (head_stands 5 0 (length pss) l.order bs l.rest (omega arith) (omega (arith, l.most)) (l.bytes ∙ simp append_assoc)).fits.is in
    omega arith

pub multi_found : {bs : List ℕ} {pss : List (List Point)} → MultiLineString bs pss → chains_found bs ≡ gives pss
unfolding chains_found answer_by
multi_found {bs} {pss} l = go (found bs) refl
  where
    go : (f : Answer (List Point)) → found bs ≡ f → answer_by (λ (r : Refusal). found_multi bs) (λ (ps : List Point). gives (ps ∷ [])) f ≡ gives pss
    go (refused r) e = multi_complete bs pss l
    go (gives ps) e = absurd (no_line l e)

-- ---- the sizes

sizes_fine : (room n : ℕ) → 65545 ≤ room → n ≤ 65536 → sizes_check room n ≡ Ok tt
unfolding sizes_check unless and_then
sizes_fine room n h k = rw (le-leb 65545 room h, le-leb n 65536 k)

-- 65,536 bytes at most were read
sizes_few : (room n : ℕ) → sizes_check room n ≡ (Ok tt) → n ≤ 65536
unfolding sizes_check
sizes_few room n e = leb-true n 65536 (unless_fine _ _ _ (and_then_right (unless (leb 65545 room) 3 0) _ e))

-- OF EVERY INPUT THAT IS ACCEPTED, the file is accepted too, and the members in it are the kept ones
pub file_accepted : (room : ℕ) (bs : List ℕ) (pss : List (List Point)) → Small bs → chains_in room bs ≡ gives pss
    → (next : ℕ) → 65545 ≤ next → chains_in next (multi_bytes (cleaned pss)) ≡ gives (cleaned pss)
unfolding chains_in
file_accepted room bs pss s e next h =
    let p = then_passed (sizes_check room (length bs)) (chains_found bs) e in
    let a = accepted bs pss s (sizes_few room (length bs) p.0) p.1 in
    then_fine _ _ (sizes_fine next (length (multi_bytes (cleaned pss))) h (file_few a)) ∙ multi_found (file_is a)

-- ---- nothing is printed of it

member_none : (m i n : ℕ) → member_text m i (replicate {A = ℕ} n kept) ≡ []
unfolding member_text dropped_if
member_none m i zero = refl
member_none m i (suc n) = member_none m (suc i) n

clean_reasons : {ps : List Point} → Clean ps → member_reasons ps ≡ replicate (length ps) kept
unfolding reasons flat_map flatten
clean_reasons {ps} c = sym (append-nil (member_reasons ps)) ∙ (clean_same (ps ∷ []) (c, tt)).1 ∙ ap (λ (l : List Point). replicate {A = ℕ} (length l) kept) (append-nil ps)

text_none : (m : ℕ) (pss : List (List Point)) → AllClean pss → text_from m (map member_reasons pss) ≡ []
unfolding text_from
text_none m [] h = refl
text_none m (ps ∷ pss) h = rw (clean_reasons h.0, member_none m 0 (length ps), text_none (suc m) pss h.1)

-- THE FILE OF WHAT WAS KEPT, cleaned again: nothing is printed, and its file is the same
pub cleaned_twice : (room : ℕ) (bs : List ℕ) (pss : List (List Point)) → Small bs → chains_in room bs ≡ gives pss → (next : ℕ) → 65545 ≤ next
    → (text_of (chains_in next (file_of (chains_in room bs))) ≡ []) × (file_of (chains_in next (file_of (chains_in room bs))) ≡ file_of (chains_in room bs))
unfolding text_of file_of answer_by
cleaned_twice room bs pss s e next h =
    let again : chains_in next (file_of (chains_in room bs)) ≡ gives (cleaned pss) = ap (λ (a : Answer (List (List Point))). chains_in next (file_of a)) e ∙ file_accepted room bs pss s e next h in
    (ap text_of again ∙ text_none 0 (cleaned pss) (cleaned_clean pss), ap file_of again ∙ ap multi_bytes (cleaned_again pss).0 ∙ sym (ap file_of e))

-- ---- of two calls

-- the bytes of the file stand at the start of its slice
file_stands : {a : Answer (List (List Point))} {f t f₁ t₁ : List ℕ} {r : Ends} → CleansAs a f t r f₁ t₁ → take r.bytes f₁ ≡ file_of a
unfolding file_of file_left answer_by left_in
file_stands {a} {f} {t} {f₁} {t₁} {r} c = go a c.bytes c.file
  where
    go : (o : Answer (List (List Point))) → r.bytes ≡ length (file_of o) → f₁ ≡ file_left o f → take r.bytes f₁ ≡ file_of o
    go (refused q) b e = rw b
    go (gives pss) b e = ap (take r.bytes) e ∙ start (multi_bytes (cleaned pss)) r.bytes (length f) (sym b)

-- no text: its end is 0, and the buffer is zero throughout
none_printed : {text out out' : List ℕ} {r : ℕ} → text ≡ [] → Prints text out out' r → (r ≡ 0) × (out' ≡ replicate (length out) 0)
none_printed {text} {out} {out'} {r} e p =
    let n : take (length out) text ≡ [] = ap (take (length out)) e ∙ take-nil (length out) in
    let k : r ≡ 0 = p.end ∙ ap length n in
    let same : length out - r ≡ length out = omega arith in
    (k, p.is ∙ rw (n, same))

none_written : (q : Refusal) (n : ℕ) → n ≡ length (file_of (refused q)) → 1 ≤ n → ⊥
unfolding file_of answer_by
none_written q n e h = omega arith

-- CLEANING THE FILE THAT A CALL WROTE, BY ANOTHER: it writes the same bytes and no text. (A file of 0 bytes is none: the input was refused.)
pub same_file : (bs : List ℕ) {f t f₁ t₁ g u g₁ u₁ : List ℕ} {r s : Ends} → Small bs → CleansAs (chains_in (length f) bs) f t r f₁ t₁ → 1 ≤ r.bytes
    → 65545 ≤ length g → CleansAs (chains_in (length g) (take r.bytes f₁)) g u s g₁ u₁
    → (s.bytes ≡ r.bytes) × (take s.bytes g₁ ≡ take r.bytes f₁) × (s.text ≡ 0) × (u₁ ≡ replicate (length u) 0)
same_file bs {f} {t} {f₁} {t₁} {g} {u} {g₁} {u₁} {r} {s} small c some room d = go (chains_in (length f) bs) refl c.bytes
  where
    go : (a : Answer (List (List Point))) → chains_in (length f) bs ≡ a → r.bytes ≡ length (file_of (chains_in (length f) bs))
        → (s.bytes ≡ r.bytes) × (take s.bytes g₁ ≡ take r.bytes f₁) × (s.text ≡ 0) × (u₁ ≡ replicate (length u) 0)
    go (refused q) e n = absurd (none_written q r.bytes (n ∙ ap (λ (a : Answer (List (List Point))). length (file_of a)) e) some)
    go (gives pss) e n =
        let first = file_stands c in
        let twice = cleaned_twice (length f) bs pss small e (length g) room in
        let second = d.bytes in
        let same : file_of (chains_in (length g) (take r.bytes f₁)) ≡ take r.bytes f₁ =
        ap (λ (l : List ℕ). file_of (chains_in (length g) l)) first ∙ twice.1 ∙ sym first in
        let text : text_of (chains_in (length g) (take r.bytes f₁)) ≡ [] = ap (λ (l : List ℕ). text_of (chains_in (length g) l)) first ∙ twice.0 in
        let p = none_printed text d.text in
        (d.bytes ∙ ap length (same ∙ first) ∙ sym n, file_stands d ∙ same, p.0, p.1)

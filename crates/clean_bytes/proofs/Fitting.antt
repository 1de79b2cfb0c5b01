-- How long a text can be: 201,000 bytes hold every one, for at most 4,096 points have a line. What is used of the buffers is within them, and the promise
-- settles it. Assumes nothing.
use mathlib.Core.Path.{◌≡◌, refl, sym, ◌∙◌}
use mathlib.Core.List.{List, [], ◌∷◌, map, flatten}
use Prim.Native.Nat.{ℕ, zero, suc, ◌*◌, ◌≤◌}
use native.Mathlib.Omega.{arith}
use lib.ListN.{length, length-append, length-take}
use Rattle.refusals.specs.Refusals.{Answer, refused, gives, answer_by, left_in}
use Rattle.report.proofs.Outcomes.{one_print}
use Rattle.report.proofs.Written.{prints_within}
use Rattle.report.proofs.Sizes.{refused_size, dropped_size}
use Rattle.wkb.specs.Bytes.{Point, multi_bytes}
use Rattle.clean.specs.Cleaning.{cleaned, member_reasons}
use Rattle.clean.proofs.Rules.{length_member}
use Rattle.clean_bytes.specs.declared.Ends.{Ends}
use Rattle.clean_bytes.specs.Printed.{dropped_if, member_text, text_from, text_of, file_of, file_left, CleansAs}
use Rattle.clean_bytes.proofs.Loading.{within}

if_size : (m i r : ℕ) → length (dropped_if m i r) ≤ 49
unfolding dropped_if
if_size m i zero = omega arith
if_size m i (suc r) = dropped_size m i (suc r)

member_size : (m i : ℕ) (rs : List ℕ) → length (member_text m i rs) ≤ 49 * length rs
unfolding member_text
member_size m i [] = omega arith
member_size m i (r ∷ rs) =
    let a = if_size m i r in
    let b = member_size m (suc i) rs in
    simp length-append (omega arith)

text_size : (m : ℕ) (pss : List (List Point)) → length (text_from m (map member_reasons pss)) ≤ 49 * length (flatten pss)
unfolding text_from flatten
text_size m [] = omega arith
text_size m (ps ∷ pss) =
    let a = member_size m 0 (member_reasons ps) in
    let b = text_size (suc m) pss in
    let n = length_member ps in
    simp length-append (omega arith)

-- every text has room, where the members found have at most 4,096 points
pub text_fits : (a : Answer (List (List Point))) → ((pss : List (List Point)) → a ≡ gives pss → length (flatten pss) ≤ 4096) → length (text_of a) ≤ 201000
unfolding text_of answer_by
text_fits (refused r) h = let s = refused_size r.number in omega arith
text_fits (gives pss) h = let s = text_size 0 pss in let k = h pss refl in omega arith

-- ---- the parts of the buffers that are used

pub bytes_within : {a : Answer (List (List Point))} {f t f₁ t₁ : List ℕ} {r : Ends} → CleansAs a f t r f₁ t₁ → r.bytes ≤ length f₁
unfolding file_of file_left answer_by left_in
bytes_within {a} {f} {t} {f₁} {t₁} {r} c = go a c.bytes c.file
  where
    go : (o : Answer (List (List Point))) → r.bytes ≡ length (file_of o) → f₁ ≡ file_left o f → r.bytes ≤ length f₁
    go (refused q) b e = omega arith
    go (gives pss) b e = within (multi_bytes (cleaned pss)) (length f) r.bytes e b

pub text_within : {a : Answer (List (List Point))} {f t f₁ t₁ : List ℕ} {r : Ends} → CleansAs a f t r f₁ t₁ → r.text ≤ length t₁
text_within {a} {f} {t} {f₁} {t₁} {r} c =
    let k = prints_within c.text in
    let l = length-take r.text t₁ in
    omega arith

-- ---- the promise settles the ends and both slices

pub one_outcome : {a : Answer (List (List Point))} {f t f₁ t₁ f₂ t₂ : List ℕ} {r s : Ends} → CleansAs a f t r f₁ t₁ → CleansAs a f t s f₂ t₂
    → (r.bytes ≡ s.bytes) × (f₁ ≡ f₂) × (t₁ ≡ t₂) × (r.text ≡ s.text)
one_outcome c d =
    let p = one_print c.text d.text in
    (c.bytes ∙ sym d.bytes, c.file ∙ sym d.file, p.1, p.0)

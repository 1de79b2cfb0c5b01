-- What a look at the fields promises, where a reader hands its fault on as refusal 11: by what the reader goes on with. Assumes nothing.
use Rattle.std.specs.Prelude.{Ok, Err, Result, MatchResult, IsErrAnd}
use mathlib.Core.Path.{◌≡◌, sym, subst}
use mathlib.Core.List.{List}
use Prim.Native.Nat.{ℕ}
use Rattle.refusals.specs.declared.Refusal.{Refusal}
use Rattle.refusals.specs.Refusals.{refusal}
use Rattle.wkb.specs.Reading.{line_check}
use Rattle.wkb.specs.Multi.{multi_check}
use Rattle.wkb.specs.Inside.{LineAt, CheckedAs, MultiAt, LookedAs}
use Rattle.wkb.specs.declared.Checked.{Checked}
use Rattle.wkb.specs.declared.Looked.{Looked}

-- s is r, with a fault made refusal 11
abbrev pub Handed : {T : Type 0} → Result T ℕ → Result T Refusal → Type 0
Handed r s = MatchResult r (λ x. s ≡ Ok x) (λ f. IsErrAnd s (λ d. d ≡ refusal 11 f))

same_ok : {T : Type 0} {x y : T} → ◌≡◌ {A = Result T Refusal} (Ok x) (Ok y) → x ≡ y
same_ok e = cc

not_ok : {T : Type 0} {d : Refusal} {x : T} → ◌≡◌ {A = Result T Refusal} (Err d) (Ok x) → ⊥
not_ok e = cc

pub lined : {bs : List ℕ} {at : ℕ} (r : Result Checked ℕ) {l : Checked} → CheckedAs bs at r → Handed r (Ok l) → LineAt bs at l.order l.count
lined {bs} {at} (Ok k) h e = subst (λ (l : Checked). LineAt bs at l.order l.count) (sym (same_ok e)) h
lined (Err f) h e = absurd e

pub line_faulted : (bs : List ℕ) (at : ℕ) (r : Result Checked ℕ) {d : Refusal} → CheckedAs bs at r → Handed r (Err d) → (f : ℕ) × (d ≡ refusal 11 f) × (line_check at bs ≡ Err (refusal 11 f))
line_faulted bs at (Ok k) h e = absurd (not_ok e)
line_faulted bs at (Err f) h e = (f, e, h)

pub whole : {bs : List ℕ} (r : Result Looked ℕ) {l : Looked} → LookedAs bs r → Handed r (Ok l) → MultiAt bs l.members l.points
whole {bs} (Ok k) h e = subst (λ (l : Looked). MultiAt bs l.members l.points) (sym (same_ok e)) h
whole (Err f) h e = absurd e

pub multi_faulted : (bs : List ℕ) (r : Result Looked ℕ) {d : Refusal} → LookedAs bs r → Handed r (Err d) → (f : ℕ) × (d ≡ refusal 11 f) × (multi_check bs ≡ Err (refusal 11 f))
multi_faulted bs (Ok k) h e = absurd (not_ok e)
multi_faulted bs (Err f) h e = (f, e, h)

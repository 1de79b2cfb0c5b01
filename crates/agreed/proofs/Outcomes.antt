-- Any two tallies that the promise of `agreeing` admits are identical, and any two places that the promise of `agree_to` admits. Assumes nothing.
use Prim.Native.Nat.{ℕ, ◌+◌}
use mathlib.Core.Path.{◌≡◌, refl, sym, ap, ◌∙◌}
use mathlib.Core.List.{List, [], ◌∷◌}
use lib.ListN.{length}
use Rattle.records.specs.Files.{Record, word_total}
use Rattle.agreed.specs.Agreed.{Agreeing, none, more, other, Tallied, AgreeTo, end, apart, past}
use Rattle.agreed.specs.declared.Tally.{Tally}

-- of records there is one choice of those that agree
one_choice : {k : ℕ} {rs gs hs : List Record} → Agreeing k rs gs → Agreeing k rs hs → gs ≡ hs
one_choice none none = refl
one_choice (more {r = r} a g) (more b h) = ap (λ (l : List Record). r ∷ l) (one_choice g h)
one_choice (more a g) (other b h) = absurd (b a)
one_choice (other a g) (more b h) = absurd (a b)
one_choice (other a g) (other b h) = one_choice g h

pub one_outcome : {k : ℕ} {w : List ℕ} {t u : Tally} → Tallied k w t → Tallied k w u → (t.records ≡ u.records) × (t.words ≡ u.words)
one_outcome h k =
    let e = one_choice h.are k.are in
    (h.records ∙ ap length e ∙ sym k.records, h.words ∙ ap word_total e ∙ sym k.words)

pub one_place : {rs : List Record} {m n : ℕ} → AgreeTo rs m → AgreeTo rs n → m ≡ n
one_place end end = refl
one_place (apart a) (apart b) = refl
one_place (apart a) (past b h) = absurd (a b)
one_place (past a g) (apart b) = absurd (b a)
one_place (past {r = r} a g) (past b h) = ap (λ (n : ℕ). word_total (r ∷ []) + n) (one_place g h)

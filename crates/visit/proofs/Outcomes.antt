-- Any two outcomes that the promise of `batch`, or of `batch_with_places`, admits are identical; and the two are one batch. Assumes nothing.
use Rattle.std.specs.Prelude.{Ok, Result}
use Rattle.refusals.specs.declared.Refusal.{Refusal}
use Rattle.visit.specs.declared.Tally.{Tally}
use mathlib.Core.Path.{◌≡◌, sym, ◌∙◌}
use mathlib.Core.List.{List}
use Prim.Native.Nat.{ℕ}
use Rattle.grid.specs.declared.Grid.{Grid}
use Rattle.grid.specs.Domain.{Lines}
use Rattle.tables.specs.Tables.{Tables}
use Rattle.refusals.proofs.Answers.{then_fine}
use Rattle.visit.specs.Entries.{BatchIs, batch_answer, batch_tests, places_check, placed_tests, PlacedBatchIs}

pub one_outcome : {ls : Lines} {g : Grid} {t : Tables} {b : ℕ} {first second first' first₁ second' second₁ : List ℕ} {r r₁ : (Result Tally Refusal)}
    → BatchIs ls g t b first second first' second' r → BatchIs ls g t b first second first₁ second₁ r₁
    → (r ≡ r₁) × (first' ≡ first₁) × (second' ≡ second₁)
one_outcome h k = (h.answers ∙ sym k.answers, h.first_is ∙ sym k.first_is, h.second_is ∙ sym k.second_is)

pub one_outcome_with_places : {ls : Lines} {g : Grid} {t : Tables} {b : ℕ} {first second places first' first₁ second' second₁ places' places₁ : List ℕ} {r r₁ : (Result Tally Refusal)}
    → PlacedBatchIs ls g t b first second places first' second' places' r → PlacedBatchIs ls g t b first second places first₁ second₁ places₁ r₁
    → (r ≡ r₁) × (first' ≡ first₁) × (second' ≡ second₁) × (places' ≡ places₁)
one_outcome_with_places h k =
    (h.answers ∙ sym k.answers, h.first_is ∙ sym k.first_is, h.second_is ∙ sym k.second_is, h.places_are ∙ sym k.places_are)

-- where the places' slice has the outputs' length, all but the places is what `batch` leaves
pub as_a_batch : {ls : Lines} {g : Grid} {t : Tables} {b : ℕ} {first second places first' second' places' : List ℕ} {r : (Result Tally Refusal)}
    → places_check first places ≡ (Ok tt) → PlacedBatchIs ls g t b first second places first' second' places' r → BatchIs ls g t b first second first' second' r
unfolding placed_tests batch_answer
as_a_batch {ls} {g} {t} {b} {first} {second} {places} e h =
    let x : batch_tests ls g t b first second ≡ placed_tests ls g t b first second places = sym (then_fine _ _ e) in
    record { answers = rw x h.answers; first_is = rw x h.first_is; second_is = rw x h.second_is }

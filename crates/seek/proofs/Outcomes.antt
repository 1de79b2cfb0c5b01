-- Any two answers that the promise of `find` admits are identical. Assumes nothing.
use Rattle.std.specs.Prelude.{Ok, Err, Result}
use mathlib.Core.Path.{◌≡◌, sym, ap, ◌∙◌}
use Prim.Native.Nat.{ℕ}
use native.Mathlib.Omega.{arith}
use Rattle.refusals.specs.declared.Refusal.{Refusal}
use Rattle.grid.specs.declared.Grid.{Grid}
use Rattle.grid.specs.Domain.{Lines}
use Rattle.tables.specs.Tables.{Tables}
use Rattle.seek.specs.declared.Cursor.{Cursor}
use Rattle.seek.specs.Bookmarks.{from_check}
use Rattle.seek.specs.Cursors.{CursorIs, FindIs}
use Rattle.seek.proofs.FindLaws.{from_fine}

module _ (ls : Lines) (g : Grid) (t : Tables) (b : ℕ) where
  either : (c : Cursor) (r : Refusal) → CursorIs ls g t b c → from_check ls g t b ≡ Err r → ⊥
  either c r h k =
      let e : (Ok tt) ≡ Err r = sym (from_fine ls g t b c h) ∙ k in
      let z : ◌≡◌ {A = ℕ} 0 1 = cc in
      omega arith

  pub one_cursor : (r r₁ : (Result Cursor Refusal)) → FindIs ls g t b r → FindIs ls g t b r₁ → r ≡ r₁
  one_cursor (Ok c) (Ok c₁) h k = ap Ok (h.at_first ∙ sym k.at_first)
  one_cursor (Ok c) (Err r) h k = absurd (either c r h k)
  one_cursor (Err r) (Ok c) h k = absurd (either c r k h)
  one_cursor (Err r) (Err r₁) h k = cc

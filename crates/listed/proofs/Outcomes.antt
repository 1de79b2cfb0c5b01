-- Any two answers that the promises of `next_cell` and of `cell_at` admit are the same. Assumes nothing.
use Rattle.std.specs.Prelude.{Some, None, Option}
use mathlib.Core.Path.{◌≡◌, refl, sym, ap, ◌∙◌}
use mathlib.Core.List.{List, [], ◌∷◌, ◌++◌}
use Prim.Native.Nat.{ℕ, suc, ◌+◌, ◌-◌, ◌*◌, ◌≤◌, ◌<◌}
use native.Mathlib.Nat.{div-add-mod'}
use native.Mathlib.Decide.{dec_lt}
use native.Mathlib.Omega.{arith}
use lib.ListN.{length, get_or}
use Rattle.slices.specs.Lists.{Rising}
use Rattle.slices.proofs.Distinct.{rising_at}
use Rattle.seek.specs.declared.Place.{Place}
use Rattle.seek.specs.declared.Place.TheVariants.{Cell, Global}
use Rattle.seek.specs.Tests.{Pair, pair, place_of}
use Rattle.seek.specs.Cursors.{rest_in}
use Rattle.seek.proofs.CellRests.{pair_taken}
use Rattle.listed.specs.declared.CellAt.{CellAt}
use Rattle.listed.specs.Lists.{list_by, tests_of_cells}
use Rattle.listed.specs.Places.{NextCell, FirstAt, LeftAt}
use Rattle.listed.proofs.AsIs.{list_increases}
use Rattle.listed.proofs.ListLaws.{from_later}
use Rattle.listed.proofs.CellLaws.{from_at}

-- of two answers the lesser would have to stop and to be passed over
module _ (m : ℕ) (offsets : List ℕ) (cell : ℕ) where
  not_less : (a b : ℕ) → NextCell m offsets cell a → NextCell m offsets cell b → a < b → ⊥
  not_less a b x y h =
      let e : b ≤ _ = y.ends (omega (arith, x.onward)) in
      omega (arith, x.stops (omega (arith, e)), y.passed a x.onward h)

  pub one_next : (a b : ℕ) → NextCell m offsets cell a → NextCell m offsets cell b → a ≡ b
  one_next a b x y = go (dec_lt a b) (dec_lt b a)
    where
      go : Dec (a < b) → Dec (b < a) → a ≡ b
      go (yes h) q = absurd (not_less a b x y h)
      go (no h) (yes k) = absurd (not_less b a y x k)
      go (no h) (no k) = omega arith

-- in a list that rises each value stands once
one_place : (low : ℕ) (xs : List ℕ) (a b : ℕ) → Rising low xs → a < length xs → b < length xs → get_or xs a 0 ≡ get_or xs b 0 → a ≡ b
one_place low xs a b r ha hb e = go (dec_lt a b) (dec_lt b a)
  where
    go : Dec (a < b) → Dec (b < a) → a ≡ b
    go (yes l) q = absurd (omega (arith, rising_at low xs a b r l hb))
    go (no l) (yes k) = absurd (omega (arith, rising_at low xs b a r k ha))
    go (no l) (no k) = omega arith

module _ (cols n m : ℕ) (offsets items : List ℕ) where
  -- the number of a place
  number : Place → ℕ
  number (Cell row col) = row * cols + col
  number (Global p) = p

  number_of : (c : ℕ) → number (place_of cols c) ≡ c
  unfolding number place_of
  number_of c = div-add-mod' c cols

  module _ (rest : List Pair) where
    -- the first test is that of two entries
    begins : (c a b : ℕ) → FirstAt cols n m offsets items rest c a b
        → rest ≡ pair (place_of cols c) (get_or (list_by n offsets items c) a 0) (get_or (list_by n offsets items c) b 0)
        ∷ (rest_in (place_of cols c) (list_by n offsets items c) a (suc b) ++ tests_of_cells cols (list_by n offsets items) (m - suc c) (suc c))
    begins c a b f =
        f.is ∙ from_at cols (list_by n offsets items) m c f.inside a b
        ∙ ap (λ (l : List Pair). l ++ tests_of_cells cols (list_by n offsets items) (m - suc c) (suc c)) (from_later (place_of cols c) (list_by n offsets items c) a b f.later ∙ pair_taken (place_of cols c) (list_by n offsets items c) a b f.among)

    module _ (c a b c' a' b' : ℕ) (f : FirstAt cols n m offsets items rest c a b) (g : FirstAt cols n m offsets items rest c' a' b') where
      same_first : pair (place_of cols c) (get_or (list_by n offsets items c) a 0) (get_or (list_by n offsets items c) b 0)
          ≡ pair (place_of cols c') (get_or (list_by n offsets items c') a' 0) (get_or (list_by n offsets items c') b' 0)
      same_first = ap (λ (l : List Pair). get_or l 0 (pair (place_of cols c) 0 0)) (sym (begins c a b f) ∙ begins c' a' b' g)

      same_cell : c ≡ c'
      same_cell = sym (number_of c) ∙ ap (λ (p : Pair). number p.place) same_first ∙ number_of c'

      rises : Rising 0 (list_by n offsets items c)
      rises = (list_increases n offsets items c).rises

      same_i : a ≡ a'
      same_i =
          one_place 0 (list_by n offsets items c) a a' rises (omega (arith, f.later, f.among)) (rw same_cell (omega (arith, g.later, g.among)))
          (ap (λ (p : Pair). p.first) same_first ∙ rw same_cell)

      same_j : b ≡ b'
      same_j =
          one_place 0 (list_by n offsets items c) b b' rises f.among (rw same_cell g.among)
          (ap (λ (p : Pair). p.second) same_first ∙ rw same_cell)

      same_at : ◌≡◌ {A = Option CellAt} (Some (record { cell = c; i = a; j = b })) (Some (record { cell = c'; i = a'; j = b' }))
      same_at = rw (same_cell, same_i, same_j)

    not_none : (c a b : ℕ) → FirstAt cols n m offsets items rest c a b → rest ≡ [] → ⊥
    not_none c a b f e =
        let z : suc (length (rest_in (place_of cols c) (list_by n offsets items c) a (suc b) ++ tests_of_cells cols (list_by n offsets items) (m - suc c) (suc c))) ≡ 0 = ap length (sym (begins c a b f) ∙ e) in
        omega arith

    pub one_at : (x y : (Option CellAt)) → LeftAt cols n m offsets items rest x → LeftAt cols n m offsets items rest y → x ≡ y
    one_at (Some x) (Some y) f g = same_at x.cell x.i x.j y.cell y.i y.j f g
    one_at (Some x) None f g = absurd (not_none x.cell x.i x.j f g)
    one_at None (Some x) f g = absurd (not_none x.cell x.i x.j g f)
    one_at None None f g = refl

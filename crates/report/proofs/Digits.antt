-- The laws of decimal and hexadecimal digits that are found from the last to the first. Assumes nothing.
use mathlib.Core.Path.{◌≡◌, refl, sym, ap, ◌∙◌}
use mathlib.Core.List.{List, [], ◌∷◌, ◌++◌, append_assoc, append-nil}
use Prim.Native.Nat.{ℕ, zero, suc, ◌-◌, ◌/◌, ◌%◌, ◌^◌, ◌≤◌, ◌<◌}
use native.Mathlib.Omega.{arith}
use native.Mathlib.Nat.{pow-suc}
use borrow.Author.Tests.{ne_eqb}
use lib.ListN.{length, set, take, drop, length-set, length-drop, drop_of_length-le}
use lib.Seq.{drop-cons, drop-set-lt, get_or-set_same, take_all}
use Rattle.report.specs.Numbers.{glyph, blank_if, leading, in_decimal, hex}

-- a byte put in front of those from a position on
put_before : (xs : List ℕ) (k b : ℕ) → k < length xs → drop k (set xs k b) ≡ b ∷ drop (suc k) xs
put_before xs k b h = rw (drop-cons (set xs k b) k 0 (simp length-set (omega arith)), get_or-set_same xs k b 0 h, drop-set-lt (suc k) xs k b (omega arith))

one_before : (xs : List ℕ) (d : ℕ) (ys : List ℕ) → (xs ++ (d ∷ [])) ++ ys ≡ xs ++ (d ∷ ys)
one_before xs d ys = append_assoc xs (d ∷ []) ys

-- ---- decimal

-- 0 has no leading digits
pub leading_none : (k : ℕ) → leading k 0 ≡ []
unfolding leading blank_if
leading_none zero = refl
leading_none (suc k) = refl

pub leading_more : (k n : ℕ) → 0 < n → leading (suc k) n ≡ leading k (n / 10) ++ (glyph (n % 10) ∷ [])
unfolding leading blank_if
leading_more k n h = rw (ne_eqb n 0 (λ e. omega arith))

-- the digits from i on are found, and those of `rest` are left
pub record Found10 (n : ℕ) (text : List ℕ) (i rest : ℕ) : Type 0 where
  pub long : length text ≡ 20
  pub room : i ≤ 19
  pub small : rest < 10 ^ i
  pub digits : in_decimal n ≡ leading i rest ++ drop i text

pub found10_one : (n : ℕ) (text : List ℕ) (d : ℕ) → n < 2 ^ 64 → length text ≡ 20 → d ≡ glyph (n % 10) → Found10 n (set text 19 d) 19 (n / 10)
unfolding in_decimal
found10_one n text d h l e = record {
  long = simp length-set l;
  room = omega arith;
  small = omega arith;
  digits =
      let f : drop 19 (set text 19 d) ≡ d ∷ [] = put_before text 19 d (omega arith) ∙ ap (λ (t : List ℕ). d ∷ t) (drop_of_length-le text {i = 20} (omega arith)) in
      rw (f, e);
}

found10_step : (n : ℕ) (text : List ℕ) (k rest d : ℕ) → Found10 n text (suc k) rest → 0 < rest → d ≡ glyph (rest % 10) → Found10 n (set text k d) k (rest / 10)
found10_step n text k rest d f h e = record {
  long = simp length-set f.long;
  room = let r = f.room in omega arith;
  small = let p = pow-suc 10 k in let s = f.small in omega arith;
  digits =
      let r = f.room in let m = f.long in
      f.digits ∙ ap (λ (t : List ℕ). t ++ drop (suc k) text) (leading_more k rest h) ∙ one_before (leading k (rest / 10)) (glyph (rest % 10)) (drop (suc k) text)
      ∙ rw (put_before text k d (omega arith), e);
}

-- while something is left, there is room in front
pub found10_room : (n : ℕ) (text : List ℕ) (i rest : ℕ) → Found10 n text i rest → 0 < rest → 0 < i
found10_room n text zero rest f h = let s : rest < 10 ^ 0 = f.small in omega arith
found10_room n text (suc k) rest f h = omega arith

pub found10_more : (n : ℕ) (text : List ℕ) (i rest d : ℕ) → Found10 n text i rest → 0 < rest → d ≡ glyph (rest % 10) → Found10 n (set text (i - 1) d) (i - 1) (rest / 10)
found10_more n text zero rest d f h e = absurd (let s = found10_room n text zero rest f h in omega arith)
found10_more n text (suc k) rest d f h e =
    let q : suc k - 1 ≡ k = omega arith in
    rw q (found10_step n text k rest d f h e)

pub found10_all : (n : ℕ) (text : List ℕ) (i rest : ℕ) → Found10 n text i rest → rest ≡ 0 → take (20 - i) (drop i text) ≡ in_decimal n
found10_all n text i rest f e =
    let m = f.long in
    take_all (20 - i) (drop i text) (simp length-drop (omega arith)) ∙ sym (f.digits ∙ rw (e, leading_none i))

-- ---- hexadecimal

-- the digits from i on are found, and those of `rest` are left
pub record Found16 (n : ℕ) (text : List ℕ) (i rest : ℕ) : Type 0 where
  pub long : length text ≡ 16
  pub room : i ≤ 16
  pub digits : hex 16 n ≡ hex i rest ++ drop i text

pub found16_none : (n : ℕ) (text : List ℕ) → length text ≡ 16 → Found16 n text 16 n
found16_none n text l =
    record { long = l; room = omega arith; digits = rw (drop_of_length-le text {i = 16} (omega arith)) (sym (append-nil (hex 16 n))) }

found16_step : (n : ℕ) (text : List ℕ) (k rest d : ℕ) → Found16 n text (suc k) rest → d ≡ glyph (rest % 16) → Found16 n (set text k d) k (rest / 16)
unfolding hex
found16_step n text k rest d f e = record {
  long = simp length-set f.long;
  room = let r = f.room in omega arith;
  digits =
      let r = f.room in let m = f.long in
      f.digits ∙ one_before (hex k (rest / 16)) (glyph (rest % 16)) (drop (suc k) text) ∙ rw (put_before text k d (omega arith), e);
}

pub found16_more : (n : ℕ) (text : List ℕ) (i rest d : ℕ) → Found16 n text i rest → 0 < i → d ≡ glyph (rest % 16) → Found16 n (set text (i - 1) d) (i - 1) (rest / 16)
found16_more n text zero rest d f h e = absurd (omega arith)
found16_more n text (suc k) rest d f h e =
    let q : suc k - 1 ≡ k = omega arith in
    rw q (found16_step n text k rest d f e)

pub found16_all : (n : ℕ) (text : List ℕ) (i rest : ℕ) → Found16 n text i rest → i ≡ 0 → text ≡ hex 16 n
unfolding hex
found16_all n text i rest f e = sym (f.digits ∙ rw e)

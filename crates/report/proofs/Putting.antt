-- The laws of bytes put into a buffer. Assumes nothing.
use mathlib.Core.Path.{◌≡◌, refl, sym, ap, ◌∙◌}
use mathlib.Core.List.{List, [], ◌∷◌, ◌++◌, append_assoc, append-nil}
use Prim.Native.Nat.{ℕ, suc, ◌+◌, ◌≤◌, ◌<◌}
use native.Mathlib.Numerals.{add-one}
use native.Mathlib.Omega.{arith}
use borrow.Author.Tests.{lt-ltb, le-ltb}
use lib.ListN.{length, get_or, set, take}
use lib.Seq.{take-suc, take_all}
use Rattle.report.specs.Pages.{Page, page, put_if, put, put_all, Puts}
use Rattle.report.specs.Numbers.{in_decimal}
use Rattle.report.specs.Lines.{spaced, line, cell_line, global_line}

-- with room, the byte goes to its position
pub put_room : (b : ℕ) (xs : List ℕ) (at : ℕ) → at < length xs → put b (page xs at) ≡ page (set xs at b) (suc at)
unfolding put put_if
put_room b xs at h = rw (lt-ltb at (length xs) h)

-- in a full buffer it goes nowhere
pub put_full : (b : ℕ) (xs : List ℕ) (at : ℕ) → length xs ≤ at → put b (page xs at) ≡ page xs at
unfolding put put_if
put_full b xs at h = rw (le-ltb at (length xs) h)

-- the one text and then the other
pub put_append : (xs ys : List ℕ) (p : Page) → put_all (xs ++ ys) p ≡ put_all ys (put_all xs p)
unfolding put_all
put_append [] ys p = refl
put_append (x ∷ xs) ys p = put_append xs ys (put x p)

-- ---- as a relation between pages

pub puts_none : (p : Page) → Puts [] p p
unfolding put_all
puts_none p = record { is = refl }

-- a byte goes to its position, where there is room
pub puts_room : (b : ℕ) (xs : List ℕ) (at : ℕ) → at < length xs → Puts (b ∷ []) (page xs at) (page (set xs at b) (at + 1))
unfolding put_all
puts_room b xs at h = record { is = rw add-one (sym (put_room b xs at h)) }

pub puts_full : (b : ℕ) (xs : List ℕ) (at : ℕ) → length xs ≤ at → Puts (b ∷ []) (page xs at) (page xs at)
unfolding put_all
puts_full b xs at h = record { is = sym (put_full b xs at h) }

-- the one text and then the other
pub puts_then : {xs ys : List ℕ} {p q r : Page} → Puts xs p q → Puts ys q r → Puts (xs ++ ys) p r
puts_then {xs} {ys} {p} f g = record { is = g.is ∙ ap (put_all ys) f.is ∙ sym (put_append xs ys p) }

-- one more byte of a text
pub puts_more : (xs : List ℕ) (i : ℕ) {p q r : Page} → i < length xs → Puts (take i xs) p q → Puts (get_or xs i 0 ∷ []) q r → Puts (take (i + 1) xs) p r
puts_more xs i h f g = rw (add-one, take-suc xs i 0 h) (puts_then f g)

pub puts_all : (xs : List ℕ) (i : ℕ) {p q : Page} → length xs ≤ i → Puts (take i xs) p q → Puts xs p q
puts_all xs i h f = rw (take_all i xs h) at f

pub puts_text : {xs ys : List ℕ} {p q : Page} → xs ≡ ys → Puts xs p q → Puts ys p q
puts_text e f = rw e at f

-- ---- numbers, each after a space

spaced_append : (ns ms : List ℕ) → spaced (ns ++ ms) ≡ spaced ns ++ spaced ms
unfolding spaced
spaced_append [] ms = refl
spaced_append (n ∷ ns) ms = ap (λ (t : List ℕ). 32 ∷ (in_decimal n ++ t)) (spaced_append ns ms) ∙ ap (λ (t : List ℕ). 32 ∷ t) (sym (append_assoc (in_decimal n) (spaced ns) (spaced ms)))

pub spaced_one : (n : ℕ) → spaced (n ∷ []) ≡ 32 ∷ in_decimal n
unfolding spaced
spaced_one n = ap (λ (t : List ℕ). 32 ∷ t) (append-nil (in_decimal n))

pub spaced_two : (m n : ℕ) → spaced (m ∷ n ∷ []) ≡ (32 ∷ in_decimal m) ++ (32 ∷ in_decimal n)
unfolding spaced
spaced_two m n = ap (λ (t : List ℕ). 32 ∷ (in_decimal m ++ t)) (spaced_one n)

-- two numbers, and then a list
pub spaced_front : (m n : ℕ) (ls : List ℕ) → spaced (m ∷ n ∷ ls) ≡ spaced (m ∷ n ∷ []) ++ spaced ls
spaced_front m n ls = spaced_append (m ∷ n ∷ []) ls

-- one more number of a list
pub spaced_more : (ns : List ℕ) (i : ℕ) {p q r : Page} → i < length ns → Puts (spaced (take i ns)) p q → {v : ℕ} → v ≡ get_or ns i 0 → Puts (32 ∷ in_decimal v) q r → Puts (spaced (take (i + 1) ns)) p r
spaced_more ns i h f e g =
    rw (add-one, take-suc ns i 0 h, spaced_append (take i ns) (get_or ns i 0 ∷ []), spaced_one, ← e) (puts_then f g)

pub spaced_all : (ns : List ℕ) (i : ℕ) {p q : Page} → length ns ≤ i → Puts (spaced (take i ns)) p q → Puts (spaced ns) p q
spaced_all ns i h f = rw (take_all i ns h) at f

pub spaced_start : (p : Page) → Puts (spaced []) p p
unfolding spaced
spaced_start p = puts_none p

-- ---- a line: its word, what follows, and its end

pub puts_line : {word rest : List ℕ} {p q r s : Page} → Puts word p q → Puts rest q r → Puts (10 ∷ []) r s → Puts (line word rest) p s
unfolding line
puts_line f g h = puts_then f (puts_then g h)

-- of an empty list there is no line
pub cell_none : (row col : ℕ) (ls : List ℕ) → length ls ≡ 0 → (p : Page) → Puts (cell_line row col ls) p p
unfolding cell_line
cell_none row col [] e p = puts_none p
cell_none row col (l ∷ ls) e p = absurd (omega arith)

pub cell_some : (row col : ℕ) (ls : List ℕ) → (length ls ≡ 0 → ⊥) → {p q : Page} → Puts (line (99 ∷ 101 ∷ 108 ∷ 108 ∷ []) (spaced (row ∷ col ∷ []) ++ spaced ls)) p q → Puts (cell_line row col ls) p q
unfolding cell_line
cell_some row col [] n f = absurd (n refl)
cell_some row col (l ∷ ls) n f = puts_text (ap (line (99 ∷ 101 ∷ 108 ∷ 108 ∷ [])) (sym (spaced_front row col (l ∷ ls)))) f

pub global_none : (ls : List ℕ) → length ls ≡ 0 → (p : Page) → Puts (global_line ls) p p
unfolding global_line
global_none [] e p = puts_none p
global_none (l ∷ ls) e p = absurd (omega arith)

pub global_some : (ls : List ℕ) → (length ls ≡ 0 → ⊥) → {p q : Page} → Puts (line (103 ∷ 108 ∷ 111 ∷ 98 ∷ 97 ∷ 108 ∷ []) (spaced ls)) p q → Puts (global_line ls) p q
unfolding global_line
global_some [] n f = absurd (n refl)
global_some (l ∷ ls) n f = f

-- How long the lines can be: a number has at most 20 digits. Assumes nothing.
use mathlib.Core.Path.{◌≡◌, refl}
use mathlib.Core.Bool.{Bool, true, false, cond}
use mathlib.Core.List.{List, [], ◌∷◌, ◌++◌}
use Prim.Native.Nat.{ℕ, zero, suc, ◌+◌, ◌*◌, ◌/◌, ◌%◌, ◌≤◌}
use native.Mathlib.Omega.{arith}
use lib.Dec.{eqb}
use lib.ListN.{length, length-append}
use Rattle.report.specs.Numbers.{glyph, blank_if, leading, in_decimal, hex}
use Rattle.report.specs.Lines.{spaced, line, grid_line, cell_line, global_line, visit_line, crossings_line, pair_line, refused_line, reason_word, dropped_line}

none_size : (b : Bool) (xs : List ℕ) (k : ℕ) → length xs ≤ k → length (blank_if b xs) ≤ k
unfolding blank_if
none_size true xs k h = omega arith
none_size false xs k h = h

leading_size : (k n : ℕ) → length (leading k n) ≤ k
unfolding leading
leading_size zero n = omega arith
leading_size (suc k) n =
    let h = leading_size k (n / 10) in
    none_size (eqb n 0) (leading k (n / 10) ++ (glyph (n % 10) ∷ [])) (suc k) (simp length-append (omega arith))

pub decimal_size : (n : ℕ) → length (in_decimal n) ≤ 20
unfolding in_decimal
decimal_size n = let h = leading_size 19 (n / 10) in simp length-append (omega arith)

pub hex_size : (k n : ℕ) → length (hex k n) ≡ k
unfolding hex
hex_size zero n = refl
hex_size (suc k) n = let h = hex_size k (n / 16) in simp length-append (omega arith)

pub spaced_size : (ns : List ℕ) → length (spaced ns) ≤ 21 * length ns
unfolding spaced
spaced_size [] = omega arith
spaced_size (n ∷ ns) = let h = decimal_size n in let k = spaced_size ns in simp length-append (omega arith)

line_size : (word rest : List ℕ) → length (line word rest) ≡ length word + length rest + 1
unfolding line
line_size word rest = simp length-append (omega arith)

pub grid_size : (cols rows width height items globals : ℕ) → length (grid_line cols rows width height items globals) ≤ 123
unfolding grid_line
grid_size cols rows width height items globals =
    let a = spaced_size (cols ∷ rows ∷ []) in
    let b = hex_size 16 width in
    let c = hex_size 16 height in
    let d = spaced_size (items ∷ globals ∷ []) in
    simp (line_size, length-append) (omega arith)

pub cell_size : (row col : ℕ) (ls : List ℕ) → length (cell_line row col ls) ≤ 47 + 21 * length ls
unfolding cell_line
cell_size row col [] = omega arith
cell_size row col (l ∷ ls) = let a = spaced_size (row ∷ col ∷ l ∷ ls) in simp line_size (omega arith)

pub global_size : (ls : List ℕ) → length (global_line ls) ≤ 7 + 21 * length ls
unfolding global_line
global_size [] = omega arith
global_size (l ∷ ls) = let a = spaced_size (l ∷ ls) in simp line_size (omega arith)

pub visit_size : (tests overlaps : ℕ) → length (visit_line tests overlaps) ≤ 48
unfolding visit_line
visit_size tests overlaps = let a = spaced_size (tests ∷ overlaps ∷ []) in simp line_size (omega arith)

pub refused_size : (number : ℕ) → length (refused_line number) ≤ 29
unfolding refused_line
refused_size number = let a = spaced_size (number ∷ []) in simp line_size (omega arith)

reason_size : (reason : ℕ) → length (reason_word reason) ≤ 6
unfolding reason_word
reason_size reason = go (eqb reason 1) (eqb reason 2)
  where
    go : (a b : Bool) → length (cond {A = List ℕ} a (114 ∷ 97 ∷ 110 ∷ 103 ∷ 101 ∷ []) (cond b (114 ∷ 101 ∷ 112 ∷ 101 ∷ 97 ∷ 116 ∷ []) (115 ∷ 104 ∷ 111 ∷ 114 ∷ 116 ∷ []))) ≤ 6
    go true b = omega arith
    go false true = omega arith
    go false false = omega arith

pub dropped_size : (member point reason : ℕ) → length (dropped_line member point reason) ≤ 49
unfolding dropped_line
dropped_size member point reason =
    let a = decimal_size member in
    let b = decimal_size point in
    let w = reason_size reason in
    simp (line_size, length-append) (omega arith)

pub crossings_size : (count : ℕ) → length (crossings_line count) ≤ 31
unfolding crossings_line
crossings_size count = let a = spaced_size (count ∷ []) in simp line_size (omega arith)

pub pair_size : (first second : ℕ) → length (pair_line first second) ≤ 47
unfolding pair_line
pair_size first second = let a = spaced_size (first ∷ second ∷ []) in simp line_size (omega arith)

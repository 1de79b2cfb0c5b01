-- Laws of the bytes that the writer puts: of a number, of points, of members, one after another; how long they are, and that they are a
-- MultiLineString.
-- Assumes nothing.
use mathlib.Core.Path.{◌≡◌, refl, sym, ap, ◌∙◌, subst}
use mathlib.Core.List.{List, [], ◌∷◌, ◌++◌, append_assoc, append-nil, flatten, flat_map}
use Prim.Native.Nat.{ℕ, ◌+◌, ◌-◌, ◌*◌, ◌/◌, ◌%◌, ◌^◌, ◌≤◌, ◌<◌}
use native.Mathlib.Numerals.{add-one}
use native.Mathlib.Omega.{arith}
use lib.ListN.{length, take, drop, get_or, set, replicate, length-append}
use lib.Seq.{take-suc, length-take-le}
use Rattle.wkb.specs.declared.Order.TheVariants.{Little}
use Rattle.wkb.specs.Bytes.{order_byte, little_bytes, word_bytes, Point, point_bytes, points_bytes, line_bytes, Members, none, more, multi_head, MultiLineString, multi_bytes}
use Rattle.wkb.proofs.Words.{length_word, length_little}
use Rattle.wkb.specs.Inside.{PutIn}
use Rattle.wkb.proofs.LineStrings.{length_points_bytes, length_line}
use Rattle.wkb.proofs.Stores.{put_one, put_more, put_then}
use Rattle.members.specs.Held.{chains_of}
use Rattle.members.proofs.Held.{origin, Fits}
use Rattle.members.proofs.Along.{chains_next, chains_over}

-- a slice that is cleared from its start on
pub cleared_all : {A : Type 0} (z : A) (s₀ : List A) {s : List A} → s ≡ take 0 s₀ ++ replicate (length s₀ - 0) z → s ≡ replicate (length s₀) z
cleared_all z s₀ e = let n : length s₀ - 0 ≡ length s₀ = omega arith in rw n at e

-- ---- numbers

-- the 4 low bytes, one after another
pub put_four : (at v : ℕ) (s : List ℕ) → at + 4 ≤ length s
    → PutIn at (little_bytes 4 v) s (set (set (set (set s at (v % 256)) (at + 1) (v / 256 % 256)) (at + 2) (v / 256 / 256 % 256)) (at + 3) (v / 256 / 256 / 256 % 256))
unfolding little_bytes
put_four at v s h =
    let p = put_one at (v % 256) s (omega arith) in
    let q = put_more {i = at + 1} (v / 256 % 256) p (omega arith) (omega arith) in
    let r = put_more {i = at + 2} (v / 256 / 256 % 256) q (omega arith) (omega arith) in
    put_more {i = at + 3} (v / 256 / 256 / 256 % 256) r (omega arith) (omega arith)

-- 8 bytes are the 4 low ones and the 4 high ones
pub eight : (v : ℕ) → little_bytes 4 v ++ little_bytes 4 (v / 4294967296) ≡ little_bytes 8 v
unfolding little_bytes
eight v = let e : v / 4294967296 ≡ v / 256 / 256 / 256 / 256 = omega arith in rw e

pub put_eight : {at : ℕ} (v : ℕ) {s₀ s₁ s₂ : List ℕ} → PutIn at (little_bytes 4 v) s₀ s₁ → PutIn (at + 4) (little_bytes 4 (v / 4294967296)) s₁ s₂ → PutIn at (little_bytes 8 v) s₀ s₂
put_eight {at} v {s₀} {s₁} {s₂} p q =
    subst (λ (l : List ℕ). PutIn at l s₀ s₂) (eight v) (put_then p q (omega (arith, length_little 4 v)))

-- ---- points

pub points_append : (ps qs : List Point) → points_bytes Little (ps ++ qs) ≡ points_bytes Little ps ++ points_bytes Little qs
unfolding points_bytes
points_append [] qs = refl
points_append (p ∷ ps) qs = rw (points_append ps qs) (sym (append_assoc (point_bytes Little p) (points_bytes Little ps) (points_bytes Little qs)))

-- one more point
pub points_more : (ps : List Point) (p : Point) → (points_bytes Little ps ++ little_bytes 8 p.x) ++ little_bytes 8 p.y ≡ points_bytes Little (ps ++ (p ∷ []))
unfolding points_bytes point_bytes word_bytes
points_more ps p =
    append_assoc (points_bytes Little ps) (little_bytes 8 p.x) (little_bytes 8 p.y)
    ∙ sym (points_append ps (p ∷ []) ∙ ap (λ (l : List ℕ). points_bytes Little ps ++ l) (append-nil (little_bytes 8 p.x ++ little_bytes 8 p.y)))

-- ---- one thing after another

-- two numbers make one point more
pub put_point : {at : ℕ} (i : ℕ) (qs : List Point) {s₀ s₁ s₂ s₃ : List ℕ} {x y : ℕ} → PutIn at (points_bytes Little (take i qs)) s₀ s₁ → i < length qs → get_or qs i origin ≡ record { x = x; y = y }
    → PutIn (at + 16 * i) (little_bytes 8 x) s₁ s₂ → PutIn (at + 16 * i + 8) (little_bytes 8 y) s₂ s₃ → PutIn at (points_bytes Little (take (i + 1) qs)) s₀ s₃
put_point {at} i qs {s₀} {s₁} {s₂} {s₃} {x} {y} p h e qx qy =
    let n : length (points_bytes Little (take i qs)) ≡ 16 * i = length_points_bytes Little (take i qs) ∙ ap (λ (k : ℕ). 16 * k) (length-take-le i qs (omega arith)) in
    let r = put_then p qx (omega arith) in
    let s = put_then r qy (omega (arith, length-append (points_bytes Little (take i qs)) (little_bytes 8 x), length_little 8 x)) in
    let t : take i qs ++ (record { x = x; y = y } ∷ []) ≡ take (i + 1) qs =
    ap (λ (q : Point). take i qs ++ (q ∷ [])) (sym e) ∙ rw (add-one i) (sym (take-suc qs i origin h)) in
    subst (λ (l : List ℕ). PutIn at l s₀ s₃) (points_more (take i qs) (record { x = x; y = y }) ∙ ap (points_bytes Little) t) s

-- a byte, two numbers and points make a member
pub put_line : {at n : ℕ} (ps : List Point) {s₀ s₁ s₂ s₃ s₄ : List ℕ} → PutIn at (1 ∷ []) s₀ s₁ → PutIn (at + 1) (little_bytes 4 2) s₁ s₂ → PutIn (at + 5) (little_bytes 4 n) s₂ s₃
    → PutIn (at + 9) (points_bytes Little ps) s₃ s₄ → length ps ≡ n → PutIn at (line_bytes Little ps) s₀ s₄
unfolding line_bytes order_byte word_bytes
put_line {at} {n} ps {s₀} {s₁} {s₂} {s₃} {s₄} a b c d e =
    let ab = put_then a b (omega arith) in
    let abc = put_then ab c (omega (arith, length_little 4 2)) in
    let all = put_then abc d (omega (arith, length-append (little_bytes 4 2) (little_bytes 4 n), length_little 4 2, length_little 4 n)) in
    let is : (1 ∷ ((little_bytes 4 2 ++ little_bytes 4 n) ++ points_bytes Little ps)) ≡ 1 ∷ (little_bytes 4 2 ++ (little_bytes 4 (length ps) ++ points_bytes Little ps)) =
    rw e (ap (λ (l : List ℕ). 1 ∷ l) (append_assoc (little_bytes 4 2) (little_bytes 4 n) (points_bytes Little ps))) in
    subst (λ (l : List ℕ). PutIn at l s₀ s₄) is all

-- a byte, two numbers and members make a MultiLineString
pub put_multi : {m : ℕ} (pss : List (List Point)) {s₀ s₁ s₂ s₃ s₄ : List ℕ} → PutIn 0 (1 ∷ []) s₀ s₁ → PutIn 1 (little_bytes 4 5) s₁ s₂ → PutIn 5 (little_bytes 4 m) s₂ s₃
    → PutIn 9 (flat_map (line_bytes Little) pss) s₃ s₄ → length pss ≡ m → PutIn 0 (multi_bytes pss) s₀ s₄
unfolding multi_bytes multi_head order_byte word_bytes
put_multi {m} pss {s₀} {s₁} {s₂} {s₃} {s₄} a b c d e =
    let ab = put_then a b (omega arith) in
    let abc = put_then ab c (omega (arith, length_little 4 5)) in
    let all = put_then abc d (omega (arith, length-append (little_bytes 4 5) (little_bytes 4 m), length_little 4 5, length_little 4 m)) in
    rw e all

-- the members that are left
pub bytes_next : (ns : List ℕ) (k from : ℕ) (ps : List Point) (n : ℕ) → k < length ns → n ≡ get_or ns k 0
    → flat_map (line_bytes Little) (chains_of (drop k ns) (drop from ps)) ≡ line_bytes Little (take n (drop from ps)) ++ flat_map (line_bytes Little) (chains_of (drop (k + 1) ns) (drop (from + n) ps))
unfolding flat_map
bytes_next ns k from ps n h e = ap (flat_map (line_bytes Little)) (chains_next ns k from ps n h e)

pub bytes_over : (ns : List ℕ) (k : ℕ) (ps : List Point) → length ns ≤ k → flat_map (line_bytes Little) (chains_of (drop k ns) ps) ≡ []
unfolding flat_map
bytes_over ns k ps h = ap (flat_map (line_bytes Little)) (chains_over ns k ps h)

-- ---- how long they are

pub length_members : (pss : List (List Point)) → length (flat_map (line_bytes Little) pss) ≡ 9 * length pss + 16 * length (flatten pss)
unfolding flat_map flatten
length_members [] = refl
length_members (ps ∷ pss) =
    let l = length_line Little ps in
    let ih = length_members pss in
    simp length-append (omega arith)

pub length_multi : (pss : List (List Point)) → length (multi_bytes pss) ≡ 9 + 9 * length pss + 16 * length (flatten pss)
unfolding multi_bytes multi_head
length_multi pss =
    let m = length_members pss in
    simp (length-append, length_word) (omega arith)

pub length_parts : (pss : List (List Point)) → length (multi_bytes pss) ≡ 9 + length (flat_map (line_bytes Little) pss)
length_parts pss =
    let m = length_members pss in
    let n = length_multi pss in
    omega arith

-- ---- what they are

members_are : (pss : List (List Point)) → Fits pss → Members (flat_map (line_bytes Little) pss) pss
unfolding flat_map
members_are [] f = none
members_are (ps ∷ pss) f =
    more (record { order = Little; bytes = refl; some = f.0; most = f.1; patterns = f.2 }) (members_are pss f.3)

pub multi_is : (pss : List (List Point)) → Fits pss → length pss < 2 ^ 32 → MultiLineString (multi_bytes pss) pss
unfolding multi_bytes
multi_is pss f h = record { order = Little; rest = flat_map (line_bytes Little) pss; bytes = refl; most = h; members = members_are pss f }

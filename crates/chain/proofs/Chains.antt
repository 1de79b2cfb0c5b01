-- Points and their lines, and what is printed for what the reader found. Assumes nothing.
use Rattle.std.specs.Prelude.{Ok, Err, Result}
use mathlib.Core.Path.{◌≡◌, refl, ap, ◌∙◌}
use mathlib.Core.List.{List, map}
use Prim.Native.Nat.{ℕ, ◌-◌, ◌≤◌}
use native.Mathlib.Omega.{arith}
use lib.Ieee.{Float, binary64, of_bits}
use lib.ListN.{length, take, drop, replicate, length-append, length-map}
use lib.Seq.{take_at}
use Rattle.refusals.specs.declared.Refusal.{Refusal}
use Rattle.refusals.specs.Refusals.{unless, Answer, refused, gives, ◌then◌, answer_by, left_in, zero_beyond}
use Rattle.grid.specs.Domain.{Lines, lines}
use Rattle.wkb.specs.Bytes.{Point, LineString}
use Rattle.wkb.specs.Reading.{outcome, found, slices_check, read_of, points_left, nought, ReadAs}
use Rattle.wkb.proofs.Chains.{start_parts, end_parts}
use Rattle.build.specs.declared.Plan.{Plan}
use Rattle.chain.specs.Printed.{chain_of, printed_lines, refused_text, printed_points, printed}

-- ---- lines as parts of the points

pub chain_parts : (n : ℕ) (xs ys : List Float) → 1 ≤ n → n ≤ length xs → n ≤ length ys → lines (take (n - 1) xs) (take (n - 1) ys) (take (n - 1) (drop 1 xs)) (take (n - 1) (drop 1 ys)) ≡ chain_of (take n xs) (take n ys)
unfolding chain_of
chain_parts n xs ys h k l = rw (start_parts n xs k, start_parts n ys l, end_parts n xs h, end_parts n ys h)

-- ---- what the reader found

found_is : (bs : List ℕ) → outcome 1024 1024 bs ≡ found bs
unfolding outcome slices_check unless ◌then◌
found_is bs = refl

abbrev pub coordinates : (Point → ℕ) → List Point → List Float
coordinates f ps = map (λ (p : Point). of_bits binary64 (f p)) ps

left_points : (f : Point → ℕ) (ps : List Point) (s : List Float) → take (length ps) (points_left f (gives ps) s) ≡ coordinates f ps
unfolding points_left left_in zero_beyond
left_points f ps s = take_at (coordinates f ps) (replicate (length s - length (coordinates f ps)) nought) (length ps) (length-map ps (λ (p : Point). of_bits binary64 (f p)))

left_long : (f : Point → ℕ) (ps : List Point) (s : List Float) → length ps ≤ length (points_left f (gives ps) s)
unfolding points_left left_in zero_beyond
left_long f ps s =
    let e = length-map ps (λ (p : Point). of_bits binary64 (f p)) in
    simp length-append (omega arith)

-- the lines of points
abbrev pub lines_of : List Point → Lines
lines_of ps = chain_of (coordinates (λ p. p.x) ps) (coordinates (λ p. p.y) ps)

-- points were read: so many stand at the starts of the slices, and what is said of their lines is what is said of the bytes
pub record PointsRead (bs : List ℕ) (n : ℕ) (x y : List Float) : Type 1 where
  pub some : 1 ≤ n
  pub in_x : n ≤ length x
  pub in_y : n ≤ length y
  pub said : {A : Type 0} (ofRefusal : Refusal → A) (of_lines : Lines → A) → of_lines (chain_of (take n x) (take n y)) ≡ answer_by ofRefusal (λ ps. of_lines (lines_of ps)) (found bs)

module _ (bs : List ℕ) {A : Type 0} (ofRefusal : Refusal → A) (of_points : List Point → A) where
  said_points : (ps : List Point) → found bs ≡ gives ps → of_points ps ≡ answer_by ofRefusal of_points (found bs)
  unfolding answer_by
  said_points ps e = rw e

  said_refused : (r : Refusal) → found bs ≡ refused r → ofRefusal r ≡ answer_by ofRefusal of_points (found bs)
  unfolding answer_by
  said_refused r e = rw e

-- what is printed of the bytes, by the lines of points
pub printed_by : (plan : Plan) (bs : List ℕ) → answer_by refused_text (λ ps. printed_lines plan (lines_of ps)) (found bs) ≡ printed plan bs
unfolding printed printed_points
printed_by plan bs = refl

module _ (bs : List ℕ) (x₀ y₀ x y : List Float) (lx : length x₀ ≡ 1024) (ly : length y₀ ≡ 1024) where
  read_is : {r : Result ℕ Refusal} → ReadAs bs x₀ y₀ r x y → outcome (length x₀) (length y₀) bs ≡ found bs
  read_is a = rw (lx, ly) (found_is bs)

  pub points_read : (n : ℕ) → ReadAs bs x₀ y₀ (Ok n) x y → PointsRead bs n x y
  unfolding read_of answer_by
  points_read n a = go (found bs) refl (a.answer ∙ ap read_of (read_is a)) (a.in_x ∙ ap (λ (f : Answer (List Point)). points_left (λ p. p.x) f x₀) (read_is a)) (a.in_y ∙ ap (λ (f : Answer (List Point)). points_left (λ p. p.y) f y₀) (read_is a)) a.only
    where
      go : (f : Answer (List Point)) → found bs ≡ f → Ok n ≡ read_of f → x ≡ points_left (λ p. p.x) f x₀ → y ≡ points_left (λ p. p.y) f y₀ → ((ps : List Point) → found bs ≡ gives ps → LineString bs ps) → PointsRead bs n x y
      go (refused q) e r ex ey only = absurd (let z : ◌≡◌ {A = ℕ} 0 1 = cc in omega arith)
      go (gives ps) e r ex ey only =
          let n_is : n ≡ length ps = cc in
          let s = only ps e in
          record {
            some = let k = s.some in omega arith;
            in_x = rw (ex, n_is) (left_long (λ p. p.x) ps x₀);
            in_y = rw (ey, n_is) (left_long (λ p. p.y) ps y₀);
            said =
                λ ofRefusal of_lines. rw (ex, ey, n_is, left_points (λ p. p.x) ps x₀, left_points (λ p. p.y) ps y₀) (said_points bs ofRefusal (λ qs. of_lines (lines_of qs)) ps e);
          }

  pub refused_read : (q : Refusal) → ReadAs bs x₀ y₀ (Err q) x y → {A : Type 0} (ofRefusal : Refusal → A) (of_points : List Point → A) → ofRefusal q ≡ answer_by ofRefusal of_points (found bs)
  unfolding read_of answer_by
  refused_read q a ofRefusal of_points = go (found bs) refl (a.answer ∙ ap read_of (read_is a))
    where
      go : (f : Answer (List Point)) → found bs ≡ f → Err q ≡ read_of f → ofRefusal q ≡ answer_by ofRefusal of_points (found bs)
      go (gives ps) e r = absurd (let z : ◌≡◌ {A = ℕ} 0 1 = cc in omega arith)
      go (refused p) e r = let w : q ≡ p = cc in rw w (said_refused bs ofRefusal of_points p e)

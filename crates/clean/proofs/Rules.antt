-- Laws of what is kept and of the reasons, over lists of points.
--   Split            a member as its pieces with the points between them; every member splits so, and what is defined of its pieces follows the split
--   kept-are         kept and dropped together are the input: of the points, those whose reason is `kept` are the kept ones, in order
--   Clean            a piece that cleaning leaves as it is; what is kept is made of such pieces
-- Assumes nothing.
use mathlib.Core.Path.{◌≡◌, refl, sym, ap, ◌∙◌, subst}
use mathlib.Core.Bool.{Bool, true, false, cond}
use mathlib.Core.List.{List, [], ◌∷◌, ◌++◌, append_assoc, append-nil, map, flatten, flat_map}
use Prim.Native.Nat.{ℕ, suc, ◌*◌, ◌≤◌, ◌<◌}
use native.Mathlib.Omega.{arith}
use borrow.Author.Tests.{le-leb, lt-leb, leb-true}
use lib.Dec.{leb}
use lib.ListN.{length, replicate, length-append, replicate-append-replicate}
use Rattle.wkb.specs.Bytes.{Point}
use Rattle.clean.specs.Cleaning.{good, same_point, onto, pieces, thin_after, thin, is_piece, kept_of, cleaned_member, cleaned, kept, range, repeat, short, reasons_after, reasons_by, piece_reasons, between_pieces, member_reasons, reasons, kept_values}
use Rattle.clean.specs.Inside.{AllGood, none, more}

-- ---- a member and its pieces

pub data Split : List Point → Type 0 where
  whole : {g : List Point} → AllGood g → Split g
  broken : {g : List Point} (rest : List Point) (b : Point) → AllGood g → good b ≡ false → Split rest → Split (g ++ (b ∷ rest))

pub split : (ps : List Point) → Split ps
split [] = whole none
split (p ∷ ps) = go (good p) refl (split ps)
  where
    go : (b : Bool) → good p ≡ b → {qs : List Point} → Split qs → Split (p ∷ qs)
    go true e (whole g) = whole (more e g)
    go true e (broken rest b g f r) = broken rest b (more e g) f r
    go false e {qs} s = broken qs p none e s

pub pieces_whole : {g : List Point} → AllGood g → pieces g ≡ g ∷ []
unfolding pieces onto
pieces_whole none = refl
pieces_whole (more {p} {ps} e g) = rw (e, pieces_whole g)

pub pieces_broken : (rest : List Point) (b : Point) {g : List Point} → AllGood g → good b ≡ false → pieces (g ++ (b ∷ rest)) ≡ g ∷ pieces rest
unfolding pieces onto
pieces_broken rest b none f = rw f
pieces_broken rest b (more {p} {ps} e g) f = rw (e, pieces_broken rest b g f)

-- a member has a piece, perhaps of no points
record Has (pss : List (List Point)) : Type 0 where
  first : List Point
  others : List (List Point)
  is : pss ≡ first ∷ others

has : {ps : List Point} → Split ps → Has (pieces ps)
has (whole {g} h) = record { first = g; others = []; is = pieces_whole h }
has (broken {g} rest b h f s) = record { first = g; others = pieces rest; is = pieces_broken rest b h f }

pub reasons_whole : {g : List Point} → AllGood g → member_reasons g ≡ piece_reasons g
unfolding member_reasons between_pieces
reasons_whole h = rw (pieces_whole h)

pub reasons_broken : (rest : List Point) (b : Point) {g : List Point} → AllGood g → good b ≡ false → member_reasons (g ++ (b ∷ rest)) ≡ piece_reasons g ++ (range ∷ member_reasons rest)
unfolding member_reasons between_pieces
reasons_broken rest b h f =
    let s = has (split rest) in
    rw (pieces_broken rest b h f, s.is)

pub cleaned_whole : {g : List Point} → AllGood g → cleaned_member g ≡ kept_of g
unfolding cleaned_member flat_map
cleaned_whole {g} h = rw (pieces_whole h) (append-nil (kept_of g))

pub cleaned_broken : (rest : List Point) (b : Point) {g : List Point} → AllGood g → good b ≡ false → cleaned_member (g ++ (b ∷ rest)) ≡ kept_of g ++ cleaned_member rest
unfolding cleaned_member flat_map
cleaned_broken rest b h f = rw (pieces_broken rest b h f)

-- ---- as many reasons as points

length_after : (r : ℕ) (a : Point) (ps : List Point) → length (reasons_after r a ps) ≡ length ps
unfolding reasons_after
length_after r a [] = refl
length_after r a (p ∷ ps) = go (same_point a p) (length_after r a ps) (length_after r p ps)
  where
    go : (b : Bool) → length (reasons_after r a ps) ≡ length ps → length (reasons_after r p ps) ≡ length ps
        → length (cond b (repeat ∷ reasons_after r a ps) (r ∷ reasons_after r p ps)) ≡ suc (length ps)
    go true h k = ap suc h
    go false h k = ap suc k

pub length_by : (r : ℕ) (ps : List Point) → length (reasons_by r ps) ≡ length ps
unfolding reasons_by
length_by r [] = refl
length_by r (p ∷ ps) = ap suc (length_after r p ps)

pub length_piece : (ps : List Point) → length (piece_reasons ps) ≡ length ps
unfolding piece_reasons
length_piece ps = length_by (cond (is_piece (thin ps)) kept short) ps

length_split : {ps : List Point} → Split ps → length (member_reasons ps) ≡ length ps
length_split (whole {g} h) = ap length (reasons_whole h) ∙ length_piece g
length_split (broken {g} rest b h f s) =
    ap length (reasons_broken rest b h f)
    ∙ simp length-append (let u = length_split s in let v = length_piece g in omega arith)

pub length_member : (ps : List Point) → length (member_reasons ps) ≡ length ps
length_member ps = length_split (split ps)

pub length_reasons : (pss : List (List Point)) → length (reasons pss) ≡ length (flatten pss)
unfolding reasons flat_map flatten
length_reasons [] = refl
length_reasons (ps ∷ pss) = simp length-append (let u = length_member ps in let v = length_reasons pss in omega arith)

-- ---- what is left of a piece is no longer than the piece

pub after_most : (a : Point) (ps : List Point) → length (thin_after a ps) ≤ length ps
unfolding thin_after
after_most a [] = omega arith
after_most a (p ∷ ps) = go (same_point a p) (after_most a ps) (after_most p ps)
  where
    go : (b : Bool) → length (thin_after a ps) ≤ length ps → length (thin_after p ps) ≤ length ps → length (cond b (thin_after a ps) (p ∷ thin_after p ps)) ≤ suc (length ps)
    go true h k = omega arith
    go false h k = omega arith

pub thin_most : (ps : List Point) → length (thin ps) ≤ length ps
unfolding thin
thin_most [] = omega arith
thin_most (p ∷ ps) = let u = after_most p ps in omega arith

-- a piece that is kept has two points
pub kept_twice : (ps : List Point) → 2 * length (kept_of ps) ≤ length ps
unfolding kept_of is_piece
kept_twice ps = go (leb 2 (length (thin ps))) refl
  where
    go : (b : Bool) → leb 2 (length (thin ps)) ≡ b → 2 * length (cond b (thin ps ∷ []) []) ≤ length ps
    go true e = let u = thin_most ps in let v = leb-true 2 (length (thin ps)) e in omega arith
    go false e = omega arith

twice_split : {ps : List Point} → Split ps → 2 * length (cleaned_member ps) ≤ length ps
twice_split (whole {g} h) = rw (cleaned_whole h) (kept_twice g)
twice_split (broken {g} rest b h f s) =
    let u = ap length (cleaned_broken rest b h f) in
    simp length-append (let v = kept_twice g in let w = twice_split s in omega (arith, length-append (kept_of g) (cleaned_member rest)))

pub cleaned_twice : (ps : List Point) → 2 * length (cleaned_member ps) ≤ length ps
cleaned_twice ps = twice_split (split ps)

-- ---- one of the two

pub kept_long : (ps : List Point) → 2 ≤ length (thin ps) → kept_of ps ≡ thin ps ∷ []
unfolding kept_of is_piece
kept_long ps h = rw (le-leb 2 (length (thin ps)) h)

pub kept_short : (ps : List Point) → length (thin ps) < 2 → ◌≡◌ {A = List (List Point)} (kept_of ps) []
unfolding kept_of is_piece
kept_short ps h = rw (lt-leb 2 (length (thin ps)) h)

pub reasons_long : (ps : List Point) → 2 ≤ length (thin ps) → piece_reasons ps ≡ reasons_by kept ps
unfolding piece_reasons is_piece
reasons_long ps h = rw (le-leb 2 (length (thin ps)) h)

pub reasons_short : (ps : List Point) → length (thin ps) < 2 → piece_reasons ps ≡ reasons_by short ps
unfolding piece_reasons is_piece
reasons_short ps h = rw (lt-leb 2 (length (thin ps)) h)

-- where nothing is left after a kept point, all are repeats, whatever the others would be
pub all_repeats : (r s : ℕ) (a : Point) (ps : List Point) → length (thin_after a ps) ≡ 0 → reasons_after r a ps ≡ reasons_after s a ps
unfolding thin_after reasons_after
all_repeats r s a [] h = refl
all_repeats r s a (p ∷ ps) h = go (same_point a p) (all_repeats r s a ps) h
  where
    go : (b : Bool) → (length (thin_after a ps) ≡ 0 → reasons_after r a ps ≡ reasons_after s a ps) → length (cond b (thin_after a ps) (p ∷ thin_after p ps)) ≡ 0
        → cond b (repeat ∷ reasons_after r a ps) (r ∷ reasons_after r p ps) ≡ cond b (repeat ∷ reasons_after s a ps) (s ∷ reasons_after s p ps)
    go true ih h = ap (λ (l : List ℕ). repeat ∷ l) (ih h)
    go false ih h = absurd (omega arith)

-- ---- kept and dropped together are the input

module _ {A : Type 0} where
  pub kept_append : (rs rs' : List ℕ) (vs vs' : List A) → length rs ≡ length vs → kept_values (rs ++ rs') (vs ++ vs') ≡ kept_values rs vs ++ kept_values rs' vs'
  unfolding kept_values
  kept_append [] rs' [] vs' e = refl
  kept_append [] rs' (v ∷ vs) vs' e = absurd (omega arith)
  kept_append (r ∷ rs) rs' [] vs' e = absurd (omega arith)
  kept_append (r ∷ rs) rs' (v ∷ vs) vs' e = go (leb r kept) (kept_append rs rs' vs vs' (omega arith))
    where
      go : (b : Bool) → kept_values (rs ++ rs') (vs ++ vs') ≡ kept_values rs vs ++ kept_values rs' vs'
          → cond b (v ∷ kept_values (rs ++ rs') (vs ++ vs')) (kept_values (rs ++ rs') (vs ++ vs')) ≡ cond b (v ∷ kept_values rs vs) (kept_values rs vs) ++ kept_values rs' vs'
      go true ih = ap (λ (l : List A). v ∷ l) ih
      go false ih = ih

  pub kept_most : (rs : List ℕ) (vs : List A) → length (kept_values rs vs) ≤ length vs
  unfolding kept_values
  kept_most [] vs = omega arith
  kept_most (r ∷ rs) [] = omega arith
  kept_most (r ∷ rs) (v ∷ vs) = go (leb r kept) (kept_most rs vs)
    where
      go : (b : Bool) → length (kept_values rs vs) ≤ length vs → length (cond b (v ∷ kept_values rs vs) (kept_values rs vs)) ≤ suc (length vs)
      go true h = omega arith
      go false h = omega arith

  -- zeros beyond the values change nothing
  pub kept_beyond : (rs zs : List ℕ) (vs : List A) → length rs ≡ length vs → kept_values (rs ++ zs) vs ≡ kept_values rs vs
  unfolding kept_values
  kept_beyond [] [] [] e = refl
  kept_beyond [] (z ∷ zs) [] e = refl
  kept_beyond [] zs (v ∷ vs) e = absurd (omega arith)
  kept_beyond (r ∷ rs) zs [] e = absurd (omega arith)
  kept_beyond (r ∷ rs) zs (v ∷ vs) e = rw (kept_beyond rs zs vs (omega arith))

pub kept_map : {A B : Type 0} (f : A → B) (rs : List ℕ) (vs : List A) → kept_values rs (map f vs) ≡ map f (kept_values rs vs)
unfolding kept_values
kept_map f [] vs = refl
kept_map f (r ∷ rs) [] = refl
kept_map {A} {B} f (r ∷ rs) (v ∷ vs) = go (leb r kept) (kept_map f rs vs)
  where
    go : (b : Bool) → kept_values rs (map f vs) ≡ map f (kept_values rs vs) → cond b (f v ∷ kept_values rs (map f vs)) (kept_values rs (map f vs)) ≡ map f (cond b (v ∷ kept_values rs vs) (kept_values rs vs))
    go true ih = ap (λ (l : List B). f v ∷ l) ih
    go false ih = ih

kept_after : (a : Point) (ps : List Point) → kept_values (reasons_after kept a ps) ps ≡ thin_after a ps
unfolding kept_values reasons_after thin_after
kept_after a [] = refl
kept_after a (p ∷ ps) = go (same_point a p) (kept_after a ps) (kept_after p ps)
  where
    go : (b : Bool) → kept_values (reasons_after kept a ps) ps ≡ thin_after a ps → kept_values (reasons_after kept p ps) ps ≡ thin_after p ps
        → kept_values (cond b (repeat ∷ reasons_after kept a ps) (kept ∷ reasons_after kept p ps)) (p ∷ ps) ≡ cond b (thin_after a ps) (p ∷ thin_after p ps)
    go true h k = h
    go false h k = ap (λ (l : List Point). p ∷ l) k

none_after : (a : Point) (ps : List Point) → kept_values (reasons_after short a ps) ps ≡ []
unfolding kept_values reasons_after
none_after a [] = refl
none_after a (p ∷ ps) = go (same_point a p) (none_after a ps) (none_after p ps)
  where
    go : (b : Bool) → kept_values (reasons_after short a ps) ps ≡ [] → kept_values (reasons_after short p ps) ps ≡ []
        → kept_values (cond b (repeat ∷ reasons_after short a ps) (short ∷ reasons_after short p ps)) (p ∷ ps) ≡ []
    go true h k = h
    go false h k = k

kept_thin : (ps : List Point) → kept_values (reasons_by kept ps) ps ≡ thin ps
unfolding kept_values reasons_by thin
kept_thin [] = refl
kept_thin (p ∷ ps) = ap (λ (l : List Point). p ∷ l) (kept_after p ps)

none_thin : (ps : List Point) → kept_values (reasons_by short ps) ps ≡ []
unfolding kept_values reasons_by
none_thin [] = refl
none_thin (p ∷ ps) = none_after p ps

kept_piece : (ps : List Point) → kept_values (piece_reasons ps) ps ≡ flatten (kept_of ps)
unfolding piece_reasons kept_of flatten
kept_piece ps = go (is_piece (thin ps))
  where
    go : (b : Bool) → kept_values (reasons_by (cond b kept short) ps) ps ≡ flatten (cond b (thin ps ∷ []) [])
    go true = kept_thin ps ∙ sym (append-nil (thin ps))
    go false = none_thin ps

pub flatten_append : {A : Type 0} (xss yss : List (List A)) → flatten (xss ++ yss) ≡ flatten xss ++ flatten yss
unfolding flatten
flatten_append [] yss = refl
flatten_append (xs ∷ xss) yss = rw (flatten_append xss yss) (sym (append_assoc xs (flatten xss) (flatten yss)))

kept_split : {ps : List Point} → Split ps → kept_values (member_reasons ps) ps ≡ flatten (cleaned_member ps)
unfolding kept_values
kept_split (whole {g} h) = rw (reasons_whole h, cleaned_whole h) (kept_piece g)
kept_split (broken {g} rest b h f s) =
    ap (λ (rs : List ℕ). kept_values rs (g ++ (b ∷ rest))) (reasons_broken rest b h f)
    ∙ kept_append (piece_reasons g) (range ∷ member_reasons rest) g (b ∷ rest) (length_piece g)
    ∙ rw (kept_piece g, kept_split s) (sym (ap flatten (cleaned_broken rest b h f) ∙ flatten_append (kept_of g) (cleaned_member rest)))

-- OF THE POINTS OF MEMBERS, those whose reason is `kept` are the kept ones, in order. Each point has one reason (`length_reasons`).
pub kept_are : (pss : List (List Point)) → kept_values (reasons pss) (flatten pss) ≡ flatten (cleaned pss)
unfolding reasons cleaned flat_map flatten kept_values
kept_are [] = refl
kept_are (ps ∷ pss) =
    kept_append (member_reasons ps) (flat_map member_reasons pss) ps (flatten pss) (length_member ps)
    ∙ rw (kept_split (split ps), kept_are pss) (sym (flatten_append (cleaned_member ps) (flat_map cleaned_member pss)))

-- ---- cleaning again

-- a piece that cleaning leaves as it is
pub record Clean (ps : List Point) : Type 0 where
  pub right : AllGood ps
  pub long : 2 ≤ length ps
  pub same : thin ps ≡ ps
  pub why : reasons_by kept ps ≡ replicate (length ps) kept

good_after : (a : Point) {ps : List Point} → AllGood ps → AllGood (thin_after a ps)
unfolding thin_after
good_after a none = none
good_after a (more {p} {ps} e g) = go (same_point a p) (good_after a g) (good_after p g)
  where
    go : (b : Bool) → AllGood (thin_after a ps) → AllGood (thin_after p ps) → AllGood (cond b (thin_after a ps) (p ∷ thin_after p ps))
    go true h k = h
    go false h k = more e k

good_thin : {ps : List Point} → AllGood ps → AllGood (thin ps)
unfolding thin
good_thin none = none
good_thin (more {p} {ps} e g) = more e (good_after p g)

-- points after a kept one that have no repeats among them
abbrev Thinned : Point → List Point → Type 0
Thinned a ps = (thin_after a ps ≡ ps) × (reasons_after kept a ps ≡ replicate (length ps) kept)

after_again : (a : Point) (ps : List Point) → Thinned a (thin_after a ps)
unfolding thin_after reasons_after
after_again a [] = (refl, refl)
after_again a (p ∷ ps) = go (same_point a p) refl (after_again a ps) (after_again p ps)
  where
    go : (b : Bool) → same_point a p ≡ b → Thinned a (thin_after a ps) → Thinned p (thin_after p ps) → Thinned a (cond b (thin_after a ps) (p ∷ thin_after p ps))
    go true e h k = h
    go false e h k = (rw e (ap (λ (l : List Point). p ∷ l) k.0), rw e (ap (λ (l : List ℕ). kept ∷ l) k.1))

thin_again : (ps : List Point) → (thin (thin ps) ≡ thin ps) × (reasons_by kept (thin ps) ≡ replicate (length (thin ps)) kept)
unfolding thin reasons_by
thin_again [] = (refl, refl)
thin_again (p ∷ ps) =
    let u = after_again p ps in
    (ap (λ (l : List Point). p ∷ l) u.0, ap (λ (l : List ℕ). kept ∷ l) u.1)

abbrev pub AllClean : List (List Point) → Type 0
AllClean [] = Unit {0}
AllClean (ps ∷ pss) = Clean ps × AllClean pss

clean_append : (pss qss : List (List Point)) → AllClean pss → AllClean qss → AllClean (pss ++ qss)
clean_append [] qss h k = k
clean_append (ps ∷ pss) qss h k = (h.0, clean_append pss qss h.1 k)

clean_piece : {ps : List Point} → AllGood ps → AllClean (kept_of ps)
unfolding kept_of is_piece
clean_piece {ps} g = go (leb 2 (length (thin ps))) refl
  where
    go : (b : Bool) → leb 2 (length (thin ps)) ≡ b → AllClean (cond b (thin ps ∷ []) [])
    go true e = let u = thin_again ps in (record { right = good_thin g; long = leb-true 2 (length (thin ps)) e; same = u.0; why = u.1 }, tt)
    go false e = tt

clean_split : {ps : List Point} → Split ps → AllClean (cleaned_member ps)
clean_split (whole h) = subst AllClean (sym (cleaned_whole h)) (clean_piece h)
clean_split (broken {g} rest b h f s) =
    subst AllClean (sym (cleaned_broken rest b h f)) (clean_append (kept_of g) (cleaned_member rest) (clean_piece h) (clean_split s))

-- what is kept is made of such pieces
pub cleaned_clean : (pss : List (List Point)) → AllClean (cleaned pss)
unfolding cleaned flat_map
cleaned_clean [] = tt
cleaned_clean (ps ∷ pss) = clean_append (cleaned_member ps) (flat_map cleaned_member pss) (clean_split (split ps)) (cleaned_clean pss)

piece_same : {ps : List Point} → Clean ps → (cleaned_member ps ≡ ps ∷ []) × (member_reasons ps ≡ replicate (length ps) kept)
piece_same {ps} c =
    let n : 2 ≤ length (thin ps) = subst (λ (l : List Point). 2 ≤ length l) (sym c.same) c.long in
    (cleaned_whole c.right ∙ kept_long ps n ∙ ap (λ (l : List Point). l ∷ []) c.same, reasons_whole c.right ∙ reasons_long ps n ∙ c.why)

pub clean_same : (pss : List (List Point)) → AllClean pss → (cleaned pss ≡ pss) × (reasons pss ≡ replicate (length (flatten pss)) kept)
unfolding cleaned reasons flat_map flatten
clean_same [] h = (refl, refl)
clean_same (ps ∷ pss) h =
    let a = piece_same h.0 in
    let b = clean_same pss h.1 in
    (rw (a.0, b.0), rw (a.1, b.1, length-append ps (flatten pss)) (replicate-append-replicate (length ps) (length (flatten pss)) kept))

-- CLEANING CLEANED DATA CHANGES NOTHING, and gives no reason
pub cleaned_again : (pss : List (List Point)) → (cleaned (cleaned pss) ≡ cleaned pss) × (reasons (cleaned pss) ≡ replicate (length (flatten (cleaned pss))) kept)
cleaned_again pss = clean_same (cleaned pss) (cleaned_clean pss)

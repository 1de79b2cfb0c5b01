-- What the turns push is inside the grid, and how much it is; and the one refusal of a walk. Assumes nothing.
use Rattle.std.proofs.Common.{◌≡◌, ℕ, zero, suc, ◌+◌, ◌*◌, ◌<◌, ◌≤◌, Bool, true, false, cond, ◌&&◌, ltb, List, [], ◌++◌, length, sym, refl, ap, ◌∙◌, subst, arith, length-append, ltb-true}
use Rattle.slices.specs.Lists.{Below}
use Rattle.slices.proofs.Members.{below_append}
use Rattle.refusals.specs.declared.Refusal.{Refusal}
use Rattle.refusals.specs.Refusals.{refusal, refused, gives, ◌into◌}
use Rattle.grid.proofs.Bools.{and_left, and_right}
use Rattle.grid.proofs.Shapes.{cell_inside}
use Rattle.turns.specs.declared.Walk.{Walk}
use Rattle.turns.specs.declared.Way.{Way}
use Rattle.turns.specs.Turns.{Ray, State, turn_of}
use Rattle.turns.specs.Pushes.{kept_if, push_of, pushed_of, Outcome, before, followed_by, next_of, going_of, turns, walked_of}
use Rattle.turns.specs.InsideModular.{turn_by, stepped_by, moved_by, push_by, sides_by, pushed_by, next_by, going_by, turns_by, walked_by}
use Rattle.turns.specs.Inside.{Straight, Still}
use Rattle.turns.proofs.Grows.{at_most_one}
use Rattle.turns.proofs.Loop.{at_most_three, one_way, turn_lean, far_of, straight_next, still_next}

-- ---- an outcome from its parts

pub no_cells : (why : Refusal) (xs : List ℕ) → refused why ≡ gives xs → ⊥
no_cells why xs e = let z : ◌≡◌ {A = ℕ} 0 1 = cc in omega arith

pub same_cells : (xs ys : List ℕ) → gives xs ≡ gives ys → xs ≡ ys
same_cells xs ys e = cc

record Before (ps : List ℕ) (o : Outcome) (xs : List ℕ) : Type 0 where
  ys : List ℕ
  rest : o ≡ gives ys
  whole : xs ≡ ps ++ ys

before_found : (ps : List ℕ) (o : Outcome) (xs : List ℕ) → before ps o ≡ gives xs → Before ps o xs
unfolding before ◌into◌
before_found ps (refused why) xs e = absurd (no_cells why xs e)
before_found ps (gives ys) xs e = record { ys = ys; rest = refl; whole = sym (same_cells (ps ++ ys) xs e) }

record Followed (o : Outcome) (ps : List ℕ) (xs : List ℕ) : Type 0 where
  ys : List ℕ
  rest : o ≡ gives ys
  whole : xs ≡ ys ++ ps

followed_found : (o : Outcome) (ps : List ℕ) (xs : List ℕ) → followed_by o ps ≡ gives xs → Followed o ps xs
unfolding followed_by ◌into◌
followed_found (refused why) ps xs e = absurd (no_cells why xs e)
followed_found (gives ys) ps xs e = record { ys = ys; rest = refl; whole = sym (same_cells (ys ++ ps) xs e) }

-- ---- what is pushed is inside the grid

kept_below : (n : ℕ) (b : Bool) (c : ℕ) → (b ≡ true → c < n) → Below n (kept_if b c)
unfolding kept_if
kept_below n true c h = (h refl, tt)
kept_below n false c h = tt

module _ (cols rows : ℕ) where
  push_below : (col row : ℕ) → Below (rows * cols) (push_by cols rows col row)
  unfolding push_by
  push_below col row =
      kept_below (rows * cols) (ltb col cols && ltb row rows) (row * cols + col)
      (λ e. cell_inside rows cols row col (ltb-true row rows (and_right (ltb col cols) (ltb row rows) e)) (ltb-true col cols (and_left (ltb col cols) (ltb row rows) e)))

  sides_below : (b : Bool) (way : Way) (w : Walk) → Below (rows * cols) (sides_by b cols rows way w)
  unfolding sides_by
  sides_below false way w = tt
  sides_below true way w =
      below_append (rows * cols) (push_by cols rows (stepped_by way.x w.x) w.y.index) (push_by cols rows w.x.index (stepped_by way.y w.y))
      (push_below (stepped_by way.x w.x) w.y.index) (push_below w.x.index (stepped_by way.y w.y))

  turn_below : (way : Way) (w : Walk) → Below (rows * cols) (pushed_by (turn_by way w) cols rows way w)
  unfolding pushed_by
  turn_below way w =
      let k = turn_by way w in
      let n = moved_by k way w in
      below_append (rows * cols) (sides_by (k.x && k.y) cols rows way w) (push_by cols rows n.x.index n.y.index)
      (sides_below (k.x && k.y) way w) (push_below n.x.index n.y.index)

-- ---- the turns: inside, three a turn, one a turn along an axis, none at a point

-- a point that is not at its end never comes there
still_refused : (left cols rows : ℕ) (way : Way) (w : Walk) → Still way w → going_by way w ≡ true → turns_by left cols rows way w ≡ refused (refusal 7 0)
unfolding turns_by before ◌into◌
still_refused zero cols rows way w s t = rw t
still_refused (suc left) cols rows way w s t = rw (t, still_next way w s, still_refused left cols rows way w s t)

record Pushed (n left : ℕ) (way : Way) (w : Walk) (xs : List ℕ) : Type 0 where
  inside : Below n xs
  all : length xs ≤ 3 * left
  few : Straight way w → length xs ≤ left
  least : Still way w → length xs ≤ 0

none_pushed : (n left : ℕ) (way : Way) (w : Walk) (xs : List ℕ) → [] ≡ xs → Pushed n left way w xs
none_pushed n left way w xs e = rw (← e) (record { inside = tt; all = omega arith; few = λ s. omega arith; least = λ s. omega arith })

turns_pushed : (left cols rows : ℕ) (way : Way) (w : Walk) (xs : List ℕ) → turns_by left cols rows way w ≡ gives xs → Pushed (rows * cols) left way w xs
unfolding turns_by
turns_pushed zero cols rows way w xs e = go (going_by way w) e
  where
    go : (g : Bool) → cond g (refused (refusal 7 0)) (gives []) ≡ gives xs → Pushed (rows * cols) 0 way w xs
    go false e = none_pushed (rows * cols) 0 way w xs (same_cells [] xs e)
    go true e = absurd (no_cells (refusal 7 0) xs e)
turns_pushed (suc left) cols rows way w xs e = go (going_by way w) refl (turns_pushed left cols rows way (next_by way w)) e
  where
    ps : List ℕ
    ps = pushed_by (turn_by way w) cols rows way w

    rest : Outcome
    rest = turns_by left cols rows way (next_by way w)

    go : (g : Bool) → going_by way w ≡ g → ((ys : List ℕ) → rest ≡ gives ys → Pushed (rows * cols) left way (next_by way w) ys) → cond g (before ps rest) (gives []) ≡ gives xs
        → Pushed (rows * cols) (suc left) way w xs
    go false t f d = none_pushed (rows * cols) (suc left) way w xs (same_cells [] xs d)
    go true t f d =
        let b = before_found ps rest xs d in
        let h = f b.ys b.rest in
        let l : length xs ≡ length ps + length b.ys = ap length b.whole ∙ length-append ps b.ys in
        record {
          inside = subst (λ (z : List ℕ). Below (rows * cols) z) (sym b.whole) (below_append (rows * cols) ps b.ys (turn_below cols rows way w) h.inside);
          all = omega (arith, l, h.all, at_most_three (turn_by way w) cols rows way w);
          few = λ s. omega (arith, l, h.few (straight_next way w s), one_way (turn_by way w) cols rows way w (turn_lean way w (far_of way w s)));
          least = λ s. absurd (no_cells (refusal 7 0) xs (sym (still_refused (suc left) cols rows way w s t) ∙ e));
        }

-- the walk, with its first and its last cell
pub walked_pushed : (cols rows : ℕ) (way : Way) (w : Walk) (xs : List ℕ) → walked_by cols rows way w ≡ gives xs
    → Below (rows * cols) xs × ((length xs ≤ 15002) × ((Straight way w → length xs ≤ 5002) × (Still way w → length xs ≤ 2)))
unfolding walked_by
walked_pushed cols rows way w xs e =
    let f = push_by cols rows w.x.index w.y.index in
    let l = push_by cols rows way.x.end way.y.end in
    let a = followed_found (before f (turns_by 5000 cols rows way w)) l xs e in
    let b = before_found f (turns_by 5000 cols rows way w) a.ys a.rest in
    let p = turns_pushed 5000 cols rows way w b.ys b.rest in
    let m : length xs ≡ (length f + length b.ys) + length l =
    ap length a.whole ∙ length-append a.ys l ∙ ap (λ (k : ℕ). k + length l) (ap length b.whole ∙ length-append f b.ys) in
    let u = at_most_one cols rows w.x.index w.y.index in
    let v = at_most_one cols rows way.x.end way.y.end in (
      subst (λ (z : List ℕ). Below (rows * cols) z) (sym a.whole)
          (below_append (rows * cols) a.ys l
          (subst (λ (z : List ℕ). Below (rows * cols) z) (sym b.whole) (below_append (rows * cols) f b.ys (push_below cols rows w.x.index w.y.index) p.inside))
          (push_below cols rows way.x.end way.y.end)),
      (omega (arith, m, p.all), (λ s. omega (arith, m, p.few s), λ s. omega (arith, m, p.least s))),
    )

-- ---- the one refusal

before_refused : (ps : List ℕ) (o : Outcome) (why : Refusal) → before ps o ≡ refused why → o ≡ refused why
unfolding before ◌into◌
before_refused ps (refused y) why d = d
before_refused ps (gives ys) why d = absurd (no_cells why (ps ++ ys) (sym d))

followed_refused : (o : Outcome) (ps : List ℕ) (why : Refusal) → followed_by o ps ≡ refused why → o ≡ refused why
unfolding followed_by ◌into◌
followed_refused (refused y) ps why d = d
followed_refused (gives ys) ps why d = absurd (no_cells why (ys ++ ps) (sym d))

-- where there is a turn
cond_refused : (g : Bool) (o : Outcome) (why : Refusal) → cond g o (gives []) ≡ refused why → o ≡ refused why
cond_refused true o why e = e
cond_refused false o why e = absurd (no_cells why [] (sym e))

turns_refused : (left cols rows : ℕ) (r : Ray) (s : State) (why : Refusal) → turns left cols rows r s ≡ refused why → why ≡ refusal 7 0
unfolding turns
turns_refused zero cols rows r s why e =
    let d = cond_refused (going_of r s) (refused (refusal 7 0)) why e in
    cc
turns_refused (suc left) cols rows r s why e =
    let ps = pushed_of (turn_of r s) cols rows r s in
    let o = turns left cols rows r (next_of r s) in
    turns_refused left cols rows r (next_of r s) why (before_refused ps o why (cond_refused (going_of r s) (before ps o) why e))

pub walked_refused : (cols rows : ℕ) (r : Ray) (s : State) (why : Refusal) → walked_of cols rows r s ≡ refused why → why ≡ refusal 7 0
unfolding walked_of
walked_refused cols rows r s why e =
    let f = push_of cols rows s.x.index s.y.index in
    let t = turns 5000 cols rows r s in
    turns_refused 5000 cols rows r s why (before_refused f t why (followed_refused (before f t) (push_of cols rows r.x.end r.y.end) why e))

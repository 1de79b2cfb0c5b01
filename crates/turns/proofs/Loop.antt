-- The turns of the loop. Assumes nothing.
use Rattle.std.specs.Prelude.{Some, None, Option}
use Rattle.std.proofs.Common.{◌≡◌, ℕ, zero, suc, ◌+◌, ◌-◌, ◌*◌, ◌<◌, ◌≤◌, Bool, true, false, cond, ◌&&◌, ◌⊎◌, List, [], ◌++◌, length, take, sym, refl, ap, ◌∙◌, subst, inl, inr, append_assoc, append-nil, arith, length-append}
use lib.Ieee.{Float, inf, binary64, add, sub, lt, le}
use Rattle.numbers.specs.Order.{least_of, magnitude_of}
use Rattle.refusals.specs.Refusals.{refusal, refused, gives, ◌into◌}
use Rattle.turns.specs.declared.Course.{Course}
use Rattle.turns.specs.declared.Next.{Next}
use Rattle.turns.specs.declared.Position.{Position}
use Rattle.turns.specs.declared.Turn.{Turn}
use Rattle.turns.specs.declared.Walk.{Walk}
use Rattle.turns.specs.declared.Way.{Way}
use Rattle.turns.specs.Turns.{one, finite_of, tolerance_of, near_of, stop, both, single, further_of, goes_of}
use Rattle.cover.specs.Inside.{Appended}
use Rattle.cover.proofs.Growing.{none, then}
use Rattle.turns.specs.Pushes.{Outcome, before}
use Rattle.turns.specs.Trails.{unless_there, ended_in}
use Rattle.turns.specs.InsideModular.{arrived_by, turn_by, stepped_by, advanced_by, moved_by, push_by, sides_by, pushed_by, next_by, going_by, turns_by, onward_by, trodden_by}
use Rattle.turns.specs.Inside.{RanTo, RanWithin, Far, Straight, Still, Runs}
use Rattle.turns.proofs.Floats.{sum_far}
use Rattle.turns.proofs.Grows.{at_most_one}

-- ---- how many a turn pushes

pub sides_le : (b : Bool) (cols rows : ℕ) (way : Way) (w : Walk) → length (sides_by b cols rows way w) ≤ 2
unfolding sides_by
sides_le false cols rows way w = omega arith
sides_le true cols rows way w =
    let c = stepped_by way.x w.x in
    let r = stepped_by way.y w.y in
    rw length-append (omega (arith, at_most_one cols rows c w.y.index, at_most_one cols rows w.x.index r))

pub sides_none : (b : Bool) (cols rows : ℕ) (way : Way) (w : Walk) → b ≡ false → sides_by b cols rows way w ≡ []
unfolding sides_by
sides_none b cols rows way w e = rw e

module _ (k : Turn) (cols rows : ℕ) (way : Way) (w : Walk) where
  pub at_most_three : length (pushed_by k cols rows way w) ≤ 3
  unfolding pushed_by
  at_most_three =
      rw length-append
      (omega (arith, sides_le (k.x && k.y) cols rows way w, at_most_one cols rows (moved_by k way w).x.index (moved_by k way w).y.index))

  pub one_way : (k.x && k.y) ≡ false → length (pushed_by k cols rows way w) ≤ 1
  unfolding pushed_by
  one_way e = rw (sides_none (k.x && k.y) cols rows way w e) (at_most_one cols rows (moved_by k way w).x.index (moved_by k way w).y.index)

-- ---- one turn of the code

-- what it comes to, from the state that it moves to, the side cells, and the cell of that state
pub strode : (cols rows : ℕ) (way : Way) (w to : Walk) (k : Turn) (r : Next) {s s' s'' : List ℕ} {n a : ℕ} → to ≡ moved_by k way w
    → Appended s s' n a (sides_by (k.x && k.y) cols rows way w)
    → (r.at ≡ to) × Appended s' s'' a r.count (push_by cols rows to.x.index to.y.index)
    → (r.at ≡ moved_by k way w) × Appended s s'' n r.count (pushed_by k cols rows way w)
unfolding pushed_by
strode cols rows way w to k r e g h = (h.0 ∙ e, rw (← e) (then g h.1))

pub both_sides : (k : Turn) (cols rows : ℕ) (way : Way) (w : Walk) {s s' : List ℕ} {n a : ℕ} → k.x ≡ true → k.y ≡ true → Appended s s' n a (sides_by true cols rows way w)
    → Appended s s' n a (sides_by (k.x && k.y) cols rows way w)
both_sides k cols rows way w p q g = rw (p, q) g

-- on one axis there are no side cells
pub no_sides : (k : Turn) (cols rows : ℕ) (way : Way) (w : Walk) {s : List ℕ} {n : ℕ} → (k.x && k.y) ≡ false → n ≤ length s → Appended s s n n (sides_by (k.x && k.y) cols rows way w)
no_sides k cols rows way w e h = rw (sides_none (k.x && k.y) cols rows way w e) (none h)

pub not_both_x : (k : Turn) → k.x ≡ false → (k.x && k.y) ≡ false
not_both_x k e = rw e

pub not_both_y : (k : Turn) → k.x ≡ true → k.y ≡ false → (k.x && k.y) ≡ false
not_both_y k e f = rw (e, f)

next_is : (way : Way) (w w' : Walk) (k : Turn) → k ≡ turn_by way w → w' ≡ moved_by k way w → w' ≡ next_by way w
unfolding next_by
next_is way w w' k e f = f ∙ rw e

pub going_is : (way : Way) (w : Walk) (k : Turn) (b : Bool) → k ≡ turn_by way w → b ≡ goes_of k → going_by way w ≡ b
unfolding going_by
going_is way w k b e f = rw (← e) (sym f)

-- ---- the laws of `turns_by`

module _ (cols rows : ℕ) (way : Way) (w : Walk) where
  turns_stop : (n : ℕ) → going_by way w ≡ false → turns_by n cols rows way w ≡ gives []
  unfolding turns_by
  turns_stop zero e = rw e
  turns_stop (suc n) e = rw e

  turns_over : going_by way w ≡ true → turns_by 0 cols rows way w ≡ refused (refusal 7 0)
  unfolding turns_by
  turns_over e = rw e

  turns_suc : (n : ℕ) → going_by way w ≡ true → turns_by (suc n) cols rows way w ≡ before (pushed_by (turn_by way w) cols rows way w) (turns_by n cols rows way (next_by way w))
  unfolding turns_by
  turns_suc n e = rw e

  turns_more : (n : ℕ) → 0 < n → going_by way w ≡ true → turns_by n cols rows way w ≡ before (pushed_by (turn_by way w) cols rows way w) (turns_by (n - 1) cols rows way (next_by way w))
  turns_more n h e =
      let p : n ≡ suc (n - 1) = omega arith in
      ap (λ (x : ℕ). turns_by x cols rows way w) p ∙ turns_suc (n - 1) e

pub before_before : (a b : List ℕ) (o : Outcome) → before a (before b o) ≡ before (a ++ b) o
unfolding before ◌into◌
before_before a b (refused why) = refl
before_before a b (gives c) = ap gives (sym (append_assoc a b c))

-- ---- a line along an axis never turns both ways

pub near_far : (tx ty tol : Float) → (tx ≡ inf false) ⊎ (ty ≡ inf false) → near_of tx ty tol ≡ false
unfolding near_of finite_of
near_far tx ty tol (inl e) = rw e
near_far tx ty tol (inr e) = rw e (go (finite_of tx) (le (magnitude_of (sub binary64 tx (inf false))) tol))
  where
    go : (b c : Bool) → ((b && false) && c) ≡ false
    go true c = refl
    go false c = refl

never_both : (a b c : Bool) (k : Turn) → cond a stop (cond b stop (cond false both (single c))) ≡ k → (k.x && k.y) ≡ false
never_both true b c k e = rw (← e)
never_both false true c k e = rw (← e)
never_both false false true k e = rw (← e)
never_both false false false k e = rw (← e)

pub turn_lean : (way : Way) (w : Walk) → (w.x.t_max ≡ inf false) ⊎ (w.y.t_max ≡ inf false) → ((turn_by way w).x && (turn_by way w).y) ≡ false
unfolding turn_by further_of
turn_lean way w s =
    let tx = w.x.t_max in
    let ty = w.y.t_max in
    never_both (arrived_by way w) (lt (add binary64 one (tolerance_of tx ty)) (least_of tx ty)) (lt tx ty) (turn_by way w)
    (sym (rw (near_far tx ty (tolerance_of tx ty) s)))

pub far_of : (way : Way) (w : Walk) → Straight way w → (w.x.t_max ≡ inf false) ⊎ (w.y.t_max ≡ inf false)
far_of way w (inl p) = inl p.max
far_of way w (inr p) = inr p.max

far_moved : (b : Bool) (c : Course) (p : Position) → Far c p → Far c (advanced_by b c p)
unfolding advanced_by
far_moved false c p f = f
far_moved true c p f = record { max = sum_far p.t_max c.t_delta f.max f.delta; delta = f.delta }

pub straight_next : (way : Way) (w : Walk) → Straight way w → Straight way (next_by way w)
unfolding next_by moved_by
straight_next way w (inl p) = inl (far_moved (turn_by way w).x way.x w.x p)
straight_next way w (inr p) = inr (far_moved (turn_by way w).y way.y w.y p)

-- ---- a point: nothing moves

stays : (b : Bool) (c : Course) (p : Position) → advanced_by true c p ≡ p → advanced_by b c p ≡ p
unfolding advanced_by
stays true c p e = e
stays false c p e = refl

pub still_next : (way : Way) (w : Walk) → Still way w → next_by way w ≡ w
unfolding next_by moved_by
still_next way w p = rw (stays (turn_by way w).x way.x w.x p.x, stays (turn_by way w).y way.y w.y p.y)

-- ---- the invariant

pub record Going (goal : Outcome) (n cols rows : ℕ) (way : Way) (left : ℕ) (w : Walk) (m : ℕ) (s : List ℕ) : Type 0 where
  pub size : n + 15000 ≤ length s
  pub room : m + 3 * left ≤ n + 15000
  pub is : goal ≡ before (take m s) (turns_by left cols rows way w)

module _ {goal : Outcome} {n cols rows : ℕ} {way : Way} {left : ℕ} {w : Walk} {m : ℕ} {s : List ℕ} (g : Going goal n cols rows way left w m s) where
  more : {m' : ℕ} {s' : List ℕ} → going_by way w ≡ true → 0 < left → Appended s s' m m' (pushed_by (turn_by way w) cols rows way w)
      → Going goal n cols rows way (left - 1) (next_by way w) m' s'
  more {m'} {s'} e h p = record {
    size = omega (arith, g.size, p.len);
    room = omega (arith, g.room, p.count, at_most_three (turn_by way w) cols rows way w);
    is =
        g.is
        ∙ ap (before (take m s)) (turns_more cols rows way w left h e)
        ∙ before_before (take m s) (pushed_by (turn_by way w) cols rows way w) (turns_by (left - 1) cols rows way (next_by way w))
        ∙ ap (λ (l : List ℕ). before l (turns_by (left - 1) cols rows way (next_by way w))) (sym p.is);
  }

  -- one turn of the code
  pub again : {s' : List ℕ} (k : Turn) (b : Bool) (r : Next) → k ≡ turn_by way w → b ≡ goes_of k → b ≡ true → 0 < left
      → (r.at ≡ moved_by k way w) × Appended s s' m r.count (pushed_by k cols rows way w)
      → Going goal n cols rows way (left - 1) r.at r.count s'
  again {s'} k b r e f t h p =
      subst (λ (v : Walk). Going goal n cols rows way (left - 1) v r.count s') (sym (next_is way w r.at k e p.0))
      (more (going_is way w k b e f ∙ t) h (subst (λ (z : Turn). Appended s s' m r.count (pushed_by z cols rows way w)) e p.1))

  pub done : going_by way w ≡ false → Runs goal n (Some m) s
  unfolding before ◌into◌
  done e = record {
    ran =
        subst (λ (o : Outcome). RanTo o (Some m) s) (sym (g.is ∙ ap (before (take m s)) (turns_stop cols rows way w left e)))
        (omega (arith, g.room, g.size), sym (append-nil (take m s)));
    all = omega (arith, g.room);
  }

  pub over : going_by way w ≡ true → left ≡ 0 → Runs goal n None s
  unfolding before ◌into◌
  over e z = record {
    ran =
        subst (λ (o : Outcome). RanTo o None s)
        (sym (g.is ∙ ap (λ (l : ℕ). before (take m s) (turns_by l cols rows way w)) z ∙ ap (before (take m s)) (turns_over cols rows way w e)))
        refl;
    all = tt;
  }

-- ---- the walk with its first and last cell

pub within_done : (R : Option ℕ) (m b : ℕ) → R ≡ Some m → RanWithin R b → m ≤ b
within_done R m b e p = subst (λ (q : Option ℕ). RanWithin q b) e p

ran_on : (o : Outcome) (m r : ℕ) (s t ys : List ℕ) → RanTo o (Some m) s → Appended s t m r (unless_there (take m s) ys) → RanTo (ended_in o ys) (Some r) t
unfolding ended_in ◌into◌
ran_on (refused why) m r s t ys p g = absurd p
ran_on (gives xs) m r s t ys p g = (g.within, g.is ∙ ap (λ (l : List ℕ). l ++ unless_there l ys) p.1)

over_on : (o : Outcome) (s ys : List ℕ) → RanTo o None s → RanTo (ended_in o ys) None s
unfolding ended_in ◌into◌
over_on (refused why) s ys p = p
over_on (gives xs) s ys p = absurd p

module _ (cols rows : ℕ) (way : Way) (w : Walk) {s₀ s₁ s₂ : List ℕ} {n : ℕ} {R : Option ℕ}
    (g : Appended s₀ s₁ 0 n (push_by cols rows w.x.index w.y.index))
    (p : Runs (before (take n s₁) (turns_by 5000 cols rows way w)) n R s₂) where
  ran : (r : Option ℕ) → R ≡ r → RanTo (onward_by cols rows way w) r s₂
  ran r e = subst (λ (k : Option ℕ). RanTo (onward_by cols rows way w) k s₂) e (rw g.is at p.ran)

  pub walked_done : {s₃ : List ℕ} {m r : ℕ} → R ≡ Some m → Appended s₂ s₃ m r (unless_there (take m s₂) (push_by cols rows way.x.end way.y.end))
      → RanTo (trodden_by cols rows way w) (Some r) s₃
  unfolding trodden_by
  walked_done {s₃} {m} {r} e h = ran_on (onward_by cols rows way w) m r s₂ s₃ (push_by cols rows way.x.end way.y.end) (ran (Some m) e) h

  pub walked_over : R ≡ None → RanTo (trodden_by cols rows way w) None s₂
  unfolding trodden_by
  walked_over e = over_on (onward_by cols rows way w) s₂ (push_by cols rows way.x.end way.y.end) (ran None e)

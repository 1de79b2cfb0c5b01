-- q times a point of a segment, whose ends are whole numbers p - n. Assumes nothing.
use Prim.Native.Nat.{ℕ, ◌+◌, ◌*◌}
use lib.IntN.{ℤ, pos, neg_ℤ, ◌-ℤ◌, ◌*ℤ◌}
use Rattle.grid.specs.Points.{q_times}
use Rattle.grid.proofs.Wholes.{Is, is_neg, is_sum, is_times}

pub is_point : (q a : ℕ) (s e : ℤ) (p n p' n' : ℕ) → Is s p n → Is e p' n' → Is (q_times q a s e) (q * p + a * (p' + n)) (q * n + a * (n' + p))
unfolding q_times
is_point q a s e p n p' n' h k =
    is_sum (pos q *ℤ s) (pos a *ℤ (e -ℤ s)) (q * p) (q * n) (a * (p' + n)) (a * (n' + p)) (is_times q s p n h)
    (is_times a (e -ℤ s) (p' + n) (n' + p) (is_sum e (neg_ℤ s) p' n' n p k (is_neg s p n h)))

-- What the readers' private functions promise: the look at all fields, and the reading of one coordinate of each point. Definitions only.
use Rattle.std.specs.Prelude.{Ok, Err, Result, ℕ, zero, suc, ◌+◌, ◌*◌, ◌≤◌, ◌≡◌, length, take, drop}
use mathlib.Core.List.{List, [], ◌∷◌, ◌++◌, flatten}
use Rattle.refusals.specs.Refusals.{refusal}
use Rattle.wkb.specs.Bytes.{number_at}
use Rattle.wkb.specs.Reading.{order_at, count_at, end_at, head_check, line_check}
use Rattle.wkb.specs.Multi.{members_check, chains_at, multi_check}
use Rattle.wkb.specs.declared.Order.{Order}
use Rattle.wkb.specs.declared.Checked.{Checked}
use Rattle.wkb.specs.declared.Looked.{Looked}

-- ---- the look at the fields

-- a head of a type, in the order o
pub record HeadAt (bs : List ℕ) (type at : ℕ) (o : Order) : Type 0 where
  pub fine : head_check type at bs ≡ Ok tt
  pub order : o ≡ order_at at bs
  pub within : at + 5 ≤ length bs

abbrev pub HeadAs : List ℕ → ℕ → ℕ → Result Order ℕ → Type 0
HeadAs bs type at (Ok o) = HeadAt bs type at o
HeadAs bs type at (Err f) = head_check type at bs ≡ Err (refusal 11 f)

-- a LineString of n points in the order o
pub record LineAt (bs : List ℕ) (at : ℕ) (o : Order) (n : ℕ) : Type 0 where
  pub fine : line_check at bs ≡ Ok tt
  pub order : o ≡ order_at at bs
  pub count : n ≡ count_at at bs
  pub some : 1 ≤ n
  pub most : n ≤ 1024
  pub within : at + 9 + 16 * n ≤ length bs

abbrev pub CheckedAs : List ℕ → ℕ → Result Checked ℕ → Type 0
CheckedAs bs at (Ok l) = LineAt bs at l.order l.count
CheckedAs bs at (Err f) = line_check at bs ≡ Err (refusal 11 f)

-- m members from byte 9 on, with p points in all
pub record MembersIn (bs : List ℕ) (m p : ℕ) : Type 0 where
  pub fine : members_check m 9 bs ≡ Ok tt
  pub points : p ≡ length (flatten (chains_at m 9 bs))
  pub some : m ≤ p
  pub within : p ≤ length bs

abbrev pub MembersAs : List ℕ → ℕ → Result Looked ℕ → Type 0
MembersAs bs m (Ok l) = (l.members ≡ m) × MembersIn bs m l.points
MembersAs bs m (Err f) = members_check m 9 bs ≡ Err (refusal 11 f)

-- a MultiLineString of them
pub record MultiAt (bs : List ℕ) (m p : ℕ) : Type 0 where
  pub fine : multi_check bs ≡ Ok tt
  pub count : m ≡ count_at 0 bs
  pub members : MembersIn bs m p

abbrev pub LookedAs : List ℕ → Result Looked ℕ → Type 0
LookedAs bs (Ok l) = MultiAt bs l.members l.points
LookedAs bs (Err f) = multi_check bs ≡ Err (refusal 11 f)

-- ---- reading

-- n numbers of 8 bytes, 16 bytes from one to the next: one coordinate of each of n points
unfoldable pub numbers_at : Order → ℕ → ℕ → List ℕ → List ℕ
numbers_at o zero at bs = []
numbers_at o (suc n) at bs = number_at o 8 at bs ∷ numbers_at o n (at + 16) bs

-- one coordinate of each point of m members: `skip` is 0 for the first one, and 8 for the second
unfoldable pub axes_at : ℕ → ℕ → ℕ → List ℕ → List ℕ
axes_at skip zero at bs = []
axes_at skip (suc m) at bs = numbers_at (order_at at bs) (count_at at bs) (at + 9 + skip) bs ++ axes_at skip m (end_at at bs) bs

-- the number of points of each of m members
unfoldable pub counts_at : ℕ → ℕ → List ℕ → List ℕ
counts_at zero at bs = []
counts_at (suc m) at bs = count_at at bs ∷ counts_at m (end_at at bs) bs

-- s₁ is s₀ with xs put at a position
pub record PutIn {A : Type 0} (at : ℕ) (xs s₀ s₁ : List A) : Type 0 where
  pub is : s₁ ≡ take at s₀ ++ (xs ++ drop (at + length xs) s₀)
  pub within : at + length xs ≤ length s₀

-- What the writer of a MultiLineString answers and leaves (document 02, 1, with refusals 3, 2 and 5). Definitions only.
use Rattle.std.specs.Prelude.{Ok, Err, Result, ℕ, ◌≡◌, List, leb, length}
use Rattle.refusals.specs.declared.Refusal.{Refusal}
use Rattle.refusals.specs.Refusals.{Check}
use Rattle.refusals.specs.Refusals.{unless, Answer, gives, ◌then◌, answer_by, left_in, zero_beyond}
use Rattle.grid.specs.Domain.{count_check}
use Rattle.wkb.specs.Bytes.{Point, MultiLineString, multi_bytes}
use Rattle.wkb.specs.Multi.{starts_of}
use Rattle.members.specs.Held.{points_of, chains_of, held_check}

-- 5: room for fewer than n; the value is n
unfoldable pub fit_check : ℕ → ℕ → Check
fit_check room n = unless (leb n room) 5 n

-- the bytes of a MultiLineString of members, where there is room for them
unfoldable pub bytes_in : ℕ → List (List Point) → Answer (List ℕ)
bytes_in room pss = count_check (length (starts_of pss)) then fit_check room (length (multi_bytes pss)) then gives (multi_bytes pss)

unfoldable pub written : List ℕ → List ℕ → List ℕ → ℕ → Answer (List ℕ)
written x y lengths room = held_check (length x) (length y) lengths then bytes_in room (chains_of lengths (points_of x y))

-- the answer: how many bytes, or the refusal
unfoldable pub written_of : Answer (List ℕ) → Result ℕ Refusal
written_of o = answer_by Err (λ bs. Ok (length bs)) o

-- what the slice holds then
unfoldable pub bytes_left : Answer (List ℕ) → List ℕ → List ℕ
bytes_left o was = left_in 0 was o (λ bs. zero_beyond 0 (length was) bs)

-- The promise of the writer: its answer, what the slice holds then, and that the bytes are a MultiLineString of the members.
pub record WrittenAs (x y lengths b₀ : List ℕ) (r : Result ℕ Refusal) (b₁ : List ℕ) : Type 0 where
  pub answer : r ≡ written_of (written x y lengths (length b₀))
  pub in_bytes : b₁ ≡ bytes_left (written x y lengths (length b₀)) b₀
  pub is : (bs : List ℕ) → written x y lengths (length b₀) ≡ gives bs → MultiLineString bs (chains_of lengths (points_of x y))

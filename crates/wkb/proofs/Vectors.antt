-- What is found in some bytes: one row for each way to be refused, a LineString in each order, and a MultiLineString in both. Computed from the definitions alone.
use mathlib.Core.Path.{◌≡◌, refl}
use mathlib.Core.List.{List, [], ◌∷◌, ◌++◌, map}
use Prim.Native.Nat.{ℕ}
use lib.ListN.{replicate}
use Rattle.refusals.specs.Refusals.{refusal, unless, and_then, Answer, refused, gives, ◌then◌}
use Rattle.wkb.specs.Bytes.{Point, little_number, number, number_at, points_at}
use Rattle.wkb.specs.Multi.{members_check, multi_check, chains_at, found_multi}
use Rattle.wkb.specs.Reading.{field_check, order_of, order_at, type_at, count_at, line_at, end_at, head_check, line_check, end_check, found}

-- a header in the little order that says one point
abbrev pub one : List ℕ
one = 1 ∷ 2 ∷ 0 ∷ 0 ∷ 0 ∷ 1 ∷ 0 ∷ 0 ∷ 0 ∷ []

-- and one in the big order that says two
abbrev pub two : List ℕ
two = 0 ∷ 0 ∷ 0 ∷ 0 ∷ 2 ∷ 0 ∷ 0 ∷ 0 ∷ 2 ∷ []

abbrev fault : ℕ → Answer (List Point)
fault at = refused (refusal 11 at)

-- 1.0 is 3FF0000000000000
abbrev pub rows : List (List ℕ × Answer (List Point))
rows =
    ([], fault 0)
    ∷ (2 ∷ 2 ∷ 0 ∷ [], fault 0)
    ∷ (1 ∷ 2 ∷ 0 ∷ [], fault 3)
    ∷ (1 ∷ 3 ∷ 0 ∷ 0 ∷ 0 ∷ [], fault 1)
    ∷ (0 ∷ 2 ∷ 0 ∷ 0 ∷ 0 ∷ [], fault 1)
    ∷ (1 ∷ 2 ∷ 0 ∷ 0 ∷ 0 ∷ 1 ∷ 0 ∷ 0 ∷ [], fault 8)
    ∷ (1 ∷ 2 ∷ 0 ∷ 0 ∷ 0 ∷ 0 ∷ 0 ∷ 0 ∷ 0 ∷ [], fault 5)
    ∷ (1 ∷ 2 ∷ 0 ∷ 0 ∷ 0 ∷ 0 ∷ 4 ∷ 0 ∷ 0 ∷ [], fault 9)
    ∷ (1 ∷ 2 ∷ 0 ∷ 0 ∷ 0 ∷ 1 ∷ 4 ∷ 0 ∷ 0 ∷ [], fault 5)
    ∷ (one ++ replicate 15 0, fault 24)
    ∷ (one ++ replicate 17 0, fault 25)
    ∷ (one ++ (replicate 6 0 ++ (0xf0 ∷ 0x3f ∷ replicate 8 0)), gives (record { x = 0x3ff0000000000000; y = 0 } ∷ []))
    ∷ (
      two ++ (0x3f ∷ 0xf0 ∷ (replicate 29 0 ++ (1 ∷ []))),
      gives (record { x = 0x3ff0000000000000; y = 0 } ∷ record { x = 0; y = 1 } ∷ []),
    )
    ∷ []

-- in each row's bytes its answer is found
pub vectors : map (λ (row : List ℕ × Answer (List Point)). found row.0) rows ≡ map (λ (row : List ℕ × Answer (List Point)). row.1) rows
unfolding found line_check head_check end_check field_check line_at end_at count_at type_at order_at unless and_then ◌then◌ order_of number_at number little_number points_at
vectors = refl

-- ---- a MultiLineString

abbrev multi_fault : ℕ → Answer (List (List Point))
multi_fault at = refused (refusal 11 at)

-- a head in the little order that says so many members; one point, in the little order and in the big one
abbrev head : ℕ → List ℕ
head m = 1 ∷ 5 ∷ 0 ∷ 0 ∷ 0 ∷ m ∷ 0 ∷ 0 ∷ 0 ∷ []

abbrev small : List ℕ
small = one ++ (7 ∷ replicate 15 0)

abbrev large : List ℕ
large = 0 ∷ 0 ∷ 0 ∷ 0 ∷ 2 ∷ 0 ∷ 0 ∷ 0 ∷ 1 ∷ (replicate 15 0 ++ (7 ∷ []))

-- the places that refusal 11 names, in the whole and in its second member, which begins at byte 34; and what is found in a mix of orders
abbrev multi_rows : List (List ℕ × Answer (List (List Point)))
multi_rows =
    ([], multi_fault 0)
    ∷ (2 ∷ [], multi_fault 0)
    ∷ (1 ∷ 5 ∷ 0 ∷ [], multi_fault 3)
    ∷ (small, multi_fault 1)
    ∷ (1 ∷ 5 ∷ 0 ∷ 0 ∷ 0 ∷ 0 ∷ 0 ∷ 0 ∷ [], multi_fault 8)
    ∷ (head 0, gives [])
    ∷ (head 0 ++ (1 ∷ []), multi_fault 9)
    ∷ (head 1, multi_fault 9)
    ∷ (head 2 ++ small, multi_fault 34)
    ∷ (head 2 ++ small ++ (2 ∷ []), multi_fault 34)
    ∷ (head 2 ++ small ++ (1 ∷ 0 ∷ 0 ∷ 0 ∷ 2 ∷ []), multi_fault 35)
    ∷ (head 2 ++ small ++ head 1, multi_fault 35)
    ∷ (head 2 ++ small ++ (1 ∷ 2 ∷ 0 ∷ 0 ∷ 0 ∷ 0 ∷ 0 ∷ 0 ∷ 0 ∷ []), multi_fault 39)
    ∷ (head 2 ++ small ++ (1 ∷ 2 ∷ 0 ∷ 0 ∷ 0 ∷ 1 ∷ 4 ∷ 0 ∷ 0 ∷ []), multi_fault 39)
    ∷ (head 2 ++ small ++ one ++ replicate 15 0, multi_fault 58)
    ∷ (head 2 ++ small ++ large ++ (1 ∷ []), multi_fault 59)
    ∷ (head 2 ++ small ++ large, gives ((record { x = 7; y = 0 } ∷ []) ∷ (record { x = 0; y = 7 } ∷ []) ∷ []))
    ∷ []

pub multi_vectors : map (λ (row : List ℕ × Answer (List (List Point))). found_multi row.0) multi_rows ≡ map (λ (row : List ℕ × Answer (List (List Point))). row.1) multi_rows
unfolding found_multi multi_check members_check chains_at line_check head_check end_check field_check line_at end_at count_at type_at order_at unless and_then ◌then◌ order_of number_at number little_number points_at
multi_vectors = refl

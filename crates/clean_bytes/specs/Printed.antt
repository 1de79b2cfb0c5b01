-- Document 02, 10: what the cleaning program writes to `clean.wkb` and prints, for the bytes of its input. Definitions only.
use Rattle.refusals.specs.Refusals.{Check}
use Rattle.std.specs.Prelude.{ℕ, zero, suc, ◌≡◌, List, [], ◌∷◌, ◌++◌, map, leb, length}
use Rattle.refusals.specs.Refusals.{unless, and_then, Answer, gives, ◌then◌, answer_by, left_in, zero_beyond}
use Rattle.wkb.specs.Bytes.{Point, multi_bytes}
use Rattle.wkb.specs.Reading.{found}
use Rattle.wkb.specs.Multi.{found_multi}
use Rattle.report.specs.Pages.{Prints}
use Rattle.report.specs.Lines.{refused_line, dropped_line}
use Rattle.clean.specs.Cleaning.{cleaned, member_reasons}
use Rattle.clean_bytes.specs.declared.Ends.{Ends}

-- ---- the input

-- a LineString is one member; what is no LineString has to be a MultiLineString
unfoldable pub chains_found : List ℕ → Answer (List (List Point))
chains_found bs = answer_by (λ r. found_multi bs) (λ ps. gives (ps ∷ [])) (found bs)

-- 3: the slice for the file, of `room` bytes, is short; 5: n bytes of input, more than 65,536
unfoldable pub sizes_check : ℕ → ℕ → Check
sizes_check room n = and_then (unless (leb 65545 room) 3 0) (unless (leb n 65536) 5 n)

-- the members of the input
unfoldable pub chains_in : ℕ → List ℕ → Answer (List (List Point))
chains_in room bs = sizes_check room (length bs) then chains_found bs

-- ---- the text

-- a line for each point that is dropped: of a member, whose number is m, the reasons from point i on
unfoldable pub dropped_if : ℕ → ℕ → ℕ → List ℕ
dropped_if m i zero = []
dropped_if m i (suc r) = dropped_line m i (suc r)

unfoldable pub member_text : ℕ → ℕ → List ℕ → List ℕ
member_text m i [] = []
member_text m i (r ∷ rs) = dropped_if m i r ++ member_text m (suc i) rs

-- of the members from m on
unfoldable pub text_from : ℕ → List (List ℕ) → List ℕ
text_from m [] = []
text_from m (rs ∷ rss) = member_text m 0 rs ++ text_from (suc m) rss

-- WHAT IS PRINTED: a refusal's number, or a line for each dropped point, in input order
unfoldable pub text_of : Answer (List (List Point)) → List ℕ
text_of a = answer_by (λ r. refused_line r.number) (λ pss. text_from 0 (map member_reasons pss)) a

-- ---- the file

-- WHAT THE FILE HOLDS: the kept pieces as a little-endian MultiLineString; after a refusal there is none
unfoldable pub file_of : Answer (List (List Point)) → List ℕ
file_of a = answer_by (λ r. []) (λ pss. multi_bytes (cleaned pss)) a

-- what its slice holds
unfoldable pub file_left : Answer (List (List Point)) → List ℕ → List ℕ
file_left a was = left_in 0 was a (λ pss. zero_beyond 0 (length was) (multi_bytes (cleaned pss)))

-- The promise: how long the file is (0 where there is none) and what its slice holds; the text as far as there is room, its end, and zero beyond.
pub record CleansAs (a : Answer (List (List Point))) (f₀ t₀ : List ℕ) (r : Ends) (f₁ t₁ : List ℕ) : Type 0 where
  pub bytes : r.bytes ≡ length (file_of a)
  pub file : f₁ ≡ file_left a f₀
  pub text : Prints (text_of a) t₀ t₁ r.text

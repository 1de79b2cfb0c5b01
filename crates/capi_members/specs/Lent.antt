-- The promises of exported functions that are lent slices to write besides `out`: where `out` is short the entry is not called, and they stay. Definitions
-- only.
use Rattle.std.specs.Prelude.{Result, ℕ, ◌≤◌, ◌<◌, ◌≡◌, List, Float, length}
use Rattle.refusals.specs.declared.Refusal.{Refusal}
use Rattle.grid.specs.Domain.{Lines}
use Rattle.wkb.specs.declared.MultiRead.{MultiRead}
use Rattle.wkb.specs.Reading as wkb
use Rattle.wkb.specs.Multi.{multi_outcome, multi_read_of, MultiReadAs}
use Rattle.members.specs.Writing as writing
use Rattle.members.specs.Lining as lining
use Rattle.replies.specs.Replies.{Replies}
use Rattle.replies.specs.Answers.{of_read}
use Rattle.capi_members.specs.Answers.{of_multi_read, of_written, of_lined}

-- the reader of a LineString
abbrev pub read_answer : List ℕ → List Float → List Float → Result ℕ Refusal
read_answer bytes x y = wkb.read_of (wkb.outcome (length x) (length y) bytes)

pub record ReadReplies (bytes : List ℕ) (x y : List Float) (out : List ℕ) (r : ℕ) (x' y' : List Float) (out' : List ℕ) : Type 0 where
  pub replies : Replies 1 (of_read (read_answer bytes x y)) out r out'
  pub called : 1 ≤ length out → wkb.ReadAs bytes x y (read_answer bytes x y) x' y'
  pub short : length out < 1 → (x' ≡ x) × (y' ≡ y)

-- the reader of a MultiLineString
abbrev pub multi_answer : List ℕ → List ℕ → List ℕ → List ℕ → Result MultiRead Refusal
multi_answer bytes x y lengths = multi_read_of (multi_outcome (length x) (length y) (length lengths) bytes)

pub record MultiReplies (bytes x y lengths out : List ℕ) (r : ℕ) (x' y' lengths' out' : List ℕ) : Type 0 where
  pub replies : Replies 2 (of_multi_read (multi_answer bytes x y lengths)) out r out'
  pub called : 2 ≤ length out → MultiReadAs bytes x y lengths (multi_answer bytes x y lengths) x' y' lengths'
  pub short : length out < 2 → (x' ≡ x) × (y' ≡ y) × (lengths' ≡ lengths)

-- its writer
abbrev pub write_answer : List ℕ → List ℕ → List ℕ → List ℕ → Result ℕ Refusal
write_answer x y lengths bytes = writing.written_of (writing.written x y lengths (length bytes))

pub record WriteReplies (x y lengths bytes out : List ℕ) (r : ℕ) (bytes' out' : List ℕ) : Type 0 where
  pub replies : Replies 1 (of_written (write_answer x y lengths bytes)) out r out'
  pub called : 1 ≤ length out → writing.WrittenAs x y lengths bytes (write_answer x y lengths bytes) bytes'
  pub short : length out < 1 → bytes' ≡ bytes

-- the lines of members
abbrev pub line_answer : List ℕ → List ℕ → List ℕ → Lines → Result ℕ Refusal
line_answer x y lengths ls = lining.lined_of (lining.lining x y lengths ls)

pub record LineReplies (x y lengths : List ℕ) (ls : Lines) (out : List ℕ) (r : ℕ) (ls' : Lines) (out' : List ℕ) : Type 0 where
  pub replies : Replies 1 (of_lined (line_answer x y lengths ls)) out r out'
  pub called : 1 ≤ length out → lining.LinedAs x y lengths ls (line_answer x y lengths ls) ls'
  pub short : length out < 1 → ls' ≡ ls

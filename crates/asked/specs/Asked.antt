-- The words of the answer to a question q, by its kind: the number that the exported function returns, the words of its `out`, and of each slice that it is
-- lent the entries that it lists. `out` and the lent slices hold zeros before the call, and what they hold after it is what the exported function promises. The question
-- is read in order, as compare/REPLAY.md has its form. Definitions only.
use Rattle.std.specs.Prelude.{ℕ, ◌≤◌, ◌<◌, ◌≡◌, ◌≢◌, List, [], ◌∷◌, ◌++◌, Float, length, replicate}
use Rattle.grid.specs.Domain.{Lines, lines, segment_by}
use Rattle.grid.specs.Words.{grid_by}
use Rattle.tables.specs.Tables.{Tables, beside}
use Rattle.walk.specs.Segment.{entry_of}
use Rattle.visit.specs.Entries.{test_at}
use Rattle.replies.specs.Answers.{of_test}
use Rattle.capi.specs.Few.{unless_few}
use Rattle.capi.specs.Unknown.{mode_by}
use Rattle.capi.specs.Lent.{WalkReplies, BuildReplies, OwnersReplies, BatchReplies}
use Rattle.records.specs.Questions.{read_word, read_short, read_float, read_words, read_shorts, read_floats}
use Rattle.records.specs.Answers.{PutWords, lent_words}
use Rattle.asked_points.specs.Replying.{reply_words}
use Rattle.asked_points.specs.Asked.{words_for}

-- Words of which P holds are written to a, as far as there is room, and r is how many there are.
pub record WordsAnswered (P : List ℕ → Type 0) (a : List ℕ) (r : ℕ) (a' : List ℕ) : Type 0 where
  pub words : List ℕ
  pub is : P words
  pub put : PutWords 0 words a r a'

-- n entries that are lent
abbrev pub zeros : ℕ → List ℕ
zeros n = replicate n 0

-- n entries are lent where there is room for them, which is for so many at most; else there is no word
pub record LentUpTo (most n : ℕ) (P : List ℕ → List ℕ → Type 0) (ws : List ℕ) : Type 0 where
  pub room : n ≤ most → P (zeros n) ws
  pub none : most < n → ws ≡ []

-- entries to lend, by their number
unfoldable pub read_lent : ℕ → List ℕ → (List ℕ → List ℕ → List ℕ → Type 0) → List ℕ → Type 0
read_lent most q f = read_word q λ n q. LentUpTo most n λ s. f s q

-- ---- kind 2

-- what a walk answers that is lent the scratch s
pub record WalkedWith (sx sy ex ey : Float) (w s ws : List ℕ) : Type 0 where
  pub number : ℕ
  pub out : List ℕ
  pub scratch : List ℕ
  pub replies : WalkReplies w 0 (entry_of (mode_by 0) (length s) (grid_by w) (segment_by sx sy ex ey)) s (zeros 1) number scratch out
  pub words : ws ≡ (number ∷ out) ++ lent_words scratch

unfoldable pub WalkAnswer : List ℕ → List ℕ → Type 0
WalkAnswer q =
    read_float q λ sx q.
    read_float q λ sy q.
    read_float q λ ex q.
    read_float q λ ey q.
    read_lent 16384 q λ s q.
    read_words q λ w _. WalkedWith sx sy ex ey w s

-- ---- kind 3

-- what a build answers that is lent these slices
pub record BuiltWith (sizing : ℕ) (ls : Lines) (o t gs s ws : List ℕ) : Type 0 where
  pub number : ℕ
  pub out : List ℕ
  pub offsets : List ℕ
  pub items : List ℕ
  pub globals : List ℕ
  pub scratch : List ℕ
  pub replies : BuildReplies sizing 0 ls o t gs s (zeros 8) number offsets items globals scratch out
  pub words : ws ≡ ((((number ∷ out) ++ lent_words offsets) ++ lent_words items) ++ lent_words globals) ++ lent_words scratch

unfoldable pub BuildAnswer : List ℕ → List ℕ → Type 0
BuildAnswer q =
    read_short q λ sizing q.
    read_lent 4096 q λ o q.
    read_lent 8192 q λ t q.
    read_lent 64 q λ gs q.
    read_lent 16384 q λ s q.
    read_floats q λ sx q.
    read_floats q λ sy q.
    read_floats q λ ex q.
    read_floats q λ ey _. BuiltWith sizing (lines sx sy ex ey) o t gs s

-- ---- kinds 4 and 5

-- a grid by its words, lines, and tables of these with so many globals
unfoldable pub read_tables {ℓ} : {A : Type ℓ} → ℕ → List ℕ → (List ℕ → Lines → Tables → A) → A
read_tables count q f =
    read_words q λ w q.
    read_floats q λ sx q.
    read_floats q λ sy q.
    read_floats q λ ex q.
    read_floats q λ ey q.
    read_shorts q λ o q.
    read_shorts q λ t q.
    read_shorts q λ gs _. let ls = lines sx sy ex ey in f w ls (beside ls (grid_by w) o t gs count)

-- what a batch answers that is lent the outputs f and s
pub record BatchedWith (w : List ℕ) (ls : Lines) (t : Tables) (bookmark : ℕ) (f s ws : List ℕ) : Type 0 where
  pub number : ℕ
  pub out : List ℕ
  pub first : List ℕ
  pub second : List ℕ
  pub replies : BatchReplies w ls (grid_by w) t bookmark f s (zeros 3) number first second out
  pub words : ws ≡ ((number ∷ out) ++ lent_words first) ++ lent_words second

unfoldable pub BatchAnswer : List ℕ → List ℕ → Type 0
BatchAnswer q =
    read_word q λ count q.
    read_word q λ bookmark q.
    read_lent 4096 q λ f q.
    read_lent 4096 q λ s q.
    read_tables count q λ w ls t. BatchedWith w ls t bookmark f s

unfoldable pub test_words : List ℕ → List ℕ
test_words q =
    read_word q λ count q.
    read_word q λ bookmark q.
    read_tables count q λ w ls t. reply_words 6 (unless_few w (of_test (test_at ls (grid_by w) t bookmark)))

-- ---- kind 11

-- what is answered of many points where the answers a are lent
pub record OwnersWith (w : List ℕ) (xs ys : List Float) (a ws : List ℕ) : Type 0 where
  pub number : ℕ
  pub out : List ℕ
  pub owners : List ℕ
  pub replies : OwnersReplies w (grid_by w) xs ys a (zeros 1) number owners out
  pub words : ws ≡ (number ∷ out) ++ lent_words owners

unfoldable pub OwnersAnswer : List ℕ → List ℕ → Type 0
OwnersAnswer q =
    read_lent 4096 q λ a q.
    read_words q λ w q.
    read_floats q λ xs q.
    read_floats q λ ys _. OwnersWith w xs ys a

-- ---- by kind

-- no word where the question is too long
pub record AnswersFor (kind : ℕ) (q ws : List ℕ) : Type 0 where
  pub long : 16384 < length q → ws ≡ []
  pub walk : length q ≤ 16384 → kind ≡ 2 → WalkAnswer q ws
  pub build : length q ≤ 16384 → kind ≡ 3 → BuildAnswer q ws
  pub batch : length q ≤ 16384 → kind ≡ 4 → BatchAnswer q ws
  pub test : length q ≤ 16384 → kind ≡ 5 → ws ≡ test_words q
  pub owners : length q ≤ 16384 → kind ≡ 11 → OwnersAnswer q ws
  pub other : length q ≤ 16384 → kind ≢ 2 → kind ≢ 3 → kind ≢ 4 → kind ≢ 5 → kind ≢ 11 → ws ≡ words_for kind q

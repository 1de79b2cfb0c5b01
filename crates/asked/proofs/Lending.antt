-- The answer of each kind, from what its exported function is lent; and the answer by kind from these. Assumes nothing.
use Prim.Native.Nat.{ℕ, suc, ◌≤◌, ◌<◌}
use native.Mathlib.Omega.{arith}
use mathlib.Core.Path.{◌≡◌, refl, sym, subst, ◌∙◌}
use mathlib.Core.Logic.{◌≢◌}
use mathlib.Core.List.{List, []}
use lib.ListN.{length, get_or, take, drop}
use Rattle.grid.specs.Domain.{Lines, lines}
use Rattle.grid.specs.Words.{grid_by}
use Rattle.tables.specs.Tables.{Tables, beside}
use Rattle.visit.specs.Entries.{test_at}
use Rattle.replies.specs.Answers.{of_test}
use Rattle.capi.specs.Few.{unless_few}
use Rattle.records.specs.Questions.{read_words, read_floats, short_at, float_at, slice_place, words_in, floats_in, shorts_in}
use Rattle.records.proofs.Reading.{word_read, short_read, float_read, words_read, shorts_read, floats_read}
use Rattle.records.proofs.Puts.{put_none}
use Rattle.asked_points.specs.Replying.{reply_words}
use Rattle.asked_points.specs.Asked.{words_for}
use Rattle.asked.specs.Asked.{WordsAnswered, AnswersFor, zeros, read_lent, read_tables, WalkedWith, WalkAnswer, BuiltWith, BuildAnswer, BatchedWith, BatchAnswer, test_words, OwnersWith, OwnersAnswer}
use Rattle.asked.proofs.Rooms.{part_of_zeros}

-- no word is an answer
pub none : {P : List ℕ → Type 0} (a : List ℕ) → P [] → WordsAnswered P a 0 a
none a h = record { words = []; is = h; put = put_none 0 a (omega arith) }

pub also : {P Q : List ℕ → Type 0} {a a' : List ℕ} {r : ℕ} → WordsAnswered P a r a' → ((ws : List ℕ) → P ws → Q ws) → WordsAnswered Q a r a'
also h f = record { words = h.words; is = f h.words h.is; put = h.put }

-- the same words, by another account of them
read_as : {P Q : List ℕ → Type 0} {ws : List ℕ} → P ≡ Q → Q ws → P ws
read_as {ws = ws} e h = subst (λ (P : List ℕ → Type 0). P ws) (sym e) h

-- ---- what is lent: n entries, where a question has the number n

lent_room : (q : List ℕ) (at most : ℕ) (f : List ℕ → List ℕ → List ℕ → Type 0) {n : ℕ} {ws : List ℕ}
    → n ≡ get_or q at 0 → n ≤ most → f (zeros n) (drop (suc at) q) ws → read_lent most (drop at q) f ws
unfolding read_lent
lent_room q at most f e h w = read_as (word_read q at _) (record { room = λ _. rw e at w; none = λ l. absurd (omega (arith, l, e)) })

lent_none : (q : List ℕ) (at most : ℕ) (f : List ℕ → List ℕ → List ℕ → Type 0) {n : ℕ} → n ≡ get_or q at 0 → most < n → read_lent most (drop at q) f []
unfolding read_lent
lent_none q at most f e h = read_as (word_read q at _) (record { room = λ l. absurd (omega (arith, l, e)); none = λ _. refl })

-- ---- kind 2

walk_from : (q : List ℕ) → WalkAnswer q ≡ read_lent 16384 (drop 4 q) (λ s left. read_words left (λ w _. WalkedWith (float_at q 0) (float_at q 1) (float_at q 2) (float_at q 3) w s))
unfolding WalkAnswer
walk_from q = float_read q 0 _ ∙ float_read q 1 _ ∙ float_read q 2 _ ∙ float_read q 3 _

pub walk_lent : (q ws : List ℕ) (n : ℕ) → n ≡ get_or q 4 0 → n ≤ 16384
    → WalkedWith (float_at q 0) (float_at q 1) (float_at q 2) (float_at q 3) (words_in q 5 0) (take n (zeros 16384)) ws → WalkAnswer q ws
unfolding slice_place
walk_lent q ws n e h w = read_as (walk_from q) (lent_room q 4 16384 _ e h (read_as (words_read q 5 0 _) (rw (part_of_zeros n 16384 h) at w)))

pub walk_none : (q : List ℕ) (n : ℕ) → n ≡ get_or q 4 0 → 16384 < n → WalkAnswer q []
walk_none q n e h = read_as (walk_from q) (lent_none q 4 16384 _ e h)

-- ---- kind 11

pub owners_lent : (q ws : List ℕ) (n : ℕ) → n ≡ get_or q 0 0 → n ≤ 4096 → OwnersWith (words_in q 1 0) (floats_in q 1 1) (floats_in q 1 2) (take n (zeros 4096)) ws → OwnersAnswer q ws
unfolding OwnersAnswer slice_place
owners_lent q ws n e h w =
    lent_room q 0 4096 _ e h (read_as (words_read q 1 0 _ ∙ floats_read q 1 1 _ ∙ floats_read q 1 2 _) (rw (part_of_zeros n 4096 h) at w))

pub owners_none : (q : List ℕ) (n : ℕ) → n ≡ get_or q 0 0 → 4096 < n → OwnersAnswer q []
unfolding OwnersAnswer
owners_none q n e h = lent_none q 0 4096 _ e h

-- ---- kinds 4 and 5

-- what is read by the places of the slices
tables_read {ℓ} : {A : Type ℓ} (q : List ℕ) (numbers count : ℕ) (f : List ℕ → Lines → Tables → A) →
    let w = words_in q numbers 0 in
    let ls = lines (floats_in q numbers 1) (floats_in q numbers 2) (floats_in q numbers 3) (floats_in q numbers 4) in
    read_tables count (drop numbers q) f ≡ f w ls (beside ls (grid_by w) (shorts_in q numbers 5) (shorts_in q numbers 6) (shorts_in q numbers 7) count)
unfolding read_tables slice_place
tables_read q numbers count f =
    words_read q numbers 0 _
    ∙ floats_read q numbers 1 _
    ∙ floats_read q numbers 2 _
    ∙ floats_read q numbers 3 _
    ∙ floats_read q numbers 4 _
    ∙ shorts_read q numbers 5 _
    ∙ shorts_read q numbers 6 _
    ∙ shorts_read q numbers 7 _

pub test_words_lem : (q : List ℕ) →
    let w = words_in q 2 0 in
    let ls = lines (floats_in q 2 1) (floats_in q 2 2) (floats_in q 2 3) (floats_in q 2 4) in
    test_words q ≡ reply_words 6 (unless_few w (of_test (test_at ls (grid_by w) (beside ls (grid_by w) (shorts_in q 2 5) (shorts_in q 2 6) (shorts_in q 2 7) (get_or q 0 0)) (get_or q 1 0))))
unfolding test_words
test_words_lem q = word_read q 0 _ ∙ word_read q 1 _ ∙ tables_read q 2 (get_or q 0 0) _

-- what a batch is that has read its numbers, and is lent first and second
abbrev batch_tables : List ℕ → List ℕ → List ℕ → List ℕ → List ℕ → Type 0
batch_tables q f s left = read_tables (get_or q 0 0) left (λ w ls t. BatchedWith w ls t (get_or q 1 0) f s)

pub batch_read : (q f s ws : List ℕ) →
    let w = words_in q 4 0 in
    let ls = lines (floats_in q 4 1) (floats_in q 4 2) (floats_in q 4 3) (floats_in q 4 4) in
    BatchedWith w ls (beside ls (grid_by w) (shorts_in q 4 5) (shorts_in q 4 6) (shorts_in q 4 7) (get_or q 0 0)) (get_or q 1 0) f s ws → batch_tables q f s (drop 4 q) ws
batch_read q f s ws b = read_as (tables_read q 4 (get_or q 0 0) _) b

batch_from : (q : List ℕ) → BatchAnswer q ≡ read_lent 4096 (drop 2 q) (λ f left. read_lent 4096 left (batch_tables q f))
unfolding BatchAnswer
batch_from q = word_read q 0 _ ∙ word_read q 1 _

module _ (q : List ℕ) {n : ℕ} (e : n ≡ get_or q 2 0) where
  pub batch_no_first : 4096 < n → BatchAnswer q []
  batch_no_first h = read_as (batch_from q) (lent_none q 2 4096 _ e h)

  pub batch_no_second : {m : ℕ} → n ≤ 4096 → m ≡ get_or q 3 0 → 4096 < m → BatchAnswer q []
  batch_no_second h f k = read_as (batch_from q) (lent_room q 2 4096 _ e h (lent_none q 3 4096 _ f k))

  pub batch_lent : {m : ℕ} → n ≤ 4096 → m ≡ get_or q 3 0 → m ≤ 4096 → (ws : List ℕ) → batch_tables q (take n (zeros 4096)) (take m (zeros 4096)) (drop 4 q) ws → BatchAnswer q ws
  batch_lent {m} h f k ws w = read_as (batch_from q) (lent_room q 2 4096 _ e h (lent_room q 3 4096 _ f k (rw (part_of_zeros n 4096 h, part_of_zeros m 4096 k) at w)))

-- ---- kind 3

abbrev built_from : List ℕ → List ℕ → List ℕ → List ℕ → List ℕ → List ℕ → List ℕ → Type 0
built_from q o t gs s left =
    read_floats left (λ sx a. read_floats a (λ sy b. read_floats b (λ ex c. read_floats c (λ ey _. BuiltWith (short_at q 0) (lines sx sy ex ey) o t gs s))))

build_from : (q : List ℕ) →
    BuildAnswer q ≡ read_lent 4096 (drop 1 q) (λ o a. read_lent 8192 a (λ t b. read_lent 64 b (λ gs c. read_lent 16384 c (built_from q o t gs))))
unfolding BuildAnswer
build_from q = short_read q 0 _

module _ (q : List ℕ) {n : ℕ} (e : n ≡ get_or q 1 0) where
  pub build_no_offsets : 4096 < n → BuildAnswer q []
  build_no_offsets l = read_as (build_from q) (lent_none q 1 4096 _ e l)

  module _ {m : ℕ} (a : n ≤ 4096) (f : m ≡ get_or q 2 0) where
    pub build_no_items : 8192 < m → BuildAnswer q []
    build_no_items l = read_as (build_from q) (lent_room q 1 4096 _ e a (lent_none q 2 8192 _ f l))

    module _ {k : ℕ} (b : m ≤ 8192) (g : k ≡ get_or q 3 0) where
      pub build_no_globals : 64 < k → BuildAnswer q []
      build_no_globals l = read_as (build_from q) (lent_room q 1 4096 _ e a (lent_room q 2 8192 _ f b (lent_none q 3 64 _ g l)))

      module _ {j : ℕ} (c : k ≤ 64) (h : j ≡ get_or q 4 0) where
        pub build_no_scratch : 16384 < j → BuildAnswer q []
        build_no_scratch l = read_as (build_from q) (lent_room q 1 4096 _ e a (lent_room q 2 8192 _ f b (lent_room q 3 64 _ g c (lent_none q 4 16384 _ h l))))

        pub build_lent : j ≤ 16384 → (ws : List ℕ)
            → BuiltWith (short_at q 0) (lines (floats_in q 5 0) (floats_in q 5 1) (floats_in q 5 2) (floats_in q 5 3)) (take n (zeros 4096)) (take m (zeros 8192)) (take k (zeros 64)) (take j (zeros 16384)) ws
            → BuildAnswer q ws
        unfolding slice_place
        build_lent d ws w =
            read_as (build_from q)
            (lent_room q 1 4096 _ e a (lent_room q 2 8192 _ f b (lent_room q 3 64 _ g c (lent_room q 4 16384 _ h d
            (read_as (floats_read q 5 0 _ ∙ floats_read q 5 1 _ ∙ floats_read q 5 2 _ ∙ floats_read q 5 3 _)
            (rw (part_of_zeros n 4096 a, part_of_zeros m 8192 b, part_of_zeros k 64 c, part_of_zeros j 16384 d) at w))))))

-- ---- by kind

pub too_long : (kind : ℕ) (q : List ℕ) → 16384 < length q → AnswersFor kind q []
too_long kind q h = record {
  long = λ _. refl;
  walk = λ l. absurd (omega (arith, l));
  build = λ l. absurd (omega (arith, l));
  batch = λ l. absurd (omega (arith, l));
  test = λ l. absurd (omega (arith, l));
  owners = λ l. absurd (omega (arith, l));
  other = λ l. absurd (omega (arith, l));
}

module _ {kind : ℕ} {q ws : List ℕ} (l : length q ≤ 16384) where
  pub of_walk : kind ≡ 2 → WalkAnswer q ws → AnswersFor kind q ws
  of_walk e w = record {
    long = λ h. absurd (omega (arith, h));
    walk = λ _ _. w;
    build = λ _ f. absurd (omega (arith, e, f));
    batch = λ _ f. absurd (omega (arith, e, f));
    test = λ _ f. absurd (omega (arith, e, f));
    owners = λ _ f. absurd (omega (arith, e, f));
    other = λ _ n. absurd (n e);
  }

  pub of_build : kind ≡ 3 → BuildAnswer q ws → AnswersFor kind q ws
  of_build e w = record {
    long = λ h. absurd (omega (arith, h));
    walk = λ _ f. absurd (omega (arith, e, f));
    build = λ _ _. w;
    batch = λ _ f. absurd (omega (arith, e, f));
    test = λ _ f. absurd (omega (arith, e, f));
    owners = λ _ f. absurd (omega (arith, e, f));
    other = λ _ _ n. absurd (n e);
  }

  pub of_batch : kind ≡ 4 → BatchAnswer q ws → AnswersFor kind q ws
  of_batch e w = record {
    long = λ h. absurd (omega (arith, h));
    walk = λ _ f. absurd (omega (arith, e, f));
    build = λ _ f. absurd (omega (arith, e, f));
    batch = λ _ _. w;
    test = λ _ f. absurd (omega (arith, e, f));
    owners = λ _ f. absurd (omega (arith, e, f));
    other = λ _ _ _ n. absurd (n e);
  }

  pub of_test_lem : kind ≡ 5 → ws ≡ test_words q → AnswersFor kind q ws
  of_test_lem e w = record {
    long = λ h. absurd (omega (arith, h));
    walk = λ _ f. absurd (omega (arith, e, f));
    build = λ _ f. absurd (omega (arith, e, f));
    batch = λ _ f. absurd (omega (arith, e, f));
    test = λ _ _. w;
    owners = λ _ f. absurd (omega (arith, e, f));
    other = λ _ _ _ _ n. absurd (n e);
  }

  pub of_owners : kind ≡ 11 → OwnersAnswer q ws → AnswersFor kind q ws
  of_owners e w = record {
    long = λ h. absurd (omega (arith, h));
    walk = λ _ f. absurd (omega (arith, e, f));
    build = λ _ f. absurd (omega (arith, e, f));
    batch = λ _ f. absurd (omega (arith, e, f));
    test = λ _ f. absurd (omega (arith, e, f));
    owners = λ _ _. w;
    other = λ _ _ _ _ _ n. absurd (n e);
  }

  pub of_other : kind ≢ 2 → kind ≢ 3 → kind ≢ 4 → kind ≢ 5 → kind ≢ 11 → ws ≡ words_for kind q → AnswersFor kind q ws
  of_other a b c d f w = record {
    long = λ h. absurd (omega (arith, h));
    walk = λ _ e. absurd (a e);
    build = λ _ e. absurd (b e);
    batch = λ _ e. absurd (c e);
    test = λ _ e. absurd (d e);
    owners = λ _ e. absurd (f e);
    other = λ _ _ _ _ _ _. w;
  }

-- The beginning of a visit: the check of what it is lent, and the lists by line, which are there exactly where all checks pass. Assumes nothing.
use Rattle.std.specs.Prelude.{Ok, Err, Result}
use Rattle.refusals.specs.Refusals.{Check, unless, and_then, refused, gives, answer_by, clears, left_in}
use mathlib.Core.Path.{◌≡◌, refl, sym, ap, ◌∙◌}
use mathlib.Core.Bool.{false}
use mathlib.Core.List.{List}
use Prim.Native.Nat.{ℕ, ◌≤◌, ◌<◌}
use native.Mathlib.Omega.{arith}
use borrow.Author.Tests.{eq-eqb, ne_eqb, lt-ltb, le-ltb, le-leb, lt-leb, leb-true, eqb-true}
use lib.Dec.{leb}
use lib.ListN.{length, replicate}
use Rattle.refusals.specs.declared.Refusal.{Refusal}
use Rattle.refusals.proofs.Checks.{unless_fine, and_then_left, and_then_right, and_then_fine, and_then_refused}
use Rattle.refusals.proofs.Answers.{then_refused, then_fine}
use Rattle.refusals.proofs.Leaving.{left_same, Clearing, clearing_unless, clearing_then}
use Rattle.grid.specs.declared.Grid.{Grid}
use Rattle.tables.specs.Tables.{Tables}
use Rattle.tables.specs.Fit.{standing_check}
use Rattle.tables.specs.Lists.{start, offsets_of, items_of}
use Rattle.by_line.specs.ByLine.{cells_listing, lists_room_check, by_line, ByLineIs}
use Rattle.by_line.proofs.Room.{room_says, standing_spares}
use Rattle.lent.specs.Lent.{rooms_check, begin_check, kept_or, Begun}

-- ---- the lengths of what is lent

module _ (lines items first second starts listing counts : ℕ) where
  pub lent_outputs : (first ≡ second → ⊥) → unless false 3 0 ≡ rooms_check lines items first second starts listing counts
  unfolding rooms_check and_then unless
  lent_outputs n = rw (ne_eqb first second n)

  module _ (e : first ≡ second) where
    pub lent_starts : starts ≤ lines → unless false 3 0 ≡ rooms_check lines items first second starts listing counts
    unfolding rooms_check and_then unless lists_room_check
    lent_starts l = rw (eq-eqb first second e, le-ltb lines starts l)

    module _ (h : lines < starts) where
      pub lent_listing : listing < items → unless false 3 0 ≡ rooms_check lines items first second starts listing counts
      unfolding rooms_check and_then unless lists_room_check
      lent_listing l = rw (eq-eqb first second e, lt-ltb lines starts h, lt-leb items listing l)

      pub lent_counts : items ≤ listing → unless (leb lines counts) 3 0 ≡ rooms_check lines items first second starts listing counts
      unfolding rooms_check and_then unless lists_room_check
      lent_counts l = rw (eq-eqb first second e, lt-ltb lines starts h, le-leb items listing l)

pub lent_says : (lines items first second starts listing counts : ℕ) → rooms_check lines items first second starts listing counts ≡ Ok tt
    → (first ≡ second) × ((lists_room_check lines items starts listing ≡ Ok tt) × (lines ≤ counts))
unfolding rooms_check
lent_says lines items first second starts listing counts h =
    let b = and_then_right _ _ h in
    (eqb-true first second (unless_fine _ 3 0 (and_then_left _ _ h)), (and_then_left _ _ b, leb-true lines counts (unless_fine _ 3 0 (and_then_right _ _ b))))

-- no check of lengths clears
pub lent_spares : (lines items first second starts listing counts : ℕ) → Clearing false (rooms_check lines items first second starts listing counts)
unfolding rooms_check lists_room_check clears
lent_spares lines items first second starts listing counts =
    clearing_then (clearing_unless _ 3 0 refl) (clearing_then (clearing_unless _ 3 0 refl) (clearing_unless _ 3 0 refl))

-- ---- the lists by line, by what the call that makes them answers

module _ {g : Grid} {t : Tables} {starts listing starts' listing' : List ℕ} {r : Result ℕ Refusal}
    (f : lists_room_check t.lines (length t.items) (length starts) (length listing) ≡ Ok tt) (w : ByLineIs g t starts listing r starts' listing') where
  module _ (e : standing_check g t ≡ Ok tt) where
    given : by_line g t starts listing ≡ gives (start (cells_listing t) t.lines)
    unfolding by_line
    given = then_fine _ _ f ∙ then_fine _ _ e

    listed_answer : r ≡ Ok (start (cells_listing t) t.lines)
    unfolding answer_by
    listed_answer = w.answers ∙ rw given

    listed_starts : starts' ≡ offsets_of (cells_listing t) t.lines (length starts)
    unfolding left_in
    listed_starts = w.starts_are ∙ rw given

    listed_listing : listing' ≡ items_of (cells_listing t) t.lines (length listing)
    unfolding left_in
    listed_listing = w.listing_is ∙ rw given

  module _ {s : Refusal} (e : standing_check g t ≡ Err s) where
    not_given : by_line g t starts listing ≡ refused s
    unfolding by_line
    not_given = then_fine _ _ f ∙ then_refused _ _ s e

    refused_answer : r ≡ Err s
    unfolding answer_by
    refused_answer = w.answers ∙ rw not_given

    refused_starts : starts' ≡ starts
    unfolding left_in
    refused_starts = w.starts_are ∙ rw not_given (left_same 0 s starts ((standing_spares g t).says s e))

    refused_listing : listing' ≡ listing
    unfolding left_in
    refused_listing = w.listing_is ∙ rw not_given (left_same 0 s listing ((standing_spares g t).says s e))

  -- it lists exactly where the tables stand
  listed_stands : {m : ℕ} → r ≡ Ok m → standing_check g t ≡ Ok tt
  listed_stands {m} q = go (standing_check g t) refl
    where
      go : (c : Check) → standing_check g t ≡ c → standing_check g t ≡ Ok tt
      go (Ok _) e = e
      go (Err s) e = apart (sym q ∙ refused_answer e)
        where
          apart : Ok m ≡ Err s → standing_check g t ≡ Ok tt
          apart d = let z : ◌≡◌ {A = ℕ} 0 1 = cc in absurd (omega arith)

  -- and else refuses as their check does, and leaves the slices as they were
  record NotListed (s : Refusal) : Type 0 where
    pub check_is : standing_check g t ≡ Err s
    pub starts_same : starts' ≡ starts
    pub listing_same : listing' ≡ listing

  refused_stands : {s : Refusal} → r ≡ Err s → NotListed s
  refused_stands {s} q = go (standing_check g t) refl
    where
      go : (c : Check) → standing_check g t ≡ c → NotListed s
      go (Ok _) e = apart (sym q ∙ listed_answer e)
        where
          apart : Err s ≡ Ok (start (cells_listing t) t.lines) → NotListed s
          apart d = let z : ◌≡◌ {A = ℕ} 0 1 = cc in absurd (omega arith)
      go (Err u) e = record { check_is = e ∙ ap Err (same (sym (refused_answer e) ∙ q)); starts_same = refused_starts e; listing_same = refused_listing e }
        where
          same : ◌≡◌ {A = Result ℕ Refusal} (Err u) (Err s) → u ≡ s
          same d = cc

-- ---- the beginning

module _ (checked : Check) (g : Grid) (t : Tables) (first second : ℕ) (starts listing counts : List ℕ) where
  abbrev lent : Check
  lent = rooms_check t.lines (length t.items) first second (length starts) (length listing) (length counts)

  same : (r : Refusal) → begin_check checked g t first second (length starts) (length listing) (length counts) ≡ Err r
      → Begun checked g t first second starts listing counts (Err r) starts listing counts
  unfolding kept_or
  same r e = record { answers = sym e; starts_are = refl; listing_is = refl; counts_are = refl }

  pub begin_lent : (r : Refusal) → lent ≡ Err r → Begun checked g t first second starts listing counts (Err r) starts listing counts
  unfolding begin_check
  begin_lent r e = same r (and_then_refused _ _ r e)

  module _ (f : lent ≡ Ok tt) where
    pub begin_lines : (r : Refusal) → checked ≡ Err r → Begun checked g t first second starts listing counts (Err r) starts listing counts
    unfolding begin_check
    begin_lines r e = same r (and_then_fine _ _ f ∙ and_then_refused _ _ r e)

    room_fine : lists_room_check t.lines (length t.items) (length starts) (length listing) ≡ Ok tt
    room_fine = (lent_says t.lines (length t.items) first second (length starts) (length listing) (length counts) f).1.0

    module _ (h : checked ≡ Ok tt) {r : Result ℕ Refusal} {starts' listing' : List ℕ} (w : ByLineIs g t starts listing r starts' listing') where
      begin_is : begin_check checked g t first second (length starts) (length listing) (length counts) ≡ standing_check g t
      unfolding begin_check
      begin_is = and_then_fine _ _ f ∙ and_then_fine _ _ h

      pub begin_tables : (s : Refusal) → r ≡ Err s → Begun checked g t first second starts listing counts (Err s) starts' listing' counts
      begin_tables s q = let n = refused_stands room_fine w q in rw (n.starts_same, n.listing_same) (same s (begin_is ∙ n.check_is))

      pub begin_done : {m : ℕ} → r ≡ Ok m → {counts' : List ℕ} → counts' ≡ replicate (length counts) 0
          → Begun checked g t first second starts listing counts (Ok tt) starts' listing' counts'
      unfolding kept_or
      begin_done q z =
          let e = listed_stands room_fine w q in
          record { answers = sym (begin_is ∙ e); starts_are = listed_starts room_fine w e; listing_is = listed_listing room_fine w e; counts_are = z }

-- ---- what a visit may go on from

module _ {checked : Check} {g : Grid} {t : Tables} {first second : ℕ} {starts listing counts : List ℕ} {r : Check} {starts' listing' counts' : List ℕ}
    (b : Begun checked g t first second starts listing counts r starts' listing' counts') where
  -- all checks have passed: the outputs are alike, there is room, and the lists by line stand there
  pub record Passed : Type 0 where
    pub alike : first ≡ second
    pub starts_long : t.lines < length starts
    pub listing_long : length t.items ≤ length listing
    pub counts_long : t.lines ≤ length counts
    pub lines_fine : checked ≡ Ok tt
    pub stands : standing_check g t ≡ Ok tt
    pub starts_are : starts' ≡ offsets_of (cells_listing t) t.lines (length starts)
    pub listing_is : listing' ≡ items_of (cells_listing t) t.lines (length listing)
    pub counts_are : counts' ≡ replicate (length counts) 0

  pub begun_passed : r ≡ Ok tt → Passed
  unfolding begin_check kept_or
  begun_passed e =
      let a = sym b.answers ∙ e in
      let l = lent_says t.lines (length t.items) first second (length starts) (length listing) (length counts) (and_then_left _ _ a) in
      let m = room_says t.lines (length t.items) (length starts) (length listing) l.1.0 in
      let c = and_then_right _ _ a in
      record {
        alike = l.0;
        starts_long = m.0;
        listing_long = m.1;
        counts_long = l.1.1;
        lines_fine = and_then_left _ _ c;
        stands = and_then_right _ _ c;
        starts_are = b.starts_are ∙ rw e;
        listing_is = b.listing_is ∙ rw e;
        counts_are = b.counts_are ∙ rw e;
      }

  -- one has refused, and no slice has changed
  pub record Stopped (s : Refusal) : Type 0 where
    pub check_is : begin_check checked g t first second (length starts) (length listing) (length counts) ≡ Err s
    pub starts_same : starts' ≡ starts
    pub listing_same : listing' ≡ listing
    pub counts_same : counts' ≡ counts

  pub begun_stopped : (s : Refusal) → r ≡ Err s → Stopped s
  unfolding kept_or
  begun_stopped s e =
      record { check_is = sym b.answers ∙ e; starts_same = b.starts_are ∙ rw e; listing_same = b.listing_is ∙ rw e; counts_same = b.counts_are ∙ rw e }

-- what is lent and the tables are refused by numbers that clear nothing
pub begin_spares : {checked : Check} (g : Grid) (t : Tables) (first second starts listing counts : ℕ) → Clearing false checked
    → Clearing false (begin_check checked g t first second starts listing counts)
unfolding begin_check
begin_spares g t first second starts listing counts c =
    clearing_then (lent_spares t.lines (length t.items) first second starts listing counts) (clearing_then c (standing_spares g t))

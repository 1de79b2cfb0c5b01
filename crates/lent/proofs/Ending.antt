-- What a visit leaves in what it is lent. Assumes nothing.
use Rattle.std.specs.Prelude.{Ok, Err}
use mathlib.Core.Path.{◌≡◌}
use mathlib.Core.List.{List}
use Prim.Native.Nat.{ℕ, ◌≤◌, ◌<◌}
use borrow.Author.Tests.{le-leb, lt-leb}
use lib.ListN.{length, replicate}
use Rattle.slices.specs.Slices.{cleared_from}
use Rattle.refusals.specs.Refusals.{refusal, unless, ◌then◌, answer_by}
use Rattle.lent.specs.Lent.{pairs_check, pairs_end, end_left, EndIs}

module _ (hits : ℕ) (first second starts listing counts : List ℕ) {first' second' starts' listing' counts' : List ℕ}
    (s : starts' ≡ replicate (length starts) 0) (l : listing' ≡ replicate (length listing) 0) (c : counts' ≡ replicate (length counts) 0) where
  pub end_short : length first < hits → first' ≡ replicate (length first) 0 → second' ≡ replicate (length second) 0
      → EndIs hits first second starts listing counts (Err (refusal 5 hits)) first' second' starts' listing' counts'
  unfolding pairs_end end_left pairs_check unless ◌then◌ answer_by
  end_short h f g =
      let e = lt-leb hits (length first) h in
      record { answers = rw e; first_is = rw e f; second_is = rw e g; starts_are = s; listing_is = l; counts_are = c }

  pub end_room : hits ≤ length first → first' ≡ cleared_from hits first → second' ≡ cleared_from hits second
      → EndIs hits first second starts listing counts (Ok hits) first' second' starts' listing' counts'
  unfolding pairs_end end_left pairs_check unless ◌then◌ answer_by
  end_room h f g =
      let e = le-leb hits (length first) h in
      record { answers = rw e; first_is = rw e f; second_is = rw e g; starts_are = s; listing_is = l; counts_are = c }

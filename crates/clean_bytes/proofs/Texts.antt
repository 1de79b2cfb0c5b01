-- Laws of a text that is put part after part, and of the lines of dropped points. Assumes nothing.
use mathlib.Core.Path.{◌≡◌, refl, sym, ap, ◌∙◌}
use mathlib.Core.Bool.{true}
use mathlib.Core.List.{List, [], ◌∷◌, ◌++◌, append_assoc, append-nil, map, flat_map}
use Prim.Native.Nat.{ℕ, zero, suc, ◌+◌, ◌-◌, ◌≤◌, ◌<◌}
use native.Mathlib.Numerals.{add-one}
use native.Mathlib.Omega.{arith}
use lib.ListN.{length, take, drop, get_or}
use lib.Seq.{drop-cons, take_at, drop_at}
use Rattle.report.specs.Pages.{Page, Puts}
use Rattle.report.specs.Lines.{dropped_line}
use Rattle.report.proofs.Putting.{puts_none, puts_then, puts_text}
use Rattle.refusals.specs.Refusals.{zero_beyond}
use Rattle.wkb.specs.Bytes.{Point}
use Rattle.members.specs.Held.{chains_of, all_lengths, sum_of}
use Rattle.members.proofs.Along.{Along, along_none, along_next, along_more, chains_next, chains_over}
use Rattle.clean.specs.Cleaning.{member_reasons, reasons}
use Rattle.clean.proofs.Rules.{length_member}
use Rattle.clean_bytes.specs.Printed.{dropped_if, member_text, text_from}

-- ---- part after part

-- of a text, what is put leaves `rest`
pub record Telling (goal rest : List ℕ) (p q : Page) : Type 0 where
  pub done : List ℕ
  pub puts : Puts done p q
  pub is : goal ≡ done ++ rest

pub tell_none : (goal : List ℕ) (p : Page) → Telling goal goal p p
tell_none goal p = record { done = []; puts = puts_none p; is = refl }

pub tell_more : {goal rest part more : List ℕ} {p q r : Page} → Telling goal rest p q → rest ≡ part ++ more → Puts part q r → Telling goal more p r
tell_more {goal} {rest} {part} {more} t e f = record {
  done = t.done ++ part;
  puts = puts_then t.puts f;
  is = t.is ∙ ap (λ (l : List ℕ). t.done ++ l) e ∙ sym (append_assoc t.done part more);
}

pub tell_all : {goal rest : List ℕ} {p q : Page} → Telling goal rest p q → rest ≡ [] → Puts goal p q
tell_all {goal} t e = puts_text (sym (t.is ∙ ap (λ (l : List ℕ). t.done ++ l) e ∙ append-nil t.done)) t.puts

-- ---- one point

pub point_kept : (m i r : ℕ) (p : Page) → r ≡ 0 → Puts (dropped_if m i r) p p
unfolding dropped_if
point_kept m i r p e = rw e (puts_none p)

pub point_dropped : (m i r : ℕ) {p q : Page} → (r ≡ 0 → ⊥) → Puts (dropped_line m i r) p q → Puts (dropped_if m i r) p q
unfolding dropped_if
point_dropped m i zero h f = absurd (h refl)
point_dropped m i (suc r) h f = f

-- ---- the points of a member

-- the reasons from point i on
abbrev left_at : List ℕ → ℕ → ℕ → ℕ → List ℕ
left_at rs from n i = take (n - i) (drop (from + i) rs)

-- the lines of the first i points are put
pub record PointsPut (m : ℕ) (rs : List ℕ) (from n i : ℕ) (p q : Page) : Type 0 where
  pub within : i ≤ n
  pub tells : Telling (member_text m 0 (take n (drop from rs))) (member_text m i (left_at rs from n i)) p q

module _ (m : ℕ) (rs : List ℕ) (from n : ℕ) where
  pub points_none : (p : Page) → PointsPut m rs from n 0 p p
  points_none p =
      let e : n - 0 ≡ n = omega arith in
      let f : from + 0 ≡ from = omega arith in
      record { within = omega arith; tells = rw (e, f) (tell_none (member_text m 0 (take n (drop from rs))) p) }

  next : (i : ℕ) → from + n ≤ length rs → i < n → left_at rs from n i ≡ get_or rs (from + i) 0 ∷ left_at rs from n (i + 1)
  next i h l =
      let e : n - i ≡ suc (n - (i + 1)) = omega arith in
      let f : suc (from + i) ≡ from + (i + 1) = omega arith in
      rw (e, drop-cons rs (from + i) 0 (omega arith), f)

  text_next : (i : ℕ) → from + n ≤ length rs → i < n → member_text m i (left_at rs from n i) ≡ dropped_if m i (get_or rs (from + i) 0) ++ member_text m (i + 1) (left_at rs from n (i + 1))
  unfolding member_text
  text_next i h l = rw (next i h l, add-one i)

  pub points_more : {i : ℕ} {p q r : Page} → from + n ≤ length rs → i < n → PointsPut m rs from n i p q → Puts (dropped_if m i (get_or rs (from + i) 0)) q r → PointsPut m rs from n (i + 1) p r
  points_more {i} h l t f = record { within = omega arith; tells = tell_more t.tells (text_next i h l) f }

  text_over : (i : ℕ) → n ≤ i → member_text m i (left_at rs from n i) ≡ []
  unfolding member_text
  text_over i h = let e : n - i ≡ 0 = omega arith in rw e

  pub points_all : {i : ℕ} {p q : Page} → n ≤ i → PointsPut m rs from n i p q → Puts (member_text m 0 (take n (drop from rs))) p q
  points_all {i} h t = tell_all t.tells (text_over i h)

-- ---- members

-- the reasons of the members from k on
abbrev left_of : List ℕ → List ℕ → ℕ → ℕ → List (List ℕ)
left_of ns rs k from = chains_of (drop k ns) (drop from rs)

-- the lines of the first k members are put
pub record MembersPut (ns rs : List ℕ) (k from : ℕ) (p q : Page) : Type 0 where
  pub within : k ≤ length ns
  pub along : Along ns (sum_of ns) k from
  pub tells : Telling (text_from 0 (chains_of ns rs)) (text_from k (left_of ns rs k from)) p q

module _ (ns rs : List ℕ) where
  pub members_none : (p : Page) → all_lengths ns ≡ true → MembersPut ns rs 0 0 p p
  members_none p h = record { within = omega arith; along = along_none ns (sum_of ns) h refl; tells = tell_none (text_from 0 (chains_of ns rs)) p }

  members_next : (k from n : ℕ) → k < length ns → n ≡ get_or ns k 0
      → text_from k (left_of ns rs k from) ≡ member_text k 0 (take n (drop from rs)) ++ text_from (k + 1) (left_of ns rs (k + 1) (from + n))
  unfolding text_from
  members_next k from n h e = rw (chains_next ns k from rs n h e, add-one k)

  -- the next member's reasons are there
  pub member_fits : {k from n : ℕ} {p q : Page} → sum_of ns ≤ length rs → k < length ns → n ≡ get_or ns k 0 → MembersPut ns rs k from p q → from + n ≤ length rs
  member_fits {k} {from} {n} l h e t = let f = along_next t.along h n e in let w = f.within in omega arith

  pub members_more : {k from n : ℕ} {p q r : Page} → k < length ns → n ≡ get_or ns k 0 → MembersPut ns rs k from p q → Puts (member_text k 0 (take n (drop from rs))) q r → MembersPut ns rs (k + 1) (from + n) p r
  members_more {k} {from} {n} h e t f = record { within = omega arith; along = along_more t.along h n e; tells = tell_more t.tells (members_next k from n h e) f }

  members_over : (k from : ℕ) → length ns ≤ k → text_from k (left_of ns rs k from) ≡ []
  unfolding text_from
  members_over k from h = rw (chains_over ns k (drop from rs) h)

  pub members_all : {k from : ℕ} {p q : Page} → length ns ≤ k → MembersPut ns rs k from p q → Puts (text_from 0 (chains_of ns rs)) p q
  members_all {k} {from} h t = tell_all t.tells (members_over k from h)

-- ---- the reasons of members, cut by their lengths

cut_after : (pss : List (List Point)) (zs : List ℕ) → chains_of (map length pss) (flat_map member_reasons pss ++ zs) ≡ map member_reasons pss
unfolding chains_of flat_map
cut_after [] zs = refl
cut_after (ps ∷ pss) zs =
    let n = length_member ps in
    let more = flat_map member_reasons pss ++ zs in
    let e : (member_reasons ps ++ flat_map member_reasons pss) ++ zs ≡ member_reasons ps ++ more = append_assoc (member_reasons ps) (flat_map member_reasons pss) zs in
    rw (e, take_at (member_reasons ps) more (length ps) n, drop_at (member_reasons ps) more (length ps) n, cut_after pss zs)

pub cut_reasons : (pss : List (List Point)) (room : ℕ) → chains_of (map length pss) (zero_beyond 0 room (reasons pss)) ≡ map member_reasons pss
unfolding zero_beyond reasons
cut_reasons pss room = cut_after pss _

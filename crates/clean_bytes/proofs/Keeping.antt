-- What is cleaned and written of members in so few bytes. Assumes nothing.
use Rattle.std.specs.Prelude.{Ok, Err, Result}
use mathlib.Core.Path.{◌≡◌, refl, sym, ap, ◌∙◌, subst}
use mathlib.Core.Bool.{true}
use mathlib.Core.List.{List, [], ◌∷◌, ◌++◌, map, flatten}
use Prim.Native.Nat.{ℕ, ◌-◌, ◌/◌, ◌≤◌, ◌<◌}
use native.Mathlib.Omega.{arith}
use lib.ListN.{length, take, drop, replicate}
use borrow.Author.Tests.{le-leb, lt-leb}
use Rattle.refusals.specs.declared.Refusal.{Refusal}
use Rattle.refusals.specs.Refusals.{refusal, unless, and_then, Answer, refused, gives, ◌then◌, answer_by, clears, left_by, left_in, zero_beyond}
use Rattle.refusals.proofs.Leaving.{left_same, left_zero}
use Rattle.report.specs.Pages.{page, Puts}
use Rattle.report.proofs.Putting.{puts_text}
use Rattle.report.proofs.Written.{end_within, prints}
use Rattle.wkb.specs.Bytes.{Point, multi_bytes}
use Rattle.grid.specs.Domain.{count_check}
use Rattle.wkb.specs.declared.MultiRead.{MultiRead}
use Rattle.wkb.specs.Multi.{starts_of, found_multi, MultiReadAs}
use Rattle.wkb.proofs.Chains.{Some, length_starts}
use Rattle.members.specs.Held.{points_of, chains_of, all_lengths, sum_of}
use Rattle.members.specs.Writing.{fit_check, bytes_in, written, written_of, bytes_left, WrittenAs}
use Rattle.members.proofs.Held.{Held, held_says, held_fine, all_first, length_points_of, flatten_chains, lengths_chains, length_chains_of}
use Rattle.members.proofs.Putting.{length_multi}
use Rattle.clean.specs.Cleaning.{cleaned, member_reasons, reasons}
use Rattle.clean.specs.Calls.{Outputs, kept_room_check, cleaning, cleaned_of, CleanedAs}
use Rattle.clean.specs.declared.Cleaned.{Cleaned}
use Rattle.clean.proofs.Rules.{AllClean, length_reasons, cleaned_clean}
use Rattle.clean.proofs.Again.{Gave, gave}
use Rattle.clean_bytes.specs.declared.Ends.{Ends}
use Rattle.clean_bytes.specs.Printed.{sizes_check, chains_in, text_from, text_of, file_of, file_left, CleansAs}
use Rattle.clean_bytes.specs.Inside.{Widened, NoFile, PutsAs, BytesAsk, Fits, WroteText}
use Rattle.clean_bytes.proofs.Sizes.{AllMost, cleaned_size, cleaned_most, kept_lengths}
use Rattle.clean_bytes.proofs.Reading.{Few, few_lines, none_clears}
use Rattle.clean_bytes.proofs.Loading.{within, Loaded, loaded, held, chains_are, unread, members_read}
use Rattle.clean_bytes.proofs.Texts.{cut_reasons}

-- ---- a refusal

refuses : {r : Refusal} {f f₁ t t₁ : List ℕ} {e : Ends} → f₁ ≡ left_by 0 r f → NoFile r.number t e t₁ → PutsAs (refused r) f t e f₁ t₁
unfolding file_of file_left text_of answer_by left_in
refuses l n = record { bytes = n.none; file = l; text = n.text }

-- ---- the writer

module _ {x y ns b₀ b₁ : List ℕ} {r : Result ℕ Refusal} (w : WrittenAs x y ns b₀ r b₁) (f : Fits x y ns b₀) where
  abbrev bs : List ℕ
  bs = multi_bytes (chains_of ns (points_of x y))

  is : written x y ns (length b₀) ≡ gives bs
  unfolding written bytes_in fit_check unless ◌then◌
  is = rw (f.held, f.few, le-leb (length bs) (length b₀) f.room)

  pub not_refused : {A : Type 0} {q : Refusal} → r ≡ Err q → A
  unfolding written_of answer_by
  not_refused {A} {q} e =
      let d : Err q ≡ written_of (gives bs) = sym e ∙ w.answer ∙ ap written_of is in
      absurd (let z : ◌≡◌ {A = ℕ} 0 1 = cc in omega arith)

  bytes_count : {m n : ℕ} → ◌≡◌ {A = Result ℕ Refusal} (Ok m) (Ok n) → m ≡ n
  bytes_count e = cc

  pub wrote : {n : ℕ} → r ≡ Ok n → WroteText (chains_of ns (points_of x y)) b₀ n b₁
  unfolding written_of answer_by bytes_left left_in
  wrote {n} e =
      let d : Ok n ≡ Ok (length bs) = sym e ∙ w.answer ∙ ap written_of is in
      record { count = bytes_count d; is = w.in_bytes ∙ ap (λ (a : Answer (List ℕ)). bytes_left a b₀) is }

-- ---- what is kept

each_most : (pss : List (List Point)) → all_lengths (map length pss) ≡ true → AllMost 1024 pss
each_most [] h = tt
each_most (ps ∷ pss) h = let a = all_first (length ps) (map length pss) h in (a.0.1, each_most pss a.1)

clean_some : (pss : List (List Point)) → AllClean pss → Some pss
clean_some [] h = tt
clean_some (ps ∷ pss) h = (let l = h.0.long in omega arith, clean_some pss h.1)

some_fewer : (pss : List (List Point)) → Some pss → length pss ≤ length (flatten pss)
some_fewer pss s = let n = length_starts pss s in omega arith

-- it needs no more bytes
pub kept_few : (pss : List (List Point)) → Few pss → Few (cleaned pss)
kept_few pss f =
    let c = cleaned_clean pss in
    let b = f.bytes in
    let s = cleaned_size pss in
    record {
      bytes = omega arith;
      each = kept_lengths (cleaned pss) c (cleaned_most 1024 pss (each_most pss f.each));
      some = some_fewer (cleaned pss) (clean_some (cleaned pss) c);
    }

-- the members of slices
module _ {x y ns file : List ℕ} (a : BytesAsk x y ns file) where
  abbrev chains : List (List Point)
  chains = chains_of ns (points_of x y)

  all_held : Held (length x) (length y) ns
  all_held = held_says (length x) (length y) ns a.held

  sums : sum_of ns ≡ length (points_of x y)
  sums = all_held.sum ∙ sym (length_points_of x y all_held.alike)

  flat : length (flatten chains) ≡ length x
  flat = ap length (flatten_chains ns (points_of x y) sums) ∙ length_points_of x y all_held.alike

  pub lengths_are : map length chains ≡ ns
  lengths_are = lengths_chains ns (points_of x y) sums

  pub sum_is : sum_of ns ≡ length x
  sum_is = all_held.sum

  pub all_right : all_lengths ns ≡ true
  all_right = all_held.each

  counts_some : (ks : List ℕ) → all_lengths ks ≡ true → length ks ≤ sum_of ks
  unfolding sum_of
  counts_some [] h = omega arith
  counts_some (k ∷ ks) h = let b = all_first k ks h in let i = counts_some ks b.1 in let o = b.0.0 in omega arith

  pub few_chains : Few chains
  few_chains =
      let n = length_chains_of ns (points_of x y) in
      let m = flat in
      let b = a.few in
      let s = counts_some ns all_right in
      let t = sum_is in
      record { bytes = omega arith; each = rw lengths_are all_right; some = omega arith }

  -- the outputs have room
  module _ (o : Outputs) (ex : length o.x ≡ 4096) (ey : length o.y ≡ 4096) (el : length o.lengths ≡ 2048) (er : length o.reasons ≡ 4096) where
    gives_all : cleaning x y ns o ≡ gives chains
    unfolding cleaning kept_room_check unless ◌then◌
    gives_all =
        let b = a.few in
        rw (a.held, ex, ey, el, er, le-leb (length x) 4096 (omega arith), le-leb (length x / 2) 2048 (omega arith))

  pub always_cleans : {A : Type 0} {q : Refusal} {r : Result Cleaned Refusal} {o o' : Outputs} → CleanedAs x y ns o r o' → r ≡ Err q → length o.x ≡ 4096 → length o.y ≡ 4096 → length o.lengths ≡ 2048 → length o.reasons ≡ 4096 → A
  unfolding cleaned_of answer_by
  always_cleans {A} {q} {r} {o} c e ex ey el er =
      let d : Err q ≡ cleaned_of (gives chains) = sym e ∙ c.answer ∙ ap cleaned_of (gives_all o ex ey el er) in
      absurd (let z : ◌≡◌ {A = ℕ} 0 1 = cc in omega arith)

  -- what stands in them
  module _ {o o' : Outputs} {r : Result Cleaned Refusal} {n m : ℕ} (c : CleanedAs x y ns o r o') (e : r ≡ Ok (record { points = n; members = m })) where
    told : Gave x y ns o n m o'
    told = gave (subst (λ (q : Result Cleaned Refusal). CleanedAs x y ns o q o') e c)

    pub kept_load : Loaded (cleaned chains) o'.x o'.y o'.lengths n m
    kept_load = loaded (cleaned chains) o'.x o'.y o'.lengths n m (length o.x) (length o.y) (length o.lengths) told.points told.pieces told.in_x told.in_y told.in_lengths

    pub kept_fits : Fits (take n o'.x) (take n o'.y) (take m o'.lengths) file
    kept_fits =
        let f = kept_few chains few_chains in
        let b = f.bytes in
        let k = length_multi (cleaned chains) in
        let room = a.room in
        let same = sym (chains_are kept_load) in
        record {
          held = held_fine (held kept_load f);
          few = subst (λ (q : List (List Point)). count_check (length (starts_of q)) ≡ (Ok tt)) same (few_lines (cleaned chains) (clean_some (cleaned chains) (cleaned_clean chains)) (omega arith));
          room = subst (λ (q : List (List Point)). length (multi_bytes q) ≤ length file) same (omega arith);
        }

    pub reasons_there : sum_of ns ≤ length o'.reasons
    reasons_there = within (reasons chains) (length o.reasons) (sum_of ns) told.in_reasons (sum_is ∙ sym flat ∙ sym (length_reasons chains))

    text_is : chains_of ns o'.reasons ≡ map member_reasons chains
    text_is = ap (chains_of ns) told.in_reasons ∙ ap (λ (ks : List ℕ). chains_of ks (zero_beyond 0 (length o.reasons) (reasons chains))) (sym lengths_are) ∙ cut_reasons chains (length o.reasons)

    pub cleans : {f₁ t₀ t₁ : List ℕ} {k end : ℕ} → WroteText (chains_of (take m o'.lengths) (points_of (take n o'.x) (take n o'.y))) file k f₁
        → Puts (text_from 0 (chains_of ns o'.reasons)) (page t₀ 0) (page t₁ end) → PutsAs (gives chains) file t₀ (record { bytes = k; text = end }) f₁ t₁
    unfolding file_of file_left text_of answer_by left_in
    cleans {f₁} {t₀} {t₁} {k} {end} w p =
        let v : WroteText (cleaned chains) file k f₁ = subst (λ (q : List (List Point)). WroteText q file k f₁) (chains_are kept_load) w in
        record { bytes = v.count; file = v.is; text = puts_text (ap (text_from 0) text_is) p }

-- ---- the reader's answers, cleaned

module _ {bs x₀ y₀ l₀ x₁ y₁ l₁ : List ℕ} {r : Result MultiRead Refusal} (a : MultiReadAs bs x₀ y₀ l₀ r x₁ y₁ l₁) (ex : length x₀ ≡ 4096) (ey : length y₀ ≡ 4096) (el : length l₀ ≡ 4096) (h : length bs ≤ 65545) where
  pub unread_refused : {q : Refusal} {f t t₁ : List ℕ} {e : Ends} → r ≡ Err q → NoFile q.number t e t₁ → PutsAs (found_multi bs) f t e f t₁
  unread_refused {q} {f} {t} {t₁} {e} d n =
      let u = unread a ex ey el h d in
      subst (λ (o : Answer (List (List Point))). PutsAs o f t e f t₁) (sym u) (refuses (sym (left_same 0 q f (none_clears bs u))) n)

  pub read_cleaned : {p m : ℕ} {f f₁ t t₁ : List ℕ} {e : Ends} → r ≡ Ok (record { points = p; members = m }) → PutsAs (gives (chains_of (take m l₁) (points_of (take p x₁) (take p y₁)))) f t e f₁ t₁ → PutsAs (found_multi bs) f t e f₁ t₁
  read_cleaned {p} {m} {f} {f₁} {t} {t₁} {e} d n =
      let q = members_read a ex ey el h d in
      subst (λ (o : Answer (List (List Point))). PutsAs o f t e f₁ t₁) (ap gives (chains_are q.load) ∙ sym q.is) n

-- ---- the sizes

module _ (bs f : List ℕ) {t : List ℕ} where
  pub short_refused : {t₁ : List ℕ} {e : Ends} → length f < 65545 → NoFile 3 t e t₁ → PutsAs (chains_in (length f) bs) f t e f t₁
  unfolding chains_in sizes_check unless and_then ◌then◌ clears
  short_refused h n = rw (lt-leb 65545 (length f) h) (refuses {r = refusal 3 0} (sym (left_same 0 (refusal 3 0) f refl)) n)

  pub long_refused : {f₁ t₁ : List ℕ} {e : Ends} → 65545 ≤ length f → 65536 < length bs → NoFile 5 t e t₁ × (f₁ ≡ replicate (length f) 0) → PutsAs (chains_in (length f) bs) f t e f₁ t₁
  unfolding chains_in sizes_check unless and_then ◌then◌ clears
  long_refused k h n =
      let five = refusal 5 (length bs) in
      rw (le-leb 65545 (length f) k, lt-leb (length bs) 65536 h) (refuses {r = five} (n.1 ∙ sym (left_zero 0 five f refl)) n.0)

  pub sizes_right : {f₁ t₁ s : List ℕ} {e : Ends} {n : ℕ} → 65545 ≤ length f → length bs ≤ 65536 → Widened bs n s → PutsAs (found_multi (take n s)) f t e f₁ t₁ → PutsAs (chains_in (length f) bs) f t e f₁ t₁
  unfolding chains_in sizes_check unless and_then ◌then◌
  sizes_right {f₁} {t₁} {s} {e} {n} k h w c = rw (le-leb 65545 (length f) k, le-leb (length bs) 65536 h) (subst (λ (o : Answer (List (List Point))). PutsAs o f t e f₁ t₁) w.is c)

-- ---- zero beyond the text

module _ {a : Answer (List (List Point))} {f t f₁ t₁ : List ℕ} {r : Ends} (p : PutsAs a f t r f₁ t₁) (e : length t₁ ≡ length t) where
  pub text_end : r.text ≤ length t₁
  text_end = end_within (text_of a) t t₁ r.text p.text e

  pub text_cleared : {ys : List ℕ} → ys ≡ replicate (length (take (length t₁ - r.text) (drop r.text t₁))) 0
      → CleansAs a f t r f₁ (take r.text t₁ ++ (ys ++ drop (length t₁ - r.text) (drop r.text t₁)))
  text_cleared z = record { bytes = p.bytes; file = p.file; text = prints (text_of a) t t₁ _ r.text p.text e z }

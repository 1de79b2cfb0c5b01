-- What stands in a buffer after a text was put into it from its start: the text, as far as there is room, and zero beyond where that is cleared.
-- Assumes nothing.
use mathlib.Core.Path.{◌≡◌, refl, sym, ap, ◌∙◌}
use mathlib.Core.List.{List, [], ◌∷◌, ◌++◌, append-nil}
use Prim.Native.Nat.{ℕ, suc, ◌+◌, ◌-◌, ◌≤◌, ◌<◌, min}
use native.Mathlib.Omega.{arith}
use lib.ListN.{length, take, drop, replicate, length-append, length-take, length-drop, drop_of_length-le}
use lib.Seq.{take-nil, drop-nil, set-append_seam, append_snoc, take_at, length-take-le}
use Rattle.report.specs.Pages.{Page, page, put, put_all, Puts, Prints}
use Rattle.report.proofs.Putting.{put_room, put_full}

-- where `post` stands after `pre`: the text over the start of `post`
over : List ℕ → List ℕ → List ℕ
over xs post = take (length post) xs ++ drop (length xs) post

over_none : (post : List ℕ) → over [] post ≡ post
unfolding over
over_none post = ap (λ (t : List ℕ). t ++ post) (take-nil (length post))

over_full : (xs : List ℕ) → over xs [] ≡ []
unfolding over
over_full xs = drop-nil (length xs)

over_more : (x : ℕ) (xs : List ℕ) (p : ℕ) (post : List ℕ) → over (x ∷ xs) (p ∷ post) ≡ x ∷ over xs post
unfolding over
over_more x xs p post = refl

-- one byte more stands before the place
moved : (pre : List ℕ) (x : ℕ) (xs : List ℕ) (p : ℕ) (post : List ℕ) → length (pre ++ (x ∷ [])) ≡ suc (length pre)
    → page ((pre ++ (x ∷ [])) ++ over xs post) (length (pre ++ (x ∷ [])) + min (length post) (length xs))
    ≡ page (pre ++ over (x ∷ xs) (p ∷ post)) (length pre + min (length (p ∷ post)) (length (x ∷ xs)))
moved pre x xs p post e =
    let same : (pre ++ (x ∷ [])) ++ over xs post ≡ pre ++ over (x ∷ xs) (p ∷ post) =
    append_snoc pre x (over xs post) ∙ ap (λ (t : List ℕ). pre ++ t) (sym (over_more x xs p post)) in
    let at : length (pre ++ (x ∷ [])) + min (length post) (length xs) ≡ length pre + min (length (p ∷ post)) (length (x ∷ xs)) = omega arith in
    rw (same, at)

after : (xs pre post : List ℕ) → put_all xs (page (pre ++ post) (length pre)) ≡ page (pre ++ over xs post) (length pre + min (length post) (length xs))
unfolding put_all
after [] pre post = rw over_none (ap (page (pre ++ post)) (omega arith))
after (x ∷ xs) pre [] =
    ap (put_all xs) (put_full x (pre ++ []) (length pre) (simp length-append (omega arith)))
    ∙ after xs pre []
    ∙ rw (over_full xs, over_full (x ∷ xs)) (ap (page (pre ++ [])) (omega arith))
after (x ∷ xs) pre (p ∷ post) =
    let room : length pre < length (pre ++ (p ∷ post)) = simp length-append (omega arith) in
    let e : length (pre ++ (x ∷ [])) ≡ suc (length pre) = simp length-append (omega arith) in
    let here : put x (page (pre ++ (p ∷ post)) (length pre)) ≡ page ((pre ++ (x ∷ [])) ++ post) (length (pre ++ (x ∷ []))) =
    put_room x (pre ++ (p ∷ post)) (length pre) room ∙ rw (e, set-append_seam pre p post x) (ap (λ (t : List ℕ). page t (suc (length pre))) (sym (append_snoc pre x post))) in
    ap (put_all xs) here ∙ after xs (pre ++ (x ∷ [])) post ∙ moved pre x xs p post e

-- A text that was put from the start on: as much of it as there is room for stands at the start, and its end is answered.
pub record Written (text out out' : List ℕ) (r : ℕ) : Type 0 where
  pub count : r ≡ length (take (length out) text)
  pub start : take r out' ≡ take (length out) text

pub written : (text out out' : List ℕ) (r : ℕ) → Puts text (page out 0) (page out' r) → Written text out out' r
unfolding over
written text out out' r f =
    let e : page out' r ≡ page (over text out) (min (length out) (length text)) = f.is ∙ after text [] out ∙ ap (page (over text out)) (omega arith) in
    let n : r ≡ length (take (length out) text) = ap (λ (p : Page). p.at) e ∙ sym (length-take (length out) text) in
    record {
      count = n;
      start =
          ap (take r) (ap (λ (p : Page). p.bytes) e)
          ∙ take_at (take (length out) text) (drop (length text) out) r (sym n);
    }

-- ---- its end, and zero beyond

pub end_within : (text out out₁ : List ℕ) (r : ℕ) → Puts text (page out 0) (page out₁ r) → length out₁ ≡ length out → r ≤ length out₁
end_within text out out₁ r f e =
    let w = written text out out₁ r f in
    let c = w.count in
    let l = length-take (length out) text in
    omega arith

pub prints : (text out out₁ ys : List ℕ) (r : ℕ) → Puts text (page out 0) (page out₁ r) → length out₁ ≡ length out → ys ≡ replicate (length (take (length out₁ - r) (drop r out₁))) 0 → Prints text out (take r out₁ ++ (ys ++ drop (length out₁ - r) (drop r out₁))) r
prints text out out₁ ys r f e q =
    let w = written text out out₁ r f in
    let n : length (drop r out₁) ≡ length out₁ - r = length-drop r out₁ in
    let k : length (take (length out₁ - r) (drop r out₁)) ≡ length out - r = length-take-le (length out₁ - r) (drop r out₁) (omega arith) ∙ ap (λ (m : ℕ). m - r) e in
    record {
      end = w.count;
      is =
          rw (drop_of_length-le (drop r out₁) {i = length out₁ - r} (omega arith), append-nil ys, w.start)
          (ap (λ (l : List ℕ). take (length out) text ++ l) (q ∙ ap (λ (m : ℕ). replicate m 0) k));
    }

-- what was printed, as a part of the buffer
pub prints_within : {text out out' : List ℕ} {r : ℕ} → Prints text out out' r → r ≡ length (take r out')
prints_within {text} {out} {out'} {r} p =
    p.end ∙ ap length (sym (ap (take r) p.is ∙ take_at (take (length out) text) (replicate (length out - r) 0) r (sym p.end)))

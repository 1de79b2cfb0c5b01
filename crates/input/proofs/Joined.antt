-- What two reads, one after the other, put at the start of a buffer is what they took from the reader. Assumes nothing.
use Rattle.std.proofs.Common.{◌≡◌, ℕ, ◌+◌, ◌≤◌, List, Option, ◌++◌, length, take, drop, sym, ap, ◌∙◌, subst, le_refl, drop_at, length-take-le}
use Rattle.std.proofs.lemmas.Slice.{take-put_mid_below}
use Rattle.std.specs.Io.KnownBytes.{Consumes}
use Rattle.std.proofs.KnownBytes.{Consumes-trans}
use borrow.Rule.Slice.PartMut.{put_mid, post_of}
use lib.Seq.{take-add, take-append-le}

-- the first a + n bytes: the a that stood there, and the n that came
joined : (a k n : ℕ) (xs ys : List ℕ) → a ≤ length xs → n ≤ length ys → take a xs ++ take n ys ≡ take (a + n) (put_mid a k xs ys)
joined a k n xs ys within fits =
    let after = post_of a k xs in
    let came : take n (drop a (put_mid a k xs ys)) ≡ take n ys =
    ap (take n) (drop_at (take a xs) (ys ++ after) a (length-take-le a xs within)) ∙ take-append-le n ys after fits in
    let stood = take-put_mid_below _ _ _ _ _ (le_refl _) within in
    sym (take-add a n (put_mid a k xs ys) ∙ ap (λ l. l ++ take n (drop a (put_mid a k xs ys))) stood ∙ ap (λ l. take a xs ++ l) came)

pub taken : (p q r : Option (List ℕ)) (a k n : ℕ) (xs ys : List ℕ) → a ≤ length xs → n ≤ length ys
    → Consumes p q (take a xs) → Consumes q r (take n ys) → Consumes p r (take (a + n) (put_mid a k xs ys))
taken p q r a k n xs ys within fits first second = subst (Consumes p r) (joined a k n xs ys within fits) (Consumes-trans p q r _ _ first second)

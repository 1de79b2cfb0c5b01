-- Laws of a way along member lengths: k members, with `from` points, lie behind; what is left of the lengths, of the members and of their lines.
-- Assumes nothing.
use mathlib.Core.Path.{◌≡◌, refl, sym, ap, ◌∙◌}
use mathlib.Core.Bool.{true, false, ◌&&◌}
use mathlib.Core.List.{List, [], ◌∷◌, ◌++◌, map, map-map, map-append, flat_map}
use Prim.Native.Nat.{ℕ, ◌+◌, ◌-◌, ◌*◌, ◌≤◌, ◌<◌}
use native.Mathlib.Numerals.{add-one}
use native.Mathlib.Omega.{arith}
use lib.ListN.{length, take, drop, get_or, length-map, length-append, length-drop, drop_of_length-le}
use lib.Seq.{drop-cons, drop-drop, length-take-le}
use Rattle.wkb.proofs.Chains.{start_parts, end_parts}
use Rattle.wkb.specs.Bytes.{Point}
use Rattle.wkb.specs.Multi.{starts, ends, starts_of, ends_of}
use Rattle.members.specs.Held.{chains_of, is_length, all_lengths, sum_of}
use Rattle.members.specs.Inside.{ends_at}
use Rattle.members.proofs.Held.{rest, map_take, map_drop, length_is, all_first, chains_map}

-- ---- the lengths that are left

pub next : (ns : List ℕ) (k : ℕ) → k < length ns → drop k ns ≡ get_or ns k 0 ∷ drop (k + 1) ns
next ns k h = rw (add-one k) (drop-cons ns k 0 h)

-- the first k were added up, and are lengths that members may have
pub record Summed (ns : List ℕ) (k sum : ℕ) : Type 0 where
  pub same : all_lengths ns ≡ all_lengths (drop k ns)
  pub total : sum_of ns ≡ sum + sum_of (drop k ns)
  pub few : sum ≤ 1024 * k
  pub within : k ≤ length ns

pub summed_none : (ns : List ℕ) → Summed ns 0 0
summed_none ns = record { same = refl; total = omega arith; few = omega arith; within = omega arith }

module _ {ns : List ℕ} {k sum : ℕ} (s : Summed ns k sum) where
  all_next : k < length ns → all_lengths ns ≡ (is_length (get_or ns k 0) && all_lengths (drop (k + 1) ns))
  unfolding all_lengths
  all_next h = s.same ∙ ap all_lengths (next ns k h)

  sum_next : k < length ns → sum_of (drop k ns) ≡ get_or ns k 0 + sum_of (drop (k + 1) ns)
  unfolding sum_of
  sum_next h = ap sum_of (next ns k h)

  pub summed_more : (n : ℕ) → k < length ns → n ≡ get_or ns k 0 → is_length n ≡ true → Summed ns (k + 1) (sum + n)
  summed_more n h e t =
      let l = length_is n t in
      let i : is_length (get_or ns k 0) ≡ true = rw (← e) t in
      record { same = all_next h ∙ rw i; total = omega (arith, s.total, sum_next h); few = omega (arith, s.few, l.1); within = omega arith }

  pub summed_wrong : (n : ℕ) → k < length ns → n ≡ get_or ns k 0 → is_length n ≡ false → all_lengths ns ≡ false
  summed_wrong n h e f = let i : is_length (get_or ns k 0) ≡ false = rw (← e) f in all_next h ∙ rw i

  pub summed_all : length ns ≤ k → (all_lengths ns ≡ true) × (sum_of ns ≡ sum)
  unfolding all_lengths sum_of
  summed_all h =
      let e : drop k ns ≡ [] = drop_of_length-le ns h in
      (s.same ∙ rw e, let z : sum_of (drop k ns) ≡ 0 = ap sum_of e in omega (arith, s.total))

pub record Along (ns : List ℕ) (total k from : ℕ) : Type 0 where
  pub each : all_lengths (drop k ns) ≡ true
  pub sum : from + sum_of (drop k ns) ≡ total

pub along_none : (ns : List ℕ) (total : ℕ) → all_lengths ns ≡ true → sum_of ns ≡ total → Along ns total 0 0
along_none ns total h e = record { each = h; sum = omega arith }

-- the next member has a length that is right, and its points are there
pub record Fitting (total from n : ℕ) : Type 0 where
  pub some : 1 ≤ n
  pub most : n ≤ 1024
  pub within : from + n ≤ total

module _ {ns : List ℕ} {total k from : ℕ} (a : Along ns total k from) (h : k < length ns) where
  sums : sum_of (drop k ns) ≡ get_or ns k 0 + sum_of (drop (k + 1) ns)
  unfolding sum_of
  sums = ap sum_of (next ns k h)

  firsts : ((1 ≤ get_or ns k 0) × (get_or ns k 0 ≤ 1024)) × (all_lengths (drop (k + 1) ns) ≡ true)
  firsts = all_first (get_or ns k 0) (drop (k + 1) ns) (rw (next ns k h) at a.each)

  pub along_next : (n : ℕ) → n ≡ get_or ns k 0 → Fitting total from n
  along_next n e = record { some = omega (arith, firsts.0.0); most = omega (arith, firsts.0.1); within = omega (arith, sums, a.sum) }

  pub along_more : (n : ℕ) → n ≡ get_or ns k 0 → Along ns total (k + 1) (from + n)
  along_more n e = record { each = firsts.1; sum = omega (arith, sums, a.sum) }

-- ---- the members that are left

module _ {A : Type 0} where
  pub chains_next : (ns : List ℕ) (k from : ℕ) (ps : List A) (n : ℕ) → k < length ns → n ≡ get_or ns k 0
      → chains_of (drop k ns) (drop from ps) ≡ take n (drop from ps) ∷ chains_of (drop (k + 1) ns) (drop (from + n) ps)
  unfolding chains_of
  chains_next ns k from ps n h e = rw (next ns k h, ← e, drop-drop n from ps)

  pub chains_over : (ns : List ℕ) (k : ℕ) (ps : List A) → length ns ≤ k → chains_of (drop k ns) ps ≡ []
  unfolding chains_of
  chains_over ns k ps h = rw (drop_of_length-le ns h)

  pub ends_next : (skip : ℕ) (ns : List ℕ) (k at : ℕ) (cs : List A) (n : ℕ) → k < length ns → n ≡ get_or ns k 0
      → ends_at skip (drop k ns) (drop at cs) ≡ take (n - 1) (drop (at + skip) cs) ++ ends_at skip (drop (k + 1) ns) (drop (at + n) cs)
  unfolding ends_at
  ends_next skip ns k at cs n h e = rw (next ns k h, ← e, drop-drop skip at cs, drop-drop n at cs)

  pub ends_over : (skip : ℕ) (ns : List ℕ) (k : ℕ) (cs : List A) → length ns ≤ k → ends_at skip (drop k ns) cs ≡ []
  unfolding ends_at
  ends_over skip ns k cs h = rw (drop_of_length-le ns h)

  -- ---- the ends of lines

  -- a member has one line less than it has points
  pub length_ends : (skip : ℕ) (ns : List ℕ) (cs : List A) → skip ≤ 1 → all_lengths ns ≡ true → sum_of ns ≡ length cs → length (ends_at skip ns cs) + length ns ≡ length cs
  unfolding ends_at sum_of
  length_ends skip [] cs h a e = omega (arith, e)
  length_ends skip (n ∷ ns) cs h a e =
      let r = rest n ns cs e in
      let f = all_first n ns a in
      let ih = length_ends skip ns (drop n cs) h f.1 r.1 in
      let l : length (take (n - 1) (drop skip cs)) ≡ n - 1 = length-take-le (n - 1) (drop skip cs) (rw (length-drop skip cs) (omega arith)) in
      simp length-append (omega (arith, length-drop n cs))

  pub starts_are : (ns : List ℕ) (cs : List A) → sum_of ns ≡ length cs → starts_of (chains_of ns cs) ≡ ends_at 0 ns cs
  unfolding starts_of flat_map chains_of ends_at
  starts_are [] cs e = refl
  starts_are (n ∷ ns) cs e =
      let r = rest n ns cs e in
      rw (start_parts n cs r.0, starts_are ns (drop n cs) r.1)

  pub ends_are : (ns : List ℕ) (cs : List A) → all_lengths ns ≡ true → sum_of ns ≡ length cs → ends_of (chains_of ns cs) ≡ ends_at 1 ns cs
  unfolding ends_of flat_map chains_of ends_at
  ends_are [] cs h e = refl
  ends_are (n ∷ ns) cs h e =
      let r = rest n ns cs e in
      let a = all_first n ns h in
      rw (end_parts n cs a.0.0, ends_are ns (drop n cs) a.1 r.1)

-- ---- of one coordinate

module _ {A B : Type 0} (f : A → B) where
  map_starts : (pss : List (List A)) → map f (starts_of pss) ≡ starts_of (map (map f) pss)
  unfolding starts_of flat_map
  map_starts [] = refl
  map_starts (ps ∷ pss) =
      map-append f (starts ps) (flat_map starts pss)
      ∙ rw (map_take f (length ps - 1) ps, length-map ps f, map_starts pss)

  map_ends : (pss : List (List A)) → map f (ends_of pss) ≡ ends_of (map (map f) pss)
  unfolding ends_of flat_map
  map_ends [] = refl
  map_ends (ps ∷ pss) = map-append f (ends ps) (flat_map ends pss) ∙ rw (map_drop f 1 ps, map_ends pss)

-- f is the coordinate of points ps that cs are, and g what is made of it
module _ {B : Type 0} (f : Point → ℕ) (g : ℕ → B) (ns : List ℕ) (ps : List Point) (cs : List ℕ) (is : map f ps ≡ cs) (sum : sum_of ns ≡ length cs) where
  pub starts_by : map (λ (p : Point). g (f p)) (starts_of (chains_of ns ps)) ≡ map g (ends_at 0 ns cs)
  starts_by =
      sym (map-map g f (starts_of (chains_of ns ps)))
      ∙ ap (map g) (map_starts f (chains_of ns ps) ∙ ap starts_of (chains_map f ns ps ∙ ap (chains_of ns) is) ∙ starts_are ns cs sum)

  pub ends_by : all_lengths ns ≡ true → map (λ (p : Point). g (f p)) (ends_of (chains_of ns ps)) ≡ map g (ends_at 1 ns cs)
  ends_by h =
      sym (map-map g f (ends_of (chains_of ns ps)))
      ∙ ap (map g) (map_ends f (chains_of ns ps) ∙ ap ends_of (chains_map f ns ps ∙ ap (chains_of ns) is) ∙ ends_are ns cs h sum)

-- ---- what is left of the coordinates

module _ {B : Type 0} (g : ℕ → B) (skip : ℕ) (ns : List ℕ) (k at : ℕ) (cs : List ℕ) where
  pub floats_next : (n : ℕ) → k < length ns → n ≡ get_or ns k 0
      → map g (ends_at skip (drop k ns) (drop at cs)) ≡ map g (take (n - 1) (drop (at + skip) cs)) ++ map g (ends_at skip (drop (k + 1) ns) (drop (at + n) cs))
  floats_next n h e = ap (map g) (ends_next skip ns k at cs n h e) ∙ map-append g (take (n - 1) (drop (at + skip) cs)) _

  pub floats_over : length ns ≤ k → map g (ends_at skip (drop k ns) (drop at cs)) ≡ []
  floats_over h = ap (map g) (ends_over skip ns k (drop at cs) h)

  -- a member's points less one
  pub floats_count : (n : ℕ) → skip ≤ 1 → Fitting (length cs) at n → length (map g (take (n - 1) (drop (at + skip) cs))) ≡ n - 1
  floats_count n h f =
      length-map (take (n - 1) (drop (at + skip) cs)) g
      ∙ length-take-le (n - 1) (drop (at + skip) cs) (rw (length-drop (at + skip) cs) (omega (arith, f.some, f.within)))

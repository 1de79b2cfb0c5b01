-- Demand 3 after a build, or a build followed by lines added in its mode: what such calls leave stands, so that nothing of the demand is proved a second time.
-- Assumes nothing.
use Rattle.std.specs.Prelude.{Ok, Result}
use Rattle.refusals.specs.declared.Refusal.{Refusal}
use mathlib.Core.Path.{◌≡◌, refl, sym, ap, ◌∙◌, subst}
use mathlib.Core.List.{List, [], ◌∷◌, ◌++◌}
use Prim.Native.Nat.{ℕ, suc, ◌+◌, ◌≤◌, ◌<◌}
use native.Mathlib.Numerals.{add-one}
use native.Mathlib.Omega.{arith}
use native.Mathlib.Decide.{ℕ_discrete}
use borrow.Author.Tests.{eq-eqb, le-leb}
use lib.Ieee.{Float, nan}
use lib.ListN.{length, get_or, length-append, get_or-append}
use lib.Seq.{get_or_at}
use Rattle.refusals.specs.Refusals.{unless, and_then, Answer, refused, gives, answer_by, left_in, zero_beyond}
use Rattle.refusals.proofs.Checks.{each_fine}
use Rattle.grid.specs.declared.Grid.{Grid}
use Rattle.grid.specs.declared.Segment.{Segment}
use Rattle.grid.specs.Domain.{Lines, count, Alike, segment_at, line_fits, lengths_check, count_check, coordinates_check, lines_check}
use Rattle.grid.proofs.Fine.{LinesFit, lines_fine}
use Rattle.walk.specs.declared.Mode.{Mode}
use Rattle.walk.specs.Segment.{segment_of}
use Rattle.tables.specs.Tables.{Tables, tables, cells}
use Rattle.tables.specs.Lists.{local_lines, global_lines, items_of, offsets_of}
use Rattle.tables.specs.Stands.{Stands}
use Rattle.fill.specs.declared.Filled.{Filled}
use Rattle.fill.specs.declared.Filled.TheVariants as filled
use Rattle.fill.specs.OnGrid.{grid_cells, walk_on, visited, cells_on, list_on, globals_on}
use Rattle.fill.specs.Fill.{Filling, crowded, made, filling_of, filled_of, written_in, FillIs}
use Rattle.build.proofs.Theorems.{build_stands, walks_end, lines_passed, grid_fits}
use Rattle.added.specs.Added.{cleared}
use Rattle.added.proofs.Theorems.{Success, success, offsets_laid, items_laid, globals_laid, found_laid, add_stands, stands_alike}
use Rattle.blocks_added.specs.Beside.{BesideIs}
use Rattle.blocks_added.proofs.Laws.{as_added}
use Rattle.demands.specs.Build.{AfterBuild}
use Rattle.demands.specs.Grown.{FromBuild, with_line, FromLine, SameLists, Grown, from_build, one_more, moved}
use Rattle.demands.proofs.Whole.{demand_3}

-- what such calls come to
pub record Says (mode : Mode) (g : Grid) (ls : Lines) (t : Tables) : Type 0 where
  pub stands : Stands (cells_on mode g ls) (count ls) g t
  pub passed : lines_check ls ≡ Ok tt
  pub walks : (k : ℕ) → k < count ls → walk_on mode g ls k ≡ gives (cells_on mode g ls k)
  pub some : 1 ≤ count ls → 1 ≤ g.cols

-- tables as counting and placing leaves them, in slices of as many entries as others have
pub record AsFilled (mode : Mode) (g : Grid) (ls : Lines) (was t : Tables) : Type 0 where
  pub offsets : t.offsets ≡ offsets_of (list_on mode g ls) (grid_cells g) (length was.offsets)
  pub items : t.items ≡ items_of (list_on mode g ls) (grid_cells g) (length was.items)
  pub globals : t.globals ≡ zero_beyond 0 (length was.globals) (globals_on mode g ls)
  pub found : t.global_count ≡ length (globals_on mode g ls)

-- ---- a build

build_says : {mode : Mode} {g : Grid} {ls : Lines} {t : Tables} → FromBuild mode g ls t → Says mode g ls t
build_says {mode} {g} {ls} {t} h =
    let e : h.standing.grid ≡ g = h.on_grid in
    let a = build_stands h.plan h.is h.made in
    let b = walks_end h.plan h.is h.made in
    record {
      stands = rw (h.left, ← h.same_mode, ← e) a;
      passed = lines_passed h.plan h.is h.made;
      walks = rw (← h.same_mode, ← e) b;
      some = rw (← e) (grid_fits h.plan h.is h.made).1;
    }

-- ---- one more line

module _ (ls : Lines) (line : Segment) where
  count_more : count (with_line ls line) ≡ suc (count ls)
  unfolding with_line
  count_more = length-append ls.start_x (line.start_x ∷ []) ∙ add-one (count ls)

  module _ (same : Alike ls) where
    at_end : (xs : List Float) (v : Float) → length xs ≡ count ls → get_or (xs ++ (v ∷ [])) (count ls) nan ≡ v
    at_end xs v e = get_or_at xs v [] nan (count ls) e

    line_last : segment_at (with_line ls line) (count ls) ≡ line
    unfolding with_line
    line_last =
        rw (
          at_end ls.start_x line.start_x refl,
          at_end ls.start_y line.start_y same.«start_y»,
          at_end ls.end_x line.end_x same.«end_x»,
          at_end ls.end_y line.end_y same.«end_y»,
        )

    line_before : (i : ℕ) → i < count ls → segment_at (with_line ls line) i ≡ segment_at ls i
    unfolding with_line
    line_before i l =
        rw (
          get_or-append ls.start_x (line.start_x ∷ []) nan i l,
          get_or-append ls.start_y (line.start_y ∷ []) nan i (omega (arith, same.«start_y»)),
          get_or-append ls.end_x (line.end_x ∷ []) nan i (omega (arith, same.«end_x»)),
          get_or-append ls.end_y (line.end_y ∷ []) nan i (omega (arith, same.«end_y»)),
        )

    more_alike : Alike (with_line ls line)
    unfolding with_line
    more_alike =
        record {
          «start_y» = omega (arith, length-append ls.start_x (line.start_x ∷ []), length-append ls.start_y (line.start_y ∷ []), same.«start_y»);
          «end_x» = omega (arith, length-append ls.start_x (line.start_x ∷ []), length-append ls.end_x (line.end_x ∷ []), same.«end_x»);
          «end_y» = omega (arith, length-append ls.start_x (line.start_x ∷ []), length-append ls.end_y (line.end_y ∷ []), same.«end_y»);
        }

-- lines that fit pass 3, 2 and 1
fit_passes : (ls : Lines) → LinesFit ls → lines_check ls ≡ Ok tt
unfolding lines_check lengths_check count_check coordinates_check unless and_then
fit_passes ls f =
    let a = eq-eqb (length ls.start_y) (count ls) f.same.«start_y» in
    let b = eq-eqb (length ls.end_x) (count ls) f.same.«end_x» in
    let c = eq-eqb (length ls.end_y) (count ls) f.same.«end_y» in
    let d = le-leb (count ls) 65536 f.few in
    rw (a, b, c, d) (each_fine (line_fits ls) 1 (count ls) 0 (λ k l m. f.each k (omega arith)))

module _ {mode : Mode} {g : Grid} {ls : Lines} {t : Tables} {line : Segment} {t' : Tables} (s : Says mode g ls t) (h : FromLine mode g ls t line t') where
  abbrev more : Lines
  more = with_line ls line

  fits : LinesFit ls
  fits = lines_fine ls s.passed

  -- the tables, spelt out
  spelt : Tables
  spelt = tables g (count ls) t.offsets t.items t.globals t.global_count

  added_line : Success mode g line spelt h.scratch h.all_globals h.offsets' h.items' h.globals'
  unfolding spelt
  added_line =
      subst (λ (x : Tables). Success mode g line x h.scratch h.all_globals h.offsets' h.items' h.globals') s.stands.on_grid (success mode g line h.is h.made)

  walk_before : (i : ℕ) → i < count ls → walk_on mode g more i ≡ walk_on mode g ls i
  unfolding walk_on
  walk_before i l = ap (segment_of mode g) (line_before ls line fits.same i l)

  walk_last : walk_on mode g more (count ls) ≡ gives added_line.visited
  unfolding walk_on
  walk_last = ap (segment_of mode g) (line_last ls line fits.same) ∙ added_line.walked

  cells_before : (i : ℕ) → i < count ls → cells_on mode g ls i ≡ cells_on mode g more i
  unfolding cells_on
  cells_before i l = sym (ap visited (walk_before i l))

  cells_last : cells_on mode g more (count ls) ≡ added_line.visited
  unfolding cells_on
  cells_last = ap visited walk_last

  line_stands : Stands (cells_on mode g more) (count more) g t'
  unfolding spelt
  line_stands =
      let a : Stands (cells_on mode g ls) (count ls) g spelt = subst (λ (x : Tables). Stands (cells_on mode g ls) (count ls) g x) s.stands.on_grid s.stands in
      rw (h.left, count_more ls line) (add_stands (cells_on mode g more) mode g line (count ls) (stands_alike cells_before a) added_line cells_last)

  -- they are those of all lines, counted and placed in slices of as many entries
  line_filled : AsFilled mode g more t t'
  unfolding spelt list_on globals_on
  line_filled =
      let a : Stands (cells_on mode g ls) (count ls) g spelt = subst (λ (x : Tables). Stands (cells_on mode g ls) (count ls) g x) s.stands.on_grid s.stands in
      let b = stands_alike cells_before a in
      let n : suc (count ls) ≡ count more = sym (count_more ls line) in
      let W : ℕ → List ℕ = cells_on mode g more in
      record {
        offsets =
            ap (λ (x : Tables). x.offsets) h.left
            ∙ offsets_laid W mode g line (count ls) b added_line cells_last
            ∙ ap (λ (k : ℕ). offsets_of (local_lines W k) (grid_cells g) (length t.offsets)) n;
        items =
            ap (λ (x : Tables). x.items) h.left
            ∙ items_laid W mode g line (count ls) b added_line cells_last
            ∙ ap (λ (k : ℕ). items_of (local_lines W k) (grid_cells g) (length t.items)) n;
        globals =
            ap (λ (x : Tables). x.globals) h.left
            ∙ globals_laid W mode g line (count ls) b added_line cells_last
            ∙ ap (λ (k : ℕ). zero_beyond 0 (length t.globals) (global_lines W k)) n;
        found =
            ap (λ (x : Tables). x.global_count) h.left
            ∙ found_laid W mode g line (count ls) b added_line cells_last
            ∙ ap (λ (k : ℕ). length (global_lines W k)) n;
      }

  line_fits_lem : LinesFit more
  unfolding line_fits spelt
  line_fits_lem =
      record {
        same = more_alike ls line fits.same;
        few = rw (count_more ls line) added_line.asks.few;
        each = λ i l. elim (ℕ_discrete i (count ls)) [
          | yes e ↦ rw (e, line_last ls line fits.same) added_line.asks.walkable.obeys
          | no d ↦ rw (line_before ls line fits.same i (omega (arith, d, count_more ls line))) (fits.each i (omega (arith, d, count_more ls line)))
        ];
      }

  line_walks : (k : ℕ) → k < count more → walk_on mode g more k ≡ gives (cells_on mode g more k)
  line_walks k l = elim (ℕ_discrete k (count ls)) [
    | yes e ↦ rw (e, cells_last) walk_last
    | no d ↦ let b : k < count ls = omega (arith, d, count_more ls line) in walk_before k b ∙ s.walks k b ∙ ap gives (cells_before k b)
  ]

  line_says : Says mode g more t'
  line_says = record { stands = line_stands; passed = fit_passes more line_fits_lem; walks = line_walks; some = λ _. added_line.asks.some }

-- ---- in other slices

moved_says : {mode : Mode} {g : Grid} {ls : Lines} {t t' : Tables} → Says mode g ls t → SameLists g ls t t' → Says mode g ls t'
moved_says {mode} {g} {ls} {t} {t'} s h =
    let a = s.stands in
    let e : cells t' ≡ cells t = ap cells h.on_grid ∙ sym (ap cells a.on_grid) in
    record {
      stands =
          record {
            on_grid = h.on_grid;
            grid_fit = a.grid_fit;
            few = a.few;
            walks = rw e a.walks;
            tables_fit_lem = h.fits;
            lists = λ c l. h.lists c (omega (arith, e)) ∙ a.lists c (omega (arith, e));
            globals = h.globals ∙ a.globals;
          };
      passed = s.passed;
      walks = s.walks;
      some = s.some;
    }

-- ---- THE THEOREM

pub grown_says : {mode : Mode} {g : Grid} {ls : Lines} {t : Tables} → Grown mode g ls t → Says mode g ls t
grown_says (from_build h) = build_says h
grown_says (one_more k h) = line_says (grown_says k) h
grown_says (moved k h) = moved_says (grown_says k) h

-- DEMAND 3, after a build, or a build followed by lines added in its mode
pub after_grown : {mode : Mode} {g : Grid} {ls : Lines} {t : Tables} → Grown mode g ls t → AfterBuild mode ls g t
after_grown k = let s = grown_says k in record { walks = s.walks; demand = demand_3 s.stands s.passed }

-- ---- document 02, 11: "the new ones are those of all n + 1 counted and placed on it in that mode"

-- where filling the tables of some lines succeeds, it leaves these
fills : {mode : Mode} {g : Grid} {ls : Lines} {was t : Tables} {offsets items globals scratch : List ℕ} {r : (Result Filled Refusal)} {a b : ℕ} {o xs gs z : List ℕ}
    → AsFilled mode g ls was t → (f : Answer Filling) → FillIs mode g ls offsets items globals scratch r o xs gs z f → r ≡ Ok (filled.Tables a b)
    → length offsets ≡ length was.offsets → length items ≡ length was.items → length globals ≡ length was.globals
    → (t.offsets ≡ o) × (t.items ≡ xs) × (t.globals ≡ gs) × (t.global_count ≡ b)
unfolding answer_by filled_of left_in written_in
fills k (refused why) h e p q v = let x : ◌≡◌ {A = ℕ} 0 1 = cc (h.answer, e) in absurd (omega arith)
fills k (gives crowded) h e p q v = let x : ◌≡◌ {A = ℕ} 0 1 = cc (h.answer, e) in absurd (omega arith)
fills k (gives made) h e p q v = (
  k.offsets ∙ rw (← p) (sym h.offsets_are),
  k.items ∙ rw (← q) (sym h.items_are),
  k.globals ∙ rw (← v) (sym h.globals_are),
  k.found ∙ cc (h.answer, e),
)

-- A LINE ADDED IS ALL LINES COUNTED AND PLACED on the same grid, in slices of the same lengths
pub as_counted : {mode : Mode} {g : Grid} {ls : Lines} {t : Tables} {line : Segment} {t' : Tables} → Grown mode g ls t → FromLine mode g ls t line t'
    → (most : ℕ) {offsets items globals scratch : List ℕ} {r : (Result Filled Refusal)} {a b : ℕ} {o xs gs z : List ℕ}
    → FillIs mode g (with_line ls line) offsets items globals scratch r o xs gs z (filling_of mode g (with_line ls line) most (length offsets) (length items) (length globals) (length scratch))
    → r ≡ Ok (filled.Tables a b) → length offsets ≡ length t.offsets → length items ≡ length t.items → length globals ≡ length t.globals
    → (t'.offsets ≡ o) × (t'.items ≡ xs) × (t'.globals ≡ gs) × (t'.global_count ≡ b)
as_counted k h most f e p q v = fills (line_filled (grown_says k) h) _ f e p q v

-- ---- a line that was added with its summary is one that was added

pub line_beside : {mode : Mode} {g : Grid} {ls : Lines} {t : Tables} {line : Segment} {kept s : List ℕ} {i j l : ℕ} {o xs gs k z : List ℕ}
    → BesideIs mode g line t kept s (Ok (record { cells = i; items = j; globals = l })) o xs gs k z → FromLine mode g ls t line (tables g (suc (count ls)) o xs gs l)
line_beside {s = s} {i = i} {j = j} {l = l} {o = o} {xs = xs} {gs = gs} {z = z} h =
    record {
      scratch = s;
      leaves = cleared s;
      answer = Ok (record { cells = i; items = j; globals = l });
      listing_cells = i;
      all_items = j;
      all_globals = l;
      offsets' = o;
      items' = xs;
      globals' = gs;
      scratch' = z;
      is = as_added h;
      made = refl;
      left = refl;
    }

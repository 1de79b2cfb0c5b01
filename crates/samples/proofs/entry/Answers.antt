-- `samples::entry` meets its contract. Assumes nothing.
use mathlib.Core.Path.{refl, sym, ap, ◌∙◌}
use native.Mathlib.Omega.{arith}
use lib.IntN.{pos}
use lib.ListN.{get_or-eq_default}
use borrow.Author.Rules.{sfits_of}
use mir.Facts.{to_z-of_z}
use mir.Syntax.{w32}
use Rattle.samples.specs.Samples.{sample, lifted, raised}
use Rattle.samples.proofs.Raising.{raised_is}
use Rattle.samples.proofs.entry.Goals as goal

pub returns-then-i-s : goal.returns-then-i-s
returns-then-i-s c = c.raise.ensures ∙ ap raised (to_z-of_z {w = w32} (sfits_of c.raise-arg-1.given))

pub returns : goal.returns
unfolding sample lifted
returns c = sym (ap raised (get_or-eq_default c.args.s.now (pos 0) (omega arith)) ∙ raised_is (pos 0) refl)

-- `listed::bytes::byte_of` meets its contract. Assumes nothing.
use Rattle.listed.proofs.ByteLaws.{byte_true, byte_false}
use mathlib.Core.Path.{sym, ap, ◌∙◌}
use Rattle.listed.specs.Bytes.{byte_of}
use Rattle.listed.proofs.bytes.byte_of.Goals as goal

pub returns-then-b : goal.returns-then-b
returns-then-b c = sym (ap byte_of c.if-b.true ∙ byte_true)

pub returns : goal.returns
returns c = sym (ap byte_of c.if-b.false ∙ byte_false)

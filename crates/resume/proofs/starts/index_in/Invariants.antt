-- `resume::starts::index_in` meets its contract. The invariant: the value does not stand before u. Assumes nothing.
use Rattle.resume.proofs.CursorLaws.{Seeking}
use Rattle.resume.proofs.starts.index_in.Given as goal

abbrev pub invariant-loop-u : goal.invariant-loop-u
invariant-loop-u l = Seeking l.list l.v l.u

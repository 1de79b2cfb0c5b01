-- `records::answers::reply` meets its contract. Assumes nothing.
use native.Mathlib.Omega.{arith}
use Rattle.records.proofs.Puts.{put_then}
use Rattle.records.proofs.answers.reply.Goals as goal

pub returns : goal.returns
returns c = put_then c.word-to.ensures c.words.ensures (omega arith)

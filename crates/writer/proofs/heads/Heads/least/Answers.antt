-- `writer::heads::Heads::least` meets its contract: before turn x it is the least of the first x. Assumes nothing.
use native.Mathlib.Omega.{arith}
use Rattle.writer.proofs.Candidates.{least_more}
use Rattle.writer.proofs.heads.Heads.least.Goals as goal

pub loop-x-preserved : goal.loop-x-preserved
loop-x-preserved c = least_more c.loop-x.invariant (omega arith) (omega arith) (λ l. omega arith)

-- `writer::heads::Heads::least` meets its contract: before turn x it is the least of the first x. Assumes nothing.
use Rattle.writer.specs.Heads.{Least}
use Rattle.writer.proofs.heads.Heads.least.Given as goal

abbrev pub invariant-loop-x : goal.invariant-loop-x
invariant-loop-x l = Least l.self.candidates l.x l.lowest

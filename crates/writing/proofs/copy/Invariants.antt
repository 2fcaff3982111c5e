-- `writing::copy` meets its contract. The loop's invariant: what is left of the bytes is what is left to be written.
-- Assumes nothing.
use lib.ListN.{drop}
use Rattle.writing.proofs.Remaining.{Remaining}
use Rattle.writing.proofs.copy.Given as goal

abbrev pub invariant-loop-byte : goal.invariant-loop-byte
invariant-loop-byte l = Remaining l.initial.out l.at l.bytes l.out l.to (drop l.byte-index l.bytes)

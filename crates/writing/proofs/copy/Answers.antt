-- `writing::copy` meets its contract. The loop's invariant: what is left of the bytes is what is left to be written.
-- Assumes nothing.
use native.Mathlib.Omega.{arith}
use lib.ListN.{drop_of_length-le}
use Rattle.writing.proofs.Remaining.{remaining_store, remaining_end, drop_next}
use Rattle.writing.proofs.copy.Goals as goal

pub loop-byte-preserved : goal.loop-byte-preserved
loop-byte-preserved c = remaining_store (rw (drop_next c.args.bytes.now c.loop-byte.byte-index (omega arith)) at c.loop-byte.invariant)

pub returns : goal.returns
returns c = remaining_end (drop_of_length-le c.args.bytes.now (omega arith)) c.loop-byte.invariant

-- `cases::repeat` meets its contract. The loop's invariant: the place stays inside the buffer. Assumes nothing.
use Prim.Native.Nat.{◌≤◌}
use lib.ListN.{length}
use Rattle.cases.proofs.repeat.Given as goal

abbrev pub invariant-loop : goal.invariant-loop
invariant-loop l = l.to ≤ length l.out

-- `writer::renaming::tell_all` meets its contract: before turn x what is stored for the wires below x tells their qubits. Assumes nothing.
use Prim.Native.Nat.{ℕ, ◌<◌}
use mathlib.Core.Path.{◌≡◌}
use Rattle.std.proofs.Common.{None}
use lib.ListN.{length, get_or}
use Rattle.circuits.specs.Limits.{most_wires}
use Rattle.writer.specs.Chains.{Tells}
use Rattle.writer.proofs.renaming.tell_all.Given as goal

abbrev pub invariant-loop-x : goal.invariant-loop-x
invariant-loop-x l = record {
  sized : length l.told ≡ most_wires;
  below : (j : ℕ) → j < l.x → Tells l.lenders.lenders l.width j (get_or l.told j None);
}

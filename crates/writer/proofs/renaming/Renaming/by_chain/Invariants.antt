-- `writer::renaming::Renaming::by_chain` meets its contract: before turn x the qubits of the wires below x are stored. Assumes nothing.
use Prim.Native.Nat.{ℕ, ◌<◌}
use mathlib.Core.Path.{◌≡◌}
use lib.ListN.{length, get_or}
use Rattle.circuits.specs.Limits.{most_wires}
use Rattle.writer.specs.Chains.{qubit_of}
use Rattle.writer.proofs.renaming.Renaming.by_chain.Given as goal

abbrev pub invariant-loop-x : goal.invariant-loop-x
invariant-loop-x l = record {
  sized : length l.qubits ≡ most_wires;
  below : (j : ℕ) → j < l.x → get_or l.qubits j 0 ≡ qubit_of l.lenders.lenders l.width j;
}

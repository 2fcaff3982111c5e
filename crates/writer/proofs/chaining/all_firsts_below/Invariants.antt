-- `writer::chaining::all_firsts_below` meets its contract: before turn x, the count is that of the first wires below x, and those of the
-- wires below x are stored. Assumes nothing.
use Prim.Native.Nat.{ℕ, ◌≤◌, ◌<◌}
use mathlib.Core.Path.{◌≡◌}
use lib.ListN.{length, get_or}
use Rattle.circuits.specs.Limits.{most_wires}
use Rattle.writer.specs.Chains.{firsts_below}
use Rattle.writer.proofs.chaining.all_firsts_below.Given as goal

abbrev pub invariant-loop-x : goal.invariant-loop-x
invariant-loop-x l = record {
  few : l.count ≤ l.x;
  sized : length l.counts ≡ most_wires;
  counted : l.count ≡ firsts_below l.lenders.lenders l.width l.x;
  below : (j : ℕ) → j < l.x → get_or l.counts j 0 ≡ firsts_below l.lenders.lenders l.width j;
}

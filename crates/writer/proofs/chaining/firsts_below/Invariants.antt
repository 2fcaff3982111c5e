-- `writer::chaining::firsts_below` meets its contract: before turn x, the count is that of the first wires below x. Assumes nothing.
use Prim.Native.Nat.{◌≤◌}
use mathlib.Core.Path.{◌≡◌}
use Rattle.writer.specs.Chains.{firsts_below}
use Rattle.writer.proofs.chaining.firsts_below.Given as goal

abbrev pub invariant-loop-x : goal.invariant-loop-x
invariant-loop-x l = record {
  few : l.count ≤ l.x;
  counted : l.count ≡ firsts_below l.lenders.lenders l.width l.x;
}

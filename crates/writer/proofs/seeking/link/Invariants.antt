-- `writer::seeking::link` meets its contract: before each turn the instructions from the index on are linked. Assumes nothing.
use mathlib.Core.Path.{◌≡◌}
use mathlib.Core.List.{List}
use lib.ListN.{length}
use Rattle.records.specs.declared.instructions.Instruction.{Instruction}
use Rattle.circuits.specs.Limits.{most_wires, most_instructions}
use Rattle.writer.specs.Heads.{Tabled, Linked}
use Rattle.writer.proofs.seeking.link.Given as goal

abbrev pub invariant-loop-index : goal.invariant-loop-index
invariant-loop-index l = record {
  sized : length l.indices ≡ most_wires;
  links_sized : length l.links ≡ most_instructions;
  linked : (is : List Instruction) → Tabled is l.source → Linked is l.index l.indices l.links;
}

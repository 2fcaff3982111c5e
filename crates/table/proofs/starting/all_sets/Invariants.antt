-- `table::starting::all_sets` meets its contract. The loop's invariant: the pass over the instructions that stand from here on
-- ends where the whole pass does. Assumes nothing.
use mathlib.Core.Path.{◌≡◌}
use mathlib.Core.List.{List}
use Rattle.records.specs.declared.instructions.Instruction.{Instruction}
use Rattle.circuits.specs.Stepping.{Steps}
use Rattle.circuits.specs.Reading.{read_circuit}
use Rattle.circuits.specs.Rewriting.{steps_of}
use Rattle.table.specs.Starting.{no_rows, rows_pass}
use Rattle.table.proofs.StartRows.{Holdable}
use Rattle.table.proofs.starting.all_sets.Given as goal

abbrev pub invariant-loop-sketch : goal.invariant-loop-sketch
invariant-loop-sketch l = (is : List Instruction) × Steps l.circuit l.at l.left is × Holdable l.rows × (rows_pass is l.rows ≡ rows_pass (steps_of (read_circuit l.circuit)) no_rows)

abbrev pub decreases-loop-sketch : goal.decreases-loop-sketch
decreases-loop-sketch l = l.left

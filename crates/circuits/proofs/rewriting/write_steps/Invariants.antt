-- `circuits::rewriting::write_steps` meets its contract. The loop's invariant: the instructions that stand from here on are
-- what is still to be written. Assumes nothing.
use Rattle.circuits.specs.Reading.{read_circuit}
use Rattle.circuits.specs.Validity.{steps_bytes}
use Rattle.circuits.specs.Rewriting.{steps_of}
use Rattle.circuits.proofs.Rewrites.{Going}
use Rattle.circuits.proofs.rewriting.write_steps.Given as goal

abbrev pub invariant-loop-instruction : goal.invariant-loop-instruction
invariant-loop-instruction l = Going l.circuit l.initial.out l.from (steps_bytes (steps_of (read_circuit l.circuit))) l.out l.to l.at l.left

abbrev pub decreases-loop-instruction : goal.decreases-loop-instruction
decreases-loop-instruction l = l.left

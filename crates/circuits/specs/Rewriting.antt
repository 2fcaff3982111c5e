-- The records of a valid circuit written again: the bytes that are written, or the refusal.
use Rattle.std.specs.Prelude.{ℕ, List, []}
use Rattle.basics.specs.Outcome.{Outcome, done, refused}
use Rattle.records.specs.declared.instructions.Instruction.{Instruction}
use Rattle.writing.specs.Writing.{fitted}
use Rattle.circuits.specs.Reading.{Static, read_circuit}
use Rattle.circuits.specs.Validity.{circuit_bytes}

abbrev pub again_of : ℕ → Outcome Static → Outcome (List ℕ)
again_of room (done c) = fitted room (circuit_bytes c)
again_of room (refused n p) = refused n p

-- the bytes of the circuit's records where there is room for them; the reader's refusals come before 31
unfoldable pub rewritten : List ℕ → ℕ → Outcome (List ℕ)
rewritten s room = again_of room (read_circuit s)

-- the instructions that were read; none of a refused circuit
abbrev pub steps_of : Outcome Static → List Instruction
steps_of (done c) = c.steps
steps_of (refused n p) = []

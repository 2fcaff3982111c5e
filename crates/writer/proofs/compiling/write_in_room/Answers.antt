-- `writer::compiling::write_in_room` meets its contract: 31 with the length needed, or the dynamic circuit. Assumes nothing.
use native.Mathlib.Omega.{arith}
use Rattle.writer.proofs.Compiles.{room_short, room_enough}
use Rattle.writer.proofs.compiling.write_in_room.Goals as goal

pub returns-then-out-circuit : goal.returns-then-out-circuit
returns-then-out-circuit c = rw c.at.ensures (room_short _ c.args.source.now.circuit.now _ c.requires.circuit_len (omega arith))

pub returns : goal.returns
returns c = room_enough c.args.out.now c.args.source.now.circuit.now _ c.requires.circuit_len (omega arith) c.write_dynamic-bytes.ensures c.qubits_for-qubits.ensures

-- `writer::dynamic::write_dynamic` meets its contract: the 02 record and the instructions behind it. Assumes nothing.
use Rattle.circuits.proofs.Rewrites.{accepted}
use Rattle.writer.proofs.Written.{wrote_output}
use Rattle.writer.proofs.dynamic.write_dynamic.Goals as goal

pub returns : goal.returns
returns c = let a = accepted _ c.requires.told.valid in
    wrote_output _ _ a _ c.qubits_for-qubits.ensures c.write_record-at.ensures c.requires.circuit_in_bounds c.write_steps.ensures

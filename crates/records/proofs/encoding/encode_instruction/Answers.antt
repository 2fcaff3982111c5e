-- `records::encoding::encode_instruction` meets its contract: each arm computes. Assumes nothing.
use Rattle.records.specs.Bytes.{encoded}
use Rattle.records.proofs.encoding.encode_instruction.Goals as goal

pub returns-in-Reset : goal.returns-in-Reset
unfolding encoded
returns-in-Reset c = rw c.in-Reset.is

pub returns-in-Measurement : goal.returns-in-Measurement
unfolding encoded
returns-in-Measurement c = rw c.in-Measurement.is

pub returns-in-Gate : goal.returns-in-Gate
unfolding encoded
returns-in-Gate c = rw c.in-Gate.is

pub returns-in-AngledGate : goal.returns-in-AngledGate
unfolding encoded
returns-in-AngledGate c = rw c.in-AngledGate.is

pub returns-in-TwoLineGate : goal.returns-in-TwoLineGate
unfolding encoded
returns-in-TwoLineGate c = rw c.in-TwoLineGate.is

pub returns-in-AngledTwoLineGate : goal.returns-in-AngledTwoLineGate
unfolding encoded
returns-in-AngledTwoLineGate c = rw c.in-AngledTwoLineGate.is

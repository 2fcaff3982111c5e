-- Where the code finds the numbers of a record's line: where they begin and end among the record's bytes. What is behind them
-- is the angle.
use Rattle.records.specs.declared.instructions.Record.{Record}
use Rattle.records.specs.declared.instructions.Record.TheVariants.{StaticWidth, DynamicWidth, Step, Reuse}
use Rattle.records.specs.declared.instructions.Instruction.{Instruction}
use Rattle.records.specs.declared.instructions.Instruction.TheVariants.{Reset, Measurement, Gate, AngledGate, TwoLineGate, AngledTwoLineGate}
use Rattle.texts.specs.declared.lines.Parts.{Parts}

-- of an instruction: a gate's kind is one of the numbers
abbrev pub instruction_parts : Instruction → Parts
instruction_parts (Reset l) = record { from = 1; stop = 2 }
instruction_parts (Measurement l b) = record { from = 1; stop = 3 }
instruction_parts (Gate k l) = record { from = 0; stop = 2 }
instruction_parts (AngledGate k l a) = record { from = 0; stop = 2 }
instruction_parts (TwoLineGate k l m) = record { from = 0; stop = 3 }
instruction_parts (AngledTwoLineGate k l m a) = record { from = 0; stop = 3 }

-- of a record
abbrev pub parts_of : Record → Parts
parts_of (StaticWidth wires) = record { from = 1; stop = 2 }
parts_of (DynamicWidth qubits bits) = record { from = 1; stop = 3 }
parts_of (Step i) = instruction_parts i
parts_of (Reuse lender taker) = record { from = 1; stop = 3 }

-- The bytes of a record: its kind, its operands, and the angle where it has one.
use Rattle.std.specs.Prelude.{ℕ, ◌-◌, ◌/◌, Bool, true, List, [], ◌∷◌, ◌++◌, eqb, length, replicate}
use Rattle.records.specs.declared.numbers.Angle.{Angle}
use Rattle.records.specs.declared.encoding.Encoded.{Encoded}
use Rattle.records.specs.declared.instructions.Record.{Record}
use Rattle.records.specs.declared.instructions.Record.TheVariants.{StaticWidth, DynamicWidth, Step, Reuse}
use Rattle.records.specs.declared.instructions.Instruction.{Instruction}
use Rattle.records.specs.declared.instructions.Instruction.TheVariants.{Reset, Measurement, Gate, AngledGate, TwoLineGate, AngledTwoLineGate}

abbrev pub angle_bytes : Angle → List ℕ
angle_bytes a = a.0 ∷ a.1 ∷ a.2 ∷ a.3 ∷ a.4 ∷ a.5 ∷ a.6 ∷ a.7 ∷ []

abbrev pub instruction_bytes : Instruction → List ℕ
instruction_bytes (Reset l) = 0x10 ∷ l.0 ∷ []
instruction_bytes (Measurement l b) = 0x11 ∷ l.0 ∷ b.0 ∷ []
instruction_bytes (Gate k l) = k ∷ l.0 ∷ []
instruction_bytes (AngledGate k l a) = k ∷ l.0 ∷ angle_bytes a
instruction_bytes (TwoLineGate k l m) = k ∷ l.0 ∷ m.0 ∷ []
instruction_bytes (AngledTwoLineGate k l m a) = k ∷ l.0 ∷ m.0 ∷ angle_bytes a

abbrev pub record_bytes : Record → List ℕ
record_bytes (StaticWidth wires) = 0x01 ∷ wires ∷ []
record_bytes (DynamicWidth qubits bits) = 0x02 ∷ qubits ∷ bits ∷ []
record_bytes (Step i) = instruction_bytes i
record_bytes (Reuse lender taker) = 0x60 ∷ lender.0 ∷ taker.0 ∷ []

-- a gate's kind is one of its form's sixteen
abbrev pub kind_fits : Record → Bool
kind_fits (Step (Gate k l)) = eqb (k / 16) 2
kind_fits (Step (AngledGate k l a)) = eqb (k / 16) 3
kind_fits (Step (TwoLineGate k l m)) = eqb (k / 16) 4
kind_fits (Step (AngledTwoLineGate k l m a)) = eqb (k / 16) 5
kind_fits (Step (Reset l)) = true
kind_fits (Step (Measurement l b)) = true
kind_fits (StaticWidth wires) = true
kind_fits (DynamicWidth qubits bits) = true
kind_fits (Reuse lender taker) = true

-- the longest record: a kind, two lines and an angle
abbrev pub longest_record : ℕ
longest_record = 11

-- a record's bytes with 0 behind them up to the longest record, and how many they are
unfoldable pub encoded : List ℕ → Encoded
encoded xs = record { bytes = xs ++ replicate (longest_record - length xs) 0; length = length xs }

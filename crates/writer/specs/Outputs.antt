-- The dynamic circuit: the instructions in the order of writing, renamed, behind their 02 record. Definitions alone.
use Rattle.std.specs.Prelude.{ℕ, ◌-◌, ◌≡◌, List, [], ◌∷◌, ◌++◌, take, drop}
use Rattle.std.proofs.Math.Option.{Option, none, some}
use Rattle.std.proofs.Math.ListN.{get_elem?}
use Rattle.basics.specs.Outcome.{Outcome, done, refused}
use Rattle.bits.specs.Bits.{each}
use Rattle.orders.specs.Schedule.{schedule}
use Rattle.records.specs.Records.{line}
use Rattle.records.specs.Bytes.{record_bytes}
use Rattle.records.specs.declared.numbers.Line.{Line}
use Rattle.records.specs.declared.instructions.Instruction.{Instruction}
use Rattle.records.specs.declared.instructions.Instruction.TheVariants.{Reset, Measurement, Gate, AngledGate, TwoLineGate, AngledTwoLineGate}
use Rattle.records.specs.declared.instructions.Record.TheVariants.{DynamicWidth}
use Rattle.circuits.specs.Limits.{most_wires}
use Rattle.circuits.specs.Reading.{Static}
use Rattle.circuits.specs.Validity.{steps_bytes}
use Rattle.precedence.specs.Precedence.{circuit_of}
use Rattle.pairs.specs.Lending.{pairs_of}
use Rattle.writer.specs.Chains.{qubit_of, qubits}

-- the bytes from a place up to the next
abbrev pub behind : List ℕ → ℕ → ℕ → List ℕ
behind s from next = take (next - from) (drop from s)

-- a line by its number's new number
abbrev pub renumbered : (ℕ → ℕ) → Line → Line
renumbered q l = line (q l.0)

-- wire numbers become qubit numbers, all else stays
abbrev pub renamed : (ℕ → ℕ) → Instruction → Instruction
renamed q (Reset l) = Reset (renumbered q l)
renamed q (Measurement l b) = Measurement (renumbered q l) b
renamed q (Gate k l) = Gate k (renumbered q l)
renamed q (AngledGate k l a) = AngledGate k (renumbered q l) a
renamed q (TwoLineGate k l m) = TwoLineGate k (renumbered q l) (renumbered q m)
renamed q (AngledTwoLineGate k l m a) = AngledTwoLineGate k (renumbered q l) (renumbered q m) a

-- the numbers are the qubits of the wires, one after the other
abbrev pub Renames : List ℕ → ℕ → List ℕ → Type 0
Renames lenders width numbers = numbers ≡ each most_wires (qubit_of lenders width)

-- an instruction, where there is one, renamed before others
abbrev pub leading : (ℕ → ℕ) → Option Instruction → List Instruction → List Instruction
leading q none is = is
leading q (some i) is = renamed q i ∷ is

-- the instructions at these indices, renamed
unfoldable pub in_order : (ℕ → ℕ) → List Instruction → List ℕ → List Instruction
in_order q is [] = []
in_order q is (k ∷ ks) = leading q (get_elem? is k) (in_order q is ks)

-- the order of writing: that of document 01, for the pairs that the lenders say
abbrev pub order_of : List ℕ → Static → List ℕ
order_of lenders c = schedule (circuit_of c) (pairs_of lenders c.width)

-- the instructions of the dynamic circuit
abbrev pub dynamic_steps : List ℕ → Static → List Instruction
dynamic_steps lenders c = in_order (qubit_of lenders c.width) c.steps (order_of lenders c)

-- a 02 record (qubits, then bits = width), then the instructions
abbrev pub output : List ℕ → Static → List ℕ
output lenders c = record_bytes (DynamicWidth (qubits lenders c.width) c.width) ++ steps_bytes (dynamic_steps lenders c)

-- the same of a circuit that was read; nothing of one that was refused
abbrev pub output_of : List ℕ → Outcome Static → List ℕ
output_of lenders (done c) = output lenders c
output_of lenders (refused number place) = []

-- and its instructions
abbrev pub dynamic_in : List ℕ → Outcome Static → List Instruction
dynamic_in lenders (done c) = dynamic_steps lenders c
dynamic_in lenders (refused number place) = []

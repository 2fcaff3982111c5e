-- Demand 2, the output: what is promised of the dynamic circuit of a static circuit for pairs.
use Rattle.std.specs.Prelude.{ℕ, ◌+◌, ◌<◌, ◌≡◌, ◌⊎◌, ◌↔◌, ◌≢◌, true, List, ◌++◌, length}
use Rattle.std.proofs.Math.Option.{some}
use Rattle.std.proofs.Math.ListN.{get_elem?}
use Rattle.orders.specs.Indices.{Before, input_order}
use Rattle.orders.specs.Runs.{Pair, Run}
use Rattle.orders.specs.Schedule.{schedule}
use Rattle.orders.specs.Swaps.{Reached}
use Rattle.records.specs.Records.{line}
use Rattle.records.specs.Bytes.{record_bytes}
use Rattle.records.specs.declared.numbers.Bit.{Bit}
use Rattle.records.specs.declared.instructions.Instruction.{Instruction}
use Rattle.records.specs.declared.instructions.Instruction.TheVariants.{Measurement}
use Rattle.records.specs.declared.instructions.Record.TheVariants.{DynamicWidth}
use Rattle.circuits.specs.Reading.{Static}
use Rattle.circuits.specs.Validity.{steps_bytes, circuit_bytes}
use Rattle.precedence.specs.Precedence.{on, circuit_of}
use Rattle.writer.specs.Chains.{Joined}
use Rattle.writer.specs.Outputs.{renamed, in_order}
use Rattle.writer.specs.Compiling as writer

module _ (c : Static) (order : List ℕ) where
  -- every instruction of wire x stands before every instruction of wire y
  abbrev pub Ahead : ℕ → ℕ → Type 0
  Ahead x y = (i j : ℕ) → on c.steps x i ≡ true → on c.steps y j ≡ true → Before i j order

-- the dynamic circuit for the pairs, in the words of demand 2
pub record Faithful (c : Static) (pairs : List Pair) (d : writer.Dynamic) : Type 0 where
  -- the indices of the instructions in the order of writing, and the qubit of each wire
  pub order : List ℕ
  pub qubit : ℕ → ℕ
  -- it is the one order that document 01 fixes: always the earliest in the input of those that may be written
  pub fixed : order ≡ schedule (circuit_of c) pairs
  -- it has each instruction once, keeps each wire's order, and has each lender's measurement before its taker's reset
  pub runs : Run (circuit_of c) pairs order
  -- the bytes are the 02 record (qubits, then bits = width) and the instructions in that order, wires become qubits and all else stays
  pub bytes : d.bytes ≡ record_bytes (DynamicWidth d.qubits c.width) ++ steps_bytes (in_order qubit c.steps order)
  -- so each instruction of the circuit stands in it once, renamed, and there are no others
  pub each : (j : ℕ) (i : Instruction) → get_elem? c.steps j ≡ some i
      → (k : ℕ) × (get_elem? order k ≡ some j) × (get_elem? (in_order qubit c.steps order) k ≡ some (renamed qubit i))
  pub no_others : length (in_order qubit c.steps order) ≡ length c.steps
  -- each result has its old bit
  pub results : (j x : ℕ) (b : Bit) → get_elem? c.steps j ≡ some (Measurement (line x) b)
      → (k : ℕ) × (get_elem? (in_order qubit c.steps order) k ≡ some (Measurement (line (qubit x)) b))
  -- wires less pairs qubits
  pub pairs_told : d.pairs ≡ length pairs
  pub qubits_told : d.qubits + length pairs ≡ c.width
  -- a qubit's number is below the number of qubits, each is some wire's, and wires share one exactly when pairs join them
  pub below : (x : ℕ) → x < c.width → qubit x < d.qubits
  pub used : (n : ℕ) → n < d.qubits → (x : ℕ) × (x < c.width) × (qubit x ≡ n)
  pub joined : (x y : ℕ) → x < c.width → y < c.width → (qubit x ≡ qubit y) ↔ Joined pairs x y
  -- on each qubit the stretches of its wires follow one another without overlapping
  pub apart : (x y : ℕ) → x < c.width → y < c.width → x ≢ y → qubit x ≡ qubit y → Ahead c order x y ⊎ Ahead c order y x
  -- the order is the input's up to exchanges of neighbours that need not keep their order
  pub reached : Reached (circuit_of c) (input_order (length c.steps)) order
  -- there is one byte more than the circuit has
  pub size : length d.bytes ≡ length (circuit_bytes c) + 1

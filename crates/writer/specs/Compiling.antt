-- The compiler: what any circuit, pair list and room give, the dynamic circuit that is written or the refusal.
use Rattle.std.specs.Prelude.{ℕ, ◌≡◌, List, length}
use Rattle.basics.specs.Outcome.{Outcome, done, refused, handing}
use Rattle.writing.specs.Writing.{fitted, holding}
use Rattle.orders.specs.Runs.{Pair}
use Rattle.circuits.specs.Reading.{Static, read_circuit}
use Rattle.table.specs.Growing.{Growing}
use Rattle.table.specs.Starting.{start_table}
use Rattle.pairs.specs.Lending.{lenders_in}
use Rattle.pairs.specs.Listing.{read_pairs}
use Rattle.writer.specs.Chains.{qubits}
use Rattle.writer.specs.Outputs.{output}
use Rattle.writer.specs.declared.compiling.Counts.{Counts}

-- a dynamic circuit: its bytes, and how many qubits and pairs it has
pub record Dynamic : Type 0 where
  pub bytes : List ℕ
  pub qubits : ℕ
  pub pairs : ℕ

abbrev pub dynamic : List ℕ → ℕ → ℕ → Dynamic
dynamic bytes qubits pairs = record { bytes = bytes; qubits = qubits; pairs = pairs }

-- the dynamic circuit of a circuit for these pairs
abbrev pub dynamic_of : Static → List Pair → Dynamic
dynamic_of c ps = dynamic (output (lenders_in ps) c) (qubits (lenders_in ps) c.width) (length ps)

-- where there is room for its bytes; else 31 with the length needed
abbrev pub in_room : ℕ → Dynamic → Outcome Dynamic
in_room room d = handing d (fitted room d.bytes)

-- a pair's refusal comes before 31
abbrev pub written_for : ℕ → Static → Outcome Growing → Outcome Dynamic
written_for room c (done g) = in_room room (dynamic_of c g.pairs)
written_for room c (refused number place) = refused number place

-- the reader's refusals come before the pairs'
abbrev pub compiled_from : ℕ → List ℕ → Outcome Static → Outcome Dynamic
compiled_from room list (done c) = written_for room c (read_pairs (start_table c) list)
compiled_from room list (refused number place) = refused number place

-- what a circuit, a pair list and a buffer's length give
unfoldable pub compiled : List ℕ → List ℕ → ℕ → Outcome Dynamic
compiled s list room = compiled_from room list (read_circuit s)

-- the bytes that are written
abbrev pub bytes_of : Outcome Dynamic → Outcome (List ℕ)
bytes_of (done d) = done d.bytes
bytes_of (refused number place) = refused number place

-- what is told: how many bytes are written, and how many qubits and pairs there are
abbrev pub counts_of : Outcome Dynamic → Outcome Counts
counts_of (done d) = done (record { bytes = length d.bytes; qubits = d.qubits; pairs = d.pairs })
counts_of (refused number place) = refused number place

-- the call tells the counts, or its refusal, and leaves the buffer so: the bytes from its start, or all as it was
pub record Compiled (old : List ℕ) (o : Outcome Dynamic) (told : Outcome Counts) (new : List ℕ) : Type 0 where
  pub tells : told ≡ counts_of o
  pub leaves : new ≡ holding old (bytes_of o)

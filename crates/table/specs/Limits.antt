-- The limits of a table: the most wires are a circuit's, and the number of bytes follows from it.
use Rattle.std.specs.Prelude.{ℕ, ◌+◌, ◌*◌}
use Rattle.circuits.specs.Limits as circuit

-- the most wires of a circuit: the rows of a table, and the marks of a row
abbrev pub most_wires : ℕ
most_wires = circuit.most_wires

-- the bytes of a row, or of a set of used wires
abbrev pub row_bytes : ℕ
row_bytes = 4

-- the bytes of a table: its width, its rows, the used lenders and the used takers
abbrev pub table_length : ℕ
table_length = 1 + row_bytes * (most_wires + 2)

-- What the compiling program takes where no pair file is given, and the line that it prints.
use Rattle.std.specs.Prelude.{ℕ, ◌+◌, List, []}
use Rattle.basics.specs.Outcome.{Outcome, done, refused}
use Rattle.texts.specs.Lines.{refusal_line}
use Rattle.texts.specs.Listings.{compiled_line}
use Rattle.table.specs.declared.tables.Table.{Table}
use Rattle.pairs.specs.Listing.{pairs_bytes}
use Rattle.choosers.specs.Greedy.{greedy_from}
use Rattle.writer.specs.declared.compiling.Counts.{Counts}

-- the pairs that greedy chooses from a circuit's table, as a pair list; none of a circuit that is refused
abbrev pub chosen_list : Outcome Table → List ℕ
chosen_list (done t) = pairs_bytes (greedy_from t).pairs
chosen_list (refused number place) = []

-- how many wires came in: each pair saved a qubit
abbrev pub wires_told : Outcome Counts → ℕ
wires_told (done counts) = counts.qubits + counts.pairs
wires_told (refused number place) = 0

-- how many bytes were written
abbrev pub bytes_told : Outcome Counts → ℕ
bytes_told (done counts) = counts.bytes
bytes_told (refused number place) = 0

-- the line that is printed
abbrev pub answer_line : Outcome Counts → List ℕ
answer_line (done counts) = compiled_line (counts.qubits + counts.pairs) counts.qubits counts.pairs counts.bytes
answer_line (refused number place) = refusal_line number place

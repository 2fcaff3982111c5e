-- The lines of a listing, the line of what was compiled, and how much room they take at most. Numbers are decimal, and each line
-- ends in one line feed.
use Rattle.std.specs.Prelude.{ℕ, ◌+◌, ◌*◌, ◌-◌, List, ◌++◌}
use Rattle.writing.specs.Texts.{text}
use Rattle.writing.specs.Decimals.{decimal, most_digits}

-- how many wires come in and how many qubits go out, the pairs, and one number more behind its word
unfoldable pub counts_line : ℕ → ℕ → ℕ → List ℕ → ℕ → List ℕ
counts_line wires qubits pairs word last =
    text "wires " ++ decimal wires ++ text " qubits " ++ decimal qubits ++ text " pairs " ++ decimal pairs
    ++ word ++ decimal last ++ text "\n"

-- the first line of a listing: each pair saves a qubit
abbrev pub summary_line : ℕ → ℕ → ℕ → List ℕ
summary_line wires pairs trials = counts_line wires (wires - pairs) pairs (text " trials ") trials

-- the line of what was compiled: the last number is that of the bytes written
abbrev pub compiled_line : ℕ → ℕ → ℕ → ℕ → List ℕ
compiled_line wires qubits pairs bytes = counts_line wires qubits pairs (text " bytes ") bytes

-- the line of a pair
unfoldable pub pair_line : ℕ → ℕ → List ℕ
pair_line lender taker = decimal lender ++ text " lends to " ++ decimal taker ++ text "\n"

-- the longer of the last words
abbrev pub longest_word : ℕ
longest_word = 8

-- the four words, their numbers and the line feed
abbrev pub longest_counts : ℕ
longest_counts = 6 + 8 + 7 + longest_word + 4 * most_digits + 1

-- the digits of a byte
abbrev pub byte_digits : ℕ
byte_digits = 3

-- two wires, the words between them and the line feed
abbrev pub longest_pair : ℕ
longest_pair = byte_digits + 10 + byte_digits + 1

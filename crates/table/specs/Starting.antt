-- The table at the start, in rows of marks, and the pass that makes it.
use Rattle.std.specs.Prelude.{ℕ, Bool, ◌&&◌, ◌||◌, List, [], ◌∷◌, ltb, eqb, get_or, set, replicate}
use Rattle.basics.specs.Outcome.{Outcome, done, refused}
use Rattle.bits.specs.Bits.{bit, pack, each}
use Rattle.records.specs.declared.instructions.Instruction.{Instruction}
use Rattle.circuits.specs.Reading.{Static, read_circuit}
use Rattle.circuits.specs.declared.sketching.Sketch.{Sketch}
use Rattle.circuits.specs.declared.sketching.Sketch.TheVariants as sketch
use Rattle.precedence.specs.Starts.{Sets, after, start_of}
use Rattle.table.specs.Limits.{most_wires}
use Rattle.table.specs.Marks.{free}
use Rattle.table.specs.declared.tables.Table.{Table}

-- the circuit's table: "l may lend to t" is yes exactly where t's reset does not lead to l's measurement; no wire is used
unfoldable pub start_table : Static → Table
start_table c = record {
  width = c.width;
  rows = each most_wires (λ lender. pack most_wires ((start_of c).mark lender));
  lending = 0;
  taking = 0;
}

-- the table of the circuit that a byte string is, or the reader's refusal
abbrev pub table_at_start : Outcome Static → Outcome Table
table_at_start (done c) = done (start_table c)
table_at_start (refused n p) = refused n p

abbrev pub started : List ℕ → Outcome Table
started s = table_at_start (read_circuit s)

-- The pass, in rows

-- the sets that rows say, and the rows that say the sets of the wires
abbrev pub sets_in : List ℕ → Sets
sets_in rows x t = bit t (get_or rows x 0)

abbrev pub rows_of : Sets → List ℕ
rows_of s = each most_wires (λ x. pack most_wires (s x))

abbrev pub no_rows : List ℕ
no_rows = replicate most_wires 0

-- the rows after an instruction, and after one after the other
unfoldable pub rows_after : Instruction → List ℕ → List ℕ
rows_after i rows = rows_of (after i (sets_in rows))

-- the same by the instruction's sketch: a reset adds its wire to its own set, and a gate on two wires joins their sets
abbrev pub rows_sketched : Sketch → List ℕ → List ℕ
rows_sketched (sketch.Reset l) rows = set rows l.0 (pack most_wires (λ t. bit t (get_or rows l.0 0) || eqb t l.0))
rows_sketched (sketch.Measurement l b) rows = rows
rows_sketched (sketch.One l) rows = rows
rows_sketched (sketch.Two l m) rows =
    let both = pack most_wires (λ t. bit t (get_or rows l.0 0) || bit t (get_or rows m.0 0)) in
    set (set rows l.0 both) m.0 both

unfoldable pub rows_pass : List Instruction → List ℕ → List ℕ
rows_pass [] rows = rows
rows_pass (i ∷ is) rows = rows_pass is (rows_after i rows)

-- a mark of a lender's row, and the table, by the rows at the end of the pass
abbrev pub start_row : ℕ → ℕ → ℕ → ℕ → Bool
start_row width row lender t = ltb lender width && free width row t

unfoldable pub start_from : ℕ → List ℕ → Table
start_from width rows = record {
  width = width;
  rows = each most_wires (λ lender. pack most_wires (start_row width (get_or rows lender 0) lender));
  lending = 0;
  taking = 0;
}

-- The bytes of a table: its width, then the bytes of each row, of the used lenders and of the used takers, lowest first.
use Rattle.std.specs.Prelude.{ℕ, ◌+◌, ◌*◌, ◌^◌, ◌<◌, ◌≡◌, List, [], ◌∷◌, ◌++◌, length, get_or, drop}
use Rattle.bits.specs.Bits.{each}
use Rattle.writing.specs.Numbers.{byte_values, bytes_of_all, number_of}
use Rattle.table.specs.Limits.{most_wires, row_bytes}
use Rattle.table.specs.declared.tables.Table.{Table}

-- the rows, then the used lenders, then the used takers
abbrev pub sets_of : Table → List ℕ
sets_of t = t.rows ++ (t.lending ∷ t.taking ∷ [])

-- the width, then the bytes of those
unfoldable pub table_bytes : Table → List ℕ
table_bytes t = t.width ∷ bytes_of_all row_bytes (sets_of t)

-- the number of those that stands at an index after the width; missing bytes count as 0
abbrev pub set_at : List ℕ → ℕ → ℕ
set_at s index = number_of row_bytes (drop (1 + row_bytes * index) s)

-- the table that bytes say; further bytes are not read
unfoldable pub table_of : List ℕ → Table
table_of s = record {
  width = get_or s 0 0;
  rows = each most_wires (set_at s);
  lending = set_at s most_wires;
  taking = set_at s (most_wires + 1);
}

-- as many rows as there may be wires, and each number fits its bytes: so it is of every table that the code holds
pub record Fits (t : Table) : Type 0 where
  pub rows : length t.rows ≡ most_wires
  pub row : (u : ℕ) → get_or t.rows u 0 < byte_values ^ row_bytes
  pub lending : t.lending < byte_values ^ row_bytes
  pub taking : t.taking < byte_values ^ row_bytes

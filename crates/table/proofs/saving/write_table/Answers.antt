-- `table::saving::write_table` meets its contract: the tests say whether there is room. Assumes nothing.
use native.Mathlib.Omega.{arith}
use Rattle.writing.proofs.Puts.{no_room, wrote_placed}
use Rattle.table.proofs.SavedTables.{length-table_bytes}
use Rattle.table.proofs.saving.write_table.Goals as goal

pub returns-then-out-lt-BYTES : goal.returns-then-out-lt-BYTES
returns-then-out-lt-BYTES c = no_room (omega (arith, length-table_bytes c.args.table (omega arith)))

pub returns : goal.returns
returns c = wrote_placed c.store_table.ensures (omega (arith, length-table_bytes c.args.table (omega arith)))

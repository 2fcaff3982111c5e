-- `table::saving::store_rows` meets its contract. The loop's invariant: the bytes of the rows from here on are still to be
-- written. Assumes nothing.
use lib.ListN.{drop}
use Rattle.writing.specs.Numbers.{bytes_of_all}
use Rattle.writing.proofs.Remaining.{Remaining}
use Rattle.table.specs.Limits.{row_bytes}
use Rattle.table.proofs.saving.store_rows.Given as goal

abbrev pub invariant-loop-row : goal.invariant-loop-row
invariant-loop-row l = Remaining l.initial.out l.at (bytes_of_all row_bytes l.rows) l.out l.to (bytes_of_all row_bytes (drop l.row-index l.rows))

-- `table::starting::table_from` meets its contract. The loop's invariant: the rows so far are the table's. Assumes nothing.
use lib.ListN.{get_or}
use Rattle.bits.specs.Bits.{pack}
use Rattle.table.specs.Limits.{most_wires}
use Rattle.table.specs.Starting.{start_row}
use Rattle.table.proofs.RowsBelow.{Filling}
use Rattle.table.proofs.starting.table_from.Given as goal

abbrev pub invariant-loop-lender : goal.invariant-loop-lender
invariant-loop-lender l = Filling (λ j. pack most_wires (start_row l.width (get_or l.fn.sets.rows j 0) j)) l.fn.sets.rows l.lender l.row-items

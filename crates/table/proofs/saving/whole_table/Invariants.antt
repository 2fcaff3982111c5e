-- `table::saving::whole_table` meets its contract. The loop's invariant: the rows so far are read. Assumes nothing.
use lib.ListN.{replicate}
use Rattle.table.specs.Limits.{most_wires}
use Rattle.table.specs.TableBytes.{set_at}
use Rattle.table.proofs.RowsBelow.{Filling}
use Rattle.table.proofs.saving.whole_table.Given as goal

abbrev pub invariant-loop-index : goal.invariant-loop-index
invariant-loop-index l = Filling (set_at l.bytes) (replicate most_wires 0) l.index l.row-items

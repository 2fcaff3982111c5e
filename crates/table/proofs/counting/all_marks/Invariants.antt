-- `table::counting::all_marks` meets its contract. The loop's invariant: the rows so far are the marks that count, and the
-- others are 0. Assumes nothing.
use lib.ListN.{replicate}
use Rattle.bits.specs.Bits.{pack}
use Rattle.table.specs.Limits.{most_wires}
use Rattle.table.specs.Marks.{counts}
use Rattle.table.proofs.RowsBelow.{Filling}
use Rattle.table.proofs.counting.all_marks.Given as goal

abbrev pub invariant-loop-lender : goal.invariant-loop-lender
invariant-loop-lender l = Filling (λ lender. pack most_wires (counts l.table lender)) (replicate most_wires 0) l.lender l.rows

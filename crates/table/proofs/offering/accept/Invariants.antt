-- `table::offering::accept` meets its contract. The loop's invariant: the rows so far are what the offer leaves, and the others
-- are 0. Assumes nothing.
use lib.ListN.{get_or, replicate}
use Rattle.bits.specs.Bits.{pack}
use Rattle.table.specs.Limits.{most_wires}
use Rattle.table.specs.Changes.{changed}
use Rattle.table.proofs.RowsBelow.{Filling}
use Rattle.table.proofs.offering.accept.Given as goal

abbrev pub invariant-loop-wire : goal.invariant-loop-wire
invariant-loop-wire l = Filling (λ j. pack most_wires (changed l.change (get_or l.table.rows j 0) j)) (replicate most_wires 0) l.wire l.rows

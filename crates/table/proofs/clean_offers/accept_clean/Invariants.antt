-- `table::clean_offers::accept_clean` meets its contract. The loop's invariant: the rows so far are what the offer leaves. Assumes nothing.
use lib.ListN.{replicate}
use Rattle.bits.specs.Bits.{bit, pack}
use Rattle.table.specs.Limits.{most_wires}
use Rattle.table.specs.Rule.{row_after, is_set}
use Rattle.table.proofs.RowsBelow.{Filling}
use Rattle.table.proofs.clean_offers.accept_clean.Given as goal

abbrev pub invariant-loop-wire : goal.invariant-loop-wire
invariant-loop-wire l = Filling (λ j. pack most_wires (row_after (λ v. bit v l.given) (is_set l.table j) l.taker.0)) (replicate most_wires 0) l.wire l.row-items

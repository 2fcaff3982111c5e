-- `table::starting::table_from` meets its contract. The loop's invariant: the rows so far are the table's. Assumes nothing.
use native.Mathlib.Omega.{arith}
use lib.ListN.{get_or}
use Rattle.bits.specs.Bits.{pack}
use Rattle.table.specs.Limits.{most_wires}
use Rattle.table.specs.Starting.{start_row, start_from}
use Rattle.table.proofs.RowsBelow.{filling_all}
use Rattle.table.proofs.starting.table_from.Goals as goal

pub returns : goal.returns
unfolding start_from
returns c = let a = c.args in
    let rows = filling_all (λ j. pack most_wires (start_row a.width (get_or a.sets.rows j 0) j)) c.loop-lender.lender _ c.loop-lender.invariant (omega arith) (omega arith) in
    λ i. record { width = a.width; rows = rows i; lending = 0; taking = 0 }

-- `table::starting::start_row` meets its contract: its test is the definition's. Assumes nothing.
use borrow.Author.Tests.{le-ltb}
use Rattle.table.specs.Limits.{most_wires}
use Rattle.bits.proofs.Packing.{nothing_packed}
use Rattle.table.proofs.starting.start_row.Goals as goal

pub returns-else-lender-width : goal.returns-else-lender-width
returns-else-lender-width c = nothing_packed most_wires (λ t. rw (le-ltb _ _ c.if-lender-width.false))

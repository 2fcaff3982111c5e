-- `table::rows::below` meets its contract. Assumes nothing.
use Rattle.table.specs.Limits.{most_wires}
use Rattle.bits.proofs.Operations.{low_is, low_all, shl_one}
use borrow.Author.Rules.{rules}
use Rattle.table.proofs.rows.below.Goals as goal

pub returns-then-width-lt-MOST : goal.returns-then-width-lt-MOST
returns-then-width-lt-MOST c = rw (shl_one most_wires _ c.if-width-lt-MOST.true) (low_is most_wires c.args.width (search rules)).is

pub returns-else-width-lt-MOST : goal.returns-else-width-lt-MOST
returns-else-width-lt-MOST c = (low_all most_wires _ c.if-width-lt-MOST.false).is

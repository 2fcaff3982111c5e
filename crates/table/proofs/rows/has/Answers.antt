-- `table::rows::has` meets its contract. Assumes nothing.
use borrow.Author.Rules.{rules}
use Rattle.table.specs.Limits.{most_wires}
use Rattle.bits.proofs.Operations.{own, and_is}
use Rattle.table.proofs.RowBits.{one_mark}
use Rattle.table.proofs.rows.has.Goals as goal

pub returns : goal.returns
returns c = one_mark c.args.wire.0 (search rules) (and_is (own most_wires {n = c.args.row} (search rules)) (record { is = c.only.ensures }))

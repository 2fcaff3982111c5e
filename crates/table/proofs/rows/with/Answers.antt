-- `table::rows::with` meets its contract. Assumes nothing.
use borrow.Author.Rules.{rules}
use Rattle.table.specs.Limits.{most_wires}
use Rattle.bits.proofs.Operations.{own, or_is}
use Rattle.table.proofs.rows.with.Goals as goal

pub returns : goal.returns
returns c = (or_is (own most_wires {n = c.args.row} (search rules)) (record { is = c.only.ensures })).is

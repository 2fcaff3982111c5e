-- `table::rows::without` meets its contract. Assumes nothing.
use borrow.Author.Rules.{rules}
use Rattle.table.specs.Limits.{most_wires}
use Rattle.bits.proofs.Operations.{own, and_is, not_is}
use Rattle.table.proofs.rows.without.Goals as goal

pub returns : goal.returns
returns c = (and_is (not_is (record { is = c.only.ensures })) (own most_wires {n = c.args.row} (search rules))).is

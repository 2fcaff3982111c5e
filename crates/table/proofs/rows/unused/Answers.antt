-- `table::rows::unused` meets its contract. Assumes nothing.
use Rattle.table.specs.Limits.{most_wires}
use Rattle.bits.proofs.Operations.{own, and_is, not_is}
use borrow.Author.Rules.{rules}
use Rattle.table.proofs.rows.unused.Goals as goal

pub returns : goal.returns
returns c = (and_is (record { is = c.below.ensures }) (not_is (own most_wires {n = c.args.row} (search rules)))).is

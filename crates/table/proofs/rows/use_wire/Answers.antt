-- `table::rows::use_wire` meets its contract. Assumes nothing.
use borrow.Author.Rules.{rules}
use Rattle.table.specs.Limits.{most_wires}
use Rattle.bits.proofs.Operations.{own, and_is, or_is}
use Rattle.table.proofs.rows.use_wire.Goals as goal

pub returns : goal.returns
returns c = (or_is (record { is = c.only.ensures }) (and_is (record { is = c.below.ensures }) (own most_wires {n = c.args.row} (search rules)))).is

-- `table::starting::join` meets its contract: the union of two sets, stored twice. Assumes nothing.
use Rattle.table.specs.Limits.{most_wires}
use Rattle.bits.proofs.Operations.{own, or_is}
use borrow.Author.Rules.{rules}
use Rattle.table.proofs.starting.join.Goals as goal

pub returns : goal.returns
returns c = let both = (or_is (own most_wires {n = c.set_of.result} (search rules)) (own most_wires {n = c.set_of-2.result} (search rules))).is in
    rw (c.change_set-2.ensures, c.change_set.ensures, both, c.set_of-2.ensures, c.set_of.ensures)

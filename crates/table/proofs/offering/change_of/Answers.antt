-- `table::offering::change_of` meets its contract. Assumes nothing.
use Rattle.table.proofs.RowBits.{less_is}
use Rattle.table.specs.Changes.{change_of}
use Rattle.table.proofs.offering.change_of.Goals as goal

pub returns : goal.returns
unfolding change_of
returns c = let lenders = less_is c.args.lender.0 (record { is = c.unused.ensures }) c.without.ensures in
    λ i. record { lenders = lenders i; takers = c.unused-2.ensures i; given = c.marks.ensures i; taker = c.args.taker }

-- `pairs::listing::read_pairs` meets its contract. The loop's invariant: reading on from here ends where the whole reading does.
-- Assumes nothing.
use Prim.Native.Nat.{◌-◌}
use lib.ListN.{length}
use Rattle.pairs.proofs.PairTurns.{Going}
use Rattle.pairs.proofs.listing.read_pairs.Given as goal

abbrev pub invariant-loop-lender : goal.invariant-loop-lender
invariant-loop-lender l = Going l.fn.table l.list l.now l.lenders l.at l.index

abbrev pub decreases-loop-lender : goal.decreases-loop-lender
decreases-loop-lender l = length l.list - l.at

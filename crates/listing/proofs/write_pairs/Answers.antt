-- `listing::write_pairs` meets its contract. The loop's invariant: the lines of the pairs from here on are still to be written.
-- Assumes nothing.
use Rattle.listing.proofs.Choices.{line_next}
use Rattle.listing.proofs.write_pairs.Goals as goal

pub loop-pair-preserved : goal.loop-pair-preserved
loop-pair-preserved c = line_next _ c.loop-pair.invariant c.loop-pair-test.true _ c.put_pair-to.ensures

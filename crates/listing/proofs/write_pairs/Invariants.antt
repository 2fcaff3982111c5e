-- `listing::write_pairs` meets its contract. The loop's invariant: the lines of the pairs from here on are still to be written.
-- Assumes nothing.
use Rattle.std.proofs.Common.{drop, map}
use Rattle.writing.proofs.Remaining.{Remaining}
use Rattle.choosers.specs.Results.{numbers_of}
use Rattle.listing.specs.Printing.{pair_lines}
use Rattle.listing.proofs.write_pairs.Given as goal

abbrev pub invariant-loop-pair : goal.invariant-loop-pair
invariant-loop-pair l =
    Remaining l.initial.out l.at (pair_lines (map numbers_of l.pair-items)) l.out l.to (pair_lines (drop l.pair-index (map numbers_of l.pair-items)))

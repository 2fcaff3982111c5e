-- `lists::write_list` meets its contract. The loop's invariant: the records of the pairs from here on are still to be
-- written. Assumes nothing.
use Rattle.std.proofs.Common.{drop, map}
use Rattle.writing.proofs.Remaining.{Remaining}
use Rattle.choosers.specs.Results.{numbers_of}
use Rattle.pairs.specs.Listing.{pairs_bytes}
use Rattle.lists.proofs.write_list.Given as goal

abbrev pub invariant-loop-pair : goal.invariant-loop-pair
invariant-loop-pair l =
    Remaining l.initial.out 0 (pairs_bytes (map numbers_of l.pair-items)) l.out l.to (pairs_bytes (drop l.pair-index (map numbers_of l.pair-items)))

-- `texts::listings::put_counts` meets its contract: the parts of the line are put one after the other. Assumes nothing.
use native.Mathlib.Omega.{arith}
use lib.Dec.{lit≤}
use Rattle.writing.proofs.Rows.{written_front}
use Rattle.texts.proofs.Begun.{begun}
use Rattle.texts.proofs.ListingLines.{counts_whole}
use Rattle.texts.proofs.listings.put_counts.Goals as goal

pub returns : goal.returns
returns c = let line = counts_whole
    (record { wide = omega arith; narrow = omega arith; paired = omega arith; short = c.requires; ended = c.ranges.last.fits; room = lit≤ tt })
    (begun c.new-line.ensures c.push.ensures) c.push_number.ensures c.push-2.ensures c.push_number-2.ensures
    c.push-3.ensures c.push_number-3.ensures c.push-4.ensures c.push_number-4.ensures c.push-5.ensures in
    rw (written_front line) at c.put.ensures

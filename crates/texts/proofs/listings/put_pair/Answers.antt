-- `texts::listings::put_pair` meets its contract: the parts of the line are put one after the other. Assumes nothing.
use native.Mathlib.Omega.{arith}
use lib.Dec.{lit≤}
use Rattle.writing.proofs.Rows.{written_front}
use Rattle.texts.proofs.Begun.{begun}
use Rattle.texts.proofs.ListingLines.{pair_whole}
use Rattle.texts.proofs.listings.put_pair.Goals as goal

pub returns : goal.returns
returns c = let line = pair_whole c.args.lender.0 c.args.taker.0 (omega arith) (omega arith) _ (lit≤ tt)
    (begun c.new-line.ensures c.push_number.ensures) c.push.ensures c.push_number-2.ensures c.push-2.ensures in
    rw (written_front line) at c.put.ensures

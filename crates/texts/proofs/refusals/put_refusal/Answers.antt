-- `texts::refusals::put_refusal` meets its contract: the parts of the line are put one after the other. Assumes nothing.
use lib.Dec.{lit≤}
use Rattle.writing.proofs.Rows.{written_front}
use Rattle.texts.proofs.Begun.{begun}
use Rattle.texts.proofs.Whole.{refusal_whole}
use Rattle.texts.proofs.refusals.put_refusal.Goals as goal

pub returns : goal.returns
returns c = let line = refusal_whole c.args.number c.args.place c.ranges.number.fits c.ranges.place.fits _ (lit≤ tt)
    (begun c.new-line.ensures c.push.ensures) c.push_number.ensures c.push-2.ensures c.push_number-2.ensures c.push-3.ensures in
    rw (written_front line) at c.put.ensures

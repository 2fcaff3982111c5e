-- `choosers::choosing::all_rounds` meets its contract: each round brings one more pair of the whole choice. Assumes nothing.
use Rattle.choosers.proofs.Underway.{Underway}
use Rattle.choosers.proofs.choosing.all_rounds.Given as goal

abbrev pub invariant-loop-marks : goal.invariant-loop-marks
invariant-loop-marks l = Underway l.initial.rounds.table l.rounds l.marks

abbrev pub decreases-loop-marks : goal.decreases-loop-marks
decreases-loop-marks l = l.marks

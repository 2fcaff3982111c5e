-- `choosers::choosing::try_takers` meets its contract: before each turn the takers below have been tried. Assumes nothing.
use mathlib.Core.Path.{◌≡◌}
use Rattle.table.specs.Marks.{counts}
use Rattle.choosers.specs.Trying.{try_takers, score_in}
use Rattle.choosers.specs.Results.{best_said}
use Rattle.choosers.proofs.choosing.try_takers.Given as goal

abbrev pub invariant-loop-taker : goal.invariant-loop-taker
invariant-loop-taker l = best_said l.now ≡ try_takers (counts l.table) (score_in l.table) l.lender.0 l.taker (best_said l.initial.now)

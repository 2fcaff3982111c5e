-- `choosers::choosing::marks_left` meets its contract: before each turn, n is the count of what the rows so far keep. Assumes nothing.
use mathlib.Core.Path.{◌≡◌}
use Rattle.choosers.specs.Results.{marks_left}
use Rattle.choosers.proofs.choosing.marks_left.Given as goal

abbrev pub invariant-loop-row : goal.invariant-loop-row
invariant-loop-row l = l.n ≡ marks_left l.rows l.row-index l.given l.taker.0

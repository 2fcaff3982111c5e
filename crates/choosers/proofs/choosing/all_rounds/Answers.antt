-- `choosers::choosing::all_rounds` meets its contract: each round brings one more pair of the whole choice. Assumes nothing.
use borrow.Author.Rules.{rules}
use Rattle.choosers.proofs.Underway.{underway_last, room, trials_room, underway_more}
use Rattle.choosers.proofs.choosing.all_rounds.Goals as goal

pub round-rounds-requires-clause-length_lt_most_pairs : goal.round-rounds-requires-clause-length_lt_most_pairs
round-rounds-requires-clause-length_lt_most_pairs c = let l = c.loop-marks in room c.args.table c.requires l.rounds l.marks l.invariant (search rules)

pub round-rounds-requires-clause-marks_bound : goal.round-rounds-requires-clause-marks_bound
round-rounds-requires-clause-marks_bound c = let l = c.loop-marks in trials_room c.args.table c.requires l.rounds l.marks l.invariant (search rules)

pub loop-marks-smaller : goal.loop-marks-smaller
loop-marks-smaller c = let l = c.loop-marks in
    (underway_more c.args.table c.requires l.rounds l.marks l.invariant (search rules) c.round-rounds.result c.round-rounds.ensures c.yes_marks-marks-in-loop-marks.result c.yes_marks-marks-in-loop-marks.ensures).1

pub returns : goal.returns
returns c = let l = c.loop-marks in underway_last c.args.table c.requires l.rounds l.marks l.invariant (search rules)

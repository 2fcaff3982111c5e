-- `choosers::choosing::try_pairs` meets its contract: before each turn the lenders below have been tried, and each row has its marks.
-- Assumes nothing.
use mathlib.Core.Path.{◌≡◌}
use Rattle.table.specs.Marks.{counts, mark_rows}
use Rattle.choosers.specs.Trying.{try_lenders, score_in}
use Rattle.choosers.specs.Results.{best_said}
use Rattle.choosers.proofs.choosing.try_pairs.Given as goal

abbrev pub invariant-loop-lender : goal.invariant-loop-lender
invariant-loop-lender l = (l.rows ≡ mark_rows l.table) × (best_said l.best ≡ try_lenders (counts l.table) (score_in l.table) l.table.width l.lender)

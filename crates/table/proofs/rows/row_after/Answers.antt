-- `table::rows::row_after` meets its contract. Assumes nothing.
use mathlib.Core.Path.{◌∙◌}
use Rattle.table.proofs.TableMarks.{change_left}
use borrow.Author.Rules.{rules}
use Rattle.table.proofs.rows.row_after.Goals as goal

pub returns : goal.returns
returns c = let a = c.args in
    c.row_left.ensures ∙ change_left a.change a.row a.wire.0 _ (search rules) c.counting-marks.ensures

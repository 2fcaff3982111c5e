-- `table::rows::row_left` meets its contract: a row with a mark at the taker loses that, any other keeps what the lender had too. Assumes nothing.
use mathlib.Core.Path.{sym, ◌∙◌}
use Rattle.table.specs.Limits.{most_wires}
use Rattle.table.proofs.RowBits.{left_no}
use borrow.Author.Rules.{rules}
use Rattle.table.proofs.rows.row_left.Goals as goal

pub returns-else-has : goal.returns-else-has
returns-else-has c = left_no most_wires _ _ _ (search rules) (search rules) (sym c.has.ensures ∙ c.if-has.false)

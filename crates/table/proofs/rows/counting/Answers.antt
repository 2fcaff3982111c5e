-- `table::rows::counting` meets its contract. Assumes nothing.
use mathlib.Core.Path.{sym, ◌∙◌}
use Rattle.table.specs.Limits.{most_wires}
use Rattle.table.proofs.RowBits.{counting_free, counting_used}
use borrow.Author.Rules.{rules}
use Rattle.table.proofs.rows.counting.Goals as goal

pub returns-then-has : goal.returns-then-has
returns-then-has c = c.without.ensures ∙ counting_free most_wires _ _ _ _ (search rules) (search rules) (sym c.has.ensures ∙ c.if-has.true)

pub returns-else-has : goal.returns-else-has
returns-else-has c = counting_used most_wires _ _ _ _ (sym c.has.ensures ∙ c.if-has.false)

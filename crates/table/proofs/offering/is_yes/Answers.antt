-- `table::offering::is_yes` meets its contract. Assumes nothing.
use Prim.Native.Nat.{◌<◌, ◌^◌}
use mathlib.Core.Path.{◌∙◌}
use borrow.Author.Rules.{rules}
use lib.ListN.{get_or}
use Rattle.table.specs.Limits.{most_wires}
use Rattle.table.proofs.Held.{row_held}
use Rattle.table.proofs.TableMarks.{yes_is}
use Rattle.table.proofs.offering.is_yes.Goals as goal

pub returns : goal.returns
returns c = let fits : get_or c.args.table.rows c.args.lender.0 0 < 2 ^ most_wires = search (rules, row_held) in
    c.has.ensures ∙ yes_is c.args.table c.args.lender.0 fits _ c.marks.ensures c.args.taker.0

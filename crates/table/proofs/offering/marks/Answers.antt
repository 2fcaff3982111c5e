-- `table::offering::marks` meets its contract: a lender past the last row has no marks. Assumes nothing.
use Prim.Native.Nat.{◌<◌, ◌^◌}
use mathlib.Core.Path.{◌∙◌}
use native.Mathlib.Omega.{arith}
use lib.ListN.{get_or}
use Rattle.table.specs.Limits.{most_wires}
use Rattle.table.proofs.TableMarks.{row_counts, no_row}
use borrow.Author.Rules.{rules}
use Rattle.table.proofs.offering.marks.Goals as goal

pub returns-then-lender-lt-MOST : goal.returns-then-lender-lt-MOST
returns-then-lender-lt-MOST c = let fits : get_or c.args.table.rows c.args.lender.0 0 < 2 ^ most_wires = omega arith in
    c.counting.ensures ∙ row_counts c.args.table c.args.lender.0 fits (record { is = c.unused-lenders.ensures }) (record { is = c.unused-takers.ensures }) (search rules)

pub returns-else-lender-lt-MOST : goal.returns-else-lender-lt-MOST
returns-else-lender-lt-MOST c =
    no_row c.args.table c.args.lender.0 (omega arith)

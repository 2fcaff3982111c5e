-- `table::counting::marks_of` meets its contract. The loop's invariant: the marks of the rows so far are counted. Assumes nothing.
use mathlib.Core.Path.{◌≡◌}
use Rattle.bits.specs.Bits.{total, tally}
use Rattle.table.specs.Limits.{most_wires}
use Rattle.table.specs.Marks.{counts}
use Rattle.table.proofs.counting.marks_of.Given as goal

abbrev pub invariant-loop-lender : goal.invariant-loop-lender
invariant-loop-lender l = l.n ≡ total l.lender (λ lender. tally most_wires (counts l.table lender))

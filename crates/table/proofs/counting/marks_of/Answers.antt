-- `table::counting::marks_of` meets its contract: a row below the width is counted by what it packs, and those past it count nothing.
-- Assumes nothing.
use Prim.Native.Nat.{◌<◌, ◌^◌}
use mathlib.Core.Path.{◌≡◌, refl, ◌∙◌}
use native.Mathlib.Omega.{arith}
use borrow.Author.Rules.{rules}
use lib.Count.{ones-le}
use lib.ListN.{get_or}
use Rattle.bits.specs.Bits.{total}
use Rattle.bits.proofs.Sums.{tallies_more, tallies_le}
use Rattle.table.specs.Limits.{most_wires}
use Rattle.table.specs.Marks.{counts, rows_below}
use Rattle.table.proofs.TableMarks.{row_counts}
use Rattle.table.proofs.RowsBelow.{below_most, marks_below}
use Rattle.table.proofs.counting.marks_of.Goals as goal

pub loop-lender-init : goal.loop-lender-init
unfolding total
loop-lender-init c = refl

pub overflow_add-n : goal.overflow_add-n
overflow_add-n c = let h = c.loop-lender in
    let few = below_most c.args.table.width in
    omega (arith, tallies_le most_wires (counts c.args.table) _ _ h.invariant, ones-le most_wires c.counting.result (search rules))

pub loop-lender-preserved : goal.loop-lender-preserved
loop-lender-preserved c = let t = c.args.table in
    let few = below_most t.width in
    let h = c.loop-lender in
    let fits : get_or t.rows h.lender 0 < 2 ^ most_wires = omega arith in
    let row = c.counting.ensures ∙ row_counts t h.lender fits (record { is = c.unused-lenders.ensures }) (record { is = c.unused-takers.ensures }) (omega arith) in
    tallies_more most_wires (counts t) _ _ _ h.invariant (record { is = row })

pub returns : goal.returns
returns c = let t = c.args.table in
    let h = c.loop-lender in
    let e : h.lender ≡ rows_below t.width = omega (arith, c.rows_below-end.ensures) in
    rw e at h.invariant ∙ marks_below t

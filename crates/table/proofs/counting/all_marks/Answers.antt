-- `table::counting::all_marks` meets its contract. The loop's invariant: the rows so far are the marks that count, and the
-- others are 0. Assumes nothing.
use Prim.Native.Nat.{◌<◌, ◌^◌}
use mathlib.Core.Path.{◌≡◌, ◌∙◌}
use native.Mathlib.Omega.{arith}
use lib.ListN.{get_or}
use Rattle.bits.specs.Bits.{pack}
use Rattle.table.specs.Limits.{most_wires}
use Rattle.table.specs.Marks.{counts, rows_below}
use Rattle.table.proofs.TableMarks.{row_counts}
use Rattle.table.proofs.RowsBelow.{below_most, no_marks, filling_more, filling_ends}
use Rattle.table.proofs.counting.all_marks.Goals as goal

pub loop-lender-preserved : goal.loop-lender-preserved
loop-lender-preserved c = let t = c.args.table in
    let few = below_most t.width in
    let h = c.loop-lender in
    let fits : get_or t.rows h.lender 0 < 2 ^ most_wires = omega arith in
    let row = c.counting.ensures ∙ row_counts t h.lender fits (record { is = c.unused-lenders.ensures }) (record { is = c.unused-takers.ensures }) (omega arith) in
    filling_more (λ lender. pack most_wires (counts t lender)) h.lender _ _ (omega arith) h.invariant row

pub returns : goal.returns
returns c = let t = c.args.table in
    let h = c.loop-lender in
    let e : h.lender ≡ rows_below t.width = omega (arith, c.rows_below-end.ensures) in
    filling_ends (λ lender. pack most_wires (counts t lender)) t.width h.rows (rw e at h.invariant) (no_marks t)

-- `table::saving::store_rows` meets its contract. The loop's invariant: the bytes of the rows from here on are still to be
-- written. Assumes nothing.
use Prim.Native.Nat.{◌+◌}
use native.Mathlib.Omega.{arith}
use lib.ListN.{drop}
use Rattle.writing.specs.Numbers.{bytes_of_all}
use Rattle.writing.proofs.Digits.{length-bytes_of_all, all_next, all_none}
use Rattle.writing.proofs.Remaining.{remaining_start, remaining_placed, remaining_end}
use Rattle.table.specs.Limits.{row_bytes}
use Rattle.table.proofs.saving.store_rows.Goals as goal

pub loop-row-init : goal.loop-row-init
loop-row-init c = remaining_start (omega (arith, length-bytes_of_all row_bytes c.args.rows.now))

pub loop-row-preserved : goal.loop-row-preserved
loop-row-preserved c = let h = c.loop-row in
    remaining_placed (bytes_of_all row_bytes (drop (h.row-index + 1) c.args.rows.now)) c.put_row-to.ensures
    (rw (all_next row_bytes h.row-index c.args.rows.now (omega arith)) at h.invariant)

pub returns : goal.returns
returns c = remaining_end (all_none row_bytes c.loop-row.row-index c.args.rows.now (omega arith)) c.loop-row.invariant

-- `table::saving::whole_table` meets its contract. The loop's invariant: the rows so far are read. Assumes nothing.
use mathlib.Core.Path.{refl}
use native.Mathlib.Omega.{arith}
use lib.ListN.{get_or}
use Rattle.table.specs.TableBytes.{set_at, table_of}
use Rattle.table.proofs.RowsBelow.{filling_all}
use Rattle.table.proofs.saving.whole_table.Goals as goal

pub returns : goal.returns
unfolding table_of
returns c = let s = c.args.bytes.now in
    let rows = filling_all (set_at s) c.loop-index.index _ c.loop-index.invariant refl (omega arith) in
    λ i. record { width = get_or s 0 0; rows = rows i; lending = c.set_at-2.ensures i; taking = c.set_at-3.ensures i }

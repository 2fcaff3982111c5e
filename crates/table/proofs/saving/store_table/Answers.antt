-- `table::saving::store_table` meets its contract: each part is the first of what is left to be written. Assumes nothing.
use Prim.Native.Nat.{ℕ, ◌+◌, ◌≤◌}
use mathlib.Core.Path.{◌≡◌, refl, subst}
use mathlib.Core.List.{List, [], ◌++◌}
use native.Mathlib.Omega.{arith}
use lib.ListN.{length, set}
use Rattle.writing.specs.Numbers.{bytes_of, bytes_of_all}
use Rattle.writing.specs.Writing.{Wrote, Placed}
use Rattle.writing.proofs.Remaining.{Remaining, remaining_start, remaining_store, remaining_call, remaining_placed, remaining_end}
use Rattle.table.specs.Limits.{most_wires, row_bytes, table_length}
use Rattle.table.specs.declared.tables.Table.{Table}
use Rattle.table.specs.TableBytes.{table_bytes}
use Rattle.table.proofs.SavedTables.{table_parts, length-table_bytes}
use Rattle.table.proofs.saving.store_table.Goals as goal

-- the parts, one after the other, are all that is to be written
all_written : (old out₁ out₂ out₃ : List ℕ) (at to₁ to₂ to₃ : ℕ) (t : Table) → length t.rows ≡ most_wires → at + table_length ≤ length old
    → Wrote (set old at t.width) (at + 1) (bytes_of_all row_bytes t.rows) out₁ to₁
    → Placed out₁ to₁ (bytes_of row_bytes t.lending) out₂ to₂
    → Placed out₂ to₂ (bytes_of row_bytes t.taking) out₃ to₃
    → Remaining old at (table_bytes t) out₃ to₃ []
all_written old out₁ out₂ out₃ at to₁ to₂ to₃ t count room rows lending taking =
    let last = bytes_of row_bytes t.taking ++ [] in
    let rest = bytes_of row_bytes t.lending ++ last in
    let start = remaining_start {old = old} {at = at} {all = table_bytes t} (omega (arith, length-table_bytes t count)) in
    remaining_placed [] taking
    (remaining_placed last lending
    (remaining_call rest rows
    (remaining_store (subst (λ (x : List ℕ). Remaining old at (table_bytes t) old at x) (table_parts t) start))))

pub returns : goal.returns
returns c = remaining_end refl (all_written _ _ _ _ _ _ _ _ c.args.table (omega arith) c.requires c.store_rows-lenders.ensures c.put_row-takers.ensures c.put_row.ensures)

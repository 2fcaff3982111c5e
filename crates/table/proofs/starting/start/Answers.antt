-- `table::starting::start` meets its contract: the reader's refusal, or the table that the pass makes. Assumes nothing.
use mathlib.Core.Path.{sym}
use Rattle.std.specs.Prelude.{Ok}
use Rattle.records.proofs.Unique.{unwraps}
use Rattle.circuits.proofs.Rewrites.{accepted, steps_stand}
use Rattle.table.specs.Marks.{empty_table}
use Rattle.table.proofs.StartRows.{start_told}
use Rattle.table.proofs.starting.start.Goals as goal

pub all_sets-requires : goal.all_sets-requires
all_sets-requires c = steps_stand _ (accepted _ c.in_ok-valid.ensures)

pub returns : goal.returns
returns c = let told = sym (start_told _ (accepted _ c.in_ok-valid.ensures) c.all_sets.ensures c.table_from.ensures) in
    record { value = told; empty = unwraps (Ok c.table_from.result) empty_table told }

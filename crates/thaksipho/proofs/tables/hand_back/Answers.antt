-- `thaksipho::tables::hand_back` meets its contract: 31, or the table's bytes. Assumes nothing.
use mathlib.Core.Path.{◌≡◌, refl}
use native.Mathlib.Omega.{arith}
use lib.ListN.{length}
use Rattle.writing.proofs.Puts.{settled_done, placed_wrote}
use Rattle.table.specs.Limits.{most_wires}
use Rattle.table.proofs.SavedTables.{length-table_bytes}
use Rattle.thaksipho.proofs.Fitting.{worded, refusal_worded}
use Rattle.thaksipho.proofs.TableWords.{no_room_for, room_for}
use Rattle.thaksipho.proofs.tables.hand_back.Goals as goal

pub returns-then-out-lt-BYTES : goal.returns-then-out-lt-BYTES
returns-then-out-lt-BYTES c = let t = c.args.table in
    refusal_worded (rw c.at.ensures at c.word_of.ensures) (no_room_for t (omega arith) _ (omega arith)) (omega arith)

pub returns : goal.returns
returns c = let t = c.args.table in
    let many : length t.rows ≡ most_wires = omega arith in
    let size = length-table_bytes t many in
    worded (settled_done (room_for t many _ (omega arith)) (placed_wrote c.write_table.ensures (omega arith))) refl

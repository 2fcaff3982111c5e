-- `table::saving::table_of` meets its contract: the zeros behind the bytes are those that are missing. Assumes nothing.
use mathlib.Core.Path.{ap, ◌∙◌}
use native.Mathlib.Omega.{arith}
use Rattle.writing.proofs.Puts.{placed_wrote}
use Rattle.table.specs.Limits.{table_length}
use Rattle.table.specs.TableBytes.{table_of}
use Rattle.table.proofs.Padded.{padded_table}
use Rattle.table.proofs.saving.table_of.Goals as goal

pub returns-then-bytes-lt-BYTES : goal.returns-then-bytes-lt-BYTES
returns-then-bytes-lt-BYTES c = c.whole_table.ensures ∙ ap table_of (placed_wrote c.put_bytes.ensures (omega arith)).holds ∙ padded_table table_length _

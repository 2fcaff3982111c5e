-- `list::list` meets its contract: there is room for any listing, so what is put is the front of the buffer; and what was read
-- decides. Assumes nothing.
use native.Mathlib.Omega.{arith}
use Rattle.writing.proofs.Rows.{placed_written, written_front}
use Rattle.listing.specs.Printing.{longest_listing}
use Rattle.listing.proofs.Lengths.{printed-length}
use Rattle.list.proofs.Inputs.{listed_whole}
use Rattle.list.proofs.list.Goals as goal

pub returns-clause-listed : goal.returns-clause-listed
returns-clause-listed g c =
    let read = c.fill-input.ensures in
    let put = written_front (placed_written c.put_listing.ensures longest_listing (printed-length _) (omega arith)) in
    listed_whole _ _ read.within (omega arith) _ _ _ put read.bytes (rw c.in_ok-input.was at read.whole)

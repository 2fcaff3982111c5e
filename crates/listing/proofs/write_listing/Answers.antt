-- `listing::write_listing` meets its contract: the listing of the circuit's table, or the refusal's line. Assumes nothing.
use mathlib.Core.Path.{sym}
use native.Mathlib.Omega.{arith}
use Rattle.listing.proofs.Choices.{listing_printed, refusal_printed}
use Rattle.listing.proofs.write_listing.Goals as goal

pub returns-in-Ok : goal.returns-in-Ok
returns-in-Ok c = listing_printed _ (sym c.in-Ok.ensures.value) c.write_choice.ensures

pub returns-in-Err : goal.returns-in-Err
returns-in-Err c = refusal_printed _ (sym c.in-Err.ensures.value) (omega arith) (rw c.number.ensures at c.put_refusal.ensures)

-- `listing::put_listing` meets its contract: the listing is the front of the array that it is written to. Assumes nothing.
use Rattle.writing.proofs.Rows.{written_front}
use Rattle.listing.proofs.put_listing.Goals as goal

pub returns : goal.returns
returns c = rw (written_front c.write_listing-length.ensures) at c.put_bytes.ensures

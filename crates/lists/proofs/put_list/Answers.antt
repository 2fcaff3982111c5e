-- `lists::put_list` meets its contract: the records are the front of the array that they are written to. Assumes
-- nothing.
use Rattle.writing.proofs.Rows.{written_front}
use Rattle.lists.proofs.put_list.Goals as goal

pub returns : goal.returns
returns c = rw (written_front c.write_list-length.ensures) at c.put_bytes.ensures

-- `records::encoding::write_record` meets its contract: the front of the encoded record is its bytes. Assumes nothing.
use mathlib.Core.Path.{sym}
use lib.Seq.{length-take-le}
use Rattle.records.proofs.Encodings.{encoded_front, encoded_room}
use Rattle.records.proofs.encoding.write_record.Goals as goal

pub slice_bounds-bytes-end : goal.slice_bounds-bytes-end
slice_bounds-bytes-end c = encoded_room _ c.encode-e.ensures

pub slice_bounds-put_bytes-end : goal.slice_bounds-put_bytes-end
slice_bounds-put_bytes-end c = sym (length-take-le _ _ (encoded_room _ c.encode-e.ensures))

pub returns : goal.returns
returns c = rw (encoded_front _ c.encode-e.ensures) at c.put_bytes.ensures

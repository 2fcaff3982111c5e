-- `writer::copying::copy_one` meets its contract. Assumes nothing.
use Rattle.writer.proofs.Copies.{copied_one}
use Rattle.writer.proofs.copying.copy_one.Goals as goal

pub returns : goal.returns
returns c = copied_one c.args.out.now c.args.circuit.now _ _ _ c.requires.from_in_bounds c.requires.from_bound.1 _ c.requires.from_bound.0 c.put_bytes.ensures

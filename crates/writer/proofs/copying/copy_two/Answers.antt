-- `writer::copying::copy_two` meets its contract. Assumes nothing.
use Rattle.writer.proofs.Copies.{copied_two}
use Rattle.writer.proofs.copying.copy_two.Goals as goal

pub returns : goal.returns
returns c = copied_two c.args.out.now c.args.circuit.now _ _ _ c.requires.from_in_bounds c.requires.from_bound.1 _ _ c.requires.from_bound.0 c.put_bytes.ensures

-- `writer::seeking::link` meets its contract: before each turn the instructions from the index on are linked. Assumes nothing.
use mathlib.Core.Path.{refl, ap, ◌∙◌}
use native.Mathlib.Omega.{arith}
use lib.ListN.{length, length-set}
use Rattle.writer.proofs.Links.{linked_more}
use Rattle.writer.proofs.seeking.link.Goals as goal

pub loop-index-preserved : goal.loop-index-preserved
loop-index-preserved c = let h = c.loop-index.invariant in
    record {
      sized = ap length c.set_heads.ensures ∙ simp length-set h.sized;
      links_sized = simp length-set h.links_sized;
      linked = λ is tab. linked_more tab (omega arith) _ h.sized (omega arith) (h.linked is tab) h.links_sized
          (rw (c.note-note.ensures, c.both.ensures.0, c.both.ensures.1) at c.set_heads.ensures) refl
          (rw c.note-note.ensures at c.of_wire.ensures) (rw c.note-note.ensures at c.of_wire-in-loop-index.ensures);
    }

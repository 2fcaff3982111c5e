-- `writer::copying::copy_renamed` meets its contract: the bytes stored are the renamed instruction's. Assumes nothing.
use mathlib.Core.Path.{sym, ◌∙◌}
use lib.ListN.{get_or}
use Rattle.writer.proofs.Copies.{wrote_one, wrote_two}
use Rattle.writer.proofs.copying.copy_renamed.Goals as goal

pub returns-then-is_two : goal.returns-then-is_two
returns-then-is_two c = let two = rw c.note-note.ensures at (sym c.is_two.ensures ∙ c.if-is_two.true) in
    λ i n. wrote_two n (λ x. get_or c.args.renaming.qubits x 0) two (rw c.note-note.ensures at c.qubit-first.ensures) (rw c.note-note.ensures at c.qubit.ensures)
    (rw (c.place-from.ensures, c.place_after-next.ensures) at c.copy_two.ensures)

pub returns-else-is_two : goal.returns-else-is_two
returns-else-is_two c = let one = rw c.note-note.ensures at (sym c.is_two.ensures ∙ c.if-is_two.false) in
    λ i n. wrote_one n (λ x. get_or c.args.renaming.qubits x 0) one (rw c.note-note.ensures at c.qubit-first.ensures)
    (rw (c.place-from.ensures, c.place_after-next.ensures) at c.copy_one.ensures)

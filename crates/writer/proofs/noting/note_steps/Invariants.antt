-- `writer::noting::note_steps` meets its contract. The loop's invariant: what is read from here on, behind the instructions read so far, is what is
-- read from the start, and of those so far all is kept. Assumes nothing.
use Prim.Native.Nat.{◌-◌}
use mathlib.Core.Path.{◌≡◌}
use lib.ListN.{length}
use Rattle.circuits.specs.Limits.{most_wires, most_instructions}
use Rattle.writer.proofs.Kept.{Noting}
use Rattle.writer.proofs.noting.note_steps.Given as goal

abbrev pub invariant-loop-sketch : goal.invariant-loop-sketch
invariant-loop-sketch l = (length l.progress ≡ most_wires) × (length l.uses ≡ most_wires) × Noting l.circuit l.width l.progress l.uses l.at l.index l.notes l.rows

abbrev pub decreases-loop-sketch : goal.decreases-loop-sketch
decreases-loop-sketch l = most_instructions - l.index

-- `circuits::reading::read_steps` meets its contract. The loop's invariant: what is read from here on, with the instructions
-- counted so far, is what is read from the start. Assumes nothing.
use Prim.Native.Nat.{◌-◌, ◌≤◌}
use mathlib.Core.Path.{◌≡◌}
use lib.ListN.{length}
use Rattle.circuits.specs.Limits.{most_wires, most_instructions, header_length}
use Rattle.circuits.specs.Judging.{states_of, fresh_states}
use Rattle.circuits.specs.Reading.{read_from, counted}
use Rattle.circuits.proofs.reading.read_steps.Given as goal

abbrev pub invariant-loop-next : goal.invariant-loop-next
invariant-loop-next l = (l.left ≤ most_instructions)
    × (length l.progress ≡ most_wires)
    × (length l.uses ≡ most_wires)
    × (counted l.width (most_instructions - l.left) (read_from l.left l.s l.width (states_of l.progress l.uses) l.at) ≡ counted l.width 0 (read_from most_instructions l.s l.width fresh_states header_length))

abbrev pub decreases-loop-next : goal.decreases-loop-next
decreases-loop-next l = l.left

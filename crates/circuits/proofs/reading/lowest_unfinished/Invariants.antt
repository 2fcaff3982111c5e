-- `circuits::reading::lowest_unfinished` meets its contract. The loop's invariant: the search from here on finds what the whole
-- search does. Assumes nothing.
use Prim.Native.Nat.{◌-◌}
use mathlib.Core.Path.{◌≡◌}
use Rattle.circuits.specs.Judging.{first_unfinished}
use Rattle.circuits.proofs.reading.lowest_unfinished.Given as goal

abbrev pub invariant-loop-line : goal.invariant-loop-line
invariant-loop-line l = first_unfinished (l.width - l.line) l.progress l.line ≡ first_unfinished l.width l.progress 0

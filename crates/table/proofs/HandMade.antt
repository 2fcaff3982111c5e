-- A table made by hand, computed: wires 0 and 1 have a mark for each other, and 1 has one for itself, which does not
-- count. So once 0 lends to 1 no mark is left. Assumes nothing.
use mathlib.Core.Path.{◌≡◌, refl}
use mathlib.Core.List.{◌∷◌}
use Prim.Native.Nat.{◌-◌}
use lib.ListN.{replicate}
use Rattle.basics.specs.Outcome.{done}
use Rattle.bits.specs.Bits.{bit, pack, total, each}
use Rattle.table.specs.Limits.{most_wires}
use Rattle.table.specs.Marks.{counts, marks_of}
use Rattle.table.specs.Rule.{accepted_in}
use Rattle.table.specs.Calls.{judged, count_of, score_of}
use Rattle.table.specs.declared.tables.Table.{Table}

abbrev hand_made : Table
hand_made = record { width = 2; rows = 0x02 ∷ 0x03 ∷ replicate (most_wires - 2) 0; lending = 0; taking = 0 }

pub two_marks : count_of hand_made ≡ done 2
unfolding count_of marks_of total counts bit
two_marks = refl

pub none_left : score_of hand_made 0 1 ≡ done 0
unfolding judged marks_of total counts bit pack each accepted_in
none_left = refl

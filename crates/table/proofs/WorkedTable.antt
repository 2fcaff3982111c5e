-- P11 of document 01 computed: its table at the start, and that 3 to 1, yes at first, is refused 23 once 0 lends to 2.
-- Assumes nothing.
use Prim.Native.Nat.{ℕ, ◌-◌}
use mathlib.Core.Bool.{true}
use mathlib.Core.Path.{◌≡◌, refl}
use mathlib.Core.List.{List, [], ◌∷◌}
use lib.ListN.{replicate}
use Rattle.basics.specs.Outcome.{done, refused}
use Rattle.bits.specs.Bits.{bit, pack, each}
use Rattle.orders.specs.Indices.{any, stands}
use Rattle.records.specs.Kinds.{shape_of}
use Rattle.records.specs.Records.{record_at}
use Rattle.circuits.specs.Judging.{first_unfinished, live, judge_reset, judge_gate, judge_measurement, judge_two}
use Rattle.circuits.specs.Stepping.{instruction_at, step_at}
use Rattle.circuits.specs.Reading.{width_read, header_of, checked_at, ending, read_from, read_circuit}
use Rattle.precedence.specs.Starts.{leading_to, after, pass}
use Rattle.table.specs.Limits.{most_wires}
use Rattle.table.specs.Marks.{counts}
use Rattle.table.specs.Rule.{accepted, accepted_in}
use Rattle.table.specs.Calls.{may_lend, judged}
use Rattle.table.specs.Starting.{start_table, started}
use Rattle.table.specs.declared.tables.Table.{Table}

abbrev bytes_P11 : List ℕ
bytes_P11 =
    0x01 ∷ 0x04 ∷ 0x10 ∷ 0x00 ∷ 0x10 ∷ 0x01 ∷ 0x10 ∷ 0x02 ∷ 0x10 ∷ 0x03 ∷ 0x40 ∷ 0x00 ∷ 0x01 ∷ 0x40 ∷ 0x02 ∷ 0x03 ∷ 0x11 ∷ 0x00 ∷ 0x00
    ∷ 0x11 ∷ 0x01 ∷ 0x01 ∷ 0x11 ∷ 0x02 ∷ 0x02 ∷ 0x11 ∷ 0x03 ∷ 0x03 ∷ []

-- wires 0 and 1 may lend to 2 and 3, and these to them
abbrev table_P11 : Table
table_P11 = record { width = 4; rows = 0x0C ∷ 0x0C ∷ 0x03 ∷ 0x03 ∷ replicate (most_wires - 4) 0; lending = 0; taking = 0 }

pub start_P11 : started bytes_P11 ≡ done table_P11
unfolding start_table read_circuit header_of width_read record_at shape_of read_from checked_at step_at instruction_at ending first_unfinished live judge_reset judge_gate judge_measurement judge_two pack each leading_to after pass any stands
start_P11 = refl

pub yes_at_first : may_lend table_P11 3 1 ≡ done true
unfolding may_lend counts bit
yes_at_first = refl

pub no_after_0_to_2 : judged (accepted table_P11 0 2) 3 1 ≡ refused 23 0
unfolding judged accepted_in counts bit pack each
no_after_0_to_2 = refl

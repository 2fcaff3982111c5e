-- Circuits that document 01 could be read to answer in two ways, and what is answered: computed from the definitions.
-- Assumes nothing.
use Prim.Native.Nat.{ℕ}
use mathlib.Core.Path.{◌≡◌, refl}
use mathlib.Core.List.{List, [], ◌∷◌}
use Rattle.basics.specs.Outcome.{Outcome, refused}
use Rattle.circuits.specs.Judging.{live, judge_reset, judge_measurement, judge_gate, judge_two, first_unfinished}
use Rattle.circuits.specs.Stepping.{instruction_at, step_at}
use Rattle.circuits.specs.Reading.{width_read, header_of, checked_at, ending, read_from, summary, read_circuit}
use Rattle.circuits.specs.declared.circuit.Circuit.{Circuit}
use Rattle.records.specs.Kinds.{shape_of}
use Rattle.records.specs.Records.{record_at}

abbrev told : List ℕ → Outcome Circuit
told s = summary (read_circuit s)

-- the first wire's faults come wholly before the second's; a header cut short; a pair record in a circuit
pub readings :
    (told (0x01 ∷ 0x02 ∷ 0x10 ∷ 0x00 ∷ 0x11 ∷ 0x00 ∷ 0x00 ∷ 0x40 ∷ 0x01 ∷ 0x00 ∷ []) ≡ refused 8 7)
    × (told (0x01 ∷ 0x02 ∷ 0x10 ∷ 0x00 ∷ 0x11 ∷ 0x00 ∷ 0x00 ∷ 0x40 ∷ 0x00 ∷ 0x01 ∷ []) ≡ refused 10 7)
    × (told (0x01 ∷ []) ≡ refused 2 0)
    × (told (0x01 ∷ 0x01 ∷ 0x60 ∷ []) ≡ refused 4 2)
unfolding read_circuit header_of width_read record_at shape_of read_from checked_at step_at instruction_at ending first_unfinished live judge_reset judge_measurement judge_gate judge_two
readings = (refl, refl, refl, refl)

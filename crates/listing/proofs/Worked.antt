-- What is printed of document 01's A and B and of a refused circuit, computed from their bytes. Assumes nothing.
use Prim.Native.Nat.{ℕ}
use mathlib.Core.Path.{◌≡◌, refl}
use mathlib.Core.List.{List, [], ◌∷◌}
use Rattle.bits.specs.Bits.{bit, pack, total, each}
use Rattle.orders.specs.Indices.{any, stands}
use Rattle.writing.specs.Texts.{text}
use Rattle.writing.specs.Decimals.{decimal}
use Rattle.records.specs.Kinds.{shape_of}
use Rattle.records.specs.Records.{record_at}
use Rattle.texts.specs.Lines.{refusal_line}
use Rattle.texts.specs.Listings.{counts_line, pair_line}
use Rattle.circuits.specs.Judging.{first_unfinished, live, judge_reset, judge_gate, judge_measurement, judge_two}
use Rattle.circuits.specs.Stepping.{instruction_at, step_at}
use Rattle.circuits.specs.Reading.{width_read, header_of, checked_at, ending, read_from, read_circuit}
use Rattle.precedence.specs.Starts.{leading_to, after, pass}
use Rattle.table.specs.Marks.{counts, marks_of}
use Rattle.table.specs.Rule.{accepted_in}
use Rattle.table.specs.Starting.{start_table}
use Rattle.choosers.specs.Trying.{try_takers, try_lenders, best_pair}
use Rattle.choosers.specs.Greedy.{greedy_rounds}
use Rattle.listing.specs.Printing.{printed}

abbrev bytes_A : List ℕ
bytes_A =
    0x01 ∷ 0x03 ∷ 0x10 ∷ 0x00 ∷ 0x10 ∷ 0x01 ∷ 0x10 ∷ 0x02 ∷ 0x40 ∷ 0x00 ∷ 0x01 ∷ 0x40 ∷ 0x01 ∷ 0x02 ∷ 0x11 ∷ 0x00 ∷ 0x00 ∷ 0x11 ∷ 0x01 ∷ 0x01 ∷ 0x11
    ∷ 0x02 ∷ 0x02 ∷ []

abbrev bytes_B : List ℕ
bytes_B =
    0x01 ∷ 0x03 ∷ 0x10 ∷ 0x00 ∷ 0x10 ∷ 0x01 ∷ 0x10 ∷ 0x02 ∷ 0x11 ∷ 0x00 ∷ 0x00 ∷ 0x11 ∷ 0x01 ∷ 0x01 ∷ 0x11 ∷ 0x02 ∷ 0x02 ∷ []

-- P10: two measurements into one bit
abbrev bytes_P10 : List ℕ
bytes_P10 = 0x01 ∷ 0x02 ∷ 0x10 ∷ 0x00 ∷ 0x10 ∷ 0x01 ∷ 0x11 ∷ 0x00 ∷ 0x00 ∷ 0x11 ∷ 0x01 ∷ 0x00 ∷ []

pub worked_listings : (printed bytes_A ≡ text "wires 3 qubits 2 pairs 1 trials 1\n0 lends to 2\n")
    × (printed bytes_B ≡ text "wires 3 qubits 1 pairs 2 trials 8\n0 lends to 1\n1 lends to 2\n")
    × (printed bytes_P10 ≡ text "refused 12 at 9\n")
unfolding printed start_table read_circuit header_of width_read record_at shape_of read_from checked_at step_at instruction_at ending first_unfinished live judge_reset judge_gate judge_measurement judge_two leading_to after pass any stands greedy_rounds best_pair try_lenders try_takers counts marks_of accepted_in bit pack total each counts_line pair_line refusal_line decimal
worked_listings = (refl, refl, refl)

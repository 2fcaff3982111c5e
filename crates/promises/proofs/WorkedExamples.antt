-- P1 to P12 of document 01, as one table: computed from the definitions that the contracts cite. Assumes nothing.
use mathlib.Core.Path.{◌≡◌, refl}
use mathlib.Core.List.{[], ◌∷◌}
use Rattle.basics.specs.Outcome.{done, refused}
use Rattle.bits.specs.Bits.{bit, pack, total, each}
use Rattle.writing.specs.Writing.{fitted}
use Rattle.orders.specs.Indices.{any, every, stands, from}
use Rattle.orders.specs.Schedule.{earlier_written, lender_written, ready, least, next, write_on, schedule}
use Rattle.records.specs.Kinds.{shape_of}
use Rattle.records.specs.Records.{record_at}
use Rattle.circuits.specs.Judging.{live, judge_reset, judge_measurement, judge_gate, judge_two, first_unfinished}
use Rattle.circuits.specs.Stepping.{instruction_at, step_at}
use Rattle.circuits.specs.Reading.{width_read, header_of, checked_at, ending, read_from, read_circuit}
use Rattle.precedence.specs.Precedence.{first_of, must_on, prec}
use Rattle.precedence.specs.Starts.{leading_to, after, pass}
use Rattle.table.specs.Marks.{counts, marks_of}
use Rattle.table.specs.Rule.{accepted_in}
use Rattle.table.specs.Calls.{judged}
use Rattle.table.specs.Starting.{start_table}
use Rattle.pairs.specs.Lending.{lenders_in, pairs_below}
use Rattle.pairs.specs.Listing.{pairs_bytes, pair_at, pairs_from}
use Rattle.choosers.specs.Trying.{try_takers, try_lenders, best_pair}
use Rattle.choosers.specs.Greedy.{greedy_rounds}
use Rattle.writer.specs.Chains.{first_from, firsts_below, qubit_of}
use Rattle.writer.specs.Outputs.{in_order}
use Rattle.writer.specs.Compiling.{compiled}
use Rattle.promises.specs.Examples.{A, B, of_p6, of_p11, compiled_with, greedy_on}

-- THEOREM: the circuits everyone must agree on, P1 to P12.
pub worked_examples :
    (compiled_with A ((0, 2) ∷ []) ≡ done (0x02 ∷ 0x02 ∷ 0x03 ∷ 0x10 ∷ 0x00 ∷ 0x10 ∷ 0x01 ∷ 0x40 ∷ 0x00 ∷ 0x01 ∷ 0x11 ∷ 0x00 ∷ 0x00 ∷ 0x10 ∷ 0x00 ∷ 0x40 ∷ 0x01 ∷ 0x00 ∷ 0x11 ∷ 0x01 ∷ 0x01 ∷ 0x11 ∷ 0x00 ∷ 0x02 ∷ []))
    × (compiled_with A ((1, 2) ∷ []) ≡ refused 23 0)
    × (compiled_with B ((0, 1) ∷ (1, 2) ∷ []) ≡ done (0x02 ∷ 0x01 ∷ 0x03 ∷ 0x10 ∷ 0x00 ∷ 0x11 ∷ 0x00 ∷ 0x00 ∷ 0x10 ∷ 0x00 ∷ 0x11 ∷ 0x00 ∷ 0x01 ∷ 0x10 ∷ 0x00 ∷ 0x11 ∷ 0x00 ∷ 0x02 ∷ []))
    × (compiled_with B ((0, 1) ∷ (1, 2) ∷ (2, 0) ∷ []) ≡ refused 23 2)
    × (greedy_on B ≡ done ((0, 1) ∷ (1, 2) ∷ [], 8))
    × (compiled_with of_p6 [] ≡ done (0x02 ∷ 0x01 ∷ 0x01 ∷ 0x10 ∷ 0x00 ∷ 0x11 ∷ 0x00 ∷ 0x00 ∷ []))
    × (compiled_with (0x01 ∷ 0x01 ∷ []) [] ≡ refused 13 0)
    × (compiled_with (0x01 ∷ 0x01 ∷ 0x20 ∷ 0x00 ∷ []) [] ≡ refused 8 2)
    × (compiled_with (0x01 ∷ 0x01 ∷ 0x10 ∷ 0x00 ∷ 0x11 ∷ 0x00 ∷ 0x00 ∷ 0x20 ∷ 0x00 ∷ []) [] ≡ refused 10 7)
    × (compiled_with (0x01 ∷ 0x02 ∷ 0x10 ∷ 0x00 ∷ 0x10 ∷ 0x01 ∷ 0x11 ∷ 0x00 ∷ 0x00 ∷ 0x11 ∷ 0x01 ∷ 0x00 ∷ []) [] ≡ refused 12 9)
    × (compiled_with of_p11 ((0, 2) ∷ (3, 1) ∷ []) ≡ refused 23 1)
    × (compiled_with [] [] ≡ refused 1 0)
unfolding compiled pairs_bytes pair_at pairs_from judged start_table read_circuit header_of width_read record_at shape_of read_from checked_at step_at instruction_at ending first_unfinished live judge_reset judge_measurement judge_gate judge_two any every stands from earlier_written lender_written ready least next write_on schedule first_of must_on prec lenders_in pairs_below first_from firsts_below qubit_of in_order fitted leading_to after pass counts marks_of accepted_in bit pack total each greedy_rounds best_pair try_lenders try_takers
worked_examples = (refl, refl, refl, refl, refl, refl, refl, refl, refl, refl, refl, refl)

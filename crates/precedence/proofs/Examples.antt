-- The circuits A, B and P11 of document 01 as instructions, at which each law says something: they are read from their bytes, and their
-- precedence, neighbours, sets and marks are computed. Assumes nothing.
use Prim.Native.Nat.{ℕ}
use mathlib.Core.Path.{◌≡◌, refl, sym, ◌∙◌}
use mathlib.Core.Bool.{Bool, true, false}
use mathlib.Core.List.{List, [], ◌∷◌, map}
use Rattle.basics.specs.Outcome.{done}
use Rattle.orders.specs.Indices.{any, every, stands, from}
use Rattle.orders.specs.Graph.{Reach}
use Rattle.orders.specs.Table.{Start, accept}
use Rattle.orders.specs.Schedule.{earlier_written, lender_written, ready, least, next, write_on, schedule}
use Rattle.records.specs.Kinds.{shape_of}
use Rattle.records.specs.Records.{line, bit, record_at}
use Rattle.records.specs.declared.instructions.Instruction.{Instruction}
use Rattle.records.specs.declared.instructions.Instruction.TheVariants.{Reset, Measurement, TwoLineGate}
use Rattle.circuits.specs.Judging.{first_unfinished, live, judge_reset, judge_gate, judge_measurement, judge_two}
use Rattle.circuits.specs.Stepping.{instruction_at, step_at}
use Rattle.circuits.specs.Reading.{Static, width_read, header_of, checked_at, ending, read_from, read_circuit}
use Rattle.precedence.specs.Lives.{bits_of}
use Rattle.precedence.specs.Precedence.{first_of, reset_of, meas_of, must_on, prec, circuit_of, next_on, neighbours, drawn_of, Wired}
use Rattle.precedence.specs.Starts.{leading_to, after, pass, leading_sets, start_of}
use Rattle.precedence.proofs.Precedence.{read_wired}
use Rattle.precedence.proofs.Neighbours.{reach_drawn, schedule_drawn}
use Rattle.precedence.proofs.Starts.{sets_exactly, start_right}

reset : ℕ → Instruction
reset x = Reset (line x)

-- a measurement into the bit of the same number
meas : ℕ → Instruction
meas x = Measurement (line x) (bit x)

cx : ℕ → ℕ → Instruction
cx x y = TwoLineGate 0x40 (line x) (line y)

A : Static
A = record { width = 3; steps = reset 0 ∷ reset 1 ∷ reset 2 ∷ cx 0 1 ∷ cx 1 2 ∷ meas 0 ∷ meas 1 ∷ meas 2 ∷ [] }

B : Static
B = record { width = 3; steps = reset 0 ∷ reset 1 ∷ reset 2 ∷ meas 0 ∷ meas 1 ∷ meas 2 ∷ [] }

P11 : Static
P11 = record {
  width = 4;
  steps = reset 0 ∷ reset 1 ∷ reset 2 ∷ reset 3 ∷ cx 0 1 ∷ cx 2 3 ∷ meas 0 ∷ meas 1 ∷ meas 2 ∷ meas 3 ∷ [];
}

-- ## They are valid

bytes_A : List ℕ
bytes_A =
    0x01 ∷ 0x03 ∷ 0x10 ∷ 0x00 ∷ 0x10 ∷ 0x01 ∷ 0x10 ∷ 0x02 ∷ 0x40 ∷ 0x00 ∷ 0x01 ∷ 0x40 ∷ 0x01 ∷ 0x02 ∷ 0x11 ∷ 0x00 ∷ 0x00 ∷ 0x11 ∷ 0x01 ∷ 0x01 ∷ 0x11
    ∷ 0x02 ∷ 0x02 ∷ []

bytes_B : List ℕ
bytes_B =
    0x01 ∷ 0x03 ∷ 0x10 ∷ 0x00 ∷ 0x10 ∷ 0x01 ∷ 0x10 ∷ 0x02 ∷ 0x11 ∷ 0x00 ∷ 0x00 ∷ 0x11 ∷ 0x01 ∷ 0x01 ∷ 0x11 ∷ 0x02 ∷ 0x02 ∷ []

bytes_P11 : List ℕ
bytes_P11 =
    0x01 ∷ 0x04 ∷ 0x10 ∷ 0x00 ∷ 0x10 ∷ 0x01 ∷ 0x10 ∷ 0x02 ∷ 0x10 ∷ 0x03 ∷ 0x40 ∷ 0x00 ∷ 0x01 ∷ 0x40 ∷ 0x02 ∷ 0x03 ∷ 0x11 ∷ 0x00 ∷ 0x00 ∷ 0x11 ∷ 0x01
    ∷ 0x01 ∷ 0x11 ∷ 0x02 ∷ 0x02 ∷ 0x11 ∷ 0x03 ∷ 0x03 ∷ []

read_all : (read_circuit bytes_A ≡ done A) × (read_circuit bytes_B ≡ done B) × (read_circuit bytes_P11 ≡ done P11)
unfolding read_circuit header_of width_read read_from checked_at ending step_at instruction_at record_at shape_of first_unfinished live judge_reset judge_gate judge_measurement judge_two bytes_A bytes_B bytes_P11 A B P11 reset meas cx
read_all = (refl, refl, refl)

wired_A : Wired A
wired_A = read_wired bytes_A read_all.0

wired_B : Wired B
wired_B = read_wired bytes_B read_all.1

wired_P11 : Wired P11
wired_P11 = read_wired bytes_P11 read_all.2

-- ## Precedence

-- f at each pair of numbers below n, row by row
rows : ℕ → (ℕ → ℕ → Bool) → List (List Bool)
rows n f = map (λ i. map (f i) (from 0 n)) (from 0 n)

-- the wires' resets and measurements, and the bits that receive
ends_A : (map (reset_of A.steps) (from 0 3) ≡ 0 ∷ 1 ∷ 2 ∷ []) × (map (meas_of A.steps) (from 0 3) ≡ 5 ∷ 6 ∷ 7 ∷ []) × (bits_of A.steps ≡ 0 ∷ 1 ∷ 2 ∷ [])
unfolding first_of from A reset meas cx
ends_A = (refl, refl, refl)

-- wire 0 forces its reset before its gate and its measurement; the gate on 1 and 2 waits for the gate on 0 and 1, and not for wire 0's reset
prec-A : (map (prec A.steps 0) (from 0 8) ≡ false ∷ false ∷ false ∷ true ∷ false ∷ true ∷ false ∷ false ∷ []) × (prec A.steps 3 4 ≡ true)
unfolding prec must_on any stands from A reset meas cx
prec-A = (refl, refl)

-- of these only the gate is the reset's neighbour
neighbours-A : map (neighbours A.steps 0) (from 0 8) ≡ false ∷ false ∷ false ∷ true ∷ false ∷ false ∷ false ∷ false ∷ []
unfolding neighbours next_on must_on any stands from A reset meas cx
neighbours-A = refl

-- ## The start

-- row l, column t: 2's reset does not lead to 0's measurement, though gates connect the wires
sets_A : rows 3 (leading_sets A.steps) ≡ (true ∷ true ∷ false ∷ []) ∷ (true ∷ true ∷ true ∷ []) ∷ (true ∷ true ∷ true ∷ []) ∷ []
unfolding pass after leading_to any stands rows from A reset meas cx
sets_A = refl

sets_B : rows 3 (leading_sets B.steps) ≡ (true ∷ false ∷ false ∷ []) ∷ (false ∷ true ∷ false ∷ []) ∷ (false ∷ false ∷ true ∷ []) ∷ []
unfolding pass after leading_to any stands rows from B reset meas cx
sets_B = refl

sets_P11 : rows 4 (leading_sets P11.steps)
    ≡ (true ∷ true ∷ false ∷ false ∷ []) ∷ (true ∷ true ∷ false ∷ false ∷ []) ∷ (false ∷ false ∷ true ∷ true ∷ []) ∷ (false ∷ false ∷ true ∷ true ∷ []) ∷ []
unfolding pass after leading_to any stands rows from P11 reset meas cx
sets_P11 = refl

-- so 0 may lend to 2 in A, and nothing else; and in P11 3 may lend to 1 at the start and not after 0 to 2
marks_A : rows 3 (start_of A).mark ≡ (false ∷ false ∷ true ∷ []) ∷ (false ∷ false ∷ false ∷ []) ∷ (false ∷ false ∷ false ∷ []) ∷ []
unfolding pass after leading_to any stands rows from A reset meas cx
marks_A = refl

marks_P11 : ((start_of P11).mark 3 1 ≡ true) × ((accept (0, 2) (start_of P11)).mark 3 1 ≡ false)
unfolding accept pass after leading_to any stands P11 reset meas cx
marks_P11 = (refl, refl)

-- these tables are the start, and 2's reset leads to 1's measurement in A, in the document's graph too
starts : Start (circuit_of A) (start_of A) × Start (circuit_of B) (start_of B) × Start (circuit_of P11) (start_of P11)
starts = (start_right A wired_A, start_right B wired_B, start_right P11 wired_P11)

reaches_A : Reach (drawn_of A) [] 2 6
unfolding first_of pass after leading_to any stands A reset meas cx
reaches_A = (reach_drawn A [] 2 6).1 ((sets_exactly A wired_A 1 2 refl refl).0 refl)

-- ## The order of writing

-- P1: the order of A with 0 to 2, where the next waits for its earlier neighbours
order_A : schedule (drawn_of A) ((0, 2) ∷ []) ≡ 0 ∷ 1 ∷ 3 ∷ 5 ∷ 2 ∷ 4 ∷ 6 ∷ 7 ∷ []
unfolding schedule write_on next least ready earlier_written lender_written every first_of neighbours next_on must_on any stands from A reset meas cx
order_A = refl

-- and where it waits for all that must come before
order_forced_A : schedule (circuit_of A) ((0, 2) ∷ []) ≡ 0 ∷ 1 ∷ 3 ∷ 5 ∷ 2 ∷ 4 ∷ 6 ∷ 7 ∷ []
order_forced_A = sym (schedule_drawn A wired_A ((0, 2) ∷ [])) ∙ order_A

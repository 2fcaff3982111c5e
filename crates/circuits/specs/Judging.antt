-- The checks of an instruction, in the order of document 01, and what lines and bits have been through.
use Rattle.std.specs.Prelude.{ℕ, zero, suc, ◌+◌, Bool, not, List, get_or, set, replicate, leb, eqb, Result, Ok, Err}
use Rattle.basics.specs.Choice.{pick}
use Rattle.records.specs.declared.numbers.Line.{Line}
use Rattle.records.specs.declared.numbers.Bit.{Bit}
use Rattle.records.specs.declared.instructions.Instruction.{Instruction}
use Rattle.records.specs.declared.instructions.Instruction.TheVariants.{Reset, Measurement, Gate, AngledGate, TwoLineGate, AngledTwoLineGate}
use Rattle.circuits.specs.Limits.{most_wires}
use Rattle.circuits.specs.declared.states.States.{States}
use Rattle.records.specs.Refusals.{number_of}
use Rattle.circuits.specs.declared.judging.Fault.{Fault}

-- Lines and bits

-- a line is fresh, in use (reset and not measured), or done (measured)
abbrev pub fresh : ℕ
fresh = 0

abbrev pub in_use : ℕ
in_use = 1

abbrev pub finished : ℕ
finished = 2

-- a bit is used
abbrev pub used : ℕ
used = 1

-- before the first instruction every line is fresh and no bit is used
abbrev pub fresh_states : States
fresh_states = record { lines = replicate most_wires fresh; bits = replicate most_wires 0 }

-- the states as the code keeps them, of the lines and of the bits
abbrev pub states_of : List ℕ → List ℕ → States
states_of lines bits = record { lines = lines; bits = bits }

abbrev pub line_state : States → Line → ℕ
line_state c l = get_or c.lines l.0 fresh

abbrev pub bit_state : States → Bit → ℕ
bit_state c b = get_or c.bits b.0 0

abbrev pub line_set : States → Line → ℕ → States
line_set c l state = record { lines = set c.lines l.0 state; bits = c.bits }

abbrev pub bit_set : States → Bit → States
bit_set c b = record { lines = c.lines; bits = set c.bits b.0 used }

-- the states after an instruction: a reset brings its line into use, a measurement finishes it and uses its bit
abbrev pub advance_of : States → Instruction → States
advance_of c (Reset l) = line_set c l in_use
advance_of c (Measurement l b) = bit_set (line_set c l finished) b
advance_of c (Gate k l) = c
advance_of c (AngledGate k l a) = c
advance_of c (TwoLineGate k l m) = c
advance_of c (AngledTwoLineGate k l m a) = c

-- at the end of the input a line must not be fresh or in use: the only rule for it
abbrev pub unfinished : ℕ → Bool
unfinished state = not (eqb state finished)

-- the first of the next n lines from i on that is unfinished, or the line past them
unfoldable pub first_unfinished : ℕ → List ℕ → ℕ → ℕ
first_unfinished zero states i = i
first_unfinished (suc n) states i =
    let later = first_unfinished n states (i + 1) in
    pick (unfinished (get_or states i fresh)) i later

-- Verdicts

-- an instruction passes, or has a fault: the document's number, and which operand is at fault
pub data Verdict : Type 0 where
  passed : Verdict
  fault : ℕ → ℕ → Verdict

-- what the code answers
abbrev pub verdict_of : Result (Unit {0}) Fault → Verdict
verdict_of (Ok u) = passed
verdict_of (Err f) = fault (number_of f.cause) f.operand

-- the place of a fault of the instruction at a place: the only rule for places
abbrev pub place_of : ℕ → ℕ → ℕ → ℕ
place_of at number operand = at

-- the first of two verdicts that is a fault
infixr 30 ◌then◌
abbrev pub ◌then◌ : Verdict → Verdict → Verdict
◌then◌ passed v = v
◌then◌ (fault n o) v = fault n o

-- the fault where the test holds
abbrev pub faulty : ℕ → ℕ → Bool → Verdict
faulty number operand test = pick test (fault number operand) passed

-- 10 on a line already measured, 8 on one not yet reset
unfoldable pub live : ℕ → States → Line → Verdict
live o c l = faulty 10 o (eqb (line_state c l) finished) then faulty 8 o (eqb (line_state c l) fresh)

-- 6 a line number not below the lines; 10; 9 a reset on a line in use
unfoldable pub judge_reset : ℕ → States → Line → Verdict
judge_reset lines c l =
    faulty 6 1 (leb lines l.0) then faulty 10 1 (eqb (line_state c l) finished) then faulty 9 1 (eqb (line_state c l) in_use)

unfoldable pub judge_gate : ℕ → States → Line → Verdict
judge_gate lines c l = faulty 6 1 (leb lines l.0) then live 1 c l

-- 11 a bit not below the bits; 12 a bit already used
unfoldable pub judge_measurement : ℕ → ℕ → States → Line → Bit → Verdict
judge_measurement lines bits c l b =
    judge_gate lines c l then faulty 11 2 (leb bits b.0) then faulty 12 2 (eqb (bit_state c b) used)

-- 7 a gate that names one line twice; the first line's faults come before the second's
unfoldable pub judge_two : ℕ → States → Line → Line → Verdict
judge_two lines c l m =
    faulty 6 1 (leb lines l.0) then faulty 6 2 (leb lines m.0) then faulty 7 2 (eqb l.0 m.0) then live 1 c l then live 2 c m

-- the first fault of an instruction, in a circuit of so many lines and bits
abbrev pub judge_of : ℕ → ℕ → States → Instruction → Verdict
judge_of lines bits c (Reset l) = judge_reset lines c l
judge_of lines bits c (Measurement l b) = judge_measurement lines bits c l b
judge_of lines bits c (Gate k l) = judge_gate lines c l
judge_of lines bits c (AngledGate k l a) = judge_gate lines c l
judge_of lines bits c (TwoLineGate k l m) = judge_two lines c l m
judge_of lines bits c (AngledTwoLineGate k l m a) = judge_two lines c l m

-- What any byte string is as a static circuit: its width and its instructions, or a refusal of 1 to 13 and its place.
use Rattle.std.specs.Prelude.{ℕ, zero, suc, ◌+◌, Bool, true, false, List, [], ◌∷◌, length, get_or, ltb, eqb, Option, None, Some}
use Rattle.basics.specs.Choice.{pick}
use Rattle.basics.specs.Outcome.{Outcome, done, refused}
use Rattle.records.specs.Kinds.{shape_of}
use Rattle.records.specs.declared.kinds.Outline.{Outline}
use Rattle.records.specs.Records.{Standing, stands, over, record_at}
use Rattle.records.specs.declared.kinds.Form.{Form}
use Rattle.records.specs.declared.kinds.Form.TheVariants as form
use Rattle.records.specs.declared.instructions.Instruction.{Instruction}
use Rattle.records.specs.declared.instructions.Record.TheVariants.{StaticWidth, DynamicWidth, Step, Reuse}
use Rattle.circuits.specs.Limits.{most_wires, most_instructions, header_length}
use Rattle.circuits.specs.Judging.{Verdict, passed, fault, place_of, judge_of, advance_of, fresh_states, first_unfinished}
use Rattle.circuits.specs.Stepping.{Next, step, end, step_at}
use Rattle.circuits.specs.declared.circuit.Circuit.{Circuit}
use Rattle.circuits.specs.declared.states.States.{States}

-- a static circuit: how many wires, and its instructions in order
pub record Static : Type 0 where
  pub width : ℕ
  pub steps : List Instruction

-- The header: 1, 2, 3

abbrev pub static_form : Form → Bool
static_form form.StaticWidth = true
static_form form.DynamicWidth = false
static_form form.Reset = false
static_form form.Measurement = false
static_form form.Gate = false
static_form form.AngledGate = false
static_form form.TwoLineGate = false
static_form form.AngledTwoLineGate = false
static_form form.Reuse = false

abbrev pub shape_static : Option Outline → Bool
shape_static None = false
shape_static (Some h) = static_form h.form

-- the kind of a static width: 01, by the table of kinds
abbrev pub static_kind : ℕ → Bool
static_kind k = shape_static (shape_of k)

-- 3 a width of 0 or above the most wires
unfoldable pub width_read : ℕ → Outcome ℕ
width_read w = pick (eqb w 0) (refused 3 0) (pick (ltb most_wires w) (refused 3 0) (done w))

abbrev pub headed : Outcome Standing → Outcome ℕ
headed (done (stands (StaticWidth w) next)) = width_read w
headed (done (stands (DynamicWidth q b) next)) = refused 1 0
headed (done (stands (Step i) next)) = refused 1 0
headed (done (stands (Reuse l t) next)) = refused 1 0
headed (done over) = refused 1 0
headed (refused n p) = refused n p

-- 1 the input is empty or its first byte is not 01; then 2, 3
unfoldable pub header_of : List ℕ → Outcome ℕ
header_of s = pick (eqb (length s) 0) (refused 1 0) (pick (static_kind (get_or s 0 0)) (headed (record_at s 0)) (refused 1 0))

-- The instructions

abbrev pub judged : ℕ → Instruction → ℕ → Verdict → Outcome Next
judged at i next passed = done (step i next)
judged at i next (fault number operand) = refused number (place_of at number operand)

abbrev pub checked : ℕ → ℕ → States → Outcome Next → Outcome Next
checked at width c (done (step i next)) = judged at i next (judge_of width width c i)
checked at width c (done end) = done end
checked at width c (refused n p) = refused n p

-- the next step, judged after those before it
unfoldable pub checked_at : List ℕ → ℕ → ℕ → ℕ → States → Outcome Next
checked_at s at left width c = checked at width c (step_at s at left)

-- the states after the next step: brought on where it passed
abbrev pub states_after : States → Outcome Next → States
states_after c (done (step i next)) = advance_of c i
states_after c (done end) = c
states_after c (refused n p) = c

-- the end of the input, by the states of the lines: 13 and the lowest line that is unfinished, or no more instructions
unfoldable pub ending : ℕ → List ℕ → Outcome (List Instruction)
ending width lines =
    pick (ltb (first_unfinished width lines 0) width) (refused 13 (first_unfinished width lines 0)) (done [])

-- an instruction before those that follow it
abbrev pub before : Instruction → Outcome (List Instruction) → Outcome (List Instruction)
before i (done is) = done (i ∷ is)
before i (refused n p) = refused n p

abbrev pub followed : Outcome (List Instruction) → Outcome Next → (Instruction → ℕ → Outcome (List Instruction)) → Outcome (List Instruction)
followed ends (done (step i next)) rest = before i (rest i next)
followed ends (done end) rest = ends
followed ends (refused n p) rest = refused n p

-- the instructions from a place on, where `left` more are allowed, or the first fault
unfoldable pub read_from : ℕ → List ℕ → ℕ → States → ℕ → Outcome (List Instruction)
read_from zero s width c at = followed (ending width c.lines) (checked_at s at zero width c) (λ i next. refused 5 at)
read_from (suc left) s width c at =
    followed (ending width c.lines) (checked_at s at (suc left) width c) (λ i next. read_from left s width (advance_of c i) next)

abbrev pub widthened : ℕ → Outcome (List Instruction) → Outcome Static
widthened w (done is) = done (record { width = w; steps = is })
widthened w (refused n p) = refused n p

abbrev pub after_header : List ℕ → Outcome ℕ → Outcome Static
after_header s (done w) = widthened w (read_from most_instructions s w fresh_states header_length)
after_header s (refused n p) = refused n p

-- the circuit that a byte string is, or its first fault
unfoldable pub read_circuit : List ℕ → Outcome Static
read_circuit s = after_header s (header_of s)

-- What is told of a circuit

abbrev pub circuit_of : ℕ → ℕ → Circuit
circuit_of w n = record { width = w; instructions = n }

-- how many instructions there are with the n before them
abbrev pub counted : ℕ → ℕ → Outcome (List Instruction) → Outcome Circuit
counted w n (done is) = done (circuit_of w (n + length is))
counted w n (refused number place) = refused number place

-- of a circuit the width and the number of instructions are told
abbrev pub summary : Outcome Static → Outcome Circuit
summary (done c) = done (circuit_of c.width (length c.steps))
summary (refused n p) = refused n p

-- What a valid static circuit is, said of its bytes and its instructions and not of a reader.
use Rattle.std.specs.Prelude.{ℕ, ◌≤◌, true, ◌≡◌, List, [], ◌∷◌, ◌++◌, length}
use Rattle.records.specs.Bytes.{instruction_bytes, record_bytes, kind_fits}
use Rattle.records.specs.declared.instructions.Instruction.{Instruction}
use Rattle.records.specs.declared.instructions.Record.TheVariants.{StaticWidth, Step}
use Rattle.circuits.specs.Limits.{most_wires, most_instructions}
use Rattle.circuits.specs.Judging.{passed, judge_of, advance_of, fresh_states, first_unfinished}
use Rattle.circuits.specs.Reading.{Static}
use Rattle.circuits.specs.declared.states.States.{States}

-- the bytes of instructions, one after the other
abbrev pub steps_bytes : List Instruction → List ℕ
steps_bytes [] = []
steps_bytes (i ∷ is) = instruction_bytes i ++ steps_bytes is

-- the bytes of a circuit: the width record, then the instructions
abbrev pub circuit_bytes : Static → List ℕ
circuit_bytes c = record_bytes (StaticWidth c.width) ++ steps_bytes c.steps

-- each instruction passes every check after those before it, and at the end no line is unfinished
pub data Passes (width : ℕ) : States → List Instruction → Type 0 where
  none : {c : States} → width ≤ first_unfinished width c.lines 0 → Passes width c []
  also : {c : States} {i : Instruction} {is : List Instruction} → judge_of width width c i ≡ passed → Passes width (advance_of c i) is
      → Passes width c (i ∷ is)

-- each gate's kind is one of its form's
abbrev pub KindsFit : List Instruction → Type 0
KindsFit [] = Unit {0}
KindsFit (i ∷ is) = (kind_fits (Step i) ≡ true) × KindsFit is

-- a static circuit as document 01 has it: its bytes, its limits, and every check passed
pub record Valid (s : List ℕ) (c : Static) : Type 0 where
  pub bytes : s ≡ circuit_bytes c
  pub wide : 1 ≤ c.width
  pub narrow : c.width ≤ most_wires
  pub few : length c.steps ≤ most_instructions
  pub kinds : KindsFit c.steps
  pub passes : Passes c.width fresh_states c.steps

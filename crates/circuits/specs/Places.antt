-- Where a refusal of a circuit is told: the numbers 1 to 13 of document 01's table, each with its place.
use Rattle.std.specs.Prelude.{ℕ, ◌-◌, ◌≤◌, ◌<◌, ◌≡◌, ◌⊎◌, List, [], ◌∷◌, ◌++◌, length}
use Rattle.std.proofs.Math.Option.{some}
use Rattle.std.proofs.Math.ListN.{get_elem?}
use Rattle.basics.specs.Outcome.{refused}
use Rattle.records.specs.Records.{line}
use Rattle.records.specs.declared.numbers.Bit.{Bit}
use Rattle.records.specs.declared.instructions.Instruction.{Instruction}
use Rattle.records.specs.declared.instructions.Instruction.TheVariants.{Measurement}
use Rattle.circuits.specs.Limits.{most_wires, most_instructions}
use Rattle.circuits.specs.Judging.{passed, judge_of, advance_of, fresh_states}
use Rattle.circuits.specs.Reading.{Static, checked_at}
use Rattle.circuits.specs.Validity.{circuit_bytes, KindsFit}
use Rattle.circuits.specs.declared.states.States.{States}

-- each instruction passes every check after those before it
abbrev pub Passing : ℕ → States → List Instruction → Type 0
Passing width c [] = Unit {0}
Passing width c (i ∷ is) = (judge_of width width c i ≡ passed) × Passing width (advance_of c i) is

-- the states behind instructions
abbrev pub states_behind : States → List Instruction → States
states_behind c [] = c
states_behind c (i ∷ is) = states_behind (advance_of c i) is

-- the input begins with a width record and instructions without a fault, and the rest follows
pub record Begins (s : List ℕ) (c : Static) (rest : List ℕ) : Type 0 where
  pub bytes : s ≡ circuit_bytes c ++ rest
  pub wide : 1 ≤ c.width
  pub narrow : c.width ≤ most_wires
  pub few : length c.steps ≤ most_instructions
  pub kinds : KindsFit c.steps
  pub passing : Passing c.width fresh_states c.steps

-- some instruction measures the wire
abbrev pub Measured : List Instruction → ℕ → Type 0
Measured is x = (k : ℕ) × (b : Bit) × (get_elem? is k ≡ some (Measurement (line x) b))

-- 1, 3, and 2 of the width record: at 0
pub record OfHeader (number place : ℕ) : Type 0 where
  pub least : 1 ≤ number
  pub most : number ≤ 3
  pub first : place ≡ 0

-- the numbers that an instruction can have: 2 and 4 to 12
abbrev pub InstructionNumber : ℕ → Type 0
InstructionNumber number = (number ≡ 2) ⊎ ((4 ≤ number) × (number ≤ 12))

-- these, at its record's offset, behind the width record and the instructions before it; that record is at fault
pub record OfInstruction (s : List ℕ) (number place : ℕ) : Type 0 where
  pub numbered : InstructionNumber number
  pub before : Static
  pub rest : List ℕ
  pub begins : Begins s before rest
  pub offset : place ≡ length (circuit_bytes before)
  pub fault : checked_at s place (most_instructions - length before.steps) before.width (states_behind fresh_states before.steps) ≡ refused number place

-- 13, of the end of the input: at the lowest wire that is not measured
pub record OfEnd (s : List ℕ) (number place : ℕ) : Type 0 where
  pub is : number ≡ 13
  pub whole : Static
  pub begins : Begins s whole []
  pub wire : place < whole.width
  pub not_measured : ¬ Measured whole.steps place
  pub lowest : (x : ℕ) → x < place → Measured whole.steps x

-- a refusal of a circuit
abbrev pub OfCircuit : List ℕ → ℕ → ℕ → Type 0
OfCircuit s number place = OfHeader number place ⊎ OfInstruction s number place ⊎ OfEnd s number place

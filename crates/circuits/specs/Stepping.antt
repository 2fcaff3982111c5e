-- The next step of a static circuit: the end of the input, or 5, 4, 2, or an instruction.
use Rattle.std.specs.Prelude.{ℕ, suc, ◌≤◌, Bool, false, ◌≡◌, List, [], ◌∷◌, length, get_or, leb, eqb, Option, None, Some, Result, Ok, Err}
use Rattle.basics.specs.Choice.{pick}
use Rattle.basics.specs.Outcome.{Outcome, done, refused}
use Rattle.records.specs.Kinds.{shape_of, instruction_form}
use Rattle.records.specs.declared.kinds.Outline.{Outline}
use Rattle.records.specs.Records.{Standing, stands, over, record_at}
use Rattle.records.specs.declared.instructions.Instruction.{Instruction}
use Rattle.records.specs.declared.instructions.Record.TheVariants.{StaticWidth, DynamicWidth, Step, Reuse}
use Rattle.records.specs.Refusals.{refusal_of}
use Rattle.records.specs.declared.refusals.Refusal.{Refusal}

-- an instruction and the place after it, or the end of the input
pub data Next : Type 0 where
  step : Instruction → ℕ → Next
  end : Next

-- what the code answers
abbrev pub found_of : Result (Option (Instruction × ℕ)) Refusal → Outcome Next
found_of (Ok (Some (i, next))) = done (step i next)
found_of (Ok None) = done end
found_of (Err r) = refusal_of r

abbrev pub shape_allowed : Option Outline → Bool
shape_allowed None = false
shape_allowed (Some h) = instruction_form h.form

-- the kinds that may stand after the first record: 10, 11 and 20 to 5F, by the table of kinds
abbrev pub kind_allowed : ℕ → Bool
kind_allowed k = shape_allowed (shape_of k)

-- a record as the next step: only an instruction is one
abbrev pub step_of : ℕ → Outcome Standing → Outcome Next
step_of at (done (stands (Step i) next)) = done (step i next)
step_of at (done (stands (StaticWidth w) next)) = refused 4 at
step_of at (done (stands (DynamicWidth q b) next)) = refused 4 at
step_of at (done (stands (Reuse l t) next)) = refused 4 at
step_of at (done over) = refused 4 at
step_of at (refused n p) = refused n p

-- the kind is tested before the body: 4, then 2
unfoldable pub instruction_at : List ℕ → ℕ → Outcome Next
instruction_at s at = pick (kind_allowed (get_or s at 0)) (step_of at (record_at s at)) (refused 4 at)

-- the step at a place, where `left` more instructions are allowed: the end of the input, 5, 4, 2, or an instruction
unfoldable pub step_at : List ℕ → ℕ → ℕ → Outcome Next
step_at s at left = pick (leb (length s) at) (done end) (pick (eqb left 0) (refused 5 at) (instruction_at s at))

-- from a place on these instructions stand, up to the end of the input, where `left` are allowed
pub data Steps (s : List ℕ) : ℕ → ℕ → List Instruction → Type 0 where
  ended : {at left : ℕ} → length s ≤ at → Steps s at left []
  more : {at left next : ℕ} {i : Instruction} {is : List Instruction} → step_at s at (suc left) ≡ done (step i next) → Steps s next left is
      → Steps s at (suc left) (i ∷ is)

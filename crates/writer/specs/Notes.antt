-- What is kept of each instruction by its index: its form, its wires and the places between which it stands. Definitions alone.
use Rattle.std.specs.Prelude.{ℕ, ◌+◌, ◌-◌, ◌≡◌, Bool, true, false, List, get_or}
use Rattle.std.proofs.Math.Option.{some}
use Rattle.std.proofs.Math.ListN.{get_elem?}
use Rattle.basics.specs.Outcome.{done}
use Rattle.records.specs.Records.{wire}
use Rattle.records.specs.declared.instructions.Instruction.{Instruction}
use Rattle.records.specs.declared.instructions.Instruction.TheVariants.{Reset, Measurement, Gate, AngledGate, TwoLineGate, AngledTwoLineGate}
use Rattle.circuits.specs.Limits.{most_instructions}
use Rattle.circuits.specs.Stepping.{step, step_at}
use Rattle.circuits.specs.declared.sketching.Sketch.{Sketch}
use Rattle.circuits.specs.declared.sketching.Sketch.TheVariants as sketch
use Rattle.writer.specs.declared.notes.Form.{Form}
use Rattle.writer.specs.declared.notes.Form.TheVariants as form
use Rattle.writer.specs.declared.notes.Note.{Note}
use Rattle.writer.specs.declared.notes.Notes.{Notes}

-- ## What is kept of an instruction

abbrev pub form_of : Instruction → Form
form_of (Reset l) = form.Reset
form_of (Measurement l b) = form.One
form_of (Gate k l) = form.One
form_of (AngledGate k l a) = form.One
form_of (TwoLineGate k l m) = form.Two
form_of (AngledTwoLineGate k l m a) = form.Two

abbrev pub is_reset : Form → Bool
is_reset form.Reset = true
is_reset form.One = false
is_reset form.Two = false

abbrev pub is_two : Form → Bool
is_two form.Reset = false
is_two form.One = false
is_two form.Two = true

-- the first wire, and the second, which is the only one again where there is no other
abbrev pub first_wire : Instruction → ℕ
first_wire (Reset l) = l.0
first_wire (Measurement l b) = l.0
first_wire (Gate k l) = l.0
first_wire (AngledGate k l a) = l.0
first_wire (TwoLineGate k l m) = l.0
first_wire (AngledTwoLineGate k l m a) = l.0

abbrev pub second_wire : Instruction → ℕ
second_wire (Reset l) = l.0
second_wire (Measurement l b) = l.0
second_wire (Gate k l) = l.0
second_wire (AngledGate k l a) = l.0
second_wire (TwoLineGate k l m) = m.0
second_wire (AngledTwoLineGate k l m a) = m.0

abbrev pub noted : Form → ℕ → ℕ → Note
noted f first second = record { form = f; first = wire first; second = wire second }

abbrev pub note_of : Instruction → Note
note_of i = noted (form_of i) (first_wire i) (second_wire i)

-- the same of an instruction in sketch
abbrev pub note_sketched : Sketch → Note
note_sketched (sketch.Reset l) = noted form.Reset l.0 l.0
note_sketched (sketch.Measurement l b) = noted form.One l.0 l.0
note_sketched (sketch.One l) = noted form.One l.0 l.0
note_sketched (sketch.Two l m) = noted form.Two l.0 m.0

-- ## By the index

abbrev pub note_at : Notes → ℕ → Note
note_at notes k = get_or notes.all k (noted form.Reset 0 0)

abbrev pub first_at : Notes → ℕ → ℕ
first_at notes k = (note_at notes k).first.0

abbrev pub second_at : Notes → ℕ → ℕ
second_at notes k = (note_at notes k).second.0

abbrev pub place_at : Notes → ℕ → ℕ
place_at notes k = get_or notes.places k 0

-- an instruction stands from its place up to the next, and its form and its wires are kept
pub record Noted (s : List ℕ) (notes : Notes) (k : ℕ) (i : Instruction) : Type 0 where
  pub stands : step_at s (place_at notes k) (most_instructions - k) ≡ done (step i (place_at notes (k + 1)))
  pub note : note_at notes k ≡ note_of i

-- each of these instructions
pub record Kept (s : List ℕ) (is : List Instruction) (notes : Notes) : Type 0 where
  pub each : (k : ℕ) (i : Instruction) → get_elem? is k ≡ some i → Noted s notes k i

-- The record that stands at a place of a circuit or of a pair list.
use Rattle.std.specs.Prelude.{ℕ, ◌+◌, ◌-◌, List, length, get_or, leb, Option, None, Some, Result, Ok, Err}
use Rattle.basics.specs.Choice.{pick}
use Rattle.basics.specs.Outcome.{Outcome, done, refused}
use Rattle.records.specs.Kinds.{shape_of}
use Rattle.records.specs.declared.kinds.Outline.{Outline}
use Rattle.records.specs.declared.numbers.Angle.{Angle}
use Rattle.records.specs.declared.numbers.Bit.{Bit}
use Rattle.records.specs.declared.numbers.Line.{Line}
use Rattle.records.specs.declared.numbers.Wire.{Wire}
use Rattle.records.specs.declared.instructions.Record.{Record}
use Rattle.records.specs.declared.instructions.Record.TheVariants.{StaticWidth, DynamicWidth, Step, Reuse}
use Rattle.records.specs.declared.instructions.Instruction.TheVariants.{Reset, Measurement, Gate, AngledGate, TwoLineGate, AngledTwoLineGate}
use Rattle.records.specs.declared.refusals.Refusal.{Refusal}
use Rattle.records.specs.Refusals.{refusal_of}
use Rattle.records.specs.declared.kinds.Form.{Form}
use Rattle.records.specs.declared.kinds.Form.TheVariants as form

abbrev pub line : ℕ → Line
line x = record { 0 = x }

abbrev pub wire : ℕ → Wire
wire x = record { 0 = x }

abbrev pub bit : ℕ → Bit
bit x = record { 0 = x }

-- the eight bytes of an angle, by their distance from the record's place
abbrev pub angle_at : List ℕ → ℕ → ℕ → Angle
angle_at s at distance = record {
  0 = get_or s (at + distance) 0;
  1 = get_or s (at + (distance + 1)) 0;
  2 = get_or s (at + (distance + 2)) 0;
  3 = get_or s (at + (distance + 3)) 0;
  4 = get_or s (at + (distance + 4)) 0;
  5 = get_or s (at + (distance + 5)) 0;
  6 = get_or s (at + (distance + 6)) 0;
  7 = get_or s (at + (distance + 7)) 0;
}

-- the record of a form whose kind byte stands at a place: its operands, then the angle where it has one
abbrev pub decode_at : Form → List ℕ → ℕ → Record
decode_at form.StaticWidth s at = StaticWidth (get_or s (at + 1) 0)
decode_at form.DynamicWidth s at = DynamicWidth (get_or s (at + 1) 0) (get_or s (at + 2) 0)
decode_at form.Reset s at = Step (Reset (line (get_or s (at + 1) 0)))
decode_at form.Measurement s at = Step (Measurement (line (get_or s (at + 1) 0)) (bit (get_or s (at + 2) 0)))
decode_at form.Gate s at = Step (Gate (get_or s (at + 0) 0) (line (get_or s (at + 1) 0)))
decode_at form.AngledGate s at = Step (AngledGate (get_or s (at + 0) 0) (line (get_or s (at + 1) 0)) (angle_at s at 2))
decode_at form.TwoLineGate s at =
    Step (TwoLineGate (get_or s (at + 0) 0) (line (get_or s (at + 1) 0)) (line (get_or s (at + 2) 0)))
decode_at form.AngledTwoLineGate s at =
    Step (AngledTwoLineGate (get_or s (at + 0) 0) (line (get_or s (at + 1) 0)) (line (get_or s (at + 2) 0)) (angle_at s at 3))
decode_at form.Reuse s at = Reuse (wire (get_or s (at + 1) 0)) (wire (get_or s (at + 2) 0))

-- what stands at a place: a record and the place after it, or nothing more
pub data Standing : Type 0 where
  stands : Record → ℕ → Standing
  over : Standing

-- an unknown kind is 4; a body that runs past the end is 2
abbrev pub bodied : List ℕ → ℕ → Option Outline → Outcome Standing
bodied s at None = refused 4 at
bodied s at (Some h) =
    pick (leb (length s - at) h.body) (refused 2 at) (done (stands (decode_at h.form s at) (at + 1 + h.body)))

-- the record at a place; at or past the end is the end
unfoldable pub record_at : List ℕ → ℕ → Outcome Standing
record_at s at = pick (leb (length s) at) (done over) (bodied s at (shape_of (get_or s at 0)))

-- what the code answers at a place: a record and the place after it, nothing more, or a refusal
abbrev pub answered : Result (Option (Record × ℕ)) Refusal → Outcome Standing
answered (Ok (Some (item, next))) = done (stands item next)
answered (Ok None) = done over
answered (Err r) = refusal_of r

-- The numbers and the angle of a record among its bytes, and how long the parts of a line are. Assumes nothing.
use Prim.Native.Nat.{◌-◌, ◌≤◌}
use mathlib.Core.Path.{◌≡◌, refl}
use native.Mathlib.Omega.{arith}
use lib.ListN.{length, take, drop}
use Rattle.records.specs.Bytes.{record_bytes, encoded, longest_record}
use Rattle.records.specs.declared.encoding.Encoded.{Encoded}
use Rattle.records.specs.declared.instructions.Record.{Record}
use Rattle.records.specs.declared.instructions.Record.TheVariants.{StaticWidth, DynamicWidth, Step, Reuse}
use Rattle.records.specs.declared.instructions.Instruction.TheVariants.{Reset, Measurement, Gate, AngledGate, TwoLineGate, AngledTwoLineGate}
use Rattle.texts.specs.declared.lines.Parts.{Parts}
use Rattle.texts.specs.Lines.{name_of, numbers_of, angle_of}
use Rattle.texts.specs.Room.{longest_name, most_numbers, angle_length}
use Rattle.texts.specs.Parts.{parts_of}

-- the parts of a record's bytes are its numbers and its angle
pub record Parted (r : Record) (e : Encoded) (p : Parts) : Type 0 where
  pub ordered : p.from ≤ p.stop
  pub within : p.stop ≤ e.length
  pub end : e.length ≤ longest_record
  pub all : length e.bytes ≡ longest_record
  pub numbers : take (p.stop - p.from) (drop p.from e.bytes) ≡ numbers_of r
  pub angle : take (e.length - p.stop) (drop p.stop e.bytes) ≡ angle_of r

parts : (r : Record) → Parted r (encoded (record_bytes r)) (parts_of r)
unfolding encoded
parts (StaticWidth wires) = record { ordered = omega arith; within = omega arith; end = omega arith; all = refl; numbers = refl; angle = refl }
parts (DynamicWidth qubits bits) = record { ordered = omega arith; within = omega arith; end = omega arith; all = refl; numbers = refl; angle = refl }
parts (Reuse lender taker) = record { ordered = omega arith; within = omega arith; end = omega arith; all = refl; numbers = refl; angle = refl }
parts (Step (Reset l)) = record { ordered = omega arith; within = omega arith; end = omega arith; all = refl; numbers = refl; angle = refl }
parts (Step (Measurement l b)) = record { ordered = omega arith; within = omega arith; end = omega arith; all = refl; numbers = refl; angle = refl }
parts (Step (Gate k l)) = record { ordered = omega arith; within = omega arith; end = omega arith; all = refl; numbers = refl; angle = refl }
parts (Step (AngledGate k l a)) = record { ordered = omega arith; within = omega arith; end = omega arith; all = refl; numbers = refl; angle = refl }
parts (Step (TwoLineGate k l m)) = record { ordered = omega arith; within = omega arith; end = omega arith; all = refl; numbers = refl; angle = refl }
parts (Step (AngledTwoLineGate k l m a)) = record { ordered = omega arith; within = omega arith; end = omega arith; all = refl; numbers = refl; angle = refl }

pub parted : (r : Record) {e : Encoded} {p : Parts} → e ≡ encoded (record_bytes r) → p ≡ parts_of r → Parted r e p
parted r is at = rw (is, at) (parts r)

-- no part of a line is longer than its room
pub record Short (r : Record) : Type 0 where
  pub name : length (name_of r) ≤ longest_name
  pub numbers : length (numbers_of r) ≤ most_numbers
  pub angle : length (angle_of r) ≤ angle_length

pub short : (r : Record) → Short r
short (StaticWidth wires) = record { name = omega arith; numbers = omega arith; angle = omega arith }
short (DynamicWidth qubits bits) = record { name = omega arith; numbers = omega arith; angle = omega arith }
short (Reuse lender taker) = record { name = omega arith; numbers = omega arith; angle = omega arith }
short (Step (Reset l)) = record { name = omega arith; numbers = omega arith; angle = omega arith }
short (Step (Measurement l b)) = record { name = omega arith; numbers = omega arith; angle = omega arith }
short (Step (Gate k l)) = record { name = omega arith; numbers = omega arith; angle = omega arith }
short (Step (AngledGate k l a)) = record { name = omega arith; numbers = omega arith; angle = omega arith }
short (Step (TwoLineGate k l m)) = record { name = omega arith; numbers = omega arith; angle = omega arith }
short (Step (AngledTwoLineGate k l m a)) = record { name = omega arith; numbers = omega arith; angle = omega arith }

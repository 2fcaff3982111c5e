-- Records that are not what is asked for: no static width is no header, and no instruction is no step. Assumes nothing.
use Prim.Native.Nat.{ℕ}
use mathlib.Core.Path.{◌≡◌, refl}
use Rattle.basics.specs.Outcome.{done, refused}
use Rattle.records.specs.Records.{stands}
use Rattle.records.specs.declared.instructions.Instruction.{Instruction}
use Rattle.records.specs.declared.instructions.Record.{Record}
use Rattle.records.specs.declared.instructions.Record.TheVariants.{StaticWidth, DynamicWidth, Step, Reuse}
use Rattle.circuits.specs.Stepping.{step_of}
use Rattle.circuits.specs.Reading.{headed}

pub not_header : (r : Record) (next : ℕ) → ((w : ℕ) → r ≡ StaticWidth w → ⊥) → headed (done (stands r next)) ≡ refused 1 0
not_header (StaticWidth w) next other = absurd (other w refl)
not_header (DynamicWidth q b) next other = refl
not_header (Step i) next other = refl
not_header (Reuse l t) next other = refl

pub not_step : (at : ℕ) (r : Record) (next : ℕ) → ((i : Instruction) → r ≡ Step i → ⊥) → step_of at (done (stands r next)) ≡ refused 4 at
not_step at (StaticWidth w) next other = refl
not_step at (DynamicWidth q b) next other = refl
not_step at (Step i) next other = absurd (other i refl)
not_step at (Reuse l t) next other = refl

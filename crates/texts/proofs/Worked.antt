-- The lines of some records, of a refusal and of what was compiled, computed. Assumes nothing.
use mathlib.Core.Path.{◌≡◌, refl}
use Rattle.writing.specs.Texts.{text}
use Rattle.writing.specs.Decimals.{decimal}
use Rattle.records.specs.Records.{line, wire, bit}
use Rattle.records.specs.declared.instructions.Record.TheVariants.{StaticWidth, DynamicWidth, Step, Reuse}
use Rattle.records.specs.declared.instructions.Instruction.TheVariants.{Reset, Measurement, Gate, TwoLineGate}
use Rattle.texts.specs.Lines.{line_of, refusal_line}
use Rattle.texts.specs.Listings.{counts_line, compiled_line}

pub worked_lines : (line_of 0 (StaticWidth 3) ≡ text "0 static width 3\n")
    × (line_of 0 (DynamicWidth 2 3) ≡ text "0 dynamic width 2 3\n")
    × (line_of 2 (Step (Reset (line 0))) ≡ text "2 reset 0\n")
    × (line_of 14 (Step (Measurement (line 0) (bit 10))) ≡ text "14 measurement 0 10\n")
    × (line_of 22529 (Step (Gate 32 (line 31))) ≡ text "22529 gate 32 31\n")
    × (line_of 8 (Step (TwoLineGate 64 (line 0) (line 1))) ≡ text "8 gate 64 0 1\n")
    × (line_of 0 (Reuse (wire 0) (wire 2)) ≡ text "0 reuse pair 0 2\n")
    × (refusal_line 31 100 ≡ text "refused 31 at 100\n")
unfolding line_of refusal_line decimal
worked_lines = (refl, refl, refl, refl, refl, refl, refl, refl)

-- P1
pub worked_compiled : compiled_line 3 2 1 24 ≡ text "wires 3 qubits 2 pairs 1 bytes 24\n"
unfolding counts_line decimal
worked_compiled = refl

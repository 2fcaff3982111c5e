-- What is told and kept of a valid circuit is within the limits, and the 02 record and behind it the instructions are the dynamic circuit. Assumes
-- nothing.
use Prim.Native.Nat.{ℕ, ◌+◌, ◌≤◌, ◌<◌}
use mathlib.Core.Path.{◌≡◌, sym, ap, subst, ◌∙◌}
use mathlib.Core.List.{List, ◌++◌}
use mathlib.Core.Option.{some}
use native.Mathlib.Omega.{arith}
use lib.ListN.{length, get_elem?}
use borrow.Author.Tests.{ltb-true}
use Rattle.orders.specs.Indices.{In}
use Rattle.writing.specs.Writing.{Wrote, Placed}
use Rattle.writing.proofs.Puts.{placed_wrote, placed_length, wrote_on}
use Rattle.records.specs.Bytes.{record_bytes}
use Rattle.records.specs.declared.instructions.Record.TheVariants.{DynamicWidth}
use Rattle.circuits.specs.Limits.{most_wires, most_instructions}
use Rattle.circuits.specs.Reading.{read_circuit}
use Rattle.circuits.specs.Rewriting.{steps_of}
use Rattle.circuits.specs.Validity.{steps_bytes}
use Rattle.circuits.specs.declared.circuit.Circuit.{Circuit}
use Rattle.circuits.proofs.Rewrites.{Accepted}
use Rattle.circuits.proofs.Validity.{read_valid}
use Rattle.precedence.specs.Lives.{lines_of}
use Rattle.precedence.proofs.Precedence.{read_wired}
use Rattle.writer.specs.Chains.{qubits}
use Rattle.writer.specs.Notes.{first_wire, second_wire, first_at, second_at, Kept}
use Rattle.writer.specs.Outputs.{output_of, dynamic_in}
use Rattle.writer.specs.declared.notes.Notes.{Notes}
use Rattle.writer.proofs.Wires.{first_in, second_in, there, wire_on, first_noted, second_noted}

module _ (s : List ℕ) (told : Circuit) (a : Accepted s told) where
  pub few_wires : told.width ≤ most_wires
  few_wires = omega (arith, a.width, (read_valid s a.is).narrow)

  pub few_instructions : told.instructions ≤ most_instructions
  few_instructions = omega (arith, a.instructions, (read_valid s a.is).few)

  -- what is kept of the instructions is on wires
  pub notes_low : {notes : Notes} → Kept s (steps_of (read_circuit s)) notes → (k : ℕ) → k < told.instructions → (first_at notes k < most_wires) × (second_at notes k < most_wires)
  notes_low kept k l =
      let it = there a.circuit.steps k (omega (arith, a.instructions)) in
      let n = kept.each k it.0 (subst (λ z. get_elem? z k ≡ some it.0) (sym (ap steps_of a.is)) it.1) in
      let low : ((x : ℕ) → In x (lines_of it.0) → x < most_wires) =
      λ x h. omega (arith, ltb-true x a.circuit.width ((read_wired s a.is).named x k (wire_on a.circuit.steps k it.1 x h)), (read_valid s a.is).narrow) in
      (omega (arith, first_noted n, low (first_wire it.0) (first_in it.0)), omega (arith, second_noted n, low (second_wire it.0) (second_in it.0)))

  module _ (lenders : List ℕ) {n : ℕ} (count : n ≡ qubits lenders told.width) {old mid : List ℕ} {seam : ℕ}
      (header : Placed old 0 (record_bytes (DynamicWidth n told.width)) mid seam)
      (room : length (output_of lenders (read_circuit s)) ≤ length old) where
    -- the whole is the record and the instructions
    parts : record_bytes (DynamicWidth n told.width) ++ steps_bytes (dynamic_in lenders (read_circuit s)) ≡ output_of lenders (read_circuit s)
    parts =
        ap (λ k. record_bytes (DynamicWidth k told.width) ++ steps_bytes (dynamic_in lenders (read_circuit s))) count
        ∙ ap (λ w. record_bytes (DynamicWidth (qubits lenders w) w) ++ steps_bytes (dynamic_in lenders (read_circuit s))) a.width
        ∙ ap (λ o. record_bytes (DynamicWidth (qubits lenders a.circuit.width) a.circuit.width) ++ steps_bytes (dynamic_in lenders o)) a.is
        ∙ ap (output_of lenders) (sym a.is)

    wrote_header : Wrote old 0 (record_bytes (DynamicWidth n told.width)) mid seam
    wrote_header = placed_wrote header (omega (arith, ap length parts))

    -- there is room for the instructions behind the record
    pub steps_fit : seam + length (steps_bytes (dynamic_in lenders (read_circuit s))) ≤ length mid
    steps_fit = omega (arith, ap length parts, wrote_header.end, placed_length header)

    pub wrote_output : {new : List ℕ} {to : ℕ} → Wrote mid seam (steps_bytes (dynamic_in lenders (read_circuit s))) new to
        → Wrote old 0 (output_of lenders (read_circuit s)) new to
    wrote_output {new} {to} w = subst (λ xs. Wrote old 0 xs new to) parts (wrote_on (omega arith) wrote_header w)

-- Writing the records of a valid circuit again: the loop's turn, and that the bytes written are those that were read.
-- Assumes nothing.
use Prim.Native.Nat.{ℕ, ◌+◌, ◌-◌, ◌≤◌, ◌<◌}
use mathlib.Core.Path.{◌≡◌, refl, sym, ap, subst, ◌∙◌}
use mathlib.Core.List.{List, ◌++◌}
use native.Mathlib.Omega.{arith}
use lib.ListN.{length, drop, length-append}
use Rattle.basics.specs.Outcome.{Outcome, done, refused}
use Rattle.writing.specs.Writing.{Wrote, Placed, fitted}
use Rattle.writing.proofs.Puts.{placed_wrote, wrote_on, length-put, fitted-done, fitted-refused}
use Rattle.writing.proofs.Remaining.{Remaining, remaining_fits, remaining_call, remaining_end}
use Rattle.records.specs.Bytes.{instruction_bytes, record_bytes}
use Rattle.records.specs.declared.instructions.Instruction.{Instruction}
use Rattle.records.specs.declared.instructions.Record.TheVariants.{StaticWidth, Step}
use Rattle.circuits.specs.Limits.{most_instructions, header_length}
use Rattle.circuits.specs.Stepping.{step, end, step_at, Steps}
use Rattle.circuits.specs.Reading.{Static, summary, circuit_of, read_circuit}
use Rattle.circuits.specs.Validity.{steps_bytes, circuit_bytes}
use Rattle.circuits.specs.Rewriting.{again_of, rewritten, steps_of}
use Rattle.circuits.specs.declared.circuit.Circuit.{Circuit}
use Rattle.circuits.proofs.Walks.{steps_next, steps_end, bytes_steps}
use Rattle.circuits.proofs.Validity.{read_valid}
use Rattle.basics.proofs.Outcomes.{not_refused}

module _ (s old : List ℕ) (from : ℕ) (all : List ℕ) where
  -- the instructions that stand from here on are what is still to be written
  abbrev pub Going : List ℕ → ℕ → ℕ → ℕ → Type 0
  Going out to at left = (is : List Instruction) × Steps s at left is × Remaining old from all out to (steps_bytes is)

  module _ (out : List ℕ) (to at left : ℕ) (g : Going out to at left) where
    pub going_end : step_at s at left ≡ done end → Wrote old from all out to
    going_end e = remaining_end (ap steps_bytes (steps_end s at left g.1 e)) g.2

    pub going_on : {i : Instruction} {next : ℕ} {new : List ℕ} {end : ℕ} → step_at s at left ≡ done (step i next) → Placed out to (record_bytes (Step i)) new end
        → Going new end next (left - 1)
    going_on {i} e p =
        let o = steps_next s at left g.1 e in
        let r = subst (λ (is : List Instruction). Remaining old from all out to (steps_bytes is)) o.first g.2 in
        let room = remaining_fits r in
        let parts = length-append (instruction_bytes i) (steps_bytes o.rest) in
        (o.rest, o.steps, remaining_call (steps_bytes o.rest) (placed_wrote p (omega arith)) r)

-- What the reader told

-- of an accepted circuit its width and the number of its instructions are told
pub record Accepted (s : List ℕ) (told : Circuit) : Type 0 where
  pub circuit : Static
  pub is : read_circuit s ≡ done circuit
  pub width : told.width ≡ circuit.width
  pub instructions : told.instructions ≡ length circuit.steps

pub accepted : (s : List ℕ) {told : Circuit} → done told ≡ summary (read_circuit s) → Accepted s told
accepted s e = go (read_circuit s) refl e
  where
    go : (o : Outcome Static) → read_circuit s ≡ o → {told : Circuit} → done told ≡ summary o → Accepted s told
    go (done c) z {told} e =
        let y : told ≡ circuit_of c.width (length c.steps) = cc in
        record { circuit = c; is = z; width = ap (λ (t : Circuit). t.width) y; instructions = ap (λ (t : Circuit). t.instructions) y }
    go (refused n p) z e = absurd (not_refused (sym e))

pub turned_away : (s : List ℕ) {n p : ℕ} → refused n p ≡ summary (read_circuit s) → read_circuit s ≡ refused n p
turned_away s e = go (read_circuit s) e
  where
    go : (o : Outcome Static) {n p : ℕ} → refused n p ≡ summary o → o ≡ refused n p
    go (done c) e = absurd (not_refused e)
    go (refused m q) {n} {p} e =
        let a : n ≡ m = cc in
        let b : p ≡ q = cc in
        cc

-- What is written

pub not_read : (s : List ℕ) (room : ℕ) {n p : ℕ} → read_circuit s ≡ refused n p → rewritten s room ≡ refused n p
unfolding rewritten
not_read s room e = rw e

module _ (s : List ℕ) {told : Circuit} (a : Accepted s told) where
  abbrev steps : List Instruction
  steps = steps_of (read_circuit s)

  same_steps : steps ≡ a.circuit.steps
  same_steps = ap steps_of a.is

  -- the bytes of the circuit are those that were read
  pub bytes_again : circuit_bytes a.circuit ≡ s
  bytes_again = sym (read_valid s a.is).bytes

  -- its instructions stand behind the header
  pub steps_stand : Steps s header_length most_instructions steps
  steps_stand =
      let v = read_valid s a.is in
      subst (Steps s header_length most_instructions) (sym same_steps)
      (bytes_steps s header_length most_instructions a.circuit.steps (ap (drop header_length) v.bytes) v.few v.kinds)

  pub no_room : (room : ℕ) → room < length s → rewritten s room ≡ refused 31 (length s)
  unfolding rewritten
  no_room room h =
      ap (again_of room) a.is ∙ ap (fitted room) bytes_again ∙ fitted-refused room s h

  pub has_room : (room : ℕ) → length s ≤ room → rewritten s room ≡ done (circuit_bytes a.circuit)
  unfolding rewritten
  has_room room h =
      ap (again_of room) a.is ∙ fitted-done room (circuit_bytes a.circuit) (omega (arith, ap length bytes_again))

  -- the header and then the steps are the circuit
  module _ {old mid : List ℕ} {seam : ℕ} (room : length s ≤ length old) (header : Placed old 0 (record_bytes (StaticWidth told.width)) mid seam) where
    wrote_header : Wrote old 0 (record_bytes (StaticWidth told.width)) mid seam
    wrote_header = placed_wrote header (omega (arith, ap length bytes_again))

    -- there is room for the steps behind the header
    pub steps_fit : seam + length (steps_bytes steps) ≤ length mid
    steps_fit =
        let w = wrote_header in
        let all = ap length bytes_again in
        let size = ap length w.holds ∙ length-put old 0 (record_bytes (StaticWidth told.width)) (omega (arith, all)) in
        omega (arith, w.end, size, all, ap (λ (is : List Instruction). length (steps_bytes is)) same_steps)

    pub wrote_circuit : {new : List ℕ} {to : ℕ} → Wrote mid seam (steps_bytes steps) new to → Wrote old 0 (circuit_bytes a.circuit) new to
    wrote_circuit {new} {to} w =
        subst (λ (xs : List ℕ). Wrote old 0 xs new to)
        (ap (λ (v : ℕ). record_bytes (StaticWidth v) ++ steps_bytes steps) a.width ∙ ap (λ (is : List Instruction). record_bytes (StaticWidth a.circuit.width) ++ steps_bytes is) same_steps)
        (wrote_on (omega arith) wrote_header w)

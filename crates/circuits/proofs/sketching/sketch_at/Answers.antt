-- `circuits::sketching::sketch_at` meets its contract: the end, 5, 4, 2, and then what the record is. Assumes nothing.
use mathlib.Core.Path.{sym, ◌∙◌}
use native.Mathlib.Omega.{arith}
use borrow.Author.Tests.{le-leb, lt-leb, eq-eqb, ne_eqb}
use Rattle.records.specs.Records.{record_at}
use Rattle.circuits.specs.Stepping.{instruction_at, step_at}
use Rattle.circuits.proofs.Sketches.{body_holds}
use Rattle.circuits.proofs.sketching.sketch_at.Goals.{in_default-via-in-Some+else-is_instruction, in_default-via-in_default}
use Rattle.circuits.proofs.sketching.sketch_at.Goals as goal

pub returns-then-s-at : goal.returns-then-s-at
unfolding step_at
returns-then-s-at c = rw (le-leb _ _ c.if-s-at.true)

pub returns-then-left-eq0 : goal.returns-then-left-eq0
unfolding step_at
returns-then-left-eq0 c = rw (c.at.ensures, lt-leb _ _ c.if-s-at.false, eq-eqb _ _ c.if-left-eq0.true)

pub returns-then-s-at-2 : goal.returns-then-s-at-2
unfolding step_at instruction_at record_at
returns-then-s-at-2 c = rw (
  c.at-then-s-at-2.ensures,
  lt-leb _ _ c.if-s-at.false,
  ne_eqb _ _ c.if-left-eq0.false,
  sym c.shape.ensures ∙ c.in-Some.is,
  sym c.is_instruction.ensures ∙ c.if-is_instruction.true,
  le-leb _ _ c.if-s-at-2.true,
)

pub sketch_in-requires : goal.sketch_in-requires
sketch_in-requires c = omega (arith, body_holds _ (sym c.shape.ensures ∙ c.in-Some.is))

pub returns-else-s-at-2 : goal.returns-else-s-at-2
unfolding step_at instruction_at record_at
returns-else-s-at-2 c = rw (
  lt-leb _ _ c.if-s-at.false,
  ne_eqb _ _ c.if-left-eq0.false,
  sym c.shape.ensures ∙ c.in-Some.is,
  sym c.is_instruction.ensures ∙ c.if-is_instruction.true,
  lt-leb _ _ c.if-s-at-2.false,
) c.sketch_in.ensures

pub returns-in_default : goal.returns-in_default
unfolding step_at instruction_at
returns-in_default c = rw (c.at-in_default.ensures, lt-leb _ _ c.if-s-at.false, ne_eqb _ _ c.if-left-eq0.false)
    (elim c.in_default.branch [
      | in_default-via-in-Some+else-is_instruction w ↦ rw (sym c.shape.ensures ∙ w.in-Some.is, sym w.is_instruction.ensures ∙ w.if-is_instruction.false)
      | in_default-via-in_default w ↦ rw (sym c.shape.ensures ∙ w.in_default.is)
    ])

-- `circuits::rewriting::write_steps` meets its contract. The loop's invariant: the instructions that stand from here on are
-- what is still to be written. Assumes nothing.
use mathlib.Core.Path.{sym, ◌∙◌}
use native.Mathlib.Omega.{arith}
use Rattle.circuits.specs.Stepping.{found_of}
use Rattle.circuits.proofs.Turns.{some_left}
use Rattle.circuits.proofs.Walks.{steps_faultless}
use Rattle.circuits.proofs.Going.{goes_on, goes_out}
use Rattle.circuits.proofs.Rewrites.{going_end, going_on}
use Rattle.circuits.proofs.rewriting.write_steps.Goals as goal

pub overflow_sub-left : goal.overflow_sub-left
overflow_sub-left c = some_left _ _ _ (goes_on found_of _ c.step_at.ensures (sym c.unwrap_or.ensures ∙ c.in-Some.is))

pub loop-instruction-smaller : goal.loop-instruction-smaller
loop-instruction-smaller c = omega (arith, some_left _ _ _ (goes_on found_of _ c.step_at.ensures (sym c.unwrap_or.ensures ∙ c.in-Some.is)))

pub loop-instruction-preserved : goal.loop-instruction-preserved
loop-instruction-preserved c = going_on _ _ _ _ _ _ _ _ c.loop-instruction.invariant (goes_on found_of _ c.step_at.ensures (sym c.unwrap_or.ensures ∙ c.in-Some.is)) c.write_record-to.ensures

pub returns : goal.returns
returns c = let inv = c.loop-instruction.invariant in
    let out = goes_out found_of _ c.step_at.ensures (λ q e. steps_faultless _ _ _ inv.1 (sym e)) (sym c.unwrap_or.ensures ∙ c.in_default.is) in
    going_end _ _ _ _ _ _ _ _ inv out

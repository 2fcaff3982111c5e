-- `circuits::reading::read_steps` meets its contract. The loop's invariant: what is read from here on, with the instructions
-- counted so far, is what is read from the start. Assumes nothing.
use mathlib.Core.Path.{sym, ap, ◌∙◌}
use native.Mathlib.Omega.{arith}
use Rattle.std.specs.Prelude.{Ok}
use Rattle.std.proofs.lemmas.Result.{err_from_is_err_and}
use Rattle.circuits.specs.Limits.{most_instructions}
use Rattle.circuits.specs.Reading.{counted}
use Rattle.circuits.proofs.Takes.{turn, counts_on}
use Rattle.circuits.proofs.reading.read_steps.Goals as goal

pub returns-in_err-next : goal.returns-in_err-next
returns-in_err-next c = let p = err_from_is_err_and c.from_residual.result c.from_residual.ensures.1 in
    rw (p.1, p.2)
    (ap (counted _ _) (sym (turn _ _ _ _ _ _ _ c.in_err-next.was (c.take_step.ensures.result_value, c.take_step.ensures.uses_after)))
    ∙ c.loop-next.invariant.3)

pub overflow_sub-left : goal.overflow_sub-left
overflow_sub-left c =
    (turn _ _ _ _ _ _ _ (c.in_ok-next.was ∙ ap Ok c.in-Some.is) (c.take_step.ensures.result_value, c.take_step.ensures.uses_after)).allowed

pub loop-next-smaller : goal.loop-next-smaller
loop-next-smaller c = let taken = turn _ _ _ _ _ _ _ (c.in_ok-next.was ∙ ap Ok c.in-Some.is) (c.take_step.ensures.result_value, c.take_step.ensures.uses_after) in
    omega (arith, taken.allowed)

pub loop-next-preserved : goal.loop-next-preserved
loop-next-preserved c = let inv = c.loop-next.invariant in
    let taken = turn _ _ _ _ _ _ _ (c.in_ok-next.was ∙ ap Ok c.in-Some.is) (c.take_step.ensures.result_value, c.take_step.ensures.uses_after) in (
      omega (arith, inv.0),
      c.take_step.auto.progress ∙ inv.1,
      c.take_step.auto.uses ∙ inv.2,
      sym (counts_on _ _ _ _ _ _ most_instructions inv.0 taken) ∙ inv.3,
    )

pub returns : goal.returns
returns c = c.close.ensures
    ∙ ap (counted _ _) (sym (turn _ _ _ _ _ _ _ (c.in_ok-next.was ∙ ap Ok c.in_default.is) (c.take_step.ensures.result_value, c.take_step.ensures.uses_after)))
    ∙ c.loop-next.invariant.3

-- `circuits::reading::lowest_unfinished` meets its contract. The loop's invariant: the search from here on finds what the whole
-- search does. Assumes nothing.
use mathlib.Core.Path.{◌≡◌, sym, ◌∙◌}
use native.Mathlib.Omega.{arith}
use Rattle.circuits.proofs.Turns.{unfinished_on, unfinished_here, unfinished_none}
use Rattle.circuits.proofs.reading.lowest_unfinished.Goals as goal

pub returns-then-state_at-ne-DONE : goal.returns-then-state_at-ne-DONE
returns-then-state_at-ne-DONE c = record {
  lowest =
      sym (unfinished_here _ _ _ c.loop-line-test.true (λ e. c.if-state_at-ne-DONE.true (c.state_at.ensures ∙ e))) ∙ c.loop-line.invariant;
  below = c.loop-line-test.true;
}

pub loop-line-preserved : goal.loop-line-preserved
loop-line-preserved c = sym (unfinished_on _ _ _ c.loop-line-test.true (sym c.state_at.ensures ∙ c.if-state_at-ne-DONE.false)) ∙ c.loop-line.invariant

pub returns : goal.returns
returns c = let last : c.args.width ≡ c.loop-line.line = omega (arith, c.loop-line.auto.line-end) in
    record { lowest = last ∙ sym (unfinished_none _ _ _ c.loop-line-test.false) ∙ c.loop-line.invariant; below = tt }

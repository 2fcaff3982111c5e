-- `circuits::judging::judge_live` meets its contract: its tests are the definition's. Assumes nothing.
use mathlib.Core.Path.{sym, ◌∙◌}
use borrow.Author.Tests.{eq-eqb, ne_eqb}
use Rattle.circuits.specs.Judging.{live}
use Rattle.circuits.proofs.judging.judge_live.Goals as goal

pub returns-then-state-eq-DONE : goal.returns-then-state-eq-DONE
unfolding live
returns-then-state-eq-DONE c = λ bs. c.at_fault.ensures ∙ rw (eq-eqb _ _ (sym c.state_at-state.ensures ∙ c.if-state-eq-DONE.true))

pub returns-then-state-eq-FRESH : goal.returns-then-state-eq-FRESH
unfolding live
returns-then-state-eq-FRESH c = λ bs.
    c.at_fault-then-state-eq-FRESH.ensures
    ∙ rw (ne_eqb _ _ (λ e. c.if-state-eq-DONE.false (c.state_at-state.ensures ∙ e)), eq-eqb _ _ (sym c.state_at-state.ensures ∙ c.if-state-eq-FRESH.true))

pub returns : goal.returns
unfolding live
returns c = λ bs.
    rw (ne_eqb _ _ (λ e. c.if-state-eq-DONE.false (c.state_at-state.ensures ∙ e)), ne_eqb _ _ (λ e. c.if-state-eq-FRESH.false (c.state_at-state.ensures ∙ e)))

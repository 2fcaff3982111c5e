-- `circuits::judging::judge_reset` meets its contract: its tests are the definition's. Assumes nothing.
use mathlib.Core.Path.{sym, ◌∙◌}
use borrow.Author.Tests.{le-leb, lt-leb, eq-eqb, ne_eqb}
use Rattle.circuits.specs.Judging.{judge_reset}
use Rattle.circuits.proofs.judging.judge_reset.Goals as goal

pub returns-then-lines-line : goal.returns-then-lines-line
unfolding judge_reset
returns-then-lines-line c = λ bs. c.at_fault.ensures ∙ rw (le-leb _ _ c.if-lines-line.true)

pub returns-then-state-eq-DONE : goal.returns-then-state-eq-DONE
unfolding judge_reset
returns-then-state-eq-DONE c = λ bs.
    c.at_fault-then-state-eq-DONE.ensures
    ∙ rw (lt-leb _ _ c.if-lines-line.false, eq-eqb _ _ (sym c.state_at-state.ensures ∙ c.if-state-eq-DONE.true))

pub returns-then-state-eq-IN_USE : goal.returns-then-state-eq-IN_USE
unfolding judge_reset
returns-then-state-eq-IN_USE c = λ bs.
    c.at_fault-then-state-eq-IN_USE.ensures
    ∙ rw (
      lt-leb _ _ c.if-lines-line.false,
      ne_eqb _ _ (λ e. c.if-state-eq-DONE.false (c.state_at-state.ensures ∙ e)),
      eq-eqb _ _ (sym c.state_at-state.ensures ∙ c.if-state-eq-IN_USE.true),
    )

pub returns : goal.returns
unfolding judge_reset
returns c = λ bs.
    rw (
      lt-leb _ _ c.if-lines-line.false,
      ne_eqb _ _ (λ e. c.if-state-eq-DONE.false (c.state_at-state.ensures ∙ e)),
      ne_eqb _ _ (λ e. c.if-state-eq-IN_USE.false (c.state_at-state.ensures ∙ e)),
    )

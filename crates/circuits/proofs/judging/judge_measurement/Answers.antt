-- `circuits::judging::judge_measurement` meets its contract: what holds of a gate's line, then the bit's tests.
-- Assumes nothing.
use native.Mathlib.Omega.{arith}
use mathlib.Core.Path.{sym, ◌∙◌}
use borrow.Author.Tests.{le-leb, lt-leb, eq-eqb, ne_eqb}
use Rattle.std.proofs.lemmas.Result.{err_from_is_err_and}
use Rattle.circuits.specs.Judging.{judge_measurement}
use Rattle.circuits.proofs.judging.judge_measurement.Goals as goal

pub returns-in_err-judge_gate : goal.returns-in_err-judge_gate
unfolding judge_measurement
returns-in_err-judge_gate c = let p = err_from_is_err_and c.from_residual.result c.from_residual.ensures.1 in
    rw (p.1, p.2, sym (c.in_err-judge_gate.ensures c.args.uses.now))

pub returns-then-bits-bit : goal.returns-then-bits-bit
unfolding judge_measurement
returns-then-bits-bit c = c.at_fault.ensures
    ∙ rw (sym (c.in_ok-judge_gate.ensures c.args.uses.now), le-leb c.args.bits c.args.bit.0 (omega arith))

pub returns-then-state_at-eq-USED : goal.returns-then-state_at-eq-USED
unfolding judge_measurement
returns-then-state_at-eq-USED c = c.at_fault-then-state_at-eq-USED.ensures
    ∙ rw (
      sym (c.in_ok-judge_gate.ensures c.args.uses.now),
      lt-leb c.args.bits c.args.bit.0 (omega arith),
      eq-eqb _ _ (sym c.state_at.ensures ∙ c.if-state_at-eq-USED.true),
    )

pub returns : goal.returns
unfolding judge_measurement
returns c = rw (
  sym (c.in_ok-judge_gate.ensures c.args.uses.now),
  lt-leb c.args.bits c.args.bit.0 (omega arith),
  ne_eqb _ _ (λ e. c.if-state_at-eq-USED.false (c.state_at.ensures ∙ e)),
)

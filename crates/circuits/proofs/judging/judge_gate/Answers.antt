-- `circuits::judging::judge_gate` meets its contract: its test is the definition's. Assumes nothing.
use mathlib.Core.Path.{◌∙◌}
use borrow.Author.Tests.{le-leb, lt-leb}
use Rattle.circuits.specs.Judging.{judge_gate}
use Rattle.circuits.proofs.judging.judge_gate.Goals as goal

pub returns-then-lines-line : goal.returns-then-lines-line
unfolding judge_gate
returns-then-lines-line c = λ bs. c.at_fault.ensures ∙ rw (le-leb _ _ c.if-lines-line.true)

pub returns : goal.returns
unfolding judge_gate
returns c = λ bs. c.judge_live.ensures bs ∙ rw (lt-leb _ _ c.if-lines-line.false)

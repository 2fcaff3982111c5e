-- `circuits::judging::judge_two` meets its contract: its tests are the definition's. Assumes nothing.
use mathlib.Core.Path.{sym, ◌∙◌}
use borrow.Author.Tests.{le-leb, lt-leb}
use Rattle.std.proofs.lemmas.Result.{err_from_is_err_and}
use Rattle.circuits.specs.Judging.{judge_two}
use Rattle.circuits.proofs.judging.judge_two.Goals as goal

pub returns-then-lines-first : goal.returns-then-lines-first
unfolding judge_two
returns-then-lines-first c = λ bs. c.at_fault.ensures ∙ rw (le-leb _ _ c.if-lines-first.true)

pub returns-then-lines-second : goal.returns-then-lines-second
unfolding judge_two
returns-then-lines-second c = λ bs. c.at_fault-then-lines-second.ensures ∙ rw (lt-leb _ _ c.if-lines-first.false, le-leb _ _ c.if-lines-second.true)

pub returns-then-eq : goal.returns-then-eq
unfolding judge_two
returns-then-eq c = λ bs.
    c.at_fault-then-eq.ensures
    ∙ rw (lt-leb _ _ c.if-lines-first.false, lt-leb _ _ c.if-lines-second.false, sym c.eq.ensures ∙ c.if-eq.true)

pub returns-in_err-judge_live : goal.returns-in_err-judge_live
unfolding judge_two
returns-in_err-judge_live c = λ bs. let p = err_from_is_err_and c.from_residual.result c.from_residual.ensures.1 in
    rw (
      p.1,
      p.2,
      lt-leb _ _ c.if-lines-first.false,
      lt-leb _ _ c.if-lines-second.false,
      sym c.eq.ensures ∙ c.if-eq.false,
      sym (c.in_err-judge_live.ensures bs),
    )

pub returns : goal.returns
unfolding judge_two
returns c = λ bs.
    c.judge_live-2.ensures bs
    ∙ rw (
      lt-leb _ _ c.if-lines-first.false,
      lt-leb _ _ c.if-lines-second.false,
      sym c.eq.ensures ∙ c.if-eq.false,
      sym (c.in_ok-judge_live.ensures bs),
    )

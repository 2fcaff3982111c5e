-- `circuits::stepping::step_at` meets its contract: the end, 5, 4, and then what the record is. Assumes nothing.
use mathlib.Core.Path.{sym, ◌∙◌}
use borrow.Author.Tests.{le-leb, lt-leb, eq-eqb, ne_eqb}
use Rattle.std.proofs.lemmas.Result.{err_from_is_err_and}
use Rattle.circuits.specs.Stepping.{instruction_at, step_at}
use Rattle.circuits.proofs.Others.{not_step}
use Rattle.circuits.proofs.stepping.step_at.Goals as goal

pub returns-then-s-at : goal.returns-then-s-at
unfolding step_at
returns-then-s-at c = rw (le-leb _ _ c.if-s-at.true)

pub returns-then-left-eq0 : goal.returns-then-left-eq0
unfolding step_at
returns-then-left-eq0 c = rw (c.at.ensures, lt-leb _ _ c.if-s-at.false, eq-eqb _ _ c.if-left-eq0.true)

pub returns-then-not-allowed : goal.returns-then-not-allowed
unfolding step_at instruction_at
returns-then-not-allowed c =
    rw (c.at-then-not-allowed.ensures, lt-leb _ _ c.if-s-at.false, ne_eqb _ _ c.if-left-eq0.false, sym c.allowed.ensures ∙ c.if-not-allowed.true)

pub returns-in_err-record : goal.returns-in_err-record
unfolding step_at instruction_at
returns-in_err-record c = let p = err_from_is_err_and c.from_residual.result c.from_residual.ensures.1 in
    rw (
      p.1,
      p.2,
      lt-leb _ _ c.if-s-at.false,
      ne_eqb _ _ c.if-left-eq0.false,
      sym c.allowed.ensures ∙ c.if-not-allowed.false,
      sym c.in_err-record.ensures,
    )

pub returns-in_default : goal.returns-in_default
unfolding step_at instruction_at
returns-in_default c = rw (
  c.at-in_default.ensures,
  lt-leb _ _ c.if-s-at.false,
  ne_eqb _ _ c.if-left-eq0.false,
  sym c.allowed.ensures ∙ c.if-not-allowed.false,
  sym c.in_ok-record.ensures,
  c.in_default.is,
)

pub returns-in-Step : goal.returns-in-Step
unfolding step_at instruction_at
returns-in-Step c = rw (
  lt-leb _ _ c.if-s-at.false,
  ne_eqb _ _ c.if-left-eq0.false,
  sym c.allowed.ensures ∙ c.if-not-allowed.false,
  sym c.in_ok-record.ensures,
  c.in-Some.is,
  c.in-Step.is,
)

pub returns-in_default-record : goal.returns-in_default-record
unfolding step_at instruction_at
returns-in_default-record c = rw (
  c.at-in_default-record.ensures,
  lt-leb _ _ c.if-s-at.false,
  ne_eqb _ _ c.if-left-eq0.false,
  sym c.allowed.ensures ∙ c.if-not-allowed.false,
  sym c.in_ok-record.ensures,
  c.in-Some.is,
  not_step c.args.at _ _ c.in_default-record.not-Step,
)

-- `circuits::reading::read_header` meets its contract: the first byte's kind, and then what the record is. Assumes nothing.
use mathlib.Core.Path.{sym, ◌∙◌}
use Rattle.std.proofs.lemmas.Result.{err_from_is_err_and}
use Rattle.circuits.specs.Reading.{header_of}
use Rattle.circuits.proofs.Others.{not_header}
use Rattle.circuits.proofs.reading.read_header.Goals.{then-is_empty-via-then-is_empty, then-is_empty-via-else-is_empty+then-not-is_static}
use Rattle.circuits.proofs.reading.read_header.Goals as goal

pub returns-then-is_empty : goal.returns-then-is_empty
unfolding header_of
returns-then-is_empty c = rw c.at.ensures
    (elim c.then-is_empty.branch [
      | then-is_empty-via-then-is_empty w ↦ rw (sym c.is_empty.ensures ∙ w.if-is_empty.true)
      | then-is_empty-via-else-is_empty+then-not-is_static w ↦ rw (sym c.is_empty.ensures ∙ w.if-is_empty.false, sym w.is_static.ensures ∙ w.if-not-is_static.true)
    ])

pub returns-in_err-record : goal.returns-in_err-record
unfolding header_of
returns-in_err-record c = let p = err_from_is_err_and c.from_residual.result c.from_residual.ensures.1 in
    rw (p.1, p.2, sym c.is_empty.ensures ∙ c.if-is_empty.false, sym c.is_static.ensures ∙ c.if-not-is_static.false, sym c.in_err-record.ensures)

pub returns-in_default : goal.returns-in_default
unfolding header_of
returns-in_default c = rw (
  c.at-in_default.ensures,
  sym c.is_empty.ensures ∙ c.if-is_empty.false,
  sym c.is_static.ensures ∙ c.if-not-is_static.false,
  sym c.in_ok-record.ensures,
  c.in_default.is,
)

pub returns-in-StaticWidth : goal.returns-in-StaticWidth
unfolding header_of
returns-in-StaticWidth c = c.header_of.ensures
    ∙ rw (
      sym c.is_empty.ensures ∙ c.if-is_empty.false,
      sym c.is_static.ensures ∙ c.if-not-is_static.false,
      sym c.in_ok-record.ensures,
      c.in-Some.is,
      c.in-StaticWidth.is,
    )

pub returns-in_default-record : goal.returns-in_default-record
unfolding header_of
returns-in_default-record c = rw (
  c.at-in_default-record.ensures,
  sym c.is_empty.ensures ∙ c.if-is_empty.false,
  sym c.is_static.ensures ∙ c.if-not-is_static.false,
  sym c.in_ok-record.ensures,
  c.in-Some.is,
  not_header _ _ c.in_default-record.not-StaticWidth,
)

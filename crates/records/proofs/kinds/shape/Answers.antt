-- `records::kinds::shape` meets its contract: a kind that stands alone computes, and the high digit decides the others.
-- Assumes nothing.
use mathlib.Core.Path.{sym, ap, ◌∙◌}
use native.Mathlib.Omega.{arith}
use Rattle.records.specs.Kinds.{shape_of}
use Rattle.records.proofs.Shapes.{sixteen, outside}
use Rattle.records.proofs.kinds.shape.Goals as goal

pub returns-in-1 : goal.returns-in-1
unfolding shape_of
returns-in-1 c = c.known.ensures ∙ sym (ap shape_of c.in-1.is)

pub returns-in-2 : goal.returns-in-2
unfolding shape_of
returns-in-2 c = c.known-in-2.ensures ∙ sym (ap shape_of c.in-2.is)

pub returns-in-16 : goal.returns-in-16
unfolding shape_of
returns-in-16 c = c.known-in-16.ensures ∙ sym (ap shape_of c.in-16.is)

pub returns-in-17 : goal.returns-in-17
unfolding shape_of
returns-in-17 c = c.known-in-17.ensures ∙ sym (ap shape_of c.in-17.is)

pub returns-in-96 : goal.returns-in-96
unfolding shape_of
returns-in-96 c = c.known-in-96.ensures ∙ sym (ap shape_of c.in-96.is)

pub returns-in-32-to-47 : goal.returns-in-32-to-47
returns-in-32-to-47 c = c.known-in-32-to-47.ensures ∙ sixteen c.args.kind 2 (((((tt, λ e. omega arith), λ e. omega arith), λ e. omega arith), λ e. omega arith), λ e. omega arith) (omega arith)

pub returns-in-48-to-63 : goal.returns-in-48-to-63
returns-in-48-to-63 c = c.known-in-48-to-63.ensures ∙ sixteen c.args.kind 3 (((((tt, λ e. omega arith), λ e. omega arith), λ e. omega arith), λ e. omega arith), λ e. omega arith) (omega arith)

pub returns-in-64-to-79 : goal.returns-in-64-to-79
returns-in-64-to-79 c = c.known-in-64-to-79.ensures ∙ sixteen c.args.kind 4 (((((tt, λ e. omega arith), λ e. omega arith), λ e. omega arith), λ e. omega arith), λ e. omega arith) (omega arith)

pub returns-in-80-to-95 : goal.returns-in-80-to-95
returns-in-80-to-95 c = c.known-in-80-to-95.ensures ∙ sixteen c.args.kind 5 (((((tt, λ e. omega arith), λ e. omega arith), λ e. omega arith), λ e. omega arith), λ e. omega arith) (omega arith)

pub returns-in_default : goal.returns-in_default
returns-in_default c = outside c.args.kind (((((tt, λ e. omega arith), λ e. omega arith), λ e. omega arith), λ e. omega arith), λ e. omega arith) (λ e. omega arith) (λ e. omega arith) (λ e. omega arith) (λ e. omega arith)

pub returns-in_default-2 : goal.returns-in_default-2
returns-in_default-2 c = outside c.args.kind (((((tt, λ e. omega arith), λ e. omega arith), λ e. omega arith), λ e. omega arith), λ e. omega arith) (λ e. omega arith) (λ e. omega arith) (λ e. omega arith) (λ e. omega arith)

-- `records::reading::record_at` meets its contract: each way out is one of the answers. Assumes nothing.
use native.Mathlib.Omega.{arith}
use mathlib.Core.Path.{sym, refl, ◌∙◌}
use Rattle.records.proofs.Standings.{at_end, at_unknown, at_cut, at_record}
use Rattle.records.proofs.reading.record_at.Goals as goal

pub returns-then-s-at : goal.returns-then-s-at
returns-then-s-at c = sym (at_end _ _ (omega arith))

pub returns-in_default : goal.returns-in_default
returns-in_default c = rw (c.at.ensures, at_unknown c.args.s.now c.args.at (omega arith) (sym c.shape.ensures ∙ c.in_default.is)) refl

pub returns-then-s-at-2 : goal.returns-then-s-at-2
returns-then-s-at-2 c = rw (c.at-then-s-at-2.ensures, at_cut c.args.s.now c.args.at (omega arith) (sym c.shape.ensures ∙ c.in-Some.is) (omega arith)) refl

pub returns : goal.returns
returns c = rw (c.decode.ensures, at_record c.args.s.now c.args.at (omega arith) (sym c.shape.ensures ∙ c.in-Some.is) (omega arith)) refl

-- `writer::renaming::tell` meets its contract: a wire that takes from a lower one has its qubit. Assumes nothing.
use mathlib.Core.Path.{sym, ◌∙◌}
use Rattle.writer.proofs.Chains.{count_at, tells_first, tells_on}
use Rattle.writer.proofs.renaming.tell.Goals as goal

pub returns-then-lender-wire : goal.returns-then-lender-wire
returns-then-lender-wire c = let lender = c.lender_of-lender in
    let takes = sym c.takes.ensures ∙ c.if-takes.true in
    let lower = c.if-lender-wire.true in
    tells_on c.args.lenders.lenders c.args.width c.args.wire.0 lender.result.0 takes lender.ensures lower _ (c.requires.by_index lender.result.0 lower)

pub returns-else-takes : goal.returns-else-takes
returns-else-takes c = let a = c.args in
    tells_first a.lenders.lenders a.width a.wire.0 _ (sym c.takes.ensures ∙ c.if-takes.false) (count_at a.lenders.lenders a.width _ c.requires.counts_value a.wire.0 c.requires.wire_lt_most_wires)

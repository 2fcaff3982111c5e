-- `table::offering::accept` meets its contract. The loop's invariant: the rows so far are what the offer leaves, and the others
-- are 0. Assumes nothing.
use mathlib.Core.Path.{◌≡◌, ap, ◌∙◌}
use native.Mathlib.Omega.{arith}
use borrow.Author.Rules.{rules}
use lib.ListN.{get_or}
use Rattle.bits.specs.Bits.{pack}
use Rattle.table.specs.Limits.{most_wires}
use Rattle.table.specs.Marks.{counts, rows_below}
use Rattle.table.specs.Rule.{mark_after, accepted_in}
use Rattle.table.specs.Changes.{changed}
use Rattle.table.specs.declared.rows.Change.{Change}
use Rattle.table.proofs.Held.{row_held}
use Rattle.table.proofs.TableMarks.{row_changed}
use Rattle.table.proofs.RowsBelow.{below_most, none_after, filling_same, filling_ends}
use Rattle.table.proofs.offering.accept.Goals as goal

pub returns : goal.returns
unfolding accepted_in
returns c = let h = c.loop-wire in
    let t = c.args.table in
    let lender = c.args.lender.0 in
    let taker = c.args.taker.0 in
    let e : h.wire ≡ rows_below t.width = omega (arith, c.rows_below-end.ensures) in
    let few = below_most t.width in
    let change = c.change_of-change.ensures in
    let rule = filling_same (λ u. pack most_wires (mark_after (counts t) lender taker u)) h.wire h.rows h.invariant
    (λ u l. ap (λ (x : Change). pack most_wires (changed x (get_or t.rows u 0) u)) change ∙ row_changed t lender taker u (search (rules, row_held)) (omega arith)) in
    let rows = filling_ends (λ u. pack most_wires (mark_after (counts t) lender taker u)) t.width h.rows (rw e at rule) (none_after t lender taker) in
    λ i. record { width = t.width; rows = rows i; lending = c.use_wire-lending.ensures i; taking = c.use_wire-taking.ensures i }

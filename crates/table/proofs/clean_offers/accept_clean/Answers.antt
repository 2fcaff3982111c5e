-- `table::clean_offers::accept_clean` meets its contract. The loop's invariant: the rows so far are what the offer leaves. Assumes nothing.
use Prim.Native.Nat.{ℕ}
use mathlib.Core.Path.{ap, ◌∙◌}
use native.Mathlib.Omega.{arith}
use Rattle.bits.specs.Bits.{bit, pack}
use Rattle.table.specs.Limits.{most_wires}
use Rattle.table.specs.Rule.{row_after, is_set, accepted_clean}
use Rattle.table.proofs.CleanOffers.{own_row_gone}
use Rattle.table.proofs.RowsBelow.{filling_more}
use Rattle.table.proofs.clean_offers.accept_clean.Goals as goal

pub loop-wire-preserved : goal.loop-wire-preserved
loop-wire-preserved c = let given = c.row_of-given.result in
    filling_more (λ j. pack most_wires (row_after (λ v. bit v given) (is_set c.args.table j) c.args.taker.0)) c.loop-wire.wire _ _ (omega arith) c.loop-wire.invariant c.row_left.ensures

pub returns : goal.returns
unfolding accepted_clean
returns c = let t = c.args.table in
    let taker = c.args.taker.0 in
    let h = c.loop-wire in
    let given = c.row_of-given.ensures in
    let rows = own_row_gone t c.args.lender.0 taker _ (omega (arith, h.invariant.size)) c.requires (λ u l. h.invariant.front u (omega arith) ∙ ap (λ (x : ℕ). pack most_wires (row_after (λ v. bit v x) (is_set t u) taker)) given) in
    λ i. record { width = t.width; rows = rows i; lending = c.use_wire-lending.ensures i; taking = c.use_wire-taking.ensures i }

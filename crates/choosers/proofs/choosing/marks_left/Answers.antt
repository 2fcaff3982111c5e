-- `choosers::choosing::marks_left` meets its contract: before each turn, n is the count of what the rows so far keep. Assumes nothing.
use Prim.Native.Nat.{ℕ}
use mathlib.Core.Path.{ap, ◌∙◌}
use mathlib.Core.Bool.{Bool}
use mathlib.Core.List.{List}
use native.Mathlib.Omega.{arith}
use borrow.Author.Rules.{rules}
use lib.Count.{ones-le}
use lib.ListN.{get_or}
use lib.Seq.{get_or-take}
use Rattle.bits.specs.Bits.{bit, pack}
use Rattle.bits.proofs.Sums.{tallies_more, tallies_le}
use Rattle.table.specs.Limits.{most_wires}
use Rattle.table.specs.Rule.{row_after}
use Rattle.choosers.proofs.choosing.marks_left.Goals as goal

abbrev kept : List ℕ → ℕ → ℕ → ℕ → ℕ → Bool
kept rows given taker u = row_after (λ v. bit v given) (λ v. bit v (get_or rows u 0)) taker

pub overflow_add-n : goal.overflow_add-n
overflow_add-n c = let a = c.args in
    omega (arith, tallies_le most_wires (kept a.rows.now a.given a.taker.0) _ _ c.loop-row.invariant, ones-le most_wires c.row_left.result (search rules))

pub loop-row-preserved : goal.loop-row-preserved
loop-row-preserved c = let a = c.args in
    let h = c.loop-row in
    let row = ap (λ (x : ℕ). pack most_wires (row_after (λ v. bit v a.given) (λ v. bit v x) a.taker.0)) (get_or-take a.width a.rows.now h.row-index 0 (omega arith)) in
    tallies_more most_wires (kept a.rows.now a.given a.taker.0) _ _ _ h.invariant (record { is = c.row_left.ensures ∙ row })

-- What a yes mark says of its pair, and its offer. Assumes nothing.
use Prim.Native.Nat.{ℕ, ◌*◌, ◌-◌, ◌≤◌, ◌<◌}
use mathlib.Core.Path.{◌≡◌, refl, ap, ◌∙◌}
use mathlib.Core.Bool.{true, false, not, ◌&&◌, and-false}
use native.Mathlib.Omega.{arith}
use Rattle.basics.specs.Outcome.{done}
use Rattle.basics.proofs.Tests.{both, refuted, neither}
use borrow.Author.Tests.{ltb-true, ltb-false, eq-eqb, not-true}
use lib.Dec.{eqb, ltb}
use lib.ListN.{get_or}
use Rattle.bits.specs.Bits.{bit, digit, total, tally}
use Rattle.bits.proofs.Sums.{total_none, total_cut, total_le, tally_missing}
use Rattle.table.specs.Limits.{most_wires}
use Rattle.table.specs.Marks.{counts, lends, marks_of}
use Rattle.table.specs.Rule.{accepted, Updated}
use Rattle.table.specs.Calls.{wrong_width, may_lend, offered, count_of}
use Rattle.table.specs.declared.tables.Table.{Table}
use Rattle.table.proofs.Offers.{yes_taken, taken_updated}

module _ (t : Table) where
  -- a yes mark is between two wires below the width, of which the lender does not lend
  pub counts_within : (lender taker : ℕ) → counts t lender taker ≡ true → (lender < t.width) × (taker < t.width)
  unfolding counts
  counts_within lender taker h =
      let parts = both (ltb lender t.width && not (bit lender t.lending)) _ h in
      let takes = (both (bit taker (get_or t.rows lender 0)) _ (both (not (eqb taker lender)) _ parts.1).1).1 in
      (ltb-true lender t.width (both (ltb lender t.width) _ parts.0).0, ltb-true taker t.width (both (ltb taker t.width) _ takes).0)

  pub not_self : (wire : ℕ) → counts t wire wire ≡ false
  unfolding counts
  not_self wire = rw (eq-eqb wire wire refl, and-false (ltb wire t.width && not (bit wire t.lending)))

  pub lends_not : (lender taker : ℕ) → counts t lender taker ≡ true → lends t lender ≡ false
  unfolding counts
  lends_not lender taker h =
      let free = both (ltb lender t.width) _ (both (ltb lender t.width && not (bit lender t.lending)) _ h).0 in
      rw (not-true (bit lender t.lending) free.1, and-false (ltb lender t.width))

  -- no yes mark, and how many there can be
  pub marks_none : ((l k : ℕ) → counts t l k ≡ false) → marks_of t ≡ 0
  unfolding marks_of
  marks_none h = total_none most_wires _ (λ l. total_none most_wires _ (λ k. rw (h l k)))

  -- a wire at or above the width neither lends nor takes
  pub far_lender : (l : ℕ) → t.width ≤ l → tally most_wires (counts t l) ≡ 0
  far_lender l le = total_none most_wires _ (λ k. ap digit (refuted (counts t l k) (λ m. let b = counts_within l k m in omega arith)))

  pub far_taker : (l k : ℕ) → t.width ≤ k → digit (counts t l k) ≡ 0
  far_taker l k le = ap digit (refuted (counts t l k) (λ m. let b = counts_within l k m in omega arith))

  -- a wire lends to the others at most
  row_most : t.width ≤ most_wires → (l : ℕ) → l < t.width → tally most_wires (counts t l) ≤ t.width - 1
  row_most le l h =
      let cut : tally most_wires (counts t l) ≡ tally t.width (counts t l)
      = total_cut t.width most_wires _ le (far_taker l) in
      omega (arith, tally_missing t.width (counts t l) l h (not_self l))

  pub marks_most : t.width ≤ most_wires → marks_of t ≤ t.width * (t.width - 1)
  unfolding marks_of
  marks_most le =
      let cut : marks_of t ≡ total t.width (λ l. tally most_wires (counts t l)) = total_cut t.width most_wires _ le far_lender in
      omega (arith, total_le t.width (t.width - 1) (λ l. tally most_wires (counts t l)) (row_most le))

module _ (t : Table) (right : wrong_width t ≡ false) where
  pub fits : t.width ≤ most_wires
  fits = ltb-false most_wires t.width (neither (eqb t.width 0) (ltb most_wires t.width) right).1

  pub count_is : count_of t ≡ done (marks_of t)
  unfolding count_of
  count_is = rw right

  module _ (lender taker : ℕ) where
    may_says : may_lend t lender taker ≡ done (counts t lender taker)
    unfolding may_lend
    may_says = rw right

    -- the offer of a yes pair is taken
    pub yes_offered : counts t lender taker ≡ true → offered t lender taker ≡ done (accepted t lender taker)
    yes_offered mark = yes_taken t lender taker (may_says ∙ ap done mark)

    pub yes_updated : counts t lender taker ≡ true → Updated t lender taker (accepted t lender taker)
    yes_updated mark = taken_updated t lender taker (accepted t lender taker) (yes_offered mark)

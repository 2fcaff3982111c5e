-- The greedy rounds, one at a time, and how many pairs and trials they can make: each pair has a lender of its own, and a round tries
-- no more pairs than there are off the diagonal. Assumes nothing.
use Prim.Native.Nat.{ℕ, zero, suc, ◌+◌, ◌*◌, ◌-◌, ◌≤◌, zero-le}
use mathlib.Core.Path.{◌≡◌, refl, ◌∙◌}
use mathlib.Core.Logic.{◌⊎◌, inl, inr}
use mathlib.Core.Bool.{false}
use mathlib.Core.Option.{Option, none, some}
use native.Mathlib.Nat.{suc-mul, mul-le-mul_right}
use native.Mathlib.Omega.{arith}
use borrow.Author.Tests.{eq-eqb}
use lib.ListN.{length}
use lib.Dec.{eqb}
use Rattle.basics.proofs.Tests.{or_right}
use Rattle.orders.specs.Runs.{Pair}
use Rattle.bits.specs.Bits.{tally}
use Rattle.bits.proofs.Sums.{tally_le, tally_less}
use Rattle.table.specs.Marks.{counts, lends, marks_of}
use Rattle.table.specs.Rule.{accepted_in, accepted}
use Rattle.table.specs.Calls.{wrong_width}
use Rattle.table.specs.declared.tables.Table.{Table}
use Rattle.choosers.specs.Trying.{score_in, best_pair, Best}
use Rattle.choosers.specs.Greedy.{ended, after, greedy_rounds, greedy_from}
use Rattle.choosers.proofs.YesPairs.{counts_within, lends_not, marks_most, fits, yes_updated}
use Rattle.choosers.proofs.BestPairs.{best_found, best_none, none_best}

module _ (t : Table) where
  -- THEOREM: the pair chosen from a table is a yes pair with the highest score, and the lowest lender, then taker, of those.
  pub best_is : (p : Pair) → best_pair t ≡ some p → Best (counts t) (score_in t) p
  unfolding best_pair
  best_is = best_found (counts t) (score_in t) t.width (counts_within t)

  -- THEOREM: none is chosen exactly where no yes is left.
  pub none_chosen : best_pair t ≡ none → (l k : ℕ) → counts t l k ≡ false
  unfolding best_pair
  none_chosen = best_none (counts t) (score_in t) t.width (counts_within t)

  pub none_left : ((l k : ℕ) → counts t l k ≡ false) → best_pair t ≡ none
  unfolding best_pair
  none_left = none_best (counts t) (score_in t) t.width (counts_within t)

  pub chosen : (best_pair t ≡ none) ⊎ ((p : Pair) × (best_pair t ≡ some p))
  chosen = go (best_pair t) refl
    where
      go : (o : Option Pair) → best_pair t ≡ o → (best_pair t ≡ none) ⊎ ((p : Pair) × (best_pair t ≡ some p))
      go none e = inl e
      go (some p) e = inr (p, e)

  -- where none is chosen the rounds are over
  pub rounds_over : (k : ℕ) → best_pair t ≡ none → greedy_rounds k t ≡ ended t
  unfolding greedy_rounds
  rounds_over zero e = refl
  rounds_over (suc k) e = rw (greedy_rounds, e)

  pub rounds_go_on : (k : ℕ) (p : Pair) → best_pair t ≡ some p → greedy_rounds (suc k) t ≡ after p (marks_of t) (greedy_rounds k (accepted t p.0 p.1))
  unfolding greedy_rounds
  rounds_go_on k p e = rw (greedy_rounds, e)

  -- accepting a pair keeps the width
  pub still_right : wrong_width t ≡ false → (l k : ℕ) → wrong_width (accepted t l k) ≡ false
  unfolding accepted_in
  still_right right l k = right

-- each pair chosen has a lender that did not lend before
pub pairs_few : (k : ℕ) (t : Table) → wrong_width t ≡ false → length (greedy_rounds k t).pairs + tally t.width (lends t) ≤ t.width
unfolding accepted_in greedy_rounds
pairs_few zero t right = omega (arith, tally_le t.width (lends t))
pairs_few (suc k) t right = elim (chosen t) [
  | inl e ↦ rw (rounds_over t (suc k) e) (omega (arith, tally_le t.width (lends t)))
  | inr (p, e) ↦ (
      let mark = (best_is t p e).is_yes in
      let new = accepted t p.0 p.1 in
      let after-it = (yes_updated t right p.0 p.1 mark).lenders in
      let more = tally_less t.width (lends t) (lends new) (λ u h. after-it u ∙ or_right (eqb u p.0) (lends t u) h) p.0 (counts_within t p.0 p.1 mark).0 (lends_not t p.0 p.1 mark) (after-it p.0 ∙ rw (eq-eqb p.0 p.0 refl)) in
      rw (rounds_go_on t k p e) (omega (arith, pairs_few k new (still_right t right p.0 p.1), more))
      )
]

-- each round tries every yes pair once
pub trials_few : (k : ℕ) (t : Table) → wrong_width t ≡ false → (greedy_rounds k t).trials ≤ length (greedy_rounds k t).pairs * (t.width * (t.width - 1))
unfolding accepted_in greedy_rounds
trials_few zero t right = zero-le
trials_few (suc k) t right = elim (chosen t) [
  | inl e ↦ rw (rounds_over t (suc k) e) zero-le
  | inr (p, e) ↦ (
      let new = accepted t p.0 p.1 in
      let most = t.width * (t.width - 1) in
      rw (rounds_go_on t k p e)
      (omega (arith, suc-mul (length (greedy_rounds k new).pairs) most, marks_most t (fits t right), trials_few k new (still_right t right p.0 p.1)))
      )
]

-- THEOREM: on any table of width n greedy chooses at most n pairs, by at most n(n - 1)n trials.
module _ (t : Table) (right : wrong_width t ≡ false) where
  pub pairs_any : length (greedy_from t).pairs ≤ t.width
  pairs_any = omega (arith, pairs_few (marks_of t) t right)

  pub trials_any : (greedy_from t).trials ≤ t.width * (t.width * (t.width - 1))
  trials_any = omega (arith, trials_few (marks_of t) t right, mul-le-mul_right (t.width * (t.width - 1)) pairs_any)

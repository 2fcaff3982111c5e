-- Greedy ends, and leaves no pair to add: its rounds are those of crate `orders` under the rule of the best pair, so that crate's one law
-- of rounds says both. Assumes nothing.
use Prim.Native.Nat.{ℕ, zero, suc, ◌+◌, ◌*◌, ◌-◌, ◌≤◌}
use mathlib.Core.Path.{◌≡◌, refl, sym, ap, subst, ◌∙◌}
use mathlib.Core.Logic.{inl, inr}
use mathlib.Core.Bool.{Bool, true, false}
use mathlib.Core.List.{List, [], ◌∷◌, reverse, reverse_aux}
use native.Mathlib.Nat.{mul-le-mul_right, mul_comm}
use native.Mathlib.Omega.{arith}
use lib.ListN.{length, length-reverse_aux}
use Rattle.basics.specs.Choice.{pick}
use Rattle.bits.specs.Bits as bits
use Rattle.bits.proofs.Sums.{total_cut}
use Rattle.orders.specs.Indices.{from}
use Rattle.orders.specs.Runs.{Circuit, Lawful, Pair}
use Rattle.orders.specs.Table as orders
use Rattle.orders.specs.Rounds.{Chooses, rounds, NoneLeft, Maximal, Ended, total, row_count, yes_count}
use Rattle.orders.proofs.Rounds.{rounds-none, rounds-some, rounds_end, rounds_grown}
use Rattle.table.specs.Limits.{most_wires}
use Rattle.table.specs.Marks.{counts, marks_of}
use Rattle.table.specs.Rule.{accepted_in, accepted}
use Rattle.table.specs.Calls.{wrong_width}
use Rattle.table.specs.Growing.{view}
use Rattle.table.specs.declared.tables.Table.{Table}
use Rattle.choosers.specs.Trying.{score_in, best_pair}
use Rattle.choosers.specs.Greedy.{Choosing, greedy_rounds, greedy_from, after}
use Rattle.choosers.specs.GrownTables.{state_of, greedy_rule, GrownFrom}
use Rattle.choosers.proofs.YesPairs.{counts_within, far_lender, far_taker, fits, yes_updated}
use Rattle.choosers.proofs.BestPairs.{best_found, best_none, best_same}
use Rattle.orders.proofs.Turned.{reverse_twice, maximal_turned}
use Rattle.choosers.proofs.GreedyRounds.{best_is, none_left, chosen, rounds_over, rounds_go_on, still_right, trials_few}

-- the rule of the best pair picks only yes pairs, and none only where no yes is left
pub rule_chooses : (w : ℕ) → Chooses w (greedy_rule w)
unfolding greedy_rule
rule_chooses w = record {
  only_yes = λ T h l t e. (best_found T.mark _ w h (l, t) e).is_yes;
  none_left = λ T h e. best_none T.mark _ w h e;
}

-- ---- a table and its marks

module _ (t : Table) (right : wrong_width t ≡ false) where
  accept_marks : (l k : ℕ) → counts t l k ≡ true → view (accepted t l k) ≡ orders.accept (l, k) (view t)
  unfolding orders.accept
  accept_marks l k mark =
      let u = yes_updated t right l k mark in
      λ i. record { mark = λ a b. u.marks a b i; lent = λ a. u.lenders a i; taken = λ b. u.takers b i }

  rule_best : greedy_rule t.width (view t) ≡ best_pair t
  unfolding greedy_rule best_pair marks_of
  rule_best =
      best_same (counts t) _ (score_in t)
      (λ l k mark. ap (λ (T : orders.Table). bits.total most_wires (λ u. bits.tally most_wires (T.mark u))) (sym (accept_marks l k mark)))
      t.width

-- what the rounds leave, as crate `orders` keeps it: the latest pair first
abbrev left : List Pair → Choosing → orders.State
left ps c = state_of c.table (reverse_aux c.pairs ps)

-- THEOREM: greedy's rounds are those of crate `orders` under that rule.
pub rounds_are : (k : ℕ) (t : Table) (ps : List Pair) → wrong_width t ≡ false
    → rounds (greedy_rule t.width) k (state_of t ps) ≡ left ps (greedy_rounds k t)
unfolding rounds greedy_rounds accepted_in
rounds_are zero t ps right = refl
rounds_are (suc k) t ps right = elim (chosen t) [
  | inl e ↦ rounds-none (greedy_rule t.width) (suc k) (state_of t ps) (rule_best t right ∙ e) ∙ ap (left ps) (sym (rounds_over t (suc k) e))
  | inr (p, e) ↦ (
      let mark = (best_is t p e).is_yes in
      let new = accepted t p.0 p.1 in
      rounds-some (greedy_rule t.width) k (state_of t ps) p (rule_best t right ∙ e) mark
      ∙ ap (λ (T : orders.Table). rounds (greedy_rule t.width) k (record { table = T; pairs = p ∷ ps })) (sym (accept_marks t right p.0 p.1 mark))
      ∙ rounds_are k new (p ∷ ps) (still_right t right p.0 p.1)
      ∙ ap (left ps) (sym (rounds_go_on t k p e))
      )
]

-- ---- the two ways to count agree

-- the sum over a list of numbers that follow one another
sum_from : (f : ℕ → ℕ) (k c : ℕ) → total f (from k c) + bits.total k f ≡ bits.total (k + c) f
unfolding total from bits.total
sum_from f k zero = let e : k + 0 ≡ k = omega arith in rw e (omega arith)
sum_from f k (suc c) = let e : suc k + c ≡ k + suc c = omega arith in
    let rest : total f (from (suc k) c) + (bits.total k f + f k) ≡ bits.total (k + suc c) f = rw e at (sum_from f (suc k) c) in
    omega arith

sum_below : (f : ℕ → ℕ) (n : ℕ) → total f (from 0 n) ≡ bits.total n f
unfolding bits.total
sum_below f n = let e : 0 + n ≡ n = omega arith in
    let all : total f (from 0 n) + 0 ≡ bits.total n f = rw e at (sum_from f 0 n) in
    omega arith

digit-pick : (b : Bool) → pick b 1 0 ≡ bits.digit b
digit-pick true = refl
digit-pick false = refl

module _ (t : Table) (right : wrong_width t ≡ false) where
  row_count_lem : (l : ℕ) → row_count t.width (view t) l ≡ bits.tally most_wires (counts t l)
  unfolding row_count
  row_count_lem l =
      sum_below _ t.width
      ∙ (λ i. bits.total t.width (λ k. digit-pick (counts t l k) i))
      ∙ sym (total_cut t.width most_wires (λ k. bits.digit (counts t l k)) (fits t right) (far_taker t l))

  pub yes_count_lem : yes_count t.width (view t) ≡ marks_of t
  unfolding yes_count marks_of
  yes_count_lem =
      sum_below _ t.width
      ∙ (λ i. bits.total t.width (λ l. row_count_lem l i))
      ∙ sym (total_cut t.width most_wires (λ l. bits.tally most_wires (counts t l)) (fits t right) (far_lender t))

  -- THEOREM: after greedy no yes is left, on any table.
  pub greedy_ends : (l k : ℕ) → counts (greedy_from t).table l k ≡ false
  greedy_ends =
      subst (λ (s : orders.State). NoneLeft s.table) (rounds_are (marks_of t) t [] right)
      (rounds_end t.width (greedy_rule t.width) (rule_chooses t.width) (state_of t []) (counts_within t) (marks_of t) (omega (arith, yes_count_lem)))

-- where no yes is left, more rounds change nothing
rounds_enough : (k more : ℕ) (t : Table) → ((l v : ℕ) → counts (greedy_rounds k t).table l v ≡ false) → greedy_rounds (k + more) t ≡ greedy_rounds k t
unfolding greedy_rounds
rounds_enough zero more t h = rounds_over t (0 + more) (none_left t h)
rounds_enough (suc k) more t h = elim (chosen t) [
  | inl e ↦ rounds_over t (suc k + more) e ∙ sym (rounds_over t (suc k) e)
  | inr (p, e) ↦ (
      let new = accepted t p.0 p.1 in
      let step : suc k + more ≡ suc (k + more) = omega arith in
      let over = subst (λ (c : Choosing). (l v : ℕ) → counts c.table l v ≡ false) (rounds_go_on t k p e) h in
      ap (λ (n : ℕ). greedy_rounds n t) step
      ∙ rounds_go_on t (k + more) p e
      ∙ ap (after p (marks_of t)) (rounds_enough k more new over)
      ∙ sym (rounds_go_on t k p e)
      )
]

-- THEOREM: as many rounds as there are yes marks are enough: more change nothing.
pub greedy_stays : (t : Table) → wrong_width t ≡ false → (k : ℕ) → marks_of t ≤ k → greedy_rounds k t ≡ greedy_from t
greedy_stays t right k le =
    let e : k ≡ marks_of t + (k - marks_of t) = omega arith in
    ap (λ (n : ℕ). greedy_rounds n t) e ∙ rounds_enough (marks_of t) (k - marks_of t) t (greedy_ends t right)

-- ---- tables grown from a circuit

module _ (C : Circuit) (law : Lawful C) (t : Table) (ps : List Pair) (h : GrownFrom C t ps) where
  -- THEOREM: on a table grown from a circuit no pair can be added after greedy, and there are fewer pairs than wires.
  pub greedy_ended : Ended C (state_of (greedy_from t).table (reverse_aux (greedy_from t).pairs ps))
  greedy_ended =
      let enough = marks_of t + C.width in
      let rule : Chooses C.width (greedy_rule t.width) = subst (λ (w : ℕ). Chooses w (greedy_rule t.width)) h.wires (rule_chooses t.width) in
      subst (λ (s : orders.State). Ended C s)
      (rounds_are enough t ps h.right ∙ ap (left ps) (greedy_stays t h.right enough (omega arith)))
      (rounds_grown C law (greedy_rule t.width) rule (state_of t ps) h.grown enough (omega arith))

  -- THEOREM: and at most n(n - 1)(n - 1) trials are made, on n wires.
  pub trials_grown : (greedy_from t).trials ≤ C.width * (C.width - 1) * (C.width - 1)
  trials_grown =
      let n = C.width in
      let few : length (greedy_from t).pairs ≤ n - 1 = omega (arith, greedy_ended.few, length-reverse_aux (greedy_from t).pairs ps) in
      let all = subst (λ (w : ℕ). (greedy_from t).trials ≤ length (greedy_from t).pairs * (w * (w - 1))) h.wires (trials_few (marks_of t) t h.right) in
      omega (arith, all, mul-le-mul_right (n * (n - 1)) few, mul_comm (n - 1) (n * (n - 1)))

-- THEOREM: no pair can be added to the list that greedy chooses from a circuit's table.
pub greedy_maximal : (C : Circuit) → Lawful C → (t : Table) → GrownFrom C t [] → Maximal C (greedy_from t).pairs
greedy_maximal C law t h =
    subst (λ (ps : List Pair). Maximal C ps) (reverse_twice (greedy_from t).pairs)
    (maximal_turned C (reverse (greedy_from t).pairs) (greedy_ended C law t [] h).maximal)

-- The list that greedy hands back by value: it holds its entries, they are the pairs chosen, and these are below the width.
-- Assumes nothing.
use Prim.Native.Nat.{ℕ, zero, suc, ◌+◌, ◌-◌, ◌≤◌, ◌<◌}
use mathlib.Core.Path.{◌≡◌, refl, sym, ap, subst, ◌∙◌}
use mathlib.Core.Logic.{inl, inr}
use mathlib.Core.Bool.{Bool, true, false}
use mathlib.Core.List.{List, [], ◌∷◌, map}
use native.Mathlib.Omega.{arith}
use native.Mathlib.Numerals.{add-one}
use lib.ListN.{length, get_or, take, drop, replicate, length-append, length-map, drop_of_length-le, get_or-map}
use lib.Seq.{take_at, drop-cons, length-take-le}
use Rattle.basics.specs.Choice.{pick}
use Rattle.basics.specs.Outcome.{done, refused}
use Rattle.basics.proofs.Outcomes.{not_refused}
use Rattle.orders.specs.Runs as runs
use Rattle.table.specs.Rule.{accepted_in, accepted}
use Rattle.table.specs.Calls.{wrong_width}
use Rattle.table.specs.declared.tables.Table.{Table}
use Rattle.choosers.specs.Greedy.{greedy_rounds, greedy_from}
use Rattle.choosers.specs.Results.{most_pairs, pair_of, list_of, numbers_of, first_pairs, pairs_of, Sized, handed_back, greedy_of}
use Rattle.choosers.specs.declared.answers.Pair.{Pair}
use Rattle.choosers.specs.declared.answers.Rounds.{Rounds}
use Rattle.choosers.proofs.YesPairs.{counts_within, fits}
use Rattle.choosers.proofs.GreedyRounds.{best_is, chosen, rounds_over, rounds_go_on, still_right, pairs_any}

-- the pairs of a list that was made of pairs are those
pub pairs_back : (ps : List runs.Pair) → pairs_of (list_of ps) ≡ ps
pairs_back ps =
    ap (map numbers_of)
    (take_at (map pair_of ps) (replicate (most_pairs - length ps) (pair_of (0, 0))) (length ps) (length-map ps pair_of))
    ∙ there_and_back ps
  where
    there_and_back : (qs : List runs.Pair) → map numbers_of (map pair_of qs) ≡ qs
    there_and_back [] = refl
    there_and_back (q ∷ qs) = ap (λ (rest : List runs.Pair). q ∷ rest) (there_and_back qs)

-- a list has as many pairs as entries are taken
pub size : (entries : List Pair) (n : ℕ) → n ≤ length entries → length (first_pairs n entries) ≡ n
size entries n held = length-map (take n entries) numbers_of ∙ length-take-le n entries held

-- the first of the pairs that are left, and none left
module _ (entries : List Pair) (i : ℕ) where
  pub pair_next : (d : Pair) → i < length entries
      → drop i (map numbers_of entries) ≡ numbers_of (get_or entries i d) ∷ drop (i + 1) (map numbers_of entries)
  pair_next d h =
      drop-cons (map numbers_of entries) i (numbers_of d) (omega (arith, length-map entries numbers_of))
      ∙ ap (λ (p : runs.Pair). p ∷ drop (suc i) (map numbers_of entries)) (get_or-map numbers_of entries i d)
      ∙ ap (λ (k : ℕ). numbers_of (get_or entries i d) ∷ drop k (map numbers_of entries)) (sym (add-one i))

  pub pairs_over : length entries ≤ i → drop i (map numbers_of entries) ≡ []
  pairs_over h = drop_of_length-le (map numbers_of entries) {i = i} (omega (arith, length-map entries numbers_of))

-- greedy's list has room for its entries
pub greedy_sized : (t : Table) (r : Rounds) → greedy_of t ≡ done r → Sized r.list
unfolding greedy_of
greedy_sized t r e = go (wrong_width t) refl e
  where
    go : (b : Bool) → wrong_width t ≡ b → pick b (refused 27 0) (done (handed_back (greedy_from t))) ≡ done r → Sized r.list
    go true w e = absurd (not_refused e)
    go false w e =
        let z : handed_back (greedy_from t) ≡ r = cc in
        let ps = (greedy_from t).pairs in
        let few = pairs_any t w in
        let most = fits t w in
        let parts = length-append (map pair_of ps) (replicate (most_pairs - length ps) (pair_of (0, 0))) in
        subst (λ (q : Rounds). Sized q.list) z (record { few = omega arith; held = omega (arith, parts, length-map ps pair_of) })

-- both wires of each pair are below a number
abbrev pub Below : ℕ → List runs.Pair → Type 0
Below width [] = Unit {0}
Below width (p ∷ ps) = (p.0 < width) × (p.1 < width) × Below width ps

-- each round chooses wires of the table
rounds_below : (k : ℕ) (t : Table) → wrong_width t ≡ false → Below t.width (greedy_rounds k t).pairs
unfolding accepted_in greedy_rounds
rounds_below zero t right = tt
rounds_below (suc k) t right = elim (chosen t) [
  | inl e ↦ rw (rounds_over t (suc k) e) tt
  | inr (p, e) ↦ (
      let within = counts_within t p.0 p.1 (best_is t p e).is_yes in
      rw (rounds_go_on t k p e) (within.0, within.1, rounds_below k (accepted t p.0 p.1) (still_right t right p.0 p.1))
      )
]

pub pairs_below_lem : (t : Table) → wrong_width t ≡ false → Below t.width (greedy_from t).pairs
pairs_below_lem t right = rounds_below _ t right

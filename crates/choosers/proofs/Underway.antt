-- What holds between two rounds of the code: what it has chosen, with what the definition still chooses from its table, is the whole.
-- Assumes nothing.
use Prim.Native.Nat.{ℕ, suc, ◌+◌, ◌-◌, ◌≤◌, ◌<◌}
use mathlib.Core.Path.{◌≡◌, refl, sym, ap, subst, ◌∙◌}
use mathlib.Core.Logic.{inl, inr}
use mathlib.Core.Bool.{false}
use mathlib.Core.Option.{none, some}
use mathlib.Core.List.{List, [], ◌∷◌, ◌++◌, map, append-nil, append_assoc}
use native.Mathlib.Nat.{mul-le-mul, add-zero}
use native.Mathlib.Omega.{arith}
use lib.ListN.{length, set, replicate, length-append, length-map}
use lib.Seq.{set_at}
use Rattle.basics.specs.Outcome.{beside}
use Rattle.orders.specs.Runs as runs
use Rattle.table.specs.Limits.{most_wires}
use Rattle.table.specs.Marks.{marks_of}
use Rattle.table.specs.Rule.{accepted}
use Rattle.table.specs.Calls.{wrong_width, count_of}
use Rattle.table.specs.declared.tables.Table.{Table}
use Rattle.choosers.specs.Trying.{best_pair}
use Rattle.choosers.specs.Greedy.{Choosing, ended, greedy_rounds, greedy_from}
use Rattle.choosers.specs.Results.{most_pairs, trials_limit, pair_of, list_of, handed_back, stored, round_after}
use Rattle.choosers.specs.declared.answers.Pair.{Pair}
use Rattle.choosers.specs.declared.answers.PairList.{PairList}
use Rattle.choosers.specs.declared.answers.Rounds.{Rounds}
use Rattle.choosers.proofs.YesPairs.{marks_none, fits, count_is, yes_updated}
use Rattle.choosers.proofs.GreedyRounds.{best_is, none_chosen, chosen, rounds_over, rounds_go_on, still_right, pairs_any, trials_any}

-- ---- one pair more in the list by value

map_snoc : (ps : List runs.Pair) (p : runs.Pair) → map pair_of (ps ++ (p ∷ [])) ≡ map pair_of ps ++ (pair_of p ∷ [])
map_snoc [] p = refl
map_snoc (q ∷ ps) p = ap (λ (r : List Pair). pair_of q ∷ r) (map_snoc ps p)

module _ (ps : List runs.Pair) (p : runs.Pair) (room : length ps < most_pairs) where
  length_snoc : length (ps ++ (p ∷ [])) ≡ length ps + 1
  length_snoc = length-append ps (p ∷ [])

  abbrev empties : ℕ → List Pair
  empties n = replicate n (pair_of (0, 0))

  pub list_more : stored (list_of ps) (pair_of p) ≡ list_of (ps ++ (p ∷ []))
  list_more = λ i. record { pairs = pairs i; length = sym length_snoc i }
    where
      one_less : most_pairs - length ps ≡ suc (most_pairs - length (ps ++ (p ∷ [])))
      one_less = omega (arith, length_snoc)

      pairs : set (map pair_of ps ++ empties (most_pairs - length ps)) (length ps) (pair_of p)
          ≡ map pair_of (ps ++ (p ∷ [])) ++ empties (most_pairs - length (ps ++ (p ∷ [])))
      pairs =
          ap (λ (n : ℕ). set (map pair_of ps ++ empties n) (length ps) (pair_of p)) one_less
          ∙ set_at (map pair_of ps) (pair_of (0, 0)) (empties (most_pairs - length (ps ++ (p ∷ [])))) (pair_of p) (length ps) (length-map ps pair_of)
          ∙ sym (append_assoc (map pair_of ps) (pair_of p ∷ []) (empties (most_pairs - length (ps ++ (p ∷ [])))))
          ∙ ap (λ (xs : List Pair). xs ++ empties (most_pairs - length (ps ++ (p ∷ [])))) (sym (map_snoc ps p))

-- ---- between two rounds

-- the pairs and the trials so far, before what the later rounds leave
abbrev with : List runs.Pair → ℕ → Choosing → Choosing
with ps trials later = record { pairs = ps ++ later.pairs; table = later.table; trials = trials + later.trials }

-- these rounds are underway from the table t, and so many marks are left
pub record Underway (t : Table) (r : Rounds) (marks : ℕ) : Type 0 where
  -- the pairs chosen so far, and how many rounds may come
  pub pairs : List runs.Pair
  pub left : ℕ
  pub list : r.list ≡ list_of pairs
  pub right : wrong_width r.table ≡ false
  pub counted : marks ≡ marks_of r.table
  pub enough : marks ≤ left
  pub whole : greedy_from t ≡ with pairs r.trials (greedy_rounds left r.table)

module _ (t : Table) (right : wrong_width t ≡ false) where
  pub underway_first : (l : PairList) → l ≡ list_of [] → (marks : ℕ) → marks ≡ beside 0 (count_of t) → Underway t (record { list = l; table = t; trials = 0 }) marks
  underway_first l e marks m = record {
    pairs = [];
    left = marks_of t;
    list = e;
    right = right;
    counted = counted;
    enough = omega (arith, counted);
    whole = λ i. record { pairs = (greedy_from t).pairs; table = (greedy_from t).table; trials = zero_more i };
  }
    where
      counted : marks ≡ marks_of t
      counted = m ∙ ap (beside 0) (count_is t right)

      zero_more : (greedy_from t).trials ≡ 0 + (greedy_from t).trials
      zero_more = omega arith

  module _ (r : Rounds) (marks : ℕ) (h : Underway t r marks) where
    -- where no yes is left, all is done
    pub underway_last : marks ≡ 0 → r ≡ handed_back (greedy_from t)
    underway_last m =
        (λ i. record { list = h.list i; table = r.table; trials = r.trials })
        ∙ ap handed_back (sym (h.whole ∙ ap (with h.pairs r.trials) (rounds_over r.table h.left over) ∙ nothing_more))
      where
        over : best_pair r.table ≡ none
        over = elim (chosen r.table) [
          | inl e ↦ e
          | inr (p, e) ↦ absurd (omega (arith, h.counted, (yes_updated r.table h.right p.0 p.1 (best_is r.table p e).is_yes).fewer))
        ]

        nothing_more : with h.pairs r.trials (ended r.table) ≡ record { pairs = h.pairs; table = r.table; trials = r.trials }
        nothing_more = λ i. record { pairs = append-nil h.pairs i; table = r.table; trials = add-zero r.trials i }

    -- while a yes is left, a pair is chosen
    module _ (some_left : 0 < marks) where
      next : (p : runs.Pair) × (best_pair r.table ≡ some p)
      next = elim (chosen r.table) [
        | inl e ↦ absurd (omega (arith, h.counted, marks_none r.table (none_chosen r.table e)))
        | inr c ↦ c
      ]

      abbrev p : runs.Pair
      p = next.0

      abbrev later : Choosing
      later = greedy_rounds (h.left - 1) (accepted r.table p.0 p.1)

      one_more : greedy_from t ≡ with (h.pairs ++ (p ∷ [])) (r.trials + marks) later
      one_more =
          h.whole
          ∙ ap (λ (k : ℕ). with h.pairs r.trials (greedy_rounds k r.table)) counts_down
          ∙ ap (with h.pairs r.trials) (rounds_go_on r.table (h.left - 1) p next.1)
          ∙ (λ i. record { pairs = sym (append_assoc h.pairs (p ∷ []) later.pairs) i; table = later.table; trials = tried i })
        where
          counts_down : h.left ≡ suc (h.left - 1)
          counts_down = omega (arith, h.enough)

          tried : r.trials + (marks_of r.table + later.trials) ≡ r.trials + marks + later.trials
          tried = omega (arith, h.counted)

      few : length h.pairs < most_pairs
      few =
          let all = ap (λ (c : Choosing). length c.pairs) one_more in
          omega (arith, length-append (h.pairs ++ (p ∷ [])) later.pairs, length-append h.pairs (p ∷ []), pairs_any t right, fits t right)

      -- there is room for it in the list, and for its trials in the count
      pub room : r.list.length < most_pairs
      room = omega (arith, few, ap (λ (l : PairList). l.length) h.list)

      pub trials_room : r.trials + marks < trials_limit
      trials_room =
          let all = ap (λ (c : Choosing). c.trials) one_more in
          let w = fits t right in
          let below : t.width - 1 ≤ most_wires = omega arith in
          omega (arith, trials_any t right, mul-le-mul w (mul-le-mul w below))

      -- and the rounds with it are underway, with fewer marks
      pub underway_more : (after : Rounds) → after ≡ round_after r marks (best_pair r.table) → (n : ℕ) → n ≡ beside 0 (count_of after.table) → Underway t after n × (n < marks)
      underway_more after e n m = subst (λ (x : Rounds). n ≡ beside 0 (count_of x.table) → Underway t x n × (n < marks)) (sym (e ∙ ap (round_after r marks) next.1)) go m
        where
          still : wrong_width (accepted r.table p.0 p.1) ≡ false
          still = still_right r.table h.right p.0 p.1

          fewer : marks_of (accepted r.table p.0 p.1) < marks_of r.table
          fewer = (yes_updated r.table h.right p.0 p.1 (best_is r.table p next.1).is_yes).fewer

          go : n ≡ beside 0 (count_of (accepted r.table p.0 p.1)) → Underway t (round_after r marks (some p)) n × (n < marks)
          go c =
              let counted = c ∙ ap (beside 0) (count_is (accepted r.table p.0 p.1) still) in (
                record {
                  pairs = h.pairs ++ (p ∷ []);
                  left = h.left - 1;
                  list = ap (λ (l : PairList). stored l (pair_of p)) h.list ∙ list_more h.pairs p few;
                  right = still;
                  counted = counted;
                  enough = omega (arith, fewer, counted, h.counted, h.enough);
                  whole = one_more;
                },
                omega (arith, fewer, counted, h.counted),
              )

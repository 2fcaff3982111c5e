-- Rounds over any rule of choice end: on any table, since each accepted pair strikes a yes and makes none; on a table grown from a circuit
-- after at most width - 1 rounds, since allowed pairs are fewer than the wires, and then no pair can be added. Assumes nothing.
use Prim.Native.Nat.{ℕ, zero, suc, ◌-◌, ◌≤◌, ◌<◌}
use mathlib.Core.Path.{◌≡◌, refl, ap, subst}
use mathlib.Core.Logic.{◌⊎◌, inl, inr}
use mathlib.Core.Bool.{Bool, true, false}
use mathlib.Core.Option.{Option, none, some}
use mathlib.Core.List.{List, [], ◌∷◌}
use native.Mathlib.Omega.{arith}
use lib.ListN.{length}
use lib.Dec.{eqb}
use borrow.Author.Tests.{eq-eqb}
use Rattle.basics.specs.Choice.{pick}
use Rattle.basics.proofs.Tests.{not_both, refuted}
use Rattle.orders.specs.Indices.{In, from}
use Rattle.orders.specs.Runs.{Circuit, Lawful, Pair}
use Rattle.orders.specs.Table.{Table, State, Start, Grown, Within, accept, accepted, fresh}
use Rattle.orders.specs.Rounds.{Chooser, Chooses, rounds, NoneLeft, Ended, total, row_count, yes_count}
use Rattle.orders.proofs.Indices.{from_in}
use Rattle.orders.proofs.Table.{accept-mark, offer_yes, accepted_grown, start_exact, exact_allowed, exact_within}
use Rattle.orders.proofs.Pairs.{allowed_few}

-- where none is chosen the rounds are over; where a yes is, it is accepted and they go on
pub rounds-none : (choose : Chooser) (k : ℕ) (s : State) → choose s.table ≡ none → rounds choose k s ≡ s
unfolding rounds
rounds-none choose zero s e = refl
rounds-none choose (suc k) s e = rw (rounds, e)

pub rounds-some : (choose : Chooser) (k : ℕ) (s : State) (p : Pair) → choose s.table ≡ some p → s.table.mark p.0 p.1 ≡ true
    → rounds choose (suc k) s ≡ rounds choose k (accepted p s)
unfolding rounds
rounds-some choose k s p e m = rw (rounds, e) (ap (rounds choose k) (offer_yes p s m))

-- ## Rounds over anything that falls

module _ (w : ℕ) (choose : Chooser) (rule : Chooses w choose) (Inv : State → Type 0) (measure : State → ℕ)
    (narrow : (s : State) → Inv s → Within w s.table)
    (falls : (p : Pair) (s : State) → Inv s → s.table.mark p.0 p.1 ≡ true → Inv (accepted p s) × (measure (accepted p s) < measure s)) where
  -- none is chosen and no yes is left, or a yes is chosen
  chosen : (s : State) → Inv s
      → ((choose s.table ≡ none) × NoneLeft s.table) ⊎ ((p : Pair) × (choose s.table ≡ some p) × (s.table.mark p.0 p.1 ≡ true))
  chosen s h = go (choose s.table) refl
    where
      go : (c : Option Pair) → choose s.table ≡ c
          → ((choose s.table ≡ none) × NoneLeft s.table) ⊎ ((p : Pair) × (choose s.table ≡ some p) × (s.table.mark p.0 p.1 ≡ true))
      go none e = inl (e, rule.none_left s.table (narrow s h) e)
      go (some p) e = inr (p, e, rule.only_yes s.table (narrow s h) p.0 p.1 e)

  -- where nothing can fall, no yes is left
  at_bottom : (s : State) → Inv s → measure s ≤ 0 → NoneLeft s.table
  at_bottom s h b l t = refuted (s.table.mark l t) (λ m. omega (arith, (falls (l, t) s h m).1))

  -- enough rounds leave no yes
  pub rounds_ended : (k : ℕ) (s : State) → Inv s → measure s ≤ k → Inv (rounds choose k s) × NoneLeft (rounds choose k s).table
  unfolding rounds
  rounds_ended zero s h b = (h, at_bottom s h b)
  rounds_ended (suc k) s h b = elim (chosen s h) [
    | inl c ↦ rw (rounds-none choose (suc k) s c.0) (h, c.1)
    | inr (p, e, m) ↦ (let f = falls p s h m in rw (rounds-some choose k s p e m) (rounds_ended k (accepted p s) f.0 (omega arith)))
  ]

-- ## The yes marks fall

total_le : (f g : ℕ → ℕ) (xs : List ℕ) → ((i : ℕ) → f i ≤ g i) → total f xs ≤ total g xs
unfolding total
total_le f g [] le = omega arith
total_le f g (x ∷ xs) le = omega (arith, le x, total_le f g xs le)

total_lt : (f g : ℕ → ℕ) (xs : List ℕ) → ((i : ℕ) → f i ≤ g i) → (a : ℕ) → In a xs → f a < g a → total f xs < total g xs
unfolding total
total_lt f g [] le a h lt = absurd h
total_lt f g (x ∷ xs) le a (inl e) lt = let here = subst (λ z. f z < g z) e lt in omega (arith, total_le f g xs le)
total_lt f g (x ∷ xs) le a (inr h) lt = omega (arith, le x, total_lt f g xs le a h lt)

pick_le : (a b : Bool) → (a ≡ true → b ≡ true) → pick a 1 0 ≤ pick b 1 0
pick_le true b h = rw (h refl) (omega arith)
pick_le false b h = omega arith

pick_lt : (a b : Bool) → a ≡ false → b ≡ true → pick a 1 0 < pick b 1 0
pick_lt a b e f = rw (e, f) (omega arith)

-- accepting a pair makes no new yes
accept_fewer : (p : Pair) (T : Table) (u v : ℕ) → (accept p T).mark u v ≡ true → T.mark u v ≡ true
accept_fewer p T u v m = ((accept-mark p.0 p.1 T u v).0 m).2

accept_within : (w : ℕ) (p : Pair) (T : Table) → Within w T → Within w (accept p T)
accept_within w p T h l t m = h l t (accept_fewer p T l t m)

-- THEOREM: each round of a yes pair leaves at least one yes less.
pub yes_fall : (w l t : ℕ) (T : Table) → Within w T → T.mark l t ≡ true → yes_count w (accept (l, t) T) < yes_count w T
unfolding yes_count row_count
yes_fall w l t T h m =
    let b = h l t m in
    total_lt (row_count w (accept (l, t) T)) (row_count w T) (from 0 w)
    (λ u. total_le _ _ (from 0 w) (λ v. pick_le _ _ (accept_fewer (l, t) T u v)))
    l (from_in 0 w l (omega arith) (omega arith))
    (total_lt _ _ (from 0 w) (λ v. pick_le _ _ (accept_fewer (l, t) T l v))
    t (from_in 0 w t (omega arith) (omega arith))
    (pick_lt _ _ (refuted _ (λ k. not_both (eqb l l) (eq-eqb l l refl) ((accept-mark l t T l t).0 k).0)) m))

module _ (w : ℕ) (choose : Chooser) (rule : Chooses w choose) where
  -- ## On any table

  -- how many yes marks are left
  yes : State → ℕ
  yes s = yes_count w s.table

  count_falls : (p : Pair) (s : State) → Within w s.table → s.table.mark p.0 p.1 ≡ true
      → Within w (accepted p s).table × (yes (accepted p s) < yes s)
  unfolding yes
  count_falls p s h m = (accept_within w p s.table h, yes_fall w p.0 p.1 s.table h m)

  -- THEOREM: on any table of width w, as many rounds as it has yes marks leave no yes.
  pub rounds_end : (s : State) → Within w s.table → (k : ℕ) → yes_count w s.table ≤ k → NoneLeft (rounds choose k s).table
  unfolding yes
  rounds_end s h k b = (rounds_ended w choose rule (λ s. Within w s.table) yes (λ s h. h) count_falls k s h b).1

-- ## On a table grown from a circuit

module _ (C : Circuit) (law : Lawful C) (choose : Chooser) (rule : Chooses C.width choose) where
  -- how many pairs may still come
  left : State → ℕ
  left s = (C.width - 1) - length s.pairs

  narrow : (s : State) → Grown C s → Within C.width s.table
  narrow s = exact_within C law s.table s.pairs

  left_falls : (p : Pair) (s : State) → Grown C s → s.table.mark p.0 p.1 ≡ true
      → Grown C (accepted p s) × (left (accepted p s) < left s)
  unfolding left
  left_falls p s h m =
      let e = accepted_grown C law p s h m in
      let few : suc (length s.pairs) ≤ C.width - 1 = allowed_few C law (p ∷ s.pairs) e.allowed in
      (e, omega arith)

  -- THEOREM: on a table grown from a circuit, width - 1 rounds leave no yes, and no pair can be added to the list.
  pub rounds_grown : (s : State) → Grown C s → (k : ℕ) → C.width - 1 ≤ k → Ended C (rounds choose k s)
  unfolding left
  rounds_grown s h k b =
      let r = rounds_ended C.width choose rule (Grown C) left narrow left_falls k s h (omega arith) in
      record {
        grown = r.0;
        none_left = r.1;
        maximal = record { allowed = r.0.allowed; no_more = λ l t a. not_both _ ((exact_allowed C law _ _ r.0 l t).1 a) (r.1 l t) };
        few = allowed_few C law _ r.0.allowed;
      }

  -- THEOREM: from the start table, width - 1 rounds choose a list to which no pair can be added.
  pub rounds_start : (T : Table) → Start C T → Ended C (rounds choose (C.width - 1) (fresh T))
  rounds_start T st = rounds_grown (fresh T) (start_exact C law T st) (C.width - 1) (omega arith)

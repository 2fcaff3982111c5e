-- A list of pairs and the lenders that say the same pairs: the order of writing is the list's, and where the list is allowed each chain has a
-- first wire, qubits are wires less pairs, and on each qubit the stretches follow one another. Assumes nothing.
use Prim.Native.Nat.{ℕ, zero, suc, ◌+◌, ◌<◌}
use mathlib.Core.Path.{◌≡◌, sym, ap, subst, ◌∙◌}
use mathlib.Core.Logic.{◌⊎◌, inl, inr, ◌≢◌}
use mathlib.Core.Bool.{true, false}
use mathlib.Core.List.{List, [], ◌∷◌}
use native.Mathlib.Omega.{arith}
use lib.ListN.{length}
use Rattle.basics.specs.Outcome.{done}
use Rattle.basics.proofs.Tests.{true_or_false, not_both, below_or_not}
use Rattle.orders.specs.Indices.{In, Once}
use Rattle.orders.specs.Runs.{Pair, Runs, Allowed, SamePairs, lenders_of, takers_of}
use Rattle.orders.specs.Schedule.{schedule}
use Rattle.orders.proofs.Indices.{once_fits}
use Rattle.orders.proofs.Pairs.{taker_in, takers_length}
use Rattle.orders.proofs.Runs.{runs_same}
use Rattle.orders.proofs.Schedule.{schedule_same}
use Rattle.circuits.specs.Reading.{Static, read_circuit}
use Rattle.circuits.proofs.Validity.{read_valid}
use Rattle.precedence.specs.Precedence.{on, prec, circuit_of, Wired}
use Rattle.precedence.proofs.Precedence.{on-prec}
use Rattle.pairs.specs.Lending.{takes, pairs_below, pairs_of}
use Rattle.writer.specs.Chains.{qubit_of, qubits, Begun}
use Rattle.writer.specs.Outputs.{order_of, output_of}
use Rattle.writer.proofs.Pairs.{pairs_none, pairs_taker, pairs_first, below_in}
use Rattle.writer.proofs.Chains.{qubits_and_pairs}
use Rattle.writer.proofs.Stretches.{Stretched, run_begun, stretches_apart}
use Rattle.writer.proofs.Outputs.{order_runs, output-length}

-- ## Lenders and takers of a list

in_lenders : (ps : List Pair) (l t : ℕ) → In (l, t) ps → In l (lenders_of ps)
in_lenders [] l t h = absurd h
in_lenders (p ∷ ps) l t (inl e) = inl (ap (λ (q : Pair). q.0) e)
in_lenders (p ∷ ps) l t (inr h) = inr (in_lenders ps l t h)

pub in_takers : (ps : List Pair) (l t : ℕ) → In (l, t) ps → In t (takers_of ps)
in_takers [] l t h = absurd h
in_takers (p ∷ ps) l t (inl e) = inl (ap (λ (q : Pair). q.1) e)
in_takers (p ∷ ps) l t (inr h) = inr (in_takers ps l t h)

-- a lender that lends once has one taker
one_taker : (ps : List Pair) → Once (lenders_of ps) → (l t u : ℕ) → In (l, t) ps → In (l, u) ps → t ≡ u
one_taker [] o l t u h k = absurd h
one_taker (p ∷ ps) o l t u (inl e) (inl f) = ap (λ (q : Pair). q.1) e ∙ sym (ap (λ (q : Pair). q.1) f)
one_taker (p ∷ ps) o l t u (inl e) (inr k) = absurd (o.0 (subst (λ z. In z (lenders_of ps)) (ap (λ (q : Pair). q.0) e) (in_lenders ps l u k)))
one_taker (p ∷ ps) o l t u (inr h) (inl f) = absurd (o.0 (subst (λ z. In z (lenders_of ps)) (ap (λ (q : Pair). q.0) f) (in_lenders ps l t h)))
one_taker (p ∷ ps) o l t u (inr h) (inr k) = one_taker ps o.1 l t u h k

-- the pairs that lenders say have each taker once
takers_once : (lenders : List ℕ) (width k : ℕ) → Once (takers_of (pairs_below lenders width k))
takers_once lenders width zero = subst (λ ps. Once (takers_of ps)) (sym (pairs_none lenders width)) tt
takers_once lenders width (suc k) = elim (true_or_false (takes lenders width k)) [
  | inl t ↦ subst (λ ps. Once (takers_of ps)) (sym (pairs_taker lenders width k t)) (
    λ h. (let r = taker_in (pairs_below lenders width k) k h in let b = (below_in lenders width k r.0 k r.1).0 in omega arith),
    takers_once lenders width k,
  )
  | inr f ↦ subst (λ ps. Once (takers_of ps)) (sym (pairs_first lenders width k f)) (takers_once lenders width k)
]

-- lists of the same pairs, each taker once, are as long
fewer : (ps qs : List Pair) → ((l t : ℕ) → In (l, t) ps → In (l, t) qs) → (t : ℕ) → In t (takers_of ps) → In t (takers_of qs)
fewer ps qs sub t h = let r = taker_in ps t h in in_takers qs r.0 t (sub r.0 t r.1)

same_length : (ps qs : List Pair) → Once (takers_of ps) → Once (takers_of qs) → SamePairs ps qs → length ps ≡ length qs
same_length ps qs a b same = omega (
  arith,
  once_fits (takers_of ps) (takers_of qs) a (fewer ps qs (λ l t. (same l t).0)),
  once_fits (takers_of qs) (takers_of ps) b (fewer qs ps (λ l t. (same l t).1)),
  takers_length ps,
  takers_length qs,
)

-- ## A list and its lenders

module _ (c : Static) (wired : Wired c) (lenders : List ℕ) (ps : List Pair) (same : SamePairs ps (pairs_of lenders c.width)) where
  -- THEOREM: the order of writing is that of the list.
  pub order_of_list : order_of lenders c ≡ schedule (circuit_of c) ps
  order_of_list = schedule_same (circuit_of c) (pairs_of lenders c.width) ps (λ l t. ((same l t).1, (same l t).0))

  module _ (ok : Allowed (circuit_of c) ps) where
    pub list_runs : Runs (circuit_of c) (pairs_of lenders c.width)
    list_runs = (runs_same (circuit_of c) ps (pairs_of lenders c.width) same).0 ok.runs

    -- THEOREM: each chain has a first wire.
    pub list_begun : Begun lenders c.width
    list_begun = run_begun c wired lenders (order_of lenders c) (order_runs c wired lenders list_runs)

    -- THEOREM: qubits and pairs together are as many as wires.
    pub qubits_and_list : qubits lenders c.width + length ps ≡ c.width
    qubits_and_list =
        omega (arith, qubits_and_pairs lenders c.width, same_length ps (pairs_of lenders c.width) ok.take_once (takers_once lenders c.width c.width) same)

    -- THEOREM: of the bytes of the circuit, one more is written.
    pub list_length : (s : List ℕ) → read_circuit s ≡ done c → length (output_of lenders (read_circuit s)) ≡ length s + 1
    list_length s e =
        ap (λ o. length (output_of lenders o)) e ∙ output-length c wired lenders list_runs ∙ ap (λ xs. length xs + 1) (sym (read_valid s e).bytes)

    -- THEOREM: of two wires with one qubit, all instructions of the one stand before all of the other.
    pub list_apart : (x y : ℕ) → x < c.width → y < c.width → x ≢ y → qubit_of lenders c.width x ≡ qubit_of lenders c.width y
        → Stretched c wired lenders (order_of lenders c) (order_runs c wired lenders list_runs) x y
        ⊎ Stretched c wired lenders (order_of lenders c) (order_runs c wired lenders list_runs) y x
    list_apart = stretches_apart c wired lenders (order_of lenders c) (order_runs c wired lenders list_runs)
        (λ l t u h k. one_taker ps ok.lend_once l t u ((same l t).1 h) ((same l u).1 k))

-- ## Neighbours that may be exchanged

-- THEOREM: two instructions of which neither must come before the other share no wire.
pub share_no_wire : (c : Static) (i j : ℕ) → i ≢ j → prec c.steps i j ≡ false → prec c.steps j i ≡ false
    → (x : ℕ) → on c.steps x i ≡ true → on c.steps x j ≡ true → ⊥
share_no_wire c i j d a b x o p = elim (below_or_not i j) [
  | inl l ↦ not_both (prec c.steps i j) (on-prec c.steps x i j l o p) a
  | inr l ↦ not_both (prec c.steps j i) (on-prec c.steps x j i (omega arith) p o) b
]

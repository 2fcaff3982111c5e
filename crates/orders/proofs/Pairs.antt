-- Allowed pairs are fewer than the wires: the lender whose measurement comes first in a run takes from nobody. Assumes nothing.
use Prim.Native.Nat.{ℕ, suc, ◌-◌, ◌≤◌, ◌<◌}
use mathlib.Core.Path.{◌≡◌, refl, sym, ap, subst}
use mathlib.Core.Logic.{inl, inr}
use mathlib.Core.Bool.{Bool, true}
use mathlib.Core.List.{List, [], ◌∷◌}
use native.Mathlib.Omega.{arith}
use lib.ListN.{length}
use lib.Dec.{eqb}
use borrow.Author.Tests.{eqb-true, eq-eqb}
use Rattle.basics.proofs.Tests.{not_both}
use Rattle.orders.specs.Indices.{In, Before, any}
use Rattle.orders.specs.Runs.{Circuit, Lawful, Pair, Run, BetweenWires, Allowed, takers_of}
use Rattle.orders.proofs.Indices.{first_or_none, before_trans, before_left, any_in, any_which, once_below}

-- a taker has a lender
pub taker_in : (ps : List Pair) (t : ℕ) → In t (takers_of ps) → (l : ℕ) × In (l, t) ps
taker_in [] t h = absurd h
taker_in (p ∷ ps) t (inl e) = (p.0, inl (ap (λ z. (p.0, z)) e))
taker_in (p ∷ ps) t (inr h) = let r = taker_in ps t h in (r.0, inr r.1)

pub takers_length : (ps : List Pair) → length (takers_of ps) ≡ length ps
takers_length [] = refl
takers_length (p ∷ ps) = ap suc (takers_length ps)

module _ (C : Circuit) (law : Lawful C) where
  -- whether i is the measurement of a lender
  lender_at : List Pair → ℕ → Bool
  lender_at ps i = any (λ (p : Pair). eqb i (C.meas_of p.0)) ps

  lender_at_lem : (ps : List Pair) (p : Pair) → In p ps → lender_at ps (C.meas_of p.0) ≡ true
  unfolding lender_at
  lender_at_lem ps p h = any_in _ p ps h (eq-eqb (C.meas_of p.0) _ refl)

  -- of one pair or more, some lender takes from nobody
  head_lender : (p : Pair) (ps : List Pair) → BetweenWires C (p ∷ ps) → (σ : List ℕ) → Run C (p ∷ ps) σ
      → (x : ℕ) × (C.wire x ≡ true) × (¬ In x (takers_of (p ∷ ps)))
  unfolding lender_at
  head_lender p ps wires σ r = elim (first_or_none (lender_at (p ∷ ps)) σ r.order.once) [
    | inl f ↦ (
        let q = any_which (λ (p : Pair). eqb f.at (C.meas_of p.0)) (p ∷ ps) f.passes in
        let x = q.0.0 in
        let w = (wires x q.0.1 q.1).0 in (
          x,
          w,
          λ h.
              let g = taker_in (p ∷ ps) x h in
              let a = r.honours g.0 x g.1 in
              let b = before_trans (C.meas_of g.0) (C.reset_of x) (C.meas_of x) σ r.order.once a (r.keeps _ _ (law.spans x w)) in
              not_both (lender_at (p ∷ ps) (C.meas_of g.0)) (lender_at_lem (p ∷ ps) (g.0, x) g.1)
              (f.before _ (subst (λ z. Before (C.meas_of g.0) z σ) (sym (eqb-true _ _ q.2)) b)),
        )
        )
    | inr none ↦ absurd (not_both _ (lender_at_lem (p ∷ ps) p (inl refl)) (none _ (before_left _ _ σ (r.honours p.0 p.1 (inl refl)))))
  ]

  -- THEOREM: allowed pairs are at most the width less one.
  pub allowed_few : (ps : List Pair) → Allowed C ps → length ps ≤ C.width - 1
  allowed_few [] a = omega arith
  allowed_few (p ∷ ps) a =
      let x = head_lender p ps a.between a.runs.0 a.runs.1 in
      let b = once_below C.width (x.0 ∷ takers_of (p ∷ ps)) (x.2, a.take_once) (λ i h. elim h [
        | inl e ↦ subst (λ z. z < C.width) (sym e) (law.low x.0 x.1)
        | inr k ↦ (let g = taker_in (p ∷ ps) i k in law.low i (a.between g.0 i g.1).1)
      ]) in
      omega (arith, takers_length (p ∷ ps))

-- The pairs that the lenders say: whose taker is a wire that takes, and whose lender is that wire's. Assumes nothing.
use Prim.Native.Nat.{ℕ, zero, suc, ◌<◌}
use mathlib.Core.Path.{◌≡◌, refl, sym, ap, subst, ◌∙◌}
use mathlib.Core.Logic.{inl, inr}
use mathlib.Core.Bool.{true, false}
use mathlib.Core.List.{List, [], ◌∷◌}
use native.Mathlib.Omega.{arith}
use borrow.Author.Tests.{ltb-true}
use Rattle.basics.proofs.Tests.{true_or_false, same_or_other}
use Rattle.orders.specs.Indices.{In}
use Rattle.orders.specs.Runs.{Pair}
use Rattle.pairs.specs.Lending.{lender_of, takes, pairs_below, pairs_of}

-- what a pair of the list is
pub record Said (lenders : List ℕ) (width l t : ℕ) : Type 0 where
  pub taker : t < width
  pub takes : takes lenders width t ≡ true
  pub is : l ≡ lender_of lenders t
  pub lender : l < width

module _ (lenders : List ℕ) (width : ℕ) where
  pub pairs_taker : (k : ℕ) → takes lenders width k ≡ true → pairs_below lenders width (suc k) ≡ (lender_of lenders k, k) ∷ pairs_below lenders width k
  unfolding pairs_below
  pairs_taker k t = rw (pairs_below, t)

  pub pairs_first : (k : ℕ) → takes lenders width k ≡ false → pairs_below lenders width (suc k) ≡ pairs_below lenders width k
  unfolding pairs_below
  pairs_first k t = rw (pairs_below, t)

  pub pairs_none : pairs_below lenders width 0 ≡ []
  unfolding pairs_below
  pairs_none = refl

  pub below_in : (k l t : ℕ) → In (l, t) (pairs_below lenders width k) → (t < k) × (takes lenders width t ≡ true) × (l ≡ lender_of lenders t)
  below_in zero l t h = absurd (rw pairs_none at h)
  below_in (suc k) l t h = elim (true_or_false (takes lenders width k)) [
    | inl e ↦ elim (subst (In (l, t)) (pairs_taker k e) h) [
      | inl q ↦ (let a : l ≡ lender_of lenders k = ap (λ (p : Pair). p.0) q in
          let b : t ≡ k = ap (λ (p : Pair). p.1) q in
          (omega arith, ap (takes lenders width) b ∙ e, a ∙ ap (lender_of lenders) (sym b)))
      | inr m ↦ (let r = below_in k l t m in (omega (arith, r.0), r.1, r.2))
    ]
    | inr e ↦ (let r = below_in k l t (subst (In (l, t)) (pairs_first k e) h) in (omega (arith, r.0), r.1, r.2))
  ]

  in_below : (k t : ℕ) → t < k → takes lenders width t ≡ true → In (lender_of lenders t, t) (pairs_below lenders width k)
  in_below zero t l e = absurd (omega arith)
  in_below (suc k) t l e = elim (same_or_other t k) [
    | inl q ↦ rw (pairs_taker k (ap (takes lenders width) (sym q) ∙ e)) (inl (ap (λ z. (lender_of lenders z, z)) q))
    | inr d ↦ elim (true_or_false (takes lenders width k)) [
      | inl u ↦ rw (pairs_taker k u) (inr (in_below k t (omega arith) e))
      | inr u ↦ rw (pairs_first k u) (in_below k t (omega arith) e)
    ]
  ]

  -- a pair of the list is a wire that takes, with its lender
  pub pair_in : (l t : ℕ) → In (l, t) (pairs_of lenders width) → Said lenders width l t
  pair_in l t h =
      let r = below_in width l t h in
      record { taker = r.0; takes = r.1; is = r.2; lender = subst (λ z. z < width) (sym r.2) (ltb-true _ _ r.1) }

  -- and each is in the list
  pub pair_says : (t : ℕ) → t < width → takes lenders width t ≡ true → In (lender_of lenders t, t) (pairs_of lenders width)
  pair_says t l e = in_below width t l e

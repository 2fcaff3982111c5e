-- Where the pairs run, each chain has a first wire, and on each qubit the stretches of the wires of its chain follow one another: a lender's
-- measurement comes before its taker's reset, so the way along the lenders goes back in the order and never comes round. Assumes nothing.
use Prim.Native.Nat.{ℕ, zero, suc, ◌<◌}
use mathlib.Core.Path.{◌≡◌, refl, sym, ap, subst, ◌∙◌}
use mathlib.Core.Logic.{◌⊎◌, inl, inr, ◌≢◌}
use mathlib.Core.Bool.{true, false}
use mathlib.Core.List.{List, [], ◌∷◌}
use native.Mathlib.Omega.{arith}
use lib.ListN.{length}
use borrow.Author.Tests.{ltb-true, lt-ltb}
use Rattle.basics.proofs.Tests.{true_or_false, refuted, same_or_other}
use Rattle.orders.specs.Indices.{In, Before, Once}
use Rattle.orders.specs.Runs.{Run}
use Rattle.orders.proofs.Indices.{before_trans, before_irrefl, once_below}
use Rattle.circuits.specs.Reading.{Static}
use Rattle.precedence.specs.Precedence.{on, reset_of, meas_of, circuit_of, Wired}
use Rattle.precedence.proofs.Precedence.{reset_prec, prec_meas, reset_on}
use Rattle.pairs.specs.Lending.{lender_of, takes, pairs_of}
use Rattle.writer.specs.Chains.{first_from, qubit_of, Begun}
use Rattle.writer.proofs.Pairs.{pair_in, pair_says}
use Rattle.writer.proofs.Chains.{first_here, first_takes, first_end, one_first}

-- ## A run goes back along the lenders

module _ (c : Static) (wired : Wired c) (lenders : List ℕ) (σ : List ℕ) (run : Run (circuit_of c) (pairs_of lenders c.width) σ) where
  -- every instruction of a wire stands before every instruction of another
  abbrev pub Stretched : ℕ → ℕ → Type 0
  Stretched x y = (i j : ℕ) → on c.steps x i ≡ true → on c.steps y j ≡ true → Before i j σ

  -- THEOREM: if l lends to t, every instruction on l stands before every instruction on t.
  pub lent_before : (l t : ℕ) → In (l, t) (pairs_of lenders c.width) → Stretched l t
  lent_before l t h i j a b = last (same_or_other i (meas_of c.steps l)) (same_or_other j (reset_of c.steps t))
    where
      pair : Before (meas_of c.steps l) (reset_of c.steps t) σ
      pair = run.honours l t h

      to_last : i ≢ meas_of c.steps l → Before i (meas_of c.steps l) σ
      to_last d = run.keeps i (meas_of c.steps l) (prec_meas c wired l i a d)

      from_first : j ≢ reset_of c.steps t → Before (reset_of c.steps t) j σ
      from_first d = run.keeps (reset_of c.steps t) j (reset_prec c wired t j b d)

      through : Before i (reset_of c.steps t) σ → (j ≡ reset_of c.steps t) ⊎ (j ≢ reset_of c.steps t) → Before i j σ
      through p (inl e) = subst (λ z. Before i z σ) (sym e) p
      through p (inr d) = before_trans i (reset_of c.steps t) j σ run.order.once p (from_first d)

      last : (i ≡ meas_of c.steps l) ⊎ (i ≢ meas_of c.steps l) → (j ≡ reset_of c.steps t) ⊎ (j ≢ reset_of c.steps t) → Before i j σ
      last (inl e) f = through (subst (λ z. Before z (reset_of c.steps t) σ) (sym e) pair) f
      last (inr d) f = through (before_trans i (meas_of c.steps l) (reset_of c.steps t) σ run.order.once (to_last d) pair) f

  -- a wire's lender is reset before it
  lender_earlier : (t : ℕ) → t < c.width → takes lenders c.width t ≡ true → Before (reset_of c.steps (lender_of lenders t)) (reset_of c.steps t) σ
  lender_earlier t l e =
      lent_before (lender_of lenders t) t (pair_says lenders c.width t l e) _ _
      (reset_on c wired (lender_of lenders t) e) (reset_on c wired t (lt-ltb t c.width l))

  -- a wire, its lender, and so on, k times
  way : ℕ → ℕ → List ℕ
  way zero x = x ∷ []
  way (suc k) x = x ∷ way k (lender_of lenders x)

  way-length : (k x : ℕ) → length (way k x) ≡ suc k
  unfolding way
  way-length zero x = refl
  way-length (suc k) x = ap suc (way-length k (lender_of lenders x))

  -- the way does not end within k steps
  abbrev Goes : ℕ → ℕ → Type 0
  Goes k x = takes lenders c.width (first_from lenders c.width k x) ≡ true

  goes_takes : (k x : ℕ) → Goes k x → takes lenders c.width x ≡ true
  goes_takes k x g = elim (true_or_false (takes lenders c.width x)) [
    | inl t ↦ t
    | inr f ↦ ap (takes lenders c.width) (sym (first_here lenders c.width k x f)) ∙ g
  ]

  goes_on : (k x : ℕ) → Goes (suc k) x → Goes k (lender_of lenders x)
  goes_on k x g = ap (takes lenders c.width) (sym (first_takes lenders c.width k x (goes_takes (suc k) x g))) ∙ g

  -- all on the way are reset earlier
  way_earlier : (k x y : ℕ) → x < c.width → Goes k x → In y (way k (lender_of lenders x)) → Before (reset_of c.steps y) (reset_of c.steps x) σ
  unfolding way
  way_earlier zero x y l g (inl e) = subst (λ z. Before (reset_of c.steps z) (reset_of c.steps x) σ) (sym e) (lender_earlier x l (goes_takes 0 x g))
  way_earlier zero x y l g (inr h) = absurd h
  way_earlier (suc k) x y l g (inl e) =
      subst (λ z. Before (reset_of c.steps z) (reset_of c.steps x) σ) (sym e) (lender_earlier x l (goes_takes (suc k) x g))
  way_earlier (suc k) x y l g (inr h) =
      let t = goes_takes (suc k) x g in
      before_trans (reset_of c.steps y) (reset_of c.steps (lender_of lenders x)) (reset_of c.steps x) σ run.order.once
      (way_earlier k (lender_of lenders x) y (ltb-true _ _ t) (goes_on k x g) h) (lender_earlier x l t)

  way_once : (k x : ℕ) → x < c.width → Goes k x → Once (way (suc k) x)
  unfolding way
  way_once zero x l g = (λ h. earlier_self x (way_earlier 0 x x l g h), (λ h. h, tt))
    where
      earlier_self : (x : ℕ) → Before (reset_of c.steps x) (reset_of c.steps x) σ → ⊥
      earlier_self x b = before_irrefl (reset_of c.steps x) σ run.order.once b
  way_once (suc k) x l g = (
    λ h. before_irrefl (reset_of c.steps x) σ run.order.once (way_earlier (suc k) x x l g h),
    way_once k (lender_of lenders x) (ltb-true _ _ (goes_takes (suc k) x g)) (goes_on k x g),
  )

  way_low : (k x : ℕ) → x < c.width → Goes k x → (y : ℕ) → In y (way (suc k) x) → y < c.width
  unfolding way
  way_low zero x l g y h = elim h [
    | inl e ↦ subst (λ z. z < c.width) (sym e) l
    | inr r ↦ elim r [ inl e ↦ subst (λ z. z < c.width) (sym e) (ltb-true _ _ (goes_takes 0 x g)) | inr n ↦ absurd n ]
  ]
  way_low (suc k) x l g y h = elim h [
    | inl e ↦ subst (λ z. z < c.width) (sym e) l
    | inr r ↦ way_low k (lender_of lenders x) (ltb-true _ _ (goes_takes (suc k) x g)) (goes_on k x g) y r
  ]

  -- THEOREM: where the pairs run, each chain has a first wire.
  pub run_begun : Begun lenders c.width
  run_begun x l = refuted _ (λ g.
      let few = once_below c.width (way (suc c.width) x) (way_once c.width x l g) (way_low c.width x l g) in
      let size = way-length (suc c.width) x in
      omega arith)

  -- ## The wires of a chain, one after the other

  -- x lends to y, or to one that lends to y, and so on
  data Lent : ℕ → ℕ → Type 0 where
    directly : {x y : ℕ} → In (x, y) (pairs_of lenders c.width) → Lent x y
    through : {x y z : ℕ} → In (x, y) (pairs_of lenders c.width) → Lent y z → Lent x z

  lent_on : {x y z : ℕ} → Lent x y → In (y, z) (pairs_of lenders c.width) → Lent x z
  lent_on (directly h) k = through h (directly k)
  lent_on (through h r) k = through h (lent_on r k)

  -- all of the one stand before all of the other
  lent_stretched : {x y : ℕ} → Lent x y → Stretched x y
  lent_stretched (directly {x = x} {y = y} h) = lent_before x y h
  lent_stretched (through {x = x} {y = y} {z = z} h r) = λ i j a b.
      let t = (pair_in lenders c.width x y h).taker in
      let o = reset_on c wired y (lt-ltb y c.width t) in
      before_trans i (reset_of c.steps y) j σ run.order.once (lent_before x y h i (reset_of c.steps y) a o) (lent_stretched r (reset_of c.steps y) j o b)

  -- of two wires one is the other, or lends to it, or takes from it
  abbrev Ordered : ℕ → ℕ → Type 0
  Ordered x y = (x ≡ y) ⊎ (Lent x y ⊎ Lent y x)

  from_first : (k x y : ℕ) → y < c.width → first_from lenders c.width k y ≡ x → (x ≡ y) ⊎ Lent x y
  from_first zero x y l e = inl (sym e ∙ sym (first_end lenders c.width 0 y refl))
  from_first (suc k) x y l e = elim (true_or_false (takes lenders c.width y)) [
    | inl t ↦ (let p = pair_says lenders c.width y l t in
        elim (from_first k x (lender_of lenders y) (ltb-true _ _ t) (sym (first_takes lenders c.width k y t) ∙ e)) [
          | inl q ↦ inr (directly (subst (λ z. In (z, y) (pairs_of lenders c.width)) (sym q) p))
          | inr r ↦ inr (lent_on r p)
        ])
    | inr f ↦ inl (sym e ∙ first_here lenders c.width (suc k) y f)
  ]

  -- where each lender has one taker
  module _ (one_taker : (l t u : ℕ) → In (l, t) (pairs_of lenders c.width) → In (l, u) (pairs_of lenders c.width) → t ≡ u) where
    -- what the lender of x lends to further on, x is or lends to
    past_lender : {l x y z : ℕ} → In (l, x) (pairs_of lenders c.width) → Lent l y → In (y, z) (pairs_of lenders c.width) → Lent x z
    past_lender {l} {x} {z = z} h (directly {y = y} k) p = directly (subst (λ u. In (u, z) (pairs_of lenders c.width)) (one_taker l y x k h) p)
    past_lender {l} {x} h (through {y = y} {z = w} k r) p =
        lent_on (subst (λ u. Lent u w) (one_taker l y x k h) r) p

    both_take : (x y : ℕ) → x < c.width → y < c.width → takes lenders c.width x ≡ true → takes lenders c.width y ≡ true
        → Ordered (lender_of lenders x) (lender_of lenders y) → Ordered x y
    both_take x y a b t u o =
        let p = pair_says lenders c.width x a t in
        let r = pair_says lenders c.width y b u in
        elim o [
          | inl e ↦ inl (one_taker (lender_of lenders x) x y p (subst (λ z. In (z, y) (pairs_of lenders c.width)) (sym e) r))
          | inr s ↦ elim s [ inl f ↦ inr (inl (past_lender p f r)) | inr f ↦ inr (inr (past_lender r f p)) ]
        ]

    one_chain : (k m x y : ℕ) → x < c.width → y < c.width → takes lenders c.width (first_from lenders c.width k x) ≡ false
        → takes lenders c.width (first_from lenders c.width m y) ≡ false → first_from lenders c.width k x ≡ first_from lenders c.width m y → Ordered x y
    one_chain zero m x y a b f g e =
        elim (from_first m x y b (sym e ∙ sym (first_end lenders c.width 0 x refl))) [ inl q ↦ inl q | inr r ↦ inr (inl r) ]
    one_chain (suc k) zero x y a b f g e =
        elim (from_first (suc k) y x a (e ∙ sym (first_end lenders c.width 0 y refl))) [ inl q ↦ inl (sym q) | inr r ↦ inr (inr r) ]
    one_chain (suc k) (suc m) x y a b f g e = elim (true_or_false (takes lenders c.width x)) [
      | inl t ↦ elim (true_or_false (takes lenders c.width y)) [
        | inl u ↦ (let s = first_takes lenders c.width k x t in let v = first_takes lenders c.width m y u in
            both_take x y a b t u
            (one_chain k m (lender_of lenders x) (lender_of lenders y) (ltb-true _ _ t) (ltb-true _ _ u)
            (subst (λ z. takes lenders c.width z ≡ false) s f) (subst (λ z. takes lenders c.width z ≡ false) v g) (sym s ∙ e ∙ v)))
        | inr u ↦ elim (from_first (suc k) y x a (e ∙ first_here lenders c.width (suc m) y u)) [ inl q ↦ inl (sym q) | inr r ↦ inr (inr r) ]
      ]
      | inr t ↦ elim (from_first (suc m) x y b (sym e ∙ first_here lenders c.width (suc k) x t)) [ inl q ↦ inl q | inr r ↦ inr (inl r) ]
    ]

    -- THEOREM: of two wires with one qubit, all instructions of the one stand before all of the other.
    pub stretches_apart : (x y : ℕ) → x < c.width → y < c.width → x ≢ y → qubit_of lenders c.width x ≡ qubit_of lenders c.width y → Stretched x y ⊎ Stretched y x
    stretches_apart x y a b d e =
        elim (one_chain c.width c.width x y a b (run_begun x a) (run_begun y b) (one_first lenders c.width run_begun x y a b e)) [
          | inl q ↦ absurd (d q)
          | inr s ↦ elim s [ inl r ↦ inl (lent_stretched r) | inr r ↦ inr (lent_stretched r) ]
        ]

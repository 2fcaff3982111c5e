-- Laws of the graph: which arrows there are, what leads to what with one more pair, and that whatever leads to another stands before it in
-- every run. Assumes nothing.
use Prim.Native.Nat.{ℕ}
use mathlib.Core.Path.{◌≡◌, refl, sym, subst}
use mathlib.Core.Logic.{◌⊎◌, inl, inr, ◌↔◌}
use mathlib.Core.Bool.{Bool, true}
use mathlib.Core.List.{List, ◌∷◌}
use lib.Dec.{eqb}
use borrow.Author.Tests.{eqb-true, eq-eqb}
use Rattle.basics.proofs.Tests.{both, and_intro, either, or_left, or_right}
use Rattle.orders.specs.Indices.{In, Before, Order, any}
use Rattle.orders.specs.Runs.{Circuit, Pair, Run}
use Rattle.orders.specs.Graph.{lends, arrow, Leads, here, step, Reach}
use Rattle.orders.proofs.Indices.{before_trans, any_in, any_which}

-- ## Paths

pub leads_trans : {e : ℕ → ℕ → Bool} {i j k : ℕ} → Leads e i j → Leads e j k → Leads e i k
leads_trans {e} {k = k} (here p) r = subst (λ z. Leads e z k) (sym p) r
leads_trans (step h q) r = step h (leads_trans q r)

-- more arrows, more paths
pub leads_more : {e f : ℕ → ℕ → Bool} {i j : ℕ} → ((a b : ℕ) → e a b ≡ true → f a b ≡ true) → Leads e i j → Leads f i j
leads_more m (here p) = here p
leads_more m (step {i = i} {j = j} h q) = step (m i j h) (leads_more m q)

-- where the arrows of f are those of e and one from x to y, a path of f does not use that one, or leads to x and on from y
leads_split : {e f : ℕ → ℕ → Bool} {x y : ℕ} → ((a b : ℕ) → f a b ≡ true → ((a ≡ x) × (b ≡ y)) ⊎ (e a b ≡ true))
    → {i k : ℕ} → Leads f i k → Leads e i k ⊎ (Leads e i x × Leads e y k)
leads_split m (here p) = inl (here p)
leads_split {e} {x = x} {y = y} m (step {i = i} {j = j} {k = k} h q) = go (m i j h) (leads_split m q)
  where
    go : ((i ≡ x) × (j ≡ y)) ⊎ (e i j ≡ true) → Leads e j k ⊎ (Leads e j x × Leads e y k) → Leads e i k ⊎ (Leads e i x × Leads e y k)
    go (inl n) (inl r) = inr (here n.0, subst (λ z. Leads e z k) n.1 r)
    go (inl n) (inr r) = inr (here n.0, r.1)
    go (inr o) (inl r) = inl (step o r)
    go (inr o) (inr r) = inr (step o r.0, r.1)

module _ (C : Circuit) where
  -- ## Arrows

  pub arrow-prec : (ps : List Pair) (i j : ℕ) → C.prec i j ≡ true → arrow C ps i j ≡ true
  unfolding arrow
  arrow-prec ps i j h = or_left (C.prec i j) (any (lends C i j) ps) h

  pub arrow_pair : (ps : List Pair) (p : Pair) (i j : ℕ) → In p ps → i ≡ C.meas_of p.0 → j ≡ C.reset_of p.1 → arrow C ps i j ≡ true
  unfolding arrow lends
  arrow_pair ps p i j h a b =
      or_right (C.prec i j) (any (lends C i j) ps)
      (any_in (lends C i j) p ps h (and_intro (eqb i (C.meas_of p.0)) (eqb j (C.reset_of p.1)) (eq-eqb _ _ a) (eq-eqb _ _ b)))

  -- an arrow is the precedence's or a pair's
  pub arrow_cases : (ps : List Pair) (i j : ℕ) → arrow C ps i j ≡ true
      → (C.prec i j ≡ true) ⊎ ((p : Pair) × In p ps × (i ≡ C.meas_of p.0) × (j ≡ C.reset_of p.1))
  unfolding arrow lends
  arrow_cases ps i j h = elim (either (C.prec i j) (any (lends C i j) ps) h) [
    | inl a ↦ inl a
    | inr b ↦
        let r = any_which (lends C i j) ps b in
        let e = both (eqb i (C.meas_of r.0.0)) (eqb j (C.reset_of r.0.1)) r.2 in
        inr (r.0, r.1, eqb-true _ _ e.0, eqb-true _ _ e.1)
  ]

  -- more pairs, more arrows
  pub arrow_more : (ps qs : List Pair) → ((l t : ℕ) → In (l, t) ps → In (l, t) qs) → (i j : ℕ) → arrow C ps i j ≡ true → arrow C qs i j ≡ true
  arrow_more ps qs sub i j h = elim (arrow_cases ps i j h) [
    | inl a ↦ arrow-prec qs i j a
    | inr r ↦ arrow_pair qs r.0 i j (sub r.0.0 r.0.1 r.1) r.2 r.3
  ]

  -- what leads to what, with one more pair
  pub reach_added : (l t : ℕ) (ps : List Pair) (i k : ℕ)
      → Reach C ((l, t) ∷ ps) i k ↔ (Reach C ps i k ⊎ (Reach C ps i (C.meas_of l) × Reach C ps (C.reset_of t) k))
  reach_added l t ps i k = (leads_split added, back)
    where
      added : (a b : ℕ) → arrow C ((l, t) ∷ ps) a b ≡ true → ((a ≡ C.meas_of l) × (b ≡ C.reset_of t)) ⊎ (arrow C ps a b ≡ true)
      added a b h = elim (arrow_cases ((l, t) ∷ ps) a b h) [
        | inl p ↦ inr (arrow-prec ps a b p)
        | inr r ↦ elim r.1 [
          | inl e ↦ inl (subst (λ (p : Pair). a ≡ C.meas_of p.0) e r.2, subst (λ (p : Pair). b ≡ C.reset_of p.1) e r.3)
          | inr m ↦ inr (arrow_pair ps r.0 a b m r.2 r.3)
        ]
      ]

      old : (a b : ℕ) → Reach C ps a b → Reach C ((l, t) ∷ ps) a b
      old a b r = leads_more (arrow_more ps ((l, t) ∷ ps) (λ u v h. inr h)) r

      back : Reach C ps i k ⊎ (Reach C ps i (C.meas_of l) × Reach C ps (C.reset_of t) k) → Reach C ((l, t) ∷ ps) i k
      back (inl r) = old i k r
      back (inr r) = leads_trans (old i (C.meas_of l) r.0) (step (arrow_pair ((l, t) ∷ ps) (l, t) _ _ (inl refl) refl refl) (old (C.reset_of t) k r.1))

  -- ## Runs and arrows

  -- a run has each arrow's start before its end
  pub run_arrow : (ps : List Pair) (σ : List ℕ) → Run C ps σ → (i j : ℕ) → arrow C ps i j ≡ true → Before i j σ
  run_arrow ps σ r i j h = elim (arrow_cases ps i j h) [
    | inl a ↦ r.keeps i j a
    | inr q ↦
        subst (λ z. Before z j σ) (sym q.2)
        (subst (λ z. Before (C.meas_of q.0.0) z σ) (sym q.3) (r.honours q.0.0 q.0.1 q.1))
  ]

  -- and an order that does is a run
  pub arrow_run : (ps : List Pair) (σ : List ℕ) → Order C.size σ → ((i j : ℕ) → arrow C ps i j ≡ true → Before i j σ) → Run C ps σ
  arrow_run ps σ o h = record {
    order = o;
    keeps = λ i j a. h i j (arrow-prec ps i j a);
    honours = λ l t g. h (C.meas_of l) (C.reset_of t) (arrow_pair ps (l, t) _ _ g refl refl);
  }

  -- in a run, an arrow and a path from its end: its start stands before the path's end
  pub reach_before : (ps : List Pair) (σ : List ℕ) → Run C ps σ → (i : ℕ) {j k : ℕ} → arrow C ps i j ≡ true → Reach C ps j k → Before i k σ
  reach_before ps σ r i {j} h (here e) = subst (λ z. Before i z σ) e (run_arrow ps σ r i j h)
  reach_before ps σ r i {j} {k} h (step a q) = before_trans i j k σ r.order.once (run_arrow ps σ r i j h) (reach_before ps σ r j a q)

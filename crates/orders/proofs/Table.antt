-- Demand 3: after any offers of any numbers, the table's marks say exactly which pairs can be added. What every accepted offer keeps is the
-- same by the graph: a path with the new pair is an old path, or an old one to the lender's measurement and an old one from the taker's reset.
-- Assumes nothing.
use Prim.Native.Nat.{ℕ}
use mathlib.Core.Path.{◌≡◌, refl, sym, subst}
use mathlib.Core.Logic.Iff
use mathlib.Core.Logic.{◌⊎◌, inl, inr, ◌↔◌}
use mathlib.Core.Bool.{Bool, true, false, not, ◌&&◌, ◌||◌}
use mathlib.Core.List.{List, [], ◌∷◌}
use lib.Dec.{eqb}
use borrow.Author.Tests.{eqb-true, eq-eqb, not-true}
use Rattle.basics.proofs.Tests.{not_both, refuted, not_of_false, both, and_intro, either, or_left, or_right, neither, or_neither, true_or_false}
use Rattle.orders.specs.Runs.{Circuit, Lawful, Pair, Runs, Allowed}
use Rattle.orders.specs.Graph.{Clear}
use Rattle.orders.specs.Table.{Table, State, Start, Open, Says, Exact, ExactByReach, Grown, accept, accepted, fresh, offered, offer, offers, Within}
use Rattle.orders.proofs.Graph.{reach_added}
use Rattle.orders.proofs.Runs.{runs_none, runs_added, runs_self}

-- ## The rule

-- a mark that is left after a pair: in another row and another column, yes before, and yes at (l, v) or at (u, t)
pub accept-mark : (l t : ℕ) (T : Table) (u v : ℕ)
    → ((accept (l, t) T).mark u v ≡ true) ↔ ((eqb u l ≡ false) × (eqb v t ≡ false) × (T.mark u v ≡ true) × ((T.mark l v || T.mark u t) ≡ true))
unfolding accept
accept-mark l t T u v = (
  λ k.
      let a = both (not (eqb u l)) (not (eqb v t) && (T.mark u v && (T.mark l v || T.mark u t))) k in
      let b = both (not (eqb v t)) (T.mark u v && (T.mark l v || T.mark u t)) a.1 in
      let c = both (T.mark u v) (T.mark l v || T.mark u t) b.1 in
      (not-true (eqb u l) a.0, not-true (eqb v t) b.0, c.0, c.1),
  λ p.
      and_intro (not (eqb u l)) (not (eqb v t) && (T.mark u v && (T.mark l v || T.mark u t))) (not_of_false (eqb u l) p.0)
      (and_intro (not (eqb v t)) (T.mark u v && (T.mark l v || T.mark u t)) (not_of_false (eqb v t) p.1)
      (and_intro (T.mark u v) (T.mark l v || T.mark u t) p.2 p.3)),
)

pub offer_yes : (p : Pair) (s : State) → s.table.mark p.0 p.1 ≡ true → offer p s ≡ accepted p s
unfolding offer offered
offer_yes p s e = rw e

pub offer_no : (p : Pair) (s : State) → s.table.mark p.0 p.1 ≡ false → offer p s ≡ s
unfolding offer offered
offer_no p s e = rw e

-- what every accepted pair keeps, any offers keep
pub offers_keep : (Inv : State → Type 0) → ((p : Pair) (s : State) → Inv s → s.table.mark p.0 p.1 ≡ true → Inv (accepted p s))
    → (os : List Pair) (s : State) → Inv s → Inv (offers os s)
unfolding offers
offers_keep Inv keep [] s h = h
offers_keep Inv keep (p ∷ os) s h =
    offers_keep Inv keep os (offer p s) (elim (true_or_false (s.table.mark p.0 p.1)) [
      | inl t ↦ subst Inv (sym (offer_yes p s t)) (keep p s h t)
      | inr f ↦ subst Inv (sym (offer_no p s f)) h
    ])

opened : {C : Circuit} {T : Table} {May : ℕ → ℕ → Type 0} {l t : ℕ}
    → C.wire l ≡ true → C.wire t ≡ true → T.lent l ≡ false → T.taken t ≡ false → May l t → Open C T May l t
opened a b c d m = record { lender = a; taker = b; not_lent = c; not_taken = d; may = m }

-- where two say the same of wires, a table that says the one says the other
says_alike : (C : Circuit) (T : Table) (ps : List Pair) (May May' : ℕ → ℕ → Type 0)
    → ((l t : ℕ) → C.wire l ≡ true → C.wire t ≡ true → May l t ↔ May' l t) → Says C T ps May → Says C T ps May'
says_alike C T ps May May' alike h = record {
  allowed = h.allowed;
  marks = λ l t. (
    (λ m. let o = (h.marks l t).0 m in opened o.lender o.taker o.not_lent o.not_taken ((alike l t o.lender o.taker).0 o.may)),
    λ o. (h.marks l t).1 (opened o.lender o.taker o.not_lent o.not_taken ((alike l t o.lender o.taker).1 o.may)),
  );
  lenders = h.lenders;
  takers = h.takers;
}

module _ (C : Circuit) (law : Lawful C) where
  -- ## What an accepted pair keeps

  module _ (l t : ℕ) (T : Table) (ps : List Pair) (h : ExactByReach C T ps) (m : T.mark l t ≡ true) where
    given : Open C T (Clear C ps) l t
    given = (h.marks l t).0 m

    accept_allowed : Allowed C ((l, t) ∷ ps)
    accept_allowed = record {
      between = λ u v k. elim k [
        | inl e ↦ subst (λ (p : Pair). (C.wire p.0 ≡ true) × (C.wire p.1 ≡ true)) (sym e) (given.lender, given.taker)
        | inr g ↦ h.allowed.between u v g
      ];
      lend_once = (λ k. not_both (T.lent l) ((h.lenders l given.lender).1 k) given.not_lent, h.allowed.lend_once);
      take_once = (λ k. not_both (T.taken t) ((h.takers t given.taker).1 k) given.not_taken, h.allowed.take_once);
      runs = (runs_added C law l t ps given.lender given.taker h.allowed.runs).1 given.may;
    }

    -- a yes that is left is clear: a new path would lead from v's reset to l's measurement and from t's to u's, but one of the two is yes
    left_open : (u v : ℕ) → (accept (l, t) T).mark u v ≡ true → Open C (accept (l, t) T) (Clear C ((l, t) ∷ ps)) u v
    unfolding accept
    left_open u v k =
        let a = (accept-mark l t T u v).0 k in
        let o = (h.marks u v).0 a.2 in
        record {
          lender = o.lender;
          taker = o.taker;
          not_lent = or_neither (eqb u l) (T.lent u) a.0 o.not_lent;
          not_taken = or_neither (eqb v t) (T.taken v) a.1 o.not_taken;
          may = λ r. elim ((reach_added C l t ps (C.reset_of v) (C.meas_of u)).0 r) [
            | inl old ↦ o.may old
            | inr new ↦ elim (either (T.mark l v) (T.mark u t) a.3) [
              | inl b ↦ ((h.marks l v).0 b).may new.0
              | inr c ↦ ((h.marks u t).0 c).may new.1
            ]
          ];
        }

    -- where the way stays clear one of (l, v) and (u, t) is yes: were both no, v's reset would lead to l's measurement and t's reset to u's,
    -- and the new pair would join the two
    one_yes : (u v : ℕ) → Open C T (Clear C ((l, t) ∷ ps)) u v → (T.mark l v || T.mark u t) ≡ true
    one_yes u v o = elim (true_or_false (T.mark l v || T.mark u t)) [
      | inl y ↦ y
      | inr n ↦ absurd (
          let no = neither (T.mark l v) (T.mark u t) n in
          not_both (T.mark l v)
          ((h.marks l v).1 (opened given.lender o.taker given.not_lent o.not_taken (λ x.
          not_both (T.mark u t)
          ((h.marks u t).1 (opened o.lender given.taker o.not_lent given.not_taken (λ y.
          o.may ((reach_added C l t ps (C.reset_of v) (C.meas_of u)).1 (inr (x, y))))))
          no.1)))
          no.0
          )
    ]

    -- and what is open is left
    open_left : (u v : ℕ) → Open C (accept (l, t) T) (Clear C ((l, t) ∷ ps)) u v → (accept (l, t) T).mark u v ≡ true
    unfolding accept
    open_left u v o =
        let a = neither (eqb u l) (T.lent u) o.not_lent in
        let b = neither (eqb v t) (T.taken v) o.not_taken in
        (accept-mark l t T u v).1 (
          a.0,
          b.0,
          (h.marks u v).1 (opened o.lender o.taker a.1 b.1 (λ r. o.may ((reach_added C l t ps (C.reset_of v) (C.meas_of u)).1 (inl r)))),
          one_yes u v (opened o.lender o.taker a.1 b.1 o.may),
        )

    accept_says : ExactByReach C (accept (l, t) T) ((l, t) ∷ ps)
    unfolding accept
    accept_says = record {
      allowed = accept_allowed;
      marks = λ u v. (left_open u v, open_left u v);
      lenders = λ x w. used (eqb-true x l) (eq-eqb x l) (h.lenders x w);
      takers = λ x w. used (eqb-true x t) (eq-eqb x t) (h.takers x w);
    }
      where
        -- a used mark is the new pair's or an old one
        used : {A B : Type 0} {a b : Bool} → (a ≡ true → A) → (A → a ≡ true) → (b ≡ true) ↔ B → ((a || b) ≡ true) ↔ (A ⊎ B)
        used {a = a} {b = b} to back old = (
          λ k. elim (either a b k) [ inl e ↦ inl (to e) | inr g ↦ inr (old.0 g) ],
          λ k. elim k [ inl e ↦ or_left a b (back e) | inr g ↦ or_right a b (old.1 g) ],
        )

  start_says : (T : Table) → Start C T → ExactByReach C T []
  start_says T s = record {
    allowed = record { between = λ l t h. absurd h; lend_once = tt; take_once = tt; runs = runs_none C law };
    marks = λ l t. (
      (λ m. let r = (s.marks l t).0 m in
          opened r.0 r.1 (s.none_lent l r.0) (s.none_taken t r.1) r.2),
      λ o. (s.marks l t).1 (o.lender, o.taker, o.may),
    );
    lenders = λ x w. (λ k. not_both (T.lent x) k (s.none_lent x w), λ k. absurd k);
    takers = λ x w. (λ k. not_both (T.taken x) k (s.none_taken x w), λ k. absurd k);
  }

  -- ## The theorem

  -- the two forms of demand 3 are one
  pub by_reach_exact : (T : Table) (ps : List Pair) → ExactByReach C T ps → Exact C T ps
  by_reach_exact T ps h = says_alike C T ps _ _ (λ l t a b. Iff.symm (runs_added C law l t ps a b h.allowed.runs)) h

  pub exact_by_reach : (T : Table) (ps : List Pair) → Exact C T ps → ExactByReach C T ps
  exact_by_reach T ps h = says_alike C T ps _ _ (λ l t a b. runs_added C law l t ps a b h.allowed.runs) h

  -- an accepted pair leaves an exact table
  pub accepted_grown : (p : Pair) (s : State) → Grown C s → s.table.mark p.0 p.1 ≡ true → Grown C (accepted p s)
  accepted_grown p s h m = by_reach_exact _ _ (accept_says p.0 p.1 s.table s.pairs (exact_by_reach _ _ h) m)

  -- THEOREM: from an exact table, after any offers of any numbers at all, refused ones among them, the table is exact.
  pub offers_grown : (os : List Pair) (s : State) → Grown C s → Grown C (offers os s)
  offers_grown = offers_keep (Grown C) accepted_grown

  pub start_exact : (T : Table) → Start C T → Exact C T []
  start_exact T s = by_reach_exact T [] (start_says T s)

  -- THEOREM (demand 3): from the start table, after any offers, a mark is yes exactly between wires, where the lender has not lent, the taker
  -- has not taken, and the accepted pairs run with this one added.
  pub demand_three : (T : Table) → Start C T → (os : List Pair) → Exact C (offers os (fresh T)).table (offers os (fresh T)).pairs
  demand_three T s os = offers_grown os (fresh T) (start_exact T s)

  -- THEOREM: the same by the graph: where the taker's reset does not lead to the lender's measurement.
  pub demand_three_by_reach : (T : Table) → Start C T → (os : List Pair) → ExactByReach C (offers os (fresh T)).table (offers os (fresh T)).pairs
  demand_three_by_reach T s os = exact_by_reach _ _ (demand_three T s os)

  -- ## What an exact table tells

  -- a mark is yes exactly when the pair can be added to the list: Theorem 1's conditions hold with it
  pub exact_allowed : (T : Table) (ps : List Pair) → Exact C T ps → (l t : ℕ) → (T.mark l t ≡ true) ↔ Allowed C ((l, t) ∷ ps)
  exact_allowed T ps h l t = (
    λ m. accept_allowed l t T ps (exact_by_reach T ps h) m,
    λ a.
        let w = a.between l t (inl refl) in
        (h.marks l t).1 (record {
          lender = w.0;
          taker = w.1;
          not_lent = refuted (T.lent l) (λ k. a.lend_once.0 ((h.lenders l w.0).0 k));
          not_taken = refuted (T.taken t) (λ k. a.take_once.0 ((h.takers t w.1).0 k));
          may = a.runs;
        }),
  )

  -- a no between wires that are not used is a loop: the pairs do not run with this one
  pub exact_loop : (T : Table) (ps : List Pair) → Exact C T ps → (l t : ℕ)
      → C.wire l ≡ true → C.wire t ≡ true → T.lent l ≡ false → T.taken t ≡ false
      → (T.mark l t ≡ false) ↔ (¬ Runs C ((l, t) ∷ ps))
  exact_loop T ps h l t wl wt a b = (
    λ m r. not_both (T.mark l t) ((h.marks l t).1 (opened (wl) (wt) (a) (b) (r))) m,
    λ n. refuted (T.mark l t) (λ m. n ((h.marks l t).0 m).may),
  )

  -- marks are below the width
  pub exact_within : (T : Table) (ps : List Pair) → Exact C T ps → Within C.width T
  exact_within T ps h l t m = let o = (h.marks l t).0 m in (law.low l o.lender, law.low t o.taker)

  -- a wire with itself is no
  pub exact_self : (T : Table) (ps : List Pair) → Exact C T ps → (x : ℕ) → T.mark x x ≡ false
  exact_self T ps h x = refuted (T.mark x x) (λ m. let o = (h.marks x x).0 m in runs_self C law x ps o.lender o.may)

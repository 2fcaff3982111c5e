-- Which pairs can run. One more pair runs with the others exactly when its taker's reset does not lead to its lender's measurement: of a run
-- without it, put first what leads to that measurement. So pairs run exactly when the graph has no cycle. Assumes nothing.
use Prim.Native.Nat.{ℕ}
use mathlib.Core.Path.{◌≡◌, refl, sym, subst}
use mathlib.Core.Logic.{◌⊎◌, inl, inr, ◌↔◌}
use mathlib.Core.Bool.{Bool, true, ◌||◌}
use mathlib.Core.List.{List, [], ◌∷◌, ◌++◌}
use lib.Dec.{eqb}
use borrow.Author.Tests.{eqb-true, eq-eqb}
use Rattle.basics.proofs.Tests.{true_or_false, not_both, either, neither}
use Rattle.orders.specs.Indices.{In, Before, Once, any, input_order}
use Rattle.orders.specs.Runs.{Circuit, Lawful, Pair, Run, Runs, BetweenWires, SamePairs}
use Rattle.orders.specs.Graph.{arrow, Leads, here, step, Clear, Acyclic}
use Rattle.orders.proofs.Indices.{before_irrefl, in_left, in_right, before_right_part, before_across}
use Rattle.orders.proofs.Indices.{put_between, in_put, put_before, put_once, any_in, any_which, input_order_lem, input_before}
use Rattle.orders.proofs.Graph.{leads_more, arrow-prec, arrow_pair, arrow_more, reach_before}

-- ## Fewer pairs

-- a run that honours pairs honours any of them alone
pub run_fewer : (C : Circuit) (ps qs : List Pair) (σ : List ℕ) → ((l t : ℕ) → In (l, t) qs → In (l, t) ps) → Run C ps σ → Run C qs σ
run_fewer C ps qs σ sub r = record { order = r.order; keeps = r.keeps; honours = λ l t h. r.honours l t (sub l t h) }

-- THEOREM: a pair dropped, the others still run.
pub runs_dropped : (C : Circuit) (p : Pair) (ps : List Pair) → Runs C (p ∷ ps) → Runs C ps
runs_dropped C p ps r = (r.0, run_fewer C (p ∷ ps) ps r.0 (λ l t h. inr h) r.1)

-- THEOREM: the same pairs in any order run alike.
pub runs_same : (C : Circuit) (ps qs : List Pair) → SamePairs ps qs → Runs C ps ↔ Runs C qs
runs_same C ps qs same = (
  λ r. (r.0, run_fewer C ps qs r.0 (λ l t. (same l t).1) r.1),
  λ r. (r.0, run_fewer C qs ps r.0 (λ l t. (same l t).0) r.1),
)

-- ## A list parted: first the members that lead to m, then the others, each part in the old order

record Parted (e : ℕ → ℕ → Bool) (m : ℕ) (xs : List ℕ) : Type 0 where
  leading : List ℕ
  others : List ℕ
  leads : (a : ℕ) → In a leading → Leads e a m
  has_end : In m xs → In m leading
  members : (a : ℕ) → In a xs → In a leading ⊎ In a others
  only : (a : ℕ) → In a (leading ++ others) → In a xs
  once : Once (leading ++ others)
  kept : (i j : ℕ) → e i j ≡ true → Before i j xs → Before i j (leading ++ others)

parted_in : {e : ℕ → ℕ → Bool} {m : ℕ} {xs : List ℕ} (r : Parted e m xs) → (a : ℕ) → In a xs → In a (r.leading ++ r.others)
parted_in r a h = elim (r.members a h) [ inl d ↦ in_left a r.leading r.others d | inr o ↦ in_right a r.leading r.others o ]

-- from the list's end: a member leads to m that is m, or has an arrow to one that does
parted : (e : ℕ → ℕ → Bool) (m : ℕ) (xs : List ℕ) → Once xs → Parted e m xs
parted e m [] o = record {
  leading = [];
  others = [];
  leads = λ a h. absurd h;
  has_end = λ h. h;
  members = λ a h. absurd h;
  only = λ a h. h;
  once = tt;
  kept = λ i j h b. b;
}
parted e m (x ∷ xs) o = go (parted e m xs o.1)
  where
    go : Parted e m xs → Parted e m (x ∷ xs)
    go r = elim (true_or_false (eqb x m || any (e x) r.leading)) [
      | inl t ↦ record {
        leading = x ∷ r.leading;
        others = r.others;
        leads = λ a h. elim h [ inl q ↦ subst (λ z. Leads e z m) (sym q) (out t) | inr k ↦ r.leads a k ];
        has_end = λ h. elim h [ inl q ↦ inl q | inr k ↦ inr (r.has_end k) ];
        members = λ a h. elim h [ inl q ↦ inl (inl q) | inr k ↦ elim (r.members a k) [ inl d ↦ inl (inr d) | inr w ↦ inr w ] ];
        only = λ a h. elim h [ inl q ↦ inl q | inr k ↦ inr (r.only a k) ];
        once = (λ h. o.0 (r.only x h), r.once);
        kept = λ i j h b. elim b [ inl k ↦ inl (k.0, parted_in r j k.1) | inr k ↦ inr (r.kept i j h k) ];
      }
      | inr f ↦ record {
        leading = r.leading;
        others = x ∷ r.others;
        leads = r.leads;
        has_end = λ h. elim h [ inl q ↦ absurd (not_both (eqb x m) (eq-eqb x m (sym q)) (neither (eqb x m) _ f).0) | inr k ↦ r.has_end k ];
        members = λ a h. elim h [ inl q ↦ inr (inl q) | inr k ↦ elim (r.members a k) [ inl d ↦ inl d | inr w ↦ inr (inr w) ] ];
        only = λ a h. elim (in_put (put_between x r.leading r.others) a h) [ inl q ↦ inl q | inr k ↦ inr (r.only a k) ];
        once = put_once (put_between x r.leading r.others) (λ h. o.0 (r.only x h)) r.once;
        kept = λ i j h b. elim b [
          | inl k ↦ elim (r.members j k.1) [
            | inl d ↦ absurd (not_both (any (e x) r.leading)
                (any_in (e x) j r.leading d (subst (λ z. e z j ≡ true) k.0 h))
                (neither (eqb x m) _ f).1)
            | inr w ↦ before_right_part i j r.leading (x ∷ r.others) (inl (k.0, w))
          ]
          | inr k ↦ put_before (put_between x r.leading r.others) i j (r.kept i j h k)
        ];
      }
    ]
      where
        out : (eqb x m || any (e x) r.leading) ≡ true → Leads e x m
        out t = elim (either (eqb x m) (any (e x) r.leading) t) [
          | inl a ↦ here (eqb-true x m a)
          | inr b ↦ (let c = any_which (e x) r.leading b in step c.2 (r.leads c.0 c.1))
        ]

module _ (C : Circuit) (law : Lawful C) where
  -- with no pair, the input order is a run
  pub input_run : Run C [] (input_order C.size)
  input_run = record {
    order = input_order_lem C.size;
    keeps = λ i j h. input_before C.size i j (law.upward i j h) (law.inside i j h);
    honours = λ l t h. absurd h;
  }

  pub runs_none : Runs C []
  runs_none = (input_order C.size, input_run)

  -- ## One more pair

  -- a pair of wires whose taker's reset does not lead to the lender's measurement runs with the others
  runs_more : (l t : ℕ) (ps : List Pair) → C.wire l ≡ true → C.wire t ≡ true → Runs C ps → Clear C ps l t → Runs C ((l, t) ∷ ps)
  runs_more l t ps hl ht (σ, r) n = (
    q.leading ++ q.others,
    record {
      order = record {
        all = λ i h. parted_in q i (r.order.all i h);
        only = λ i h. r.order.only i (q.only i h);
        once = q.once;
      };
      keeps = λ i j h. q.kept i j (arrow-prec C ps i j h) (r.keeps i j h);
      honours = λ u v h. elim h [
        | inl e ↦ subst (λ (p : Pair). Before (C.meas_of p.0) (C.reset_of p.1) (q.leading ++ q.others)) (sym e) new
        | inr k ↦ q.kept _ _ (arrow_pair C ps (u, v) _ _ k refl refl) (r.honours u v k)
      ];
    },
  )
    where
      q : Parted (arrow C ps) (C.meas_of l) σ
      q = parted (arrow C ps) (C.meas_of l) σ r.order.once

      new : Before (C.meas_of l) (C.reset_of t) (q.leading ++ q.others)
      new = before_across (C.meas_of l) (C.reset_of t) q.leading q.others
          (q.has_end (r.order.all (C.meas_of l) (law.meas_in l hl)))
          (elim (q.members (C.reset_of t) (r.order.all (C.reset_of t) (law.reset_in t ht))) [
            | inl d ↦ absurd (n (q.leads (C.reset_of t) d))
            | inr w ↦ w
          ])

  -- and only such a pair
  runs_only : (l t : ℕ) (ps : List Pair) → Runs C ((l, t) ∷ ps) → Clear C ps l t
  runs_only l t ps (σ, r) q =
      before_irrefl (C.meas_of l) σ r.order.once
      (reach_before C ((l, t) ∷ ps) σ r (C.meas_of l) (arrow_pair C ((l, t) ∷ ps) (l, t) _ _ (inl refl) refl refl)
      (leads_more (arrow_more C ps ((l, t) ∷ ps) (λ u v h. inr h)) q))

  -- THEOREM: where the pairs run, they run with one more, between wires, exactly when its taker's reset does not lead to its lender's
  -- measurement.
  pub runs_added : (l t : ℕ) (ps : List Pair) → C.wire l ≡ true → C.wire t ≡ true → Runs C ps
      → Runs C ((l, t) ∷ ps) ↔ Clear C ps l t
  runs_added l t ps hl ht r = (runs_only l t ps, runs_more l t ps hl ht r)

  -- a wire with itself closes a loop: its reset comes before its measurement
  pub runs_self : (x : ℕ) (ps : List Pair) → C.wire x ≡ true → ¬ Runs C ((x, x) ∷ ps)
  runs_self x ps w r = runs_only x x ps r (step (arrow-prec C ps _ _ (law.spans x w)) (here refl))

  -- ## Cycles

  runs_acyclic : (ps : List Pair) → Runs C ps → Acyclic C ps
  runs_acyclic ps (σ, r) (i, j, a, q) = before_irrefl i σ r.order.once (reach_before C ps σ r i a q)

  -- one pair after the other: a path that the next pair would close to a cycle is none
  acyclic_runs : (ps : List Pair) → BetweenWires C ps → Acyclic C ps → Runs C ps
  acyclic_runs [] w n = runs_none
  acyclic_runs (p ∷ ps) w n =
      runs_more p.0 p.1 ps (w p.0 p.1 (inl refl)).0 (w p.0 p.1 (inl refl)).1
      (acyclic_runs ps (λ l t h. w l t (inr h)) (λ c. n (c.0, c.1, more c.0 c.1 c.2, leads_more more c.3)))
      (λ q. n (C.meas_of p.0, C.reset_of p.1, arrow_pair C (p ∷ ps) p _ _ (inl refl) refl refl, leads_more more q))
    where
      more : (i j : ℕ) → arrow C ps i j ≡ true → arrow C (p ∷ ps) i j ≡ true
      more = arrow_more C ps (p ∷ ps) (λ l t h. inr h)

  -- THEOREM: pairs between wires run exactly when the graph has no cycle.
  pub runs_exactly_acyclic : (ps : List Pair) → BetweenWires C ps → Runs C ps ↔ Acyclic C ps
  runs_exactly_acyclic ps w = (runs_acyclic ps, acyclic_runs ps w)

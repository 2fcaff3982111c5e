-- The order of writing. Where the pairs run it is a run: of any run, the first that is not yet written is ready, so it never stops early.
-- It is complete only then, so it also decides. With no pairs it is the input order, and it depends on the pairs as a set. Assumes nothing.
use Prim.Native.Nat.{ℕ, zero, suc, ◌+◌, ◌≤◌, ◌<◌}
use mathlib.Core.Path.{◌≡◌, refl, sym, ◌∙◌, ap, subst, fun_ext}
use mathlib.Core.Logic.Iff
use mathlib.Core.Logic.{inl, inr, ◌↔◌}
use mathlib.Core.Bool.{true, false, not, ◌&&◌, ◌||◌}
use mathlib.Core.List.{List, [], ◌∷◌, ◌++◌}
use native.Mathlib.Omega.{arith}
use lib.ListN.{length, length-append}
use lib.Dec.{eqb}
use borrow.Author.Tests.{eqb-true, eq-eqb, lt-ltb, le-ltb, not-true, not-false}
use Rattle.basics.proofs.Tests.{not_both, refuted, not_of_false, same_test, both, and_intro, implied, implies, below_or_not}
use Rattle.orders.specs.Indices.{In, Before, Once, stands, from, input_order}
use Rattle.orders.specs.Runs.{Circuit, Lawful, Pair, Run, Runs, BetweenWires, SamePairs}
use Rattle.orders.specs.Graph.{arrow, Clear}
use Rattle.orders.specs.Table.{Start}
use Rattle.orders.specs.Schedule.{earlier_written, lender_written, ready, least, next, write_on, schedule, complete, start_table}
use Rattle.orders.proofs.Indices.{first_or_none, before_right, before_across, put_last, in_put, put_before, put_once}
use Rattle.orders.proofs.Indices.{every_at, every_from, stands_in, in_stands, from_in, in_from, from_last, full_length, order_length, once_full}
use Rattle.orders.proofs.Least.{least_miss, least_hit, least_is}
use Rattle.orders.proofs.Graph.{arrow-prec, arrow_pair, arrow_cases, run_arrow, arrow_run}
use Rattle.orders.proofs.Runs.{runs_none, runs_added}

-- ## What is ready

pub lender_written_lem : (C : Circuit) (ps : List Pair) (done : List ℕ) (j : ℕ)
    → (lender_written C ps done j ≡ true) ↔ ((p : Pair) → In p ps → j ≡ C.reset_of p.1 → In (C.meas_of p.0) done)
unfolding lender_written
lender_written_lem C ps done j = (
  λ h p k e.
      let a = every_at (λ (p : Pair). not (eqb j (C.reset_of p.1)) || stands (C.meas_of p.0) done) ps h p k in
      stands_in _ done (implied _ _ a (eq-eqb j _ e)),
  λ h. every_from _ ps (λ p k. implies _ _ (λ e. in_stands _ done (h p k (eqb-true j _ e)))),
)

module _ (C : Circuit) (law : Lawful C) where
  pub earlier_written_lem : (done : List ℕ) (j : ℕ) → (earlier_written C done j ≡ true) ↔ ((i : ℕ) → C.prec i j ≡ true → In i done)
  unfolding earlier_written
  earlier_written_lem done j = (
    λ h i k.
        let l = law.upward i j k in
        let a = every_at (λ i. not (C.prec i j) || stands i done) (from 0 j) h i (from_in 0 j i (omega arith) (omega arith)) in
        stands_in i done (implied (C.prec i j) _ a k),
    λ h. every_from _ (from 0 j) (λ i k. implies (C.prec i j) _ (λ e. in_stands i done (h i e))),
  )

  module _ (ps : List Pair) (done : List ℕ) (j : ℕ) where
    -- j is ready exactly when it is not written and each arrow to it comes from a written one
    pub ready_exactly : (ready C ps done j ≡ true) ↔ ((¬ In j done) × ((i : ℕ) → arrow C ps i j ≡ true → In i done))
    unfolding ready
    ready_exactly = (
      λ h.
          let a = both (not (stands j done)) (earlier_written C done j && lender_written C ps done j) h in
          let b = both (earlier_written C done j) (lender_written C ps done j) a.1 in (
            λ k. not_both (stands j done) (in_stands j done k) (not-true (stands j done) a.0),
            λ i k. elim (arrow_cases C ps i j k) [
              | inl e ↦ (earlier_written_lem done j).0 b.0 i e
              | inr r ↦ subst (λ z. In z done) (sym r.2) ((lender_written_lem C ps done j).0 b.1 r.0 r.1 r.3)
            ],
          ),
      λ h.
          and_intro _ _ (not_of_false _ (refuted _ (λ k. h.0 (stands_in j done k))))
          (and_intro _ _
          ((earlier_written_lem done j).1 (λ i k. h.1 i (arrow-prec C ps i j k)))
          ((lender_written_lem C ps done j).1 (λ p k e. h.1 (C.meas_of p.0) (arrow_pair C ps p _ j k refl e)))),
    )

-- ## What comes next

module _ (C : Circuit) (ps : List Pair) (done : List ℕ) where
  pub next-ready : next C ps done < C.size → ready C ps done (next C ps done) ≡ true
  unfolding next
  next-ready l = least_hit (ready C ps done) C.size 0 (omega arith)

  pub next_least : (m : ℕ) → m < next C ps done → ready C ps done m ≡ false
  unfolding next
  next_least m l = least_miss (ready C ps done) C.size 0 m (omega arith) l

  pub next_is : (j : ℕ) → j < C.size → ((m : ℕ) → m < j → ready C ps done m ≡ false) → ready C ps done j ≡ true → next C ps done ≡ j
  unfolding next
  next_is j l below t = least_is (ready C ps done) C.size j l below t

  pub write_on_more : (f : ℕ) → next C ps done < C.size → write_on C ps (suc f) done ≡ write_on C ps f (done ++ next C ps done ∷ [])
  unfolding write_on
  write_on_more f l = rw (write_on, lt-ltb (next C ps done) C.size l)

  pub write_on_stuck : (f : ℕ) → C.size ≤ next C ps done → write_on C ps (suc f) done ≡ done
  unfolding write_on
  write_on_stuck f l = rw (write_on, le-ltb (next C ps done) C.size l)

  pub write_on_end : write_on C ps 0 done ≡ done
  unfolding write_on
  write_on_end = refl

-- ## What is written keeps every arrow

-- What holds of the indices written so far: each is an instruction's, none stands twice, and what an arrow comes from stands before.
pub record Written (C : Circuit) (ps : List Pair) (done : List ℕ) : Type 0 where
  pub below : (i : ℕ) → In i done → i < C.size
  pub once : Once done
  pub kept : (i j : ℕ) → In j done → arrow C ps i j ≡ true → Before i j done

pub written_none : (C : Circuit) (ps : List Pair) → Written C ps []
written_none C ps = record { below = λ i h. absurd h; once = tt; kept = λ i j h a. absurd h }

module _ (C : Circuit) (law : Lawful C) (ps : List Pair) where
  pub written_more : (done : List ℕ) (j : ℕ) → Written C ps done → j < C.size → ready C ps done j ≡ true → Written C ps (done ++ j ∷ [])
  written_more done j w l r = record {
    below = λ i h. elim (in_put (put_last j done) i h) [ inl e ↦ subst (λ z. z < C.size) (sym e) l | inr k ↦ w.below i k ];
    once = put_once (put_last j done) free.0 w.once;
    kept = λ i k h a. elim (in_put (put_last j done) k h) [
      | inl e ↦ before_across i k done (j ∷ []) (free.1 i (subst (λ z. arrow C ps i z ≡ true) e a)) (inl e)
      | inr m ↦ put_before (put_last j done) i k (w.kept i k m a)
    ];
  }
    where
      free : (¬ In j done) × ((i : ℕ) → arrow C ps i j ≡ true → In i done)
      free = (ready_exactly C law ps done j).0 r

  write_on_written : (f : ℕ) (done : List ℕ) → Written C ps done → Written C ps (write_on C ps f done)
  write_on_written zero done w = rw (write_on_end C ps done) w
  write_on_written (suc f) done w = elim (below_or_not (next C ps done) C.size) [
    | inl l ↦ rw (write_on_more C ps done f l) (write_on_written f (done ++ next C ps done ∷ []) (written_more done _ w l (next-ready C ps done l)))
    | inr e ↦ rw (write_on_stuck C ps done f e) w
  ]

  -- whatever the pairs, what is written is in order
  pub schedule_written : Written C ps (schedule C ps)
  unfolding schedule
  schedule_written = write_on_written C.size [] (written_none C ps)

  -- ## Where the pairs run it does not stop early

  -- the first of a run that is not written is ready
  pub next_exists : Runs C ps → (done : List ℕ) → length done < C.size → next C ps done < C.size
  next_exists (σ, r) done l = elim (below_or_not (next C ps done) C.size) [
    | inl k ↦ k
    | inr e ↦ elim (first_or_none (λ i. not (stands i done)) σ r.order.once) [
      | inl f ↦ absurd (not_both (ready C ps done f.at)
          ((ready_exactly C law ps done f.at).1 (
            λ k. not_both (stands f.at done) (in_stands f.at done k) (not-true _ f.passes),
            λ i a. stands_in i done (not-false _ (f.before i (run_arrow C ps σ r i f.at a))),
          ))
          (next_least C ps done f.at (omega (arith, r.order.only f.at f.among))))
      | inr none ↦ absurd (let b = full_length C.size done (λ i k. stands_in i done (not-false _ (none i (r.order.all i k)))) in omega arith)
    ]
  ]

  write_on_all : Runs C ps → (f : ℕ) (done : List ℕ) → Written C ps done → length done + f ≡ C.size
      → (i : ℕ) → i < C.size → In i (write_on C ps f done)
  write_on_all r zero done w e i l = rw (write_on_end C ps done) (once_full C.size done w.once w.below (omega arith) i l)
  write_on_all r (suc f) done w e i l =
      let k = next_exists r done (omega arith) in
      let j = next C ps done in
      rw (write_on_more C ps done f k)
      (write_on_all r f (done ++ j ∷ []) (written_more done j w k (next-ready C ps done k)) (omega (arith, length-append done (j ∷ []))) i l)

  -- where it has all instructions, and arrows end at instructions, it is a run
  full_run : ((i j : ℕ) → arrow C ps i j ≡ true → j < C.size) → ((i : ℕ) → i < C.size → In i (schedule C ps)) → Run C ps (schedule C ps)
  full_run ends all =
      let w = schedule_written in
      arrow_run C ps (schedule C ps) (record { all = all; only = w.below; once = w.once }) (λ i j a. w.kept i j (all j (ends i j a)) a)

  -- THEOREM: where the pairs run, the schedule is such an order.
  pub schedule_runs : Runs C ps → Run C ps (schedule C ps)
  unfolding schedule
  schedule_runs (σ, r) =
      full_run
      (λ i j a. r.order.only j (before_right i j σ (run_arrow C ps σ r i j a)))
      (write_on_all (σ, r) C.size [] (written_none C ps) (omega arith))

  -- THEOREM: for pairs between wires it has every instruction exactly when they run.
  pub schedule_complete : BetweenWires C ps → (length (schedule C ps) ≡ C.size) ↔ Runs C ps
  schedule_complete wires = (
    λ e. (schedule C ps, full_run ends (once_full C.size (schedule C ps) schedule_written.once schedule_written.below e)),
    λ r. order_length C.size (schedule C ps) (schedule_runs r).order,
  )
    where
      ends : (i j : ℕ) → arrow C ps i j ≡ true → j < C.size
      ends i j a = elim (arrow_cases C ps i j a) [
        | inl k ↦ law.inside i j k
        | inr r ↦ subst (λ z. z < C.size) (sym r.3) (law.reset_in r.0.1 (wires r.0.0 r.0.1 r.1).1)
      ]

  -- so it decides
  pub complete_exactly : BetweenWires C ps → (complete C ps ≡ true) ↔ Runs C ps
  unfolding complete
  complete_exactly wires = (
    λ h. (schedule_complete wires).0 (eqb-true (length (schedule C ps)) C.size h),
    λ r. eq-eqb (length (schedule C ps)) C.size ((schedule_complete wires).1 r),
  )

-- ## With no pairs nothing moves

module _ (C : Circuit) (law : Lawful C) where
  next_input : (k : ℕ) → k < C.size → next C [] (from 0 k) ≡ k
  next_input k l =
      next_is C [] (from 0 k) k l
      (λ m h. refuted _ (λ t. ((ready_exactly C law [] (from 0 k) m).0 t).0 (from_in 0 k m (omega arith) (omega arith))))
      ((ready_exactly C law [] (from 0 k) k).1 (
        (λ h. let r = in_from 0 k k h in omega arith),
        λ i a. elim (arrow_cases C [] i k a) [
          | inl p ↦ (let u = law.upward i k p in from_in 0 k i (omega arith) (omega arith))
          | inr q ↦ absurd q.1
        ],
      ))

  write_on_input : (f k : ℕ) → k + f ≡ C.size → write_on C [] f (from 0 k) ≡ from 0 C.size
  write_on_input zero k e = let q : k ≡ C.size = omega arith in write_on_end C [] (from 0 k) ∙ ap (from 0) q
  write_on_input (suc f) k e =
      let l : k < C.size = omega arith in
      let q : next C [] (from 0 k) ≡ 0 + k = omega (arith, next_input k l) in
      write_on_more C [] (from 0 k) f (omega arith)
      ∙ ap (write_on C [] f) (ap (λ z. from 0 k ++ z ∷ []) q ∙ from_last 0 k)
      ∙ write_on_input f (suc k) (omega arith)

  -- THEOREM: with no pairs the schedule is the input order.
  pub schedule_none : schedule C [] ≡ input_order C.size
  unfolding schedule from
  schedule_none = write_on_input C.size 0 (omega arith)

-- ## The pairs as a set

lender_fewer : (C : Circuit) (ps qs : List Pair) (done : List ℕ) (j : ℕ) → ((l t : ℕ) → In (l, t) qs → In (l, t) ps)
    → lender_written C ps done j ≡ true → lender_written C qs done j ≡ true
lender_fewer C ps qs done j sub h = (lender_written_lem C qs done j).1 (λ p k. (lender_written_lem C ps done j).0 h p (sub p.0 p.1 k))

module _ (C : Circuit) (ps qs : List Pair) (same : SamePairs ps qs) where
  ready_same : (done : List ℕ) (j : ℕ) → ready C ps done j ≡ ready C qs done j
  unfolding ready
  ready_same done j = ap (λ b. not (stands j done) && (earlier_written C done j && b))
      (same_test (lender_written C ps done j) (lender_written C qs done j)
      (lender_fewer C ps qs done j (λ l t. (same l t).1))
      (lender_fewer C qs ps done j (λ l t. (same l t).0)))

  next_same : (done : List ℕ) → next C ps done ≡ next C qs done
  unfolding next
  next_same done = ap (λ may. least may C.size 0) (fun_ext (ready_same done))

  write_on_same : (f : ℕ) (done : List ℕ) → write_on C ps f done ≡ write_on C qs f done
  write_on_same zero done = write_on_end C ps done ∙ sym (write_on_end C qs done)
  write_on_same (suc f) done =
      let e = next_same done in
      elim (below_or_not (next C ps done) C.size) [
        | inl l ↦
            write_on_more C ps done f l ∙ write_on_same f (done ++ next C ps done ∷ []) ∙ ap (λ z. write_on C qs f (done ++ z ∷ [])) e
            ∙ sym (write_on_more C qs done f (omega arith))
        | inr k ↦ write_on_stuck C ps done f k ∙ sym (write_on_stuck C qs done f (omega arith))
      ]

  -- THEOREM: the schedule depends on the pairs as a set only.
  pub schedule_same : schedule C ps ≡ schedule C qs
  unfolding schedule
  schedule_same = write_on_same C.size []

-- ## A table to start from

-- for each circuit there is one, and it can be computed
pub start_table_lem : (C : Circuit) → Lawful C → Start C (start_table C)
unfolding start_table
start_table_lem C law = record {
  marks = λ l t. (
    (λ m.
        let a = both (C.wire l) (C.wire t && complete C ((l, t) ∷ [])) m in
        let b = both (C.wire t) (complete C ((l, t) ∷ [])) a.1 in
        (a.0, b.0, (one l t a.0 b.0).0 b.1)),
    λ q. and_intro _ _ q.0 (and_intro _ _ q.1 ((one l t q.0 q.1).1 q.2)),
  );
  none_lent = λ x w. refl;
  none_taken = λ x w. refl;
}
  where
    one : (l t : ℕ) → C.wire l ≡ true → C.wire t ≡ true → (complete C ((l, t) ∷ []) ≡ true) ↔ Clear C [] l t
    one l t a b = Iff.trans
        (complete_exactly C law ((l, t) ∷ []) (λ u v k. elim k [
          | inl e ↦ subst (λ (p : Pair). (C.wire p.0 ≡ true) × (C.wire p.1 ≡ true)) (sym e) (a, b)
          | inr n ↦ absurd n
        ]))
        (runs_added C law l t [] a b (runs_none C law))

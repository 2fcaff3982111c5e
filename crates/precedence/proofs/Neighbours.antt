-- The document's graph, with arrows between neighbouring instructions of each wire only, leads to the same as the precedence, with any pairs,
-- and the order of writing that waits for neighbours only is the same: what a wire forces is cut at an instruction between, as long as there
-- is one. Assumes nothing.
use Prim.Native.Nat.{ℕ, zero, suc, ◌+◌, ◌-◌, ◌≤◌, ◌<◌}
use mathlib.Core.Path.{◌≡◌, refl, sym, ◌∙◌, ap, subst, fun_ext}
use mathlib.Core.Logic.{inl, inr, ◌↔◌}
use mathlib.Core.Bool.{Bool, true, false, not, ◌&&◌, ◌||◌}
use mathlib.Core.List.{List, [], ◌∷◌, ◌++◌}
use native.Mathlib.Omega.{arith}
use lib.ListN.{length}
use Rattle.basics.proofs.Tests.{both, and_intro, true_or_false, not_of_false, same_test, implied, implies, below_or_not}
use Rattle.orders.specs.Indices.{In, any, every, stands, from}
use Rattle.orders.specs.Runs.{Pair, Runs, BetweenWires}
use Rattle.orders.specs.Graph.{arrow, Leads, here, step, Reach, Cycle, Acyclic}
use Rattle.orders.specs.Schedule.{earlier_written, lender_written, ready, least, next, write_on, schedule}
use Rattle.orders.proofs.Indices.{any_in, any_which, every_at, every_from, stands_in, in_stands, from_in, in_from, before_left}
use Rattle.orders.proofs.Graph.{leads_trans, leads_more, arrow-prec, arrow_pair, arrow_cases}
use Rattle.orders.proofs.Runs.{runs_exactly_acyclic}
use Rattle.orders.proofs.Schedule.{next-ready, write_on_more, write_on_stuck, write_on_end, Written, written_none, written_more}
use Rattle.records.specs.declared.instructions.Instruction.{Instruction}
use Rattle.circuits.specs.Reading.{Static}
use Rattle.precedence.specs.Precedence.{on, lines_at, must_on, prec, circuit_of, next_on, neighbours, drawn_of, Wired}
use Rattle.precedence.proofs.Paths.{last_arrow, leads_paths}
use Rattle.precedence.proofs.Precedence.{must_exactly, on_lines, prec_exactly, prec_upward, circuit_lawful}

module _ (is : List Instruction) where
  -- neighbours must keep their order
  pub neighbours-prec : (i j : ℕ) → neighbours is i j ≡ true → prec is i j ≡ true
  unfolding neighbours next_on
  neighbours-prec i j h =
      let r = any_which (λ x. next_on is x i j) (lines_at is i) h in
      (prec_exactly is i j).1 (r.0, (both (must_on is r.0 i j) (not (any (on is r.0) (from (suc i) (j - suc i)))) r.2).0)

  next_neighbours : (x i j : ℕ) → must_on is x i j ≡ true → any (on is x) (from (suc i) (j - suc i)) ≡ false → neighbours is i j ≡ true
  unfolding neighbours next_on
  next_neighbours x i j m n =
      any_in (λ y. next_on is y i j) x (lines_at is i) (on_lines is x i ((must_exactly is x i j).0 m).1)
      (and_intro (must_on is x i j) (not (any (on is x) (from (suc i) (j - suc i)))) m (not_of_false _ n))

  -- what line x forces is a path of neighbours, of at most n arrows
  must_leads : (n x i j : ℕ) → j ≤ i + n → must_on is x i j ≡ true → Leads (neighbours is) i j
  must_leads zero x i j l m = absurd (omega (arith, ((must_exactly is x i j).0 m).0))
  must_leads (suc n) x i j l m = elim (true_or_false (any (on is x) (from (suc i) (j - suc i)))) [
    | inl t ↦
        let p = (must_exactly is x i j).0 m in
        let r = any_which (on is x) (from (suc i) (j - suc i)) t in
        let b = in_from (suc i) (j - suc i) r.0 r.1 in
        let lo : i < r.0 = b.0 in
        let hi : r.0 < j = omega (arith, b.1, p.0) in
        leads_trans (must_leads n x i r.0 (omega arith) ((must_exactly is x i r.0).1 (lo, p.1, r.2)))
        (must_leads n x r.0 j (omega arith) ((must_exactly is x r.0 j).1 (hi, r.2, p.2)))
    | inr f ↦ step (next_neighbours x i j m f) (here refl)
  ]

  prec_leads : (i j : ℕ) → prec is i j ≡ true → Leads (neighbours is) i j
  prec_leads i j h = let r = (prec_exactly is i j).0 h in must_leads j r.0 i j (omega arith) r.1

module _ (c : Static) (ps : List Pair) where
  drawn_arrow : (i j : ℕ) → arrow (drawn_of c) ps i j ≡ true → arrow (circuit_of c) ps i j ≡ true
  drawn_arrow i j h = elim (arrow_cases (drawn_of c) ps i j h) [
    | inl n ↦ arrow-prec (circuit_of c) ps i j (neighbours-prec c.steps i j n)
    | inr q ↦ arrow_pair (circuit_of c) ps q.0 i j q.1 q.2 q.3
  ]

  arrow_drawn : (i j : ℕ) → arrow (circuit_of c) ps i j ≡ true → Reach (drawn_of c) ps i j
  arrow_drawn i j h = elim (arrow_cases (circuit_of c) ps i j h) [
    | inl p ↦ leads_more (λ a b n. arrow-prec (drawn_of c) ps a b n) (prec_leads c.steps i j p)
    | inr q ↦ step (arrow_pair (drawn_of c) ps q.0 i j q.1 q.2 q.3) (here refl)
  ]

  -- with any pairs the document's graph leads to the same
  pub reach_drawn : (i j : ℕ) → Reach (drawn_of c) ps i j ↔ Reach (circuit_of c) ps i j
  reach_drawn i j = (leads_more drawn_arrow, leads_paths arrow_drawn)

  -- a path of neighbours between two different instructions, and a path back
  cycle_closed : {i j : ℕ} → i < j → Leads (neighbours c.steps) i j → Reach (drawn_of c) ps j i → Cycle (drawn_of c) ps
  cycle_closed l (here e) r = absurd (omega arith)
  cycle_closed l (step {i = i} {j = m} h q) r =
      (i, m, arrow-prec (drawn_of c) ps i m h, leads_trans (leads_more (λ a b n. arrow-prec (drawn_of c) ps a b n) q) r)

  cycle_drawn : Cycle (circuit_of c) ps → Cycle (drawn_of c) ps
  cycle_drawn z =
      let back = (reach_drawn z.1 z.0).1 z.3 in
      elim (arrow_cases (circuit_of c) ps z.0 z.1 z.2) [
        | inl p ↦ cycle_closed (prec_upward c.steps z.0 z.1 p) (prec_leads c.steps z.0 z.1 p) back
        | inr q ↦ (z.0, z.1, arrow_pair (drawn_of c) ps q.0 z.0 z.1 q.1 q.2 q.3, back)
      ]

  pub acyclic_drawn : Acyclic (drawn_of c) ps ↔ Acyclic (circuit_of c) ps
  acyclic_drawn = (λ a z. a (cycle_drawn z), λ a z. a (z.0, z.1, drawn_arrow z.0 z.1 z.2, (reach_drawn z.1 z.0).0 z.3))

  -- Theorem 1's third condition both ways: an order exists exactly when the document's graph has no cycle
  pub runs_exactly_drawn : Wired c → BetweenWires (circuit_of c) ps → Runs (circuit_of c) ps ↔ Acyclic (drawn_of c) ps
  runs_exactly_drawn wired b =
      let r = runs_exactly_acyclic (circuit_of c) (circuit_lawful c wired) ps b in
      (λ h. acyclic_drawn.1 (r.0 h), λ a. r.1 (acyclic_drawn.0 a))

-- ## The order of writing

module _ (c : Static) (wired : Wired c) (ps : List Pair) where
  -- what leads to a written instruction is written
  leads_written : (done : List ℕ) → Written (circuit_of c) ps done → {i j : ℕ} → Leads (neighbours c.steps) i j → In j done → In i done
  leads_written done w (here e) h = subst (λ z. In z done) (sym e) h
  leads_written done w (step {i = i} {j = m} n q) h =
      before_left i m done (w.kept i m (leads_written done w q h) (arrow-prec (circuit_of c) ps i m (neighbours-prec c.steps i m n)))

  -- where all earlier neighbours are written, so are all that must come before
  earlier_drawn : (done : List ℕ) → Written (circuit_of c) ps done → (j : ℕ) → earlier_written (drawn_of c) done j ≡ earlier_written (circuit_of c) done j
  unfolding earlier_written
  earlier_drawn done w j = same_test (every drawn (from 0 j)) (every forced (from 0 j))
      (λ h. every_from forced (from 0 j) (λ i k. implies (prec c.steps i j) (stands i done) (λ p. in_stands i done (all h i p))))
      (λ h. every_from drawn (from 0 j)
      (λ i k. implies (neighbours c.steps i j) (stands i done) (λ n. implied _ _ (every_at forced (from 0 j) h i k) (neighbours-prec c.steps i j n))))
    where
      drawn : ℕ → Bool
      drawn i = not (neighbours c.steps i j) || stands i done

      forced : ℕ → Bool
      forced i = not (prec c.steps i j) || stands i done

      all : every drawn (from 0 j) ≡ true → (i : ℕ) → prec c.steps i j ≡ true → In i done
      all h i p = elim (last_arrow (prec_leads c.steps i j p)) [
        | inl e ↦ absurd (omega (arith, prec_upward c.steps i j p))
        | inr q ↦
            let l = prec_upward c.steps q.0 j (neighbours-prec c.steps q.0 j q.2) in
            let s = implied (neighbours c.steps q.0 j) (stands q.0 done)
            (every_at drawn (from 0 j) h q.0 (from_in 0 j q.0 (omega arith) (omega arith))) q.2 in
            leads_written done w q.1 (stands_in q.0 done s)
      ]

  ready_drawn : (done : List ℕ) → Written (circuit_of c) ps done → (j : ℕ) → ready (drawn_of c) ps done j ≡ ready (circuit_of c) ps done j
  unfolding ready lender_written
  ready_drawn done w j = ap (λ b. not (stands j done) && (b && lender_written (circuit_of c) ps done j)) (earlier_drawn done w j)

  next_drawn : (done : List ℕ) → Written (circuit_of c) ps done → next (drawn_of c) ps done ≡ next (circuit_of c) ps done
  unfolding next
  next_drawn done w = ap (λ may. least may (length c.steps) 0) (fun_ext (ready_drawn done w))

  write_on_drawn : (f : ℕ) (done : List ℕ) → Written (circuit_of c) ps done → write_on (drawn_of c) ps f done ≡ write_on (circuit_of c) ps f done
  write_on_drawn zero done w = write_on_end (drawn_of c) ps done ∙ sym (write_on_end (circuit_of c) ps done)
  write_on_drawn (suc f) done w =
      let e = next_drawn done w in
      elim (below_or_not (next (circuit_of c) ps done) (length c.steps)) [
        | inl l ↦
            let more = written_more (circuit_of c) (circuit_lawful c wired) ps done (next (circuit_of c) ps done) w l (next-ready (circuit_of c) ps done l) in
            write_on_more (drawn_of c) ps done f (omega arith) ∙ ap (λ z. write_on (drawn_of c) ps f (done ++ z ∷ [])) e
            ∙ write_on_drawn f (done ++ next (circuit_of c) ps done ∷ []) more ∙ sym (write_on_more (circuit_of c) ps done f l)
        | inr k ↦ write_on_stuck (drawn_of c) ps done f (omega arith) ∙ sym (write_on_stuck (circuit_of c) ps done f k)
      ]

  -- the order of writing is the same, whether it waits for the earlier neighbours or for all that must come before
  pub schedule_drawn : schedule (drawn_of c) ps ≡ schedule (circuit_of c) ps
  unfolding schedule
  schedule_drawn = write_on_drawn (length c.steps) [] (written_none (circuit_of c) ps)

-- The heads compute the order of writing: a head may be written exactly when it is ready, what is ready is the head of each of its wires, and
-- so the least head that may be written is what comes next. Assumes nothing.
use Prim.Native.Nat.{ℕ, ◌+◌, ◌≤◌, ◌<◌}
use mathlib.Core.Path.{◌≡◌, refl, sym, ap, subst, ◌∙◌}
use mathlib.Core.Logic.{inl, inr, ◌↔◌}
use mathlib.Core.Bool.{Bool, true, false, ◌&&◌}
use mathlib.Core.List.{List, [], ◌∷◌, ◌++◌}
use mathlib.Core.Option.{some}
use native.Mathlib.Omega.{arith}
use lib.ListN.{length, get_or, get_elem?}
use lib.Dec.{eqb, ltb}
use borrow.Author.Tests.{eqb-true, eq-eqb, ltb-true, lt-ltb}
use Rattle.basics.proofs.Tests.{not_both, both, and_intro, implied, implies, same_or_other, below_or_not}
use Rattle.orders.specs.Indices.{In}
use Rattle.orders.specs.Runs.{Pair, Lawful}
use Rattle.orders.specs.Schedule.{ready}
use Rattle.orders.proofs.Indices.{before_left, put_last, in_put, in_left, in_right, in_stands}
use Rattle.orders.proofs.Graph.{arrow-prec, arrow_pair, arrow_cases}
use Rattle.orders.proofs.Schedule.{Written, ready_exactly}
use Rattle.records.specs.Records.{line}
use Rattle.records.specs.declared.instructions.Instruction.{Instruction}
use Rattle.records.specs.declared.instructions.Instruction.TheVariants.{Reset, Measurement, Gate, AngledGate, TwoLineGate, AngledTwoLineGate}
use Rattle.circuits.specs.Reading.{Static}
use Rattle.precedence.specs.Lives.{lines_of, touches, resets}
use Rattle.precedence.specs.Precedence.{holds, at, on, meas_of, circuit_of, Wired}
use Rattle.precedence.proofs.Precedence.{must_exactly, prec_exactly, on-prec, spans, reset_there, meas_on, prec_meas, circuit_lawful}
use Rattle.precedence.proofs.Spans.{at_inside}
use Rattle.pairs.specs.Lending.{lender_of, takes, pairs_of}
use Rattle.writer.specs.Notes.{is_reset, form_of, first_wire, note_at, first_at, second_at}
use Rattle.writer.specs.Heads.{NextOn, Tabled, is_free, may_write, candidate}
use Rattle.writer.specs.declared.source.Source.{Source}
use Rattle.writer.proofs.Wires.{first_in, second_in, wire_on, on_wire, there, first_tabled, second_tabled, reset_tabled}
use Rattle.writer.proofs.Pairs.{pair_in, pair_says}

-- ## What a head that may be written tells

module _ (s : Source) (indices : List ℕ) where
  -- a wire that takes is free exactly when its lender's head is past the last instruction
  free_exactly : (x : ℕ) → (is_free s indices x ≡ true)
      ↔ (takes s.lenders.lenders s.valid.width x ≡ true → get_or indices (lender_of s.lenders.lenders x) 0 ≡ s.valid.instructions)
  unfolding is_free
  free_exactly x = (
    λ h t. eqb-true _ _ (implied (takes s.lenders.lenders s.valid.width x) _ h t),
    λ h. implies (takes s.lenders.lenders s.valid.width x) _ (λ t. eq-eqb _ _ (h t)),
  )

  -- an instruction is the head of its wires, and where it is a reset all on the lender of its wire is written
  pub record May (k : ℕ) : Type 0 where
    pub inside : k < s.valid.instructions
    pub first : get_or indices (first_at s.notes.now k) 0 ≡ k
    pub second : get_or indices (second_at s.notes.now k) 0 ≡ k
    pub free : is_reset (note_at s.notes.now k).form ≡ true → takes s.lenders.lenders s.valid.width (first_at s.notes.now k) ≡ true
        → get_or indices (lender_of s.lenders.lenders (first_at s.notes.now k)) 0 ≡ s.valid.instructions

  pub may_tells : (x : ℕ) → candidate s indices x ≡ true → May (get_or indices x 0)
  unfolding candidate may_write
  may_tells x h =
      let index = get_or indices x 0 in
      let b = both (ltb index s.valid.instructions) _ h in
      let f = both (eqb (get_or indices (first_at s.notes.now index) 0) index) _ b.1 in
      let s' = both (eqb (get_or indices (second_at s.notes.now index) 0) index) _ f.1 in
      record {
        inside = ltb-true index s.valid.instructions b.0;
        first = eqb-true _ index f.0;
        second = eqb-true _ index s'.0;
        free = λ r. (free_exactly (first_at s.notes.now index)).0 (implied (is_reset (note_at s.notes.now index).form) _ s'.1 r);
      }

  pub may_holds : (x : ℕ) → May (get_or indices x 0) → candidate s indices x ≡ true
  unfolding candidate may_write
  may_holds x g =
      let index = get_or indices x 0 in
      and_intro (ltb index s.valid.instructions) _ (lt-ltb index s.valid.instructions g.inside)
      (and_intro (eqb (get_or indices (first_at s.notes.now index) 0) index) _ (eq-eqb _ _ g.first)
      (and_intro (eqb (get_or indices (second_at s.notes.now index) 0) index) _ (eq-eqb _ _ g.second)
      (implies (is_reset (note_at s.notes.now index).form) _ (λ r. (free_exactly (first_at s.notes.now index)).1 (g.free r)))))

  -- wires with the same head are candidates alike
  pub may_same : (x y : ℕ) → get_or indices y 0 ≡ get_or indices x 0 → candidate s indices x ≡ true → candidate s indices y ≡ true
  unfolding candidate
  may_same x y e h = subst (λ k. (ltb k s.valid.instructions && may_write s indices k) ≡ true) (sym e) h

-- an instruction of the form of resets is one
is_one : (i : Instruction) → is_reset (form_of i) ≡ true → i ≡ Reset (line (first_wire i))
is_one (Reset l) h = refl
is_one (Measurement l b) h = cc
is_one (Gate k l) h = cc
is_one (AngledGate k l a) h = cc
is_one (TwoLineGate k l m) h = cc
is_one (AngledTwoLineGate k l m a) h = cc

-- ## A wire's head

-- k is the index of the first instruction on wire x that is not written; the number of instructions where all are
pub record Head (is : List Instruction) (done : List ℕ) (x k : ℕ) : Type 0 where
  pub inside : k ≤ length is
  pub past : (i : ℕ) → i < k → on is x i ≡ true → In i done
  pub coming : (i : ℕ) → k ≤ i → on is x i ≡ true → ¬ In i done
  pub here : k < length is → on is x k ≡ true

module _ (is : List Instruction) (x : ℕ) where
  -- before anything is written it is the first on the wire
  pub head_first : {k : ℕ} → NextOn is x 0 k → Head is [] x k
  head_first h = record {
    inside = h.inside;
    past = λ i b o. absurd (not_both (on is x i) o (h.between i (omega arith) b));
    coming = λ i b o n. n;
    here = h.here;
  }

  module _ (done : List ℕ) (j : ℕ) where
    -- what is written elsewhere does not move it
    pub head_kept : {k : ℕ} → on is x j ≡ false → Head is done x k → Head is (done ++ j ∷ []) x k
    head_kept {k} f h = record {
      inside = h.inside;
      past = λ i b o. in_left i done (j ∷ []) (h.past i b o);
      coming = λ i b o n. elim (in_put (put_last j done) i n) [
        | inl e ↦ not_both (on is x i) o (subst (λ z. on is x z ≡ false) (sym e) f)
        | inr m ↦ h.coming i b o m
      ];
      here = h.here;
    }

    -- written itself, it moves to the next on the wire
    pub head_moved : {k : ℕ} → Head is done x j → NextOn is x (j + 1) k → Head is (done ++ j ∷ []) x k
    head_moved {k} h m = record {
      inside = m.inside;
      past = λ i b o. elim (below_or_not i j) [
        | inl a ↦ in_left i done (j ∷ []) (h.past i a o)
        | inr a ↦ elim (same_or_other i j) [
          | inl e ↦ in_right i done (j ∷ []) (inl e)
          | inr d ↦ absurd (not_both (on is x i) o (m.between i (omega arith) b))
        ]
      ];
      coming = λ i b o n. elim (in_put (put_last j done) i n) [
        | inl e ↦ (let u = m.onward in omega arith)
        | inr q ↦ (let u = m.onward in h.coming i (omega arith) o q)
      ];
      here = m.here;
    }

-- ## What may be written is what is ready

module _ (c : Static) (wired : Wired c) (s : Source) (indices : List ℕ) (wide : s.valid.width ≡ c.width) (done : List ℕ)
    (w : Written (circuit_of c) (pairs_of s.lenders.lenders c.width) done) (tab : Tabled c.steps s)
    (heads : (x : ℕ) → x < c.width → Head c.steps done x (get_or indices x 0)) where
  abbrev law : Lawful (circuit_of c)
  law = circuit_lawful c wired

  abbrev ps : List Pair
  ps = pairs_of s.lenders.lenders c.width

  abbrev may : ℕ → Bool
  may = candidate s indices

  below : (x k : ℕ) → on c.steps x k ≡ true → x < c.width
  below x k o = ltb-true x c.width (wired.named x k o)

  -- all on a wire is written exactly when its measurement is
  lender_past : (l : ℕ) → l < c.width → get_or indices l 0 ≡ s.valid.instructions → In (meas_of c.steps l) done
  lender_past l b e =
      let o = meas_on c wired l (lt-ltb l c.width b) in
      (heads l b).past (meas_of c.steps l) (omega (arith, at_inside (touches l) c.steps (meas_of c.steps l) o)) o

  lender_over : (l : ℕ) → l < c.width → In (meas_of c.steps l) done → get_or indices l 0 ≡ s.valid.instructions
  lender_over l b m = elim (below_or_not (get_or indices l 0) (length c.steps)) [
    | inl k ↦ (let o = (heads l b).here k in
        absurd ((heads l b).coming (get_or indices l 0) (omega arith) o
        (elim (same_or_other (get_or indices l 0) (meas_of c.steps l)) [
          | inl e ↦ subst (λ z. In z done) (sym e) m
          | inr d ↦ before_left (get_or indices l 0) (meas_of c.steps l) done
              (w.kept (get_or indices l 0) (meas_of c.steps l) m (arrow-prec (circuit_of c) ps (get_or indices l 0) (meas_of c.steps l) (prec_meas c wired l (get_or indices l 0) o d)))
        ])))
    | inr k ↦ omega (arith, (heads l b).inside)
  ]

  -- a head that may be written is ready
  pub may-ready : (x : ℕ) → x < c.width → may x ≡ true → ready (circuit_of c) ps done (get_or indices x 0) ≡ true
  may-ready x b m =
      let j = get_or indices x 0 in
      let g = may_tells s indices x m in
      let l : j < length c.steps = omega (arith, g.inside, tab.all) in
      let it = there c.steps j l in
      (ready_exactly (circuit_of c) law ps done j).1 (
        (heads x b).coming j (omega arith) ((heads x b).here l),
        λ i a. elim (arrow_cases (circuit_of c) ps i j a) [
          | inl p ↦ (let y = (prec_exactly c.steps i j).0 p in
              let u = (must_exactly c.steps y.0 i j).0 y.1 in
              let h : get_or indices y.0 0 ≡ j = elim (on_wire c.steps j it.1 y.0 u.2) [
                | inl e ↦ ap (λ z. get_or indices z 0) (e ∙ sym (first_tabled tab j it.0 it.1)) ∙ g.first
                | inr e ↦ ap (λ z. get_or indices z 0) (e ∙ sym (second_tabled tab j it.0 it.1)) ∙ g.second
              ] in
              (heads y.0 (below y.0 i u.1)).past i (omega arith) u.1)
          | inr q ↦ (let t = q.0.1 in
              let k = pair_in s.lenders.lenders c.width q.0.0 t q.1 in
              let same : it.0 ≡ Reset (line t) = cc (it.1, ap (get_elem? c.steps) q.3, reset_there c wired t (lt-ltb t c.width k.taker)) in
              let wire : first_at s.notes.now j ≡ t = first_tabled tab j it.0 it.1 ∙ ap first_wire same in
              let f = g.free (reset_tabled tab j it.0 it.1 ∙ ap (λ i. is_reset (form_of i)) same)
              (subst (λ v. takes s.lenders.lenders v (first_at s.notes.now j) ≡ true) (sym wide) (subst (λ z. takes s.lenders.lenders c.width z ≡ true) (sym wire) k.takes)) in
              subst (λ z. In z done) (sym q.2)
              (lender_past q.0.0 k.lender (ap (λ z. get_or indices z 0) k.is ∙ ap (λ z. get_or indices (lender_of s.lenders.lenders z) 0) (sym wire) ∙ f)))
        ],
      )

  -- what is ready is the head of each of its lines
  pub ready_head : (j : ℕ) → ready (circuit_of c) ps done j ≡ true → (y : ℕ) → on c.steps y j ≡ true → get_or indices y 0 ≡ j
  ready_head j r y o =
      let f = (ready_exactly (circuit_of c) law ps done j).0 r in
      let h = heads y (below y j o) in
      elim (below_or_not (get_or indices y 0) j) [
        | inl a ↦ (let l = at_inside (touches y) c.steps j o in
            let k = h.here (omega arith) in
            absurd (h.coming (get_or indices y 0) (omega arith) k
            (f.1 (get_or indices y 0) (arrow-prec (circuit_of c) ps (get_or indices y 0) j (on-prec c.steps y (get_or indices y 0) j a k o)))))
        | inr a ↦ elim (same_or_other (get_or indices y 0) j) [
          | inl e ↦ e
          | inr d ↦ absurd (f.0 (h.past j (omega arith) o))
        ]
      ]

  -- so some head may be written, and it is the one
  pub ready_may : (j : ℕ) → j < length c.steps → ready (circuit_of c) ps done j ≡ true
      → (x : ℕ) × (x < c.width) × (get_or indices x 0 ≡ j) × (may x ≡ true)
  ready_may j l r =
      let i = there c.steps j l in
      let x = first_wire i.0 in
      let onto : ((y : ℕ) → In y (lines_of i.0) → on c.steps y j ≡ true) = wire_on c.steps j i.1 in
      let first = first_tabled tab j i.0 i.1 in
      let e = ready_head j r x (onto x (first_in i.0)) in (
        x,
        below x j (onto x (first_in i.0)),
        e,
        may_holds s indices x (subst (May s indices) (sym e) (record {
          inside = omega (arith, tab.all);
          first = ap (λ z. get_or indices z 0) first ∙ e;
          second = ap (λ z. get_or indices z 0) (second_tabled tab j i.0 i.1) ∙ ready_head j r _ (onto _ (second_in i.0));
          free = λ f t. ap (λ z. get_or indices (lender_of s.lenders.lenders z) 0) first
              ∙ lender_done j r i.0 i.1 x (is_one i.0 (sym (reset_tabled tab j i.0 i.1) ∙ f)) (subst (λ z. takes s.lenders.lenders s.valid.width z ≡ true) first t);
        })),
      )
    where
      lender_done : (j : ℕ) → ready (circuit_of c) ps done j ≡ true → (i : Instruction) → get_elem? c.steps j ≡ some i → (t : ℕ) → i ≡ Reset (line t)
          → takes s.lenders.lenders s.valid.width t ≡ true → get_or indices (lender_of s.lenders.lenders t) 0 ≡ s.valid.instructions
      lender_done j r i e t same k =
          let o : at (resets t) c.steps j ≡ true = ap (holds (resets t)) (e ∙ ap some same) ∙ eq-eqb t t refl in
          let b = below t j (ap (holds (touches t)) (e ∙ ap some same) ∙ in_stands t (t ∷ []) (inl refl)) in
          let k' = subst (λ v. takes s.lenders.lenders v t ≡ true) wide k in
          let z = (spans c wired t (lt-ltb t c.width b)).one_reset j o in
          lender_over (lender_of s.lenders.lenders t) (ltb-true _ _ k')
          (((ready_exactly (circuit_of c) law ps done j).0 r).1 (meas_of c.steps (lender_of s.lenders.lenders t))
          (arrow_pair (circuit_of c) ps (lender_of s.lenders.lenders t, t) (meas_of c.steps (lender_of s.lenders.lenders t)) j (pair_says s.lenders.lenders c.width t b k') refl z))

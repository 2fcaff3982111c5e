-- The pass over a valid circuit computes the table to start from. After k instructions t is in x's set exactly when t's reset leads to one of
-- them that is on x. Assumes nothing.
use Prim.Native.Nat.{ℕ, suc, ◌+◌, ◌<◌}
use mathlib.Core.Path.{◌≡◌, refl, sym, ap, subst, ◌∙◌}
use mathlib.Core.Logic.{◌⊎◌, inl, inr, ◌↔◌}
use mathlib.Core.Bool.{Bool, true, false, not, ◌&&◌, ◌||◌, false≢true}
use mathlib.Core.List.{List, [], ◌∷◌}
use mathlib.Core.Option.{some}
use native.Mathlib.Omega.{arith}
use lib.ListN.{length, get_elem?}
use lib.Dec.{eqb}
use borrow.Author.Tests.{eqb-true, not-true}
use Rattle.basics.specs.Choice.{pick}
use Rattle.basics.proofs.Tests.{not_both, refuted, not_of_false, both, and_intro, either, or_left, or_right, same_or_other}
use Rattle.orders.specs.Indices.{any, stands}
use Rattle.orders.specs.Graph.{Leads, here, step, Reach, Clear}
use Rattle.orders.specs.Table.{Start}
use Rattle.orders.proofs.Indices.{any_in, any_which, stands_in, in_stands}
use Rattle.orders.proofs.Graph.{leads_trans, leads_more, arrow-prec, arrow_cases}
use Rattle.records.specs.declared.numbers.Angle.{Angle}
use Rattle.records.specs.declared.numbers.Bit.{Bit}
use Rattle.records.specs.declared.numbers.Line.{Line}
use Rattle.records.specs.declared.instructions.Instruction.{Instruction}
use Rattle.records.specs.declared.instructions.Instruction.TheVariants.{Reset, Measurement, Gate, AngledGate, TwoLineGate, AngledTwoLineGate}
use Rattle.circuits.specs.Reading.{Static}
use Rattle.precedence.specs.Lives.{lines_of, touches, resets}
use Rattle.precedence.specs.Precedence.{holds, at, on, reset_of, meas_of, prec, wire, circuit_of, Wired}
use Rattle.precedence.specs.Starts.{Sets, no_sets, read_on, leading_to, after, pass, leading_sets, start_of}
use Rattle.precedence.proofs.Paths.{last_arrow}
use Rattle.precedence.proofs.Precedence.{must_exactly, prec_exactly, on-prec, spans, meas_on, prec_meas, circuit_lawful}

-- ## What each kind of instruction does to the sets, as a loop over rows has it

-- with a, b: x is the first line, the second; p, q, r: t is in the set of the first, of the second, of x
reset_test : (a e p r : Bool) → (a ≡ true → r ≡ p) → (r || ((a || false) && (e || (p || false)))) ≡ (r || (a && e))
reset_test true true p r h = refl
reset_test true false true r h = rw (h refl)
reset_test true false false r h = refl
reset_test false e p r h = refl

one_test : (a p r : Bool) → (a ≡ true → r ≡ p) → (r || ((a || false) && (p || false))) ≡ r
one_test true true r h = rw (h refl)
one_test true false r h = rw (h refl)
one_test false p true h = refl
one_test false p false h = refl

two_test : (a b p q r : Bool) → (a ≡ true → r ≡ p) → (b ≡ true → r ≡ q) → (r || ((a || (b || false)) && (p || (q || false)))) ≡ pick (a || b) (p || q) r
two_test true b true q r h k = rw (h refl)
two_test true b false true r h k = rw (h refl)
two_test true b false false r h k = rw (h refl)
two_test false true true true r h k = rw (k refl)
two_test false true true false r h k = rw (k refl)
two_test false true false true r h k = rw (k refl)
two_test false true false false r h k = rw (k refl)
two_test false false p q true h k = refl
two_test false false p q false h k = refl

module _ (s : Sets) (x t : ℕ) where
  same_set : (y : ℕ) → eqb x y ≡ true → s x t ≡ s y t
  same_set y e = ap (λ (z : ℕ). s z t) (eqb-true x y e)

  -- a reset is added to the set of its line
  pub after_reset : (l : Line) → after (Reset l) s x t ≡ (s x t || (eqb x l.0 && eqb t l.0))
  unfolding after leading_to any stands
  after_reset l = reset_test (eqb x l.0) (eqb t l.0) (s l.0 t) (s x t) (same_set l.0)

  -- a measurement and a gate on one line change no set
  pub after_measurement : (l : Line) (b : Bit) → after (Measurement l b) s x t ≡ s x t
  unfolding after leading_to any stands
  after_measurement l b = one_test (eqb x l.0) (s l.0 t) (s x t) (same_set l.0)

  pub after_gate : (k : ℕ) (l : Line) → after (Gate k l) s x t ≡ s x t
  unfolding after leading_to any stands
  after_gate k l = one_test (eqb x l.0) (s l.0 t) (s x t) (same_set l.0)

  pub after_angled_gate : (k : ℕ) (l : Line) (a : Angle) → after (AngledGate k l a) s x t ≡ s x t
  unfolding after leading_to any stands
  after_angled_gate k l a = one_test (eqb x l.0) (s l.0 t) (s x t) (same_set l.0)

  -- both lines of a gate on two get the union of their sets
  pub after_two : (k : ℕ) (l m : Line) → after (TwoLineGate k l m) s x t ≡ pick (eqb x l.0 || eqb x m.0) (s l.0 t || s m.0 t) (s x t)
  unfolding after leading_to any stands
  after_two k l m = two_test (eqb x l.0) (eqb x m.0) (s l.0 t) (s m.0 t) (s x t) (same_set l.0) (same_set m.0)

  pub after_angled_two : (k : ℕ) (l m : Line) (a : Angle)
      → after (AngledTwoLineGate k l m a) s x t ≡ pick (eqb x l.0 || eqb x m.0) (s l.0 t || s m.0 t) (s x t)
  unfolding after leading_to any stands
  after_angled_two k l m a = two_test (eqb x l.0) (eqb x m.0) (s l.0 t) (s m.0 t) (s x t) (same_set l.0) (same_set m.0)

-- ## What the sets say

module _ (c : Static) (wired : Wired c) where
  abbrev is : List Instruction
  is = c.steps

  -- t's reset leads to an instruction on x, among the first k
  abbrev Seen : ℕ → ℕ → ℕ → Type 0
  Seen k x t = (i : ℕ) × (i < k) × (on is x i ≡ true) × Leads (prec is) (reset_of is t) i

  seen_on : (k x t : ℕ) → on is x k ≡ true → Seen k x t → Leads (prec is) (reset_of is t) k
  seen_on k x t o s = leads_trans s.3 (step (on-prec is x s.0 k s.1 s.2 o) (here refl))

  -- what leads to the k-th: itself, or what leads to an earlier one on one of its lines
  leads_last : (k t : ℕ) → Leads (prec is) (reset_of is t) k → (reset_of is t ≡ k) ⊎ ((x : ℕ) × (on is x k ≡ true) × Seen k x t)
  leads_last k t r = elim (last_arrow r) [
    | inl e ↦ inl e
    | inr q ↦
        let p = (prec_exactly is q.0 k).0 q.2 in
        let m = (must_exactly is p.0 q.0 k).0 p.1 in
        inr (p.0, m.2, (q.0, m.0, m.1, q.1))
  ]

  -- among the first k + 1: among the first k, or the k-th
  seen_cases : (k x t : ℕ) → Seen (suc k) x t → Seen k x t ⊎ ((on is x k ≡ true) × Leads (prec is) (reset_of is t) k)
  seen_cases k x t s = elim (same_or_other s.0 k) [
    | inl e ↦ inr (subst (λ z. on is x z ≡ true) e s.2, subst (λ z. Leads (prec is) (reset_of is t) z) e s.3)
    | inr d ↦ inl (s.0, omega arith, s.2, s.3)
  ]

  -- the sets after k instructions
  abbrev Known : ℕ → Sets → Type 0
  Known k s = (x t : ℕ) → wire c t ≡ true → (s x t ≡ true) ↔ Seen k x t

  module _ (k : ℕ) (i : Instruction) (there : get_elem? is k ≡ some i) (s : Sets) (known : Known k s) (t : ℕ) (h : wire c t ≡ true) where
    at_there : (p : Instruction → Bool) → at p is k ≡ p i
    at_there p = ap (holds p) there

    leading_leads : leading_to i s t ≡ true → Leads (prec is) (reset_of is t) k
    unfolding leading_to
    leading_leads e = elim (either (resets t i) (any (λ x. read_on s x t) (lines_of i)) e) [
      | inl r ↦ here (sym ((spans c wired t h).one_reset k (at_there (resets t) ∙ r)))
      | inr a ↦
          let r = any_which (λ x. read_on s x t) (lines_of i) a in
          seen_on k r.0 t (at_there (touches r.0) ∙ in_stands r.0 (lines_of i) r.1) ((known r.0 t h).0 r.2)
    ]

    leads_leading : Leads (prec is) (reset_of is t) k → leading_to i s t ≡ true
    unfolding leading_to
    leads_leading r = elim (leads_last k t r) [
      | inl e ↦
          or_left (resets t i) (any (λ x. read_on s x t) (lines_of i))
          (sym (at_there (resets t)) ∙ subst (λ z. at (resets t) is z ≡ true) e (spans c wired t h).reset_at)
      | inr q ↦
          or_right (resets t i) (any (λ x. read_on s x t) (lines_of i))
          (any_in (λ x. read_on s x t) q.0 (lines_of i) (stands_in q.0 (lines_of i) (sym (at_there (touches q.0)) ∙ q.1)) ((known q.0 t h).1 q.2))
    ]

    after_seen : (x : ℕ) → (after i s x t ≡ true) ↔ Seen (suc k) x t
    unfolding after
    after_seen x = (to, λ q. back (seen_cases k x t q))
      where
        to : (s x t || (touches x i && leading_to i s t)) ≡ true → Seen (suc k) x t
        to e = elim (either (s x t) (touches x i && leading_to i s t) e) [
          | inl m ↦ (let q = (known x t h).0 m in (q.0, omega (arith, q.1), q.2, q.3))
          | inr m ↦ (let p = both (touches x i) (leading_to i s t) m in (k, omega arith, at_there (touches x) ∙ p.0, leading_leads p.1))
        ]

        back : Seen k x t ⊎ ((on is x k ≡ true) × Leads (prec is) (reset_of is t) k) → (s x t || (touches x i && leading_to i s t)) ≡ true
        back (inl q) = or_left (s x t) (touches x i && leading_to i s t) ((known x t h).1 q)
        back (inr q) =
            or_right (s x t) (touches x i && leading_to i s t)
            (and_intro (touches x i) (leading_to i s t) (sym (at_there (touches x)) ∙ q.0) (leads_leading q.1))

  known_pass : (js : List Instruction) (k n : ℕ) (s : Sets) → ((j : ℕ) → get_elem? js j ≡ get_elem? is (k + j)) → k + length js ≡ n → Known k s
      → Known n (pass js s)
  unfolding pass
  known_pass [] k n s same e known = let z : k ≡ n = omega arith in subst (λ m. Known m s) z known
  known_pass (i ∷ js) k n s same e known =
      let z : k + 0 ≡ k = omega arith in
      known_pass js (suc k) n (after i s) (λ j. same (suc j) ∙ ap (get_elem? is) (omega arith)) (omega arith)
      (λ x t h. after_seen k i (sym (same 0 ∙ ap (get_elem? is) z)) s known t h x)

  known_all : Known (length is) (leading_sets is)
  known_all =
      known_pass is 0 (length is) no_sets (λ j. ap (get_elem? is) (omega arith)) (omega arith)
      (λ x t h. (λ e. absurd (false≢true e), λ q. absurd (omega (arith, q.1))))

  -- the arrows with no pairs are the precedence's
  reach_none : (i j : ℕ) → Leads (prec is) i j ↔ Reach (circuit_of c) [] i j
  reach_none i j = (
    leads_more (λ a b h. arrow-prec (circuit_of c) [] a b h),
    leads_more (λ a b h. elim (arrow_cases (circuit_of c) [] a b h) [ inl p ↦ p | inr q ↦ absurd q.1 ]),
  )

  -- at the end t is in l's set exactly when t's reset leads to l's measurement
  pub sets_exactly : (l t : ℕ) → wire c l ≡ true → wire c t ≡ true → (leading_sets is l t ≡ true) ↔ Reach (circuit_of c) [] (reset_of is t) (meas_of is l)
  sets_exactly l t hl ht = (
    λ e. (let q = (known_all l t ht).0 e in (reach_none (reset_of is t) (meas_of is l)).0 (leads_trans q.3 (on_leads q.0 q.2))),
    λ r. (known_all l t ht).1 (meas_of is l, (circuit_lawful c wired).meas_in l hl, meas_on c wired l hl, (reach_none (reset_of is t) (meas_of is l)).1 r),
  )
    where
      on_leads : (i : ℕ) → on is l i ≡ true → Leads (prec is) i (meas_of is l)
      on_leads i o = elim (same_or_other i (meas_of is l)) [ inl e ↦ here e | inr d ↦ step (prec_meas c wired l i o d) (here refl) ]

  -- the table after the pass is the table at the start
  pub start_right : Start (circuit_of c) (start_of c)
  start_right = record { marks = λ l t. (clear l t, marked l t); none_lent = λ x h. refl; none_taken = λ x h. refl }
    where
      clear : (l t : ℕ) → (start_of c).mark l t ≡ true → (wire c l ≡ true) × (wire c t ≡ true) × Clear (circuit_of c) [] l t
      clear l t m =
          let a = both (wire c l) (wire c t && not (leading_sets is l t)) m in
          let b = both (wire c t) (not (leading_sets is l t)) a.1 in
          (a.0, b.0, λ r. not_both (leading_sets is l t) ((sets_exactly l t a.0 b.0).1 r) (not-true (leading_sets is l t) b.1))

      marked : (l t : ℕ) → (wire c l ≡ true) × (wire c t ≡ true) × Clear (circuit_of c) [] l t → (start_of c).mark l t ≡ true
      marked l t q =
          let out = refuted (leading_sets is l t) (λ e. q.2 ((sets_exactly l t q.0 q.1).0 e)) in
          and_intro (wire c l) (wire c t && not (leading_sets is l t)) q.0
          (and_intro (wire c t) (not (leading_sets is l t)) q.1 (not_of_false (leading_sets is l t) out))

-- The indices of a line's reset and measurement, by its life: the reset is the first of the line's instructions, the measurement the last, and
-- there is one of each. Assumes nothing.
use Prim.Native.Nat.{ℕ, zero, suc, ◌≤◌, ◌<◌}
use mathlib.Core.Path.{◌≡◌, refl, sym, ap, subst}
use mathlib.Core.Logic.{inl, inr}
use mathlib.Core.Bool.{Bool, true, false, false≢true}
use mathlib.Core.List.{List, [], ◌∷◌}
use mathlib.Core.Option.{Option, none, some}
use native.Mathlib.Omega.{arith}
use lib.ListN.{length, get_elem?}
use borrow.Author.Tests.{eqb-true}
use Rattle.basics.proofs.Tests.{not_both, true_or_false, refuted}
use Rattle.orders.proofs.Indices.{in_stands}
use Rattle.records.specs.Records.{line}
use Rattle.records.specs.declared.numbers.Bit.{Bit}
use Rattle.records.specs.declared.instructions.Instruction.{Instruction}
use Rattle.records.specs.declared.instructions.Instruction.TheVariants.{Reset, Measurement, Gate, AngledGate, TwoLineGate, AngledTwoLineGate}
use Rattle.circuits.specs.Judging.{fresh, in_use, finished}
use Rattle.precedence.specs.Lives.{touches, resets, measures, is_gate, Life, over, apart, begins, works, ends}
use Rattle.precedence.specs.Precedence.{holds, at, on, first_of, reset_of, meas_of, Spans}

-- ## The reset and the measurement of a line

-- an instruction that resets x is the reset of x
pub reset_is : (x : ℕ) (i : Instruction) → resets x i ≡ true → i ≡ Reset (line x)
reset_is x (Reset l) h = ap (λ (z : ℕ). Reset (line z)) (sym (eqb-true x l.0 h))
reset_is x (Measurement l b) h = absurd (false≢true h)
reset_is x (Gate k l) h = absurd (false≢true h)
reset_is x (AngledGate k l a) h = absurd (false≢true h)
reset_is x (TwoLineGate k l m) h = absurd (false≢true h)
reset_is x (AngledTwoLineGate k l m a) h = absurd (false≢true h)

pub meas_is : (x : ℕ) (i : Instruction) → measures x i ≡ true → (b : Bit) × (i ≡ Measurement (line x) b)
meas_is x (Measurement l b) h = (b, ap (λ (z : ℕ). Measurement (line z) b) (sym (eqb-true x l.0 h)))
meas_is x (Reset l) h = absurd (false≢true h)
meas_is x (Gate k l) h = absurd (false≢true h)
meas_is x (AngledGate k l a) h = absurd (false≢true h)
meas_is x (TwoLineGate k l m) h = absurd (false≢true h)
meas_is x (AngledTwoLineGate k l m a) h = absurd (false≢true h)

module _ (x : ℕ) where
  pub reset_touches : (i : Instruction) → resets x i ≡ true → touches x i ≡ true
  reset_touches i h = subst (λ j. touches x j ≡ true) (sym (reset_is x i h)) (in_stands x (x ∷ []) (inl refl))

  pub meas_touches : (i : Instruction) → measures x i ≡ true → touches x i ≡ true
  meas_touches i h = let e = meas_is x i h in subst (λ j. touches x j ≡ true) (sym e.1) (in_stands x (x ∷ []) (inl refl))

  -- what is not on x neither resets nor measures it
  apart_reset : (i : Instruction) → touches x i ≡ false → resets x i ≡ false
  apart_reset i t = refuted (resets x i) (λ h. not_both (touches x i) (reset_touches i h) t)

  apart_meas : (i : Instruction) → touches x i ≡ false → measures x i ≡ false
  apart_meas i t = refuted (measures x i) (λ h. not_both (touches x i) (meas_touches i h) t)

  -- a gate neither resets nor measures
  gate_no_reset : (i : Instruction) → is_gate i ≡ true → resets x i ≡ false
  gate_no_reset i g = refuted (resets x i) (λ h. false≢true (subst (λ j. is_gate j ≡ true) (reset_is x i h) g))

  gate_no_meas : (i : Instruction) → is_gate i ≡ true → measures x i ≡ false
  gate_no_meas i g = refuted (measures x i) (λ h. (let e = meas_is x i h in false≢true (subst (λ j. is_gate j ≡ true) e.1 g)))

  reset_no_meas : (i : Instruction) → resets x i ≡ true → measures x i ≡ false
  reset_no_meas i r = subst (λ j. measures x j ≡ false) (sym (reset_is x i r)) refl

  meas_no_reset : (i : Instruction) → measures x i ≡ true → resets x i ≡ false
  meas_no_reset i m = let e = meas_is x i m in subst (λ j. resets x j ≡ false) (sym e.1) refl

-- ## Indices

pub at_more : (p q : Instruction → Bool) → ((i : Instruction) → p i ≡ true → q i ≡ true) → (is : List Instruction) (k : ℕ) → at p is k ≡ true → at q is k ≡ true
at_more p q m is k = go (get_elem? is k)
  where
    go : (o : Option Instruction) → holds p o ≡ true → holds q o ≡ true
    go none h = absurd (false≢true h)
    go (some i) h = m i h

-- the instruction that passes
pub at_some : (p : Instruction → Bool) (is : List Instruction) (k : ℕ) → at p is k ≡ true → (i : Instruction) × (get_elem? is k ≡ some i) × (p i ≡ true)
at_some p is k = go (get_elem? is k) refl
  where
    go : (o : Option Instruction) → get_elem? is k ≡ o → holds p o ≡ true → (i : Instruction) × (get_elem? is k ≡ some i) × (p i ≡ true)
    go none e h = absurd (false≢true h)
    go (some i) e h = (i, e, h)

pub at_inside : (p : Instruction → Bool) (is : List Instruction) (k : ℕ) → at p is k ≡ true → k < length is
at_inside p [] k h = absurd (false≢true h)
at_inside p (i ∷ is) zero h = omega arith
at_inside p (i ∷ is) (suc k) h = let r = at_inside p is k h in omega arith

-- by cases on an index: the first instruction, or one behind it
at_cases : (p : Instruction → Bool) (i : Instruction) (is : List Instruction) (P : ℕ → Type 0) → (p i ≡ true → P 0)
    → ((k : ℕ) → at p is k ≡ true → P (suc k)) → (k : ℕ) → at p (i ∷ is) k ≡ true → P k
at_cases p i is P now later zero h = now h
at_cases p i is P now later (suc k) h = later k h

first_now : (p : Instruction → Bool) (i : Instruction) (is : List Instruction) → p i ≡ true → first_of p (i ∷ is) ≡ 0
unfolding first_of
first_now p i is h = rw (h, first_of)

first_later : (p : Instruction → Bool) (i : Instruction) (is : List Instruction) → p i ≡ false → first_of p (i ∷ is) ≡ suc (first_of p is)
unfolding first_of
first_later p i is h = rw (h, first_of)

-- what passes is not before the first that does
first_least : (p : Instruction → Bool) (is : List Instruction) (k : ℕ) → at p is k ≡ true → first_of p is ≤ k
first_least p [] k h = absurd (false≢true h)
first_least p (i ∷ is) zero h = let e = first_now p i is h in omega arith
first_least p (i ∷ is) (suc k) h = let r = first_least p is k h in elim (true_or_false (p i)) [
  | inl t ↦ (let e = first_now p i is t in omega arith)
  | inr t ↦ (let e = first_later p i is t in omega arith)
]

-- ## From the life of a line to its indices

module _ (x : ℕ) where
  -- a finished line has no more instructions
  life_quiet : {n : ℕ} {is : List Instruction} → Life x n is → n ≡ finished → (k : ℕ) → on is x k ≡ true → ⊥
  life_quiet over e = λ k h. false≢true h
  life_quiet (apart {i = i} {is = is} t r) e = at_cases (touches x) i is (λ k. ⊥) (λ h. not_both (touches x i) h t) (life_quiet r e)
  life_quiet (begins t r) e = absurd (omega arith)
  life_quiet (works t g r) e = absurd (omega arith)
  life_quiet (ends t r) e = absurd (omega arith)

  -- a line in use: its measurement is its last instruction, and it is not reset again
  record Lasts (is : List Instruction) : Type 0 where
    meas_at : at (measures x) is (meas_of is x) ≡ true
    last : (k : ℕ) → on is x k ≡ true → k ≤ meas_of is x
    no_reset : (k : ℕ) → at (resets x) is k ≡ true → ⊥

  -- behind an instruction that does not measure x
  last_behind : (i : Instruction) (is : List Instruction) → meas_of (i ∷ is) x ≡ suc (meas_of is x) → ((k : ℕ) → on is x k ≡ true → k ≤ meas_of is x)
      → (k : ℕ) → on (i ∷ is) x k ≡ true → k ≤ meas_of (i ∷ is) x
  last_behind i is e last = at_cases (touches x) i is (λ k. k ≤ meas_of (i ∷ is) x) (λ h. omega arith) (λ k h. (let b = last k h in omega arith))

  lasts_behind : (i : Instruction) (is : List Instruction) → measures x i ≡ false → resets x i ≡ false → Lasts is → Lasts (i ∷ is)
  lasts_behind i is m r l =
      let e = first_later (measures x) i is m in
      record {
        meas_at = subst (λ k. at (measures x) (i ∷ is) k ≡ true) (sym e) l.meas_at;
        last = last_behind i is e l.last;
        no_reset = at_cases (resets x) i is (λ k. ⊥) (λ h. not_both (resets x i) h r) l.no_reset;
      }

  life_lasts : {n : ℕ} {is : List Instruction} → Life x n is → n ≡ in_use → Lasts is
  life_lasts over e = absurd (omega arith)
  life_lasts (apart {i = i} {is = is} t r) e = lasts_behind i is (apart_meas x i t) (apart_reset x i t) (life_lasts r e)
  life_lasts (begins t r) e = absurd (omega arith)
  life_lasts (works {i} {is} t g r) e = lasts_behind i is (gate_no_meas x i g) (gate_no_reset x i g) (life_lasts r refl)
  life_lasts (ends {i} {is} t r) e =
      let z = first_now (measures x) i is t in
      let quiet = life_quiet r refl in
      record {
        meas_at = subst (λ k. at (measures x) (i ∷ is) k ≡ true) (sym z) t;
        last = at_cases (touches x) i is (λ k. k ≤ meas_of (i ∷ is) x) (λ h. omega arith) (λ k h. absurd (quiet k h));
        no_reset = at_cases (resets x) i is (λ k. ⊥) (λ h. not_both (resets x i) h (meas_no_reset x i t)) (λ k h. quiet k (at_more _ _ (reset_touches x) is k h));
      }

  -- the first that measures x, where it is the last on x, is the only one
  only_meas : (is : List Instruction) → ((k : ℕ) → on is x k ≡ true → k ≤ meas_of is x) → (k : ℕ) → at (measures x) is k ≡ true → k ≡ meas_of is x
  only_meas is last k h = let a = last k (at_more _ _ (meas_touches x) is k h) in let b = first_least (measures x) is k h in omega arith

  pub life_spans : {n : ℕ} {is : List Instruction} → Life x n is → n ≡ fresh → Spans is x
  life_spans over e = absurd (omega arith)
  life_spans (apart {i = i} {is = is} t r) e =
      let s = life_spans r e in
      let a = first_later (resets x) i is (apart_reset x i t) in
      let z = first_later (measures x) i is (apart_meas x i t) in
      let last = last_behind i is z s.last in
      record {
        reset_at = subst (λ k. at (resets x) (i ∷ is) k ≡ true) (sym a) s.reset_at;
        meas_at = subst (λ k. at (measures x) (i ∷ is) k ≡ true) (sym z) s.meas_at;
        first = at_cases (touches x) i is (λ k. reset_of (i ∷ is) x ≤ k) (λ h. absurd (not_both (touches x i) h t)) (λ k h. (let b = s.first k h in omega arith));
        last = last;
        one_reset = at_cases (resets x) i is (λ k. k ≡ reset_of (i ∷ is) x) (λ h. absurd (not_both (resets x i) h (apart_reset x i t)))
            (λ k h. (let b = s.one_reset k h in omega arith));
        one_meas = only_meas (i ∷ is) last;
      }
  life_spans (begins {i} {is} t r) e =
      let l = life_lasts r refl in
      let a = first_now (resets x) i is t in
      let z = first_later (measures x) i is (reset_no_meas x i t) in
      let last = last_behind i is z l.last in
      record {
        reset_at = subst (λ k. at (resets x) (i ∷ is) k ≡ true) (sym a) t;
        meas_at = subst (λ k. at (measures x) (i ∷ is) k ≡ true) (sym z) l.meas_at;
        first = λ k h. omega arith;
        last = last;
        one_reset = at_cases (resets x) i is (λ k. k ≡ reset_of (i ∷ is) x) (λ h. sym a) (λ k h. absurd (l.no_reset k h));
        one_meas = only_meas (i ∷ is) last;
      }
  life_spans (works t g r) e = absurd (omega arith)
  life_spans (ends t r) e = absurd (omega arith)

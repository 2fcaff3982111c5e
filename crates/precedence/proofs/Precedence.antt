-- The precedence of a valid circuit is lawful: what the checks tell of each line gives its reset before all else on it and its measurement
-- after. Assumes nothing.
use Prim.Native.Nat.{ℕ, ◌<◌}
use mathlib.Core.Path.{◌≡◌, refl, sym, ap, ◌∙◌}
use mathlib.Core.Logic.{◌↔◌, ◌≢◌}
use mathlib.Core.Bool.{true, ◌&&◌, false≢true}
use mathlib.Core.List.{List}
use mathlib.Core.Option.{Option, none, some}
use native.Mathlib.Omega.{arith}
use lib.ListN.{get_elem?}
use lib.Dec.{ltb}
use borrow.Author.Tests.{ltb-true, lt-ltb}
use Rattle.basics.specs.Outcome.{done}
use Rattle.basics.proofs.Tests.{both, and_intro}
use Rattle.orders.specs.Indices.{In}
use Rattle.orders.specs.Runs.{Lawful}
use Rattle.orders.proofs.Indices.{any_in, any_which, stands_in}
use Rattle.records.specs.Records.{line}
use Rattle.records.specs.declared.numbers.Bit.{Bit}
use Rattle.records.specs.declared.instructions.Instruction.{Instruction}
use Rattle.records.specs.declared.instructions.Instruction.TheVariants.{Reset, Measurement}
use Rattle.circuits.specs.Reading.{Static, read_circuit}
use Rattle.circuits.specs.Validity.{Valid}
use Rattle.circuits.proofs.Validity.{read_valid}
use Rattle.precedence.specs.Lives.{lines_of, touches, resets, measures}
use Rattle.precedence.specs.Precedence.{holds, on, lines_in, lines_at, reset_of, meas_of, must_on, prec, wire, circuit_of, Wired, Spans}
use Rattle.precedence.proofs.Lives.{valid_life, valid_below}
use Rattle.precedence.proofs.Spans.{reset_is, meas_is, reset_touches, meas_touches, at_more, at_some, at_inside, life_spans}

-- ## Precedence

module _ (is : List Instruction) where
  -- line x forces i before j exactly when i stands before j and both are on x
  pub must_exactly : (x i j : ℕ) → (must_on is x i j ≡ true) ↔ ((i < j) × (on is x i ≡ true) × (on is x j ≡ true))
  unfolding must_on
  must_exactly x i j = (
    λ h. (let a = both (ltb i j) (on is x i && on is x j) h in let b = both (on is x i) (on is x j) a.1 in (ltb-true i j a.0, b.0, b.1)),
    λ r. and_intro (ltb i j) (on is x i && on is x j) (lt-ltb i j r.0) (and_intro (on is x i) (on is x j) r.1 r.2),
  )

  -- a line that the instruction at an index is on is one of its lines
  pub on_lines : (x k : ℕ) → on is x k ≡ true → In x (lines_at is k)
  on_lines x k = go (get_elem? is k)
    where
      go : (o : Option Instruction) → holds (touches x) o ≡ true → In x (lines_in o)
      go none h = absurd (false≢true h)
      go (some i) h = stands_in x (lines_of i) h

  -- i must come before j exactly when some line forces it
  pub prec_exactly : (i j : ℕ) → (prec is i j ≡ true) ↔ ((x : ℕ) × (must_on is x i j ≡ true))
  unfolding prec
  prec_exactly i j = (
    λ h. (let r = any_which (λ x. must_on is x i j) (lines_at is i) h in (r.0, r.2)),
    λ r. any_in (λ x. must_on is x i j) r.0 (lines_at is i) (on_lines r.0 i ((must_exactly r.0 i j).0 r.1).1) r.1,
  )

  -- two on one line keep their order
  pub on-prec : (x i j : ℕ) → i < j → on is x i ≡ true → on is x j ≡ true → prec is i j ≡ true
  on-prec x i j l a b = (prec_exactly i j).1 (x, (must_exactly x i j).1 (l, a, b))

  pub prec_upward : (i j : ℕ) → prec is i j ≡ true → i < j
  prec_upward i j h = let r = (prec_exactly i j).0 h in ((must_exactly r.0 i j).0 r.1).0

-- ## The laws of a valid circuit

-- the checks tell what all that follows rests on
pub valid_wired : (s : List ℕ) (c : Static) → Valid s c → Wired c
valid_wired s c v = record {
  named = λ x k h. (let r = at_some (touches x) c.steps k h in lt-ltb x c.width (valid_below v k r.0 r.1 x (stands_in x (lines_of r.0) r.2)));
  lives = λ x h. valid_life v x (ltb-true x c.width h);
}

pub read_wired : (s : List ℕ) {c : Static} → read_circuit s ≡ done c → Wired c
read_wired s {c} e = valid_wired s c (read_valid s e)

module _ (c : Static) (wired : Wired c) where
  -- each wire's reset is its first instruction and its measurement its last
  pub spans : (x : ℕ) → wire c x ≡ true → Spans c.steps x
  spans x h = life_spans x (wired.lives x h) refl

  module _ (x : ℕ) (h : wire c x ≡ true) where
    -- the instruction at a wire's reset is its reset, and the one at its measurement its measurement
    pub reset_there : get_elem? c.steps (reset_of c.steps x) ≡ some (Reset (line x))
    reset_there = let r = at_some (resets x) c.steps (reset_of c.steps x) (spans x h).reset_at in r.1 ∙ ap some (reset_is x r.0 r.2)

    pub meas_there : (b : Bit) × (get_elem? c.steps (meas_of c.steps x) ≡ some (Measurement (line x) b))
    meas_there =
        let r = at_some (measures x) c.steps (meas_of c.steps x) (spans x h).meas_at in
        let m = meas_is x r.0 r.2 in
        (m.0, r.1 ∙ ap some m.1)

    pub reset_on : on c.steps x (reset_of c.steps x) ≡ true
    reset_on = at_more (resets x) (touches x) (reset_touches x) c.steps (reset_of c.steps x) (spans x h).reset_at

    pub meas_on : on c.steps x (meas_of c.steps x) ≡ true
    meas_on = at_more (measures x) (touches x) (meas_touches x) c.steps (meas_of c.steps x) (spans x h).meas_at

    reset_not_meas : reset_of c.steps x ≢ meas_of c.steps x
    reset_not_meas e =
        let r = reset_there in
        let m = meas_there in
        let q : some (Reset (line x)) ≡ some (Measurement (line x) m.0) = sym r ∙ (ap (get_elem? c.steps) e ∙ m.1) in
        let z : ◌≡◌ {A = ℕ} 0 1 = cc in
        omega arith

    pub reset_before_meas : reset_of c.steps x < meas_of c.steps x
    reset_before_meas = let d = reset_not_meas in let l = (spans x h).first (meas_of c.steps x) meas_on in omega arith

  -- the reset comes before every other instruction of its wire, and every other before the measurement
  pub reset_prec : (x k : ℕ) → on c.steps x k ≡ true → k ≢ reset_of c.steps x → prec c.steps (reset_of c.steps x) k ≡ true
  reset_prec x k o d =
      let h = wired.named x k o in
      let l = (spans x h).first k o in
      on-prec c.steps x (reset_of c.steps x) k (omega arith) (reset_on x h) o

  pub prec_meas : (x k : ℕ) → on c.steps x k ≡ true → k ≢ meas_of c.steps x → prec c.steps k (meas_of c.steps x) ≡ true
  prec_meas x k o d =
      let h = wired.named x k o in
      let l = (spans x h).last k o in
      on-prec c.steps x k (meas_of c.steps x) (omega arith) o (meas_on x h)

  -- the precedence of a valid circuit is lawful
  pub circuit_lawful : Lawful (circuit_of c)
  circuit_lawful = record {
    upward = prec_upward c.steps;
    inside = λ i j h. (let r = (prec_exactly c.steps i j).0 h in at_inside (touches r.0) c.steps j ((must_exactly c.steps r.0 i j).0 r.1).2);
    low = λ x h. ltb-true x c.width h;
    reset_in = λ x h. at_inside (touches x) c.steps (reset_of c.steps x) (reset_on x h);
    meas_in = λ x h. at_inside (touches x) c.steps (meas_of c.steps x) (meas_on x h);
    spans = λ x h. on-prec c.steps x (reset_of c.steps x) (meas_of c.steps x) (reset_before_meas x h) (reset_on x h) (meas_on x h);
  }

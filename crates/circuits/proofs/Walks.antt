-- Instructions that stand from a place on: by their steps and by their bytes, which say the same. Assumes nothing.
use Prim.Native.Nat.{ℕ, zero, suc, ◌+◌, ◌-◌, ◌≤◌, ◌<◌}
use mathlib.Core.Path.{◌≡◌, refl, sym, ap, subst, ◌∙◌}
use mathlib.Core.List.{List, [], ◌∷◌, ◌++◌}
use native.Mathlib.Omega.{arith}
use lib.ListN.{length, drop, length-append, length-drop, drop_of_length-le}
use lib.Seq.{drop-drop, drop_at}
use Rattle.basics.specs.Outcome.{done, refused}
use Rattle.records.specs.Bytes.{instruction_bytes}
use Rattle.records.specs.declared.instructions.Instruction.{Instruction}
use Rattle.records.specs.declared.instructions.Instruction.TheVariants.{Reset, Measurement, Gate, AngledGate, TwoLineGate, AngledTwoLineGate}
use Rattle.records.specs.declared.instructions.Record.TheVariants.{Step}
use Rattle.records.proofs.RoundTrip.{round_trip, rest_behind, reads_back}
use Rattle.circuits.specs.Stepping.{step, end, step_at, Steps, ended, more}
use Rattle.circuits.specs.Validity.{steps_bytes, KindsFit}
use Rattle.basics.proofs.Outcomes.{not_refused}
use Rattle.circuits.proofs.Turns.{not_over}
use Rattle.circuits.proofs.Steps.{step_record, end_step, record_step}

module _ (s : List ℕ) where
  -- A loop that goes by the next step

  -- the next instruction is the first of those that stand
  pub record Onward (left : ℕ) (i : Instruction) (next : ℕ) (is : List Instruction) : Type 0 where
    pub rest : List Instruction
    pub first : is ≡ i ∷ rest
    pub steps : Steps s next (left - 1) rest

  pub steps_next : (at left : ℕ) {is : List Instruction} {i : Instruction} {next : ℕ} → Steps s at left is → step_at s at left ≡ done (step i next)
      → Onward left i next is
  steps_next at left (ended h) e = absurd (not_over (sym (end_step s at left h) ∙ e))
  steps_next at (suc left) {i = i} {next = next} (more {next = n} {i = j} {is = js} z w) e =
      let a : j ≡ i = cc in
      let b : n ≡ next = cc in
      let k : left ≡ suc left - 1 = omega arith in
      record {
        rest = js;
        first = ap (λ (x : Instruction). x ∷ js) a;
        steps = subst (λ (m : ℕ). Steps s m (suc left - 1) js) b (subst (λ (m : ℕ). Steps s n m js) k w);
      }

  -- at the end none is left
  pub steps_end : (at left : ℕ) {is : List Instruction} → Steps s at left is → step_at s at left ≡ done end → is ≡ []
  steps_end at left (ended h) e = refl
  steps_end at (suc left) (more z w) e = absurd (not_over (sym e ∙ z))

  -- and there is no fault on the way
  pub steps_faultless : (at left : ℕ) {is : List Instruction} {n p : ℕ} → Steps s at left is → step_at s at left ≡ refused n p → ⊥
  steps_faultless at left {n = n} {p = p} (ended h) e = not_refused (sym e ∙ end_step s at left h)
  steps_faultless at (suc left) {n = n} {p = p} (more z w) e = not_refused (sym e ∙ z)

  -- By their bytes

  pub record Bytes (at left : ℕ) (is : List Instruction) : Type 0 where
    pub bytes : drop at s ≡ steps_bytes is
    pub few : length is ≤ left
    pub kinds : KindsFit is

  pub steps_bytes_lem : {at left : ℕ} {is : List Instruction} → Steps s at left is → Bytes at left is
  steps_bytes_lem (ended h) = record { bytes = drop_of_length-le s h; few = omega arith; kinds = tt }
  steps_bytes_lem (more {at = at} {left = left} {i = i} {is = is} z w) =
      let b = round_trip s at (step_record s at (suc left) z) in
      let g = steps_bytes_lem w in
      let few : length is ≤ left = g.few in
      record {
        bytes = rest_behind s at b ∙ ap (λ (l : List ℕ). instruction_bytes i ++ l) g.bytes;
        few = omega arith;
        kinds = (b.fits, g.kinds);
      }

  -- where an instruction's bytes stand, the rest begins behind them
  behind : (at : ℕ) (i : Instruction) (rest : List ℕ) → drop at s ≡ instruction_bytes i ++ rest → drop (at + length (instruction_bytes i)) s ≡ rest
  behind at i rest e =
      sym (drop-drop (length (instruction_bytes i)) at s) ∙ ap (drop (length (instruction_bytes i))) e ∙ drop_at (instruction_bytes i) rest (length (instruction_bytes i)) refl

  some_bytes : (i : Instruction) → 0 < length (instruction_bytes i)
  some_bytes (Reset l) = omega arith
  some_bytes (Measurement l b) = omega arith
  some_bytes (Gate k l) = omega arith
  some_bytes (AngledGate k l a) = omega arith
  some_bytes (TwoLineGate k l m) = omega arith
  some_bytes (AngledTwoLineGate k l m a) = omega arith

  pub bytes_steps : (at left : ℕ) (is : List Instruction) → drop at s ≡ steps_bytes is → length is ≤ left → KindsFit is → Steps s at left is
  bytes_steps at left [] e few fit = let size = sym (length-drop at s) ∙ ap length e in ended {at = at} (omega arith)
  bytes_steps at zero (i ∷ is) e few fit = absurd (omega arith)
  bytes_steps at (suc left) (i ∷ is) e few fit =
      let size = sym (length-drop at s) ∙ ap length e ∙ length-append (instruction_bytes i) (steps_bytes is) in
      more (record_step s at (suc left) (omega (arith, some_bytes i)) (omega arith) (reads_back s at (Step i) (steps_bytes is) e fit.0))
      (bytes_steps (at + length (instruction_bytes i)) left is (behind at i (steps_bytes is) e) (omega arith) fit.1)

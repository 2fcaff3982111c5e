-- The step at a place and the record that stands there: one law for each answer. Assumes nothing.
use Prim.Native.Nat.{ℕ, ◌+◌, ◌-◌, ◌≤◌, ◌<◌}
use mathlib.Core.Bool.{Bool, true, false}
use mathlib.Core.Path.{◌≡◌, refl, sym}
use mathlib.Core.List.{List}
use Rattle.std.specs.Prelude.{Option, None, Some}
use native.Mathlib.Omega.{arith}
use lib.ListN.{length, get_or}
use lib.Dec.{leb, eqb}
use borrow.Author.Tests.{le-leb, lt-leb, ne_eqb, leb-true}
use Rattle.basics.specs.Choice.{pick}
use Rattle.basics.specs.Outcome.{Outcome, done, refused}
use Rattle.records.specs.Kinds.{shape_of, instruction_form}
use Rattle.records.specs.declared.kinds.Outline.{Outline}
use Rattle.records.specs.Records.{Standing, stands, over, record_at, bodied, decode_at}
use Rattle.records.specs.declared.instructions.Instruction.{Instruction}
use Rattle.records.specs.declared.instructions.Record.TheVariants.{StaticWidth, DynamicWidth, Step, Reuse}
use Rattle.records.specs.declared.kinds.Form.{Form}
use Rattle.records.specs.declared.kinds.Form.TheVariants as form
use Rattle.circuits.specs.Stepping.{Next, step, end, kind_allowed, shape_allowed, step_of, instruction_at, step_at}
use Rattle.basics.proofs.Outcomes.{not_refused}
use Rattle.circuits.proofs.Turns.{not_over}

module _ (s : List ℕ) (at : ℕ) where
  -- a step was a record
  abbrev Recorded : Instruction → ℕ → Type 0
  Recorded i next = record_at s at ≡ done (stands (Step i) next)

  step_recorded : (o : Outcome Standing) {i : Instruction} {next : ℕ} → step_of at o ≡ done (step i next) → o ≡ done (stands (Step i) next)
  step_recorded (done (stands (Step j) n)) {i} {next} e = cc
  step_recorded (done (stands (StaticWidth w) n)) e = absurd (not_refused e)
  step_recorded (done (stands (DynamicWidth q b) n)) e = absurd (not_refused e)
  step_recorded (done (stands (Reuse l t) n)) e = absurd (not_refused e)
  step_recorded (done over) e = absurd (not_refused e)
  step_recorded (refused n p) e = absurd (not_refused e)

  pub step_record : (left : ℕ) {i : Instruction} {next : ℕ} → step_at s at left ≡ done (step i next) → record_at s at ≡ done (stands (Step i) next)
  unfolding step_at instruction_at
  step_record left e = go (leb (length s) at) (eqb left 0) (kind_allowed (get_or s at 0)) e
    where
      go : (a b k : Bool) {i : Instruction} {next : ℕ}
          → pick a (done end) (pick b (refused 5 at) (pick k (step_of at (record_at s at)) (refused 4 at))) ≡ done (step i next)
          → record_at s at ≡ done (stands (Step i) next)
      go true b k e = absurd (not_over e)
      go false true k e = absurd (not_refused e)
      go false false true e = step_recorded (record_at s at) e
      go false false false e = absurd (not_refused e)

  -- the input is over only at its end
  pub step_end : (left : ℕ) → step_at s at left ≡ done end → length s ≤ at
  unfolding step_at instruction_at
  step_end left e = go (leb (length s) at) (eqb left 0) (kind_allowed (get_or s at 0)) refl e
    where
      never : (o : Outcome Standing) → ◌≡◌ {A = Outcome Next} (step_of at o) (done end) → ⊥
      never (done (stands (Step j) n)) e = not_over (sym e)
      never (done (stands (StaticWidth w) n)) e = not_refused e
      never (done (stands (DynamicWidth q b) n)) e = not_refused e
      never (done (stands (Reuse l t) n)) e = not_refused e
      never (done over) e = not_refused e
      never (refused n p) e = not_refused e

      go : (a b k : Bool) → leb (length s) at ≡ a
          → pick a (done end) (pick b (refused 5 at) (pick k (step_of at (record_at s at)) (refused 4 at))) ≡ done end → length s ≤ at
      go true b k h e = leb-true (length s) at h
      go false true k h e = absurd (not_refused e)
      go false false true h e = absurd (never (record_at s at) e)
      go false false false h e = absurd (not_refused e)

  pub end_step : (left : ℕ) → length s ≤ at → step_at s at left ≡ done end
  unfolding step_at
  end_step left h = rw (le-leb (length s) at h)

  -- the kind of an instruction may stand after the first record
  kind_allowed_lem : {i : Instruction} {next : ℕ} → Recorded i next → kind_allowed (get_or s at 0) ≡ true
  unfolding record_at
  kind_allowed_lem e = ended (leb (length s) at) (shape_of (get_or s at 0)) e
    where
      formed : (f : Form) {i : Instruction} → decode_at f s at ≡ Step i → instruction_form f ≡ true
      formed form.StaticWidth {i} e = let z : ◌≡◌ {A = ℕ} 0 1 = cc in absurd (omega arith)
      formed form.DynamicWidth {i} e = let z : ◌≡◌ {A = ℕ} 0 1 = cc in absurd (omega arith)
      formed form.Reuse {i} e = let z : ◌≡◌ {A = ℕ} 0 1 = cc in absurd (omega arith)
      formed form.Reset e = refl
      formed form.Measurement e = refl
      formed form.Gate e = refl
      formed form.AngledGate e = refl
      formed form.TwoLineGate e = refl
      formed form.AngledTwoLineGate e = refl

      cut : (h : Outline) (b : Bool) {i : Instruction} {next : ℕ}
          → pick b (refused 2 at) (done (stands (decode_at h.form s at) (at + 1 + h.body))) ≡ done (stands (Step i) next) → instruction_form h.form ≡ true
      cut h true e = absurd (not_refused e)
      cut h false {i} {next} e = let z : decode_at h.form s at ≡ Step i = cc in formed h.form z

      ended : (b : Bool) (o : Option Outline) {i : Instruction} {next : ℕ} → pick b (done over) (bodied s at o) ≡ done (stands (Step i) next) → shape_allowed o ≡ true
      ended true o {i} {next} e = let z : ◌≡◌ {A = ℕ} 0 1 = cc in absurd (omega arith)
      ended false None e = absurd (not_refused e)
      ended false (Some h) e = cut h (leb (length s - at) h.body) e

  pub record_step : (left : ℕ) {i : Instruction} {next : ℕ} → at < length s → 0 < left → record_at s at ≡ done (stands (Step i) next)
      → step_at s at left ≡ done (step i next)
  unfolding step_at instruction_at
  record_step left h l e =
      rw (lt-leb (length s) at h, ne_eqb left 0 (λ z. omega arith), kind_allowed_lem e, e)

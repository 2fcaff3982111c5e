-- Instructions in sketch: their operands lie inside their bodies, they are judged by their sketches, and what a step in sketch says of
-- the step. Assumes nothing.
use Prim.Native.Nat.{ℕ, ◌≤◌, ◌/◌}
use mathlib.Core.Bool.{Bool, true, false}
use mathlib.Core.Path.{◌≡◌, refl, sym, ap, subst}
use Rattle.std.specs.Prelude.{Option, None, Some}
use native.Mathlib.Omega.{arith}
use lib.Dec.{eqb, lit≤}
use Rattle.basics.specs.Choice.{pick}
use Rattle.basics.specs.Outcome.{Outcome, done, refused}
use Rattle.basics.proofs.Outcomes.{not_refused}
use Rattle.records.specs.Kinds.{shape_of}
use Rattle.records.specs.declared.kinds.Form.{Form}
use Rattle.records.specs.declared.kinds.Form.TheVariants as form
use Rattle.records.specs.declared.kinds.Outline.{Outline}
use Rattle.records.specs.declared.instructions.Instruction.{Instruction}
use Rattle.records.specs.declared.instructions.Instruction.TheVariants.{Reset, Measurement, Gate, AngledGate, TwoLineGate, AngledTwoLineGate}
use Rattle.circuits.specs.Judging.{judge_of, advance_of}
use Rattle.circuits.specs.Stepping.{Next, step, end}
use Rattle.circuits.specs.Sketching.{sketch_of, sketched, over, in_sketch, operands_of, judge_sketch, advance_sketch}
use Rattle.circuits.specs.declared.sketching.Sketch.{Sketch}
use Rattle.circuits.specs.declared.states.States.{States}

-- every form has an operand
pub some_operand : (f : Form) → 1 ≤ operands_of f
some_operand form.StaticWidth = lit≤ tt
some_operand form.DynamicWidth = lit≤ tt
some_operand form.Reset = lit≤ tt
some_operand form.Measurement = lit≤ tt
some_operand form.Gate = lit≤ tt
some_operand form.AngledGate = lit≤ tt
some_operand form.TwoLineGate = lit≤ tt
some_operand form.AngledTwoLineGate = lit≤ tt
some_operand form.Reuse = lit≤ tt

abbrev Within : Option Outline → Type 0
Within None = Unit {0}
Within (Some h) = operands_of h.form ≤ h.body

record Holds (o : Option Outline) : Type 0 where
  is : Within o

-- by the table of kinds a body holds its operands
pub body_holds : (k : ℕ) {h : Outline} → shape_of k ≡ Some h → operands_of h.form ≤ h.body
unfolding shape_of
body_holds k e =
    (subst Holds e
    (either (eqb k 0x01) (record { is = lit≤ tt })
    (either (eqb k 0x02) (record { is = lit≤ tt })
    (either (eqb k 0x10) (record { is = lit≤ tt })
    (either (eqb k 0x11) (record { is = lit≤ tt })
    (either (eqb k 0x60) (record { is = lit≤ tt })
    (either (eqb (k / 16) 2) (record { is = lit≤ tt })
    (either (eqb (k / 16) 3) (record { is = lit≤ tt })
    (either (eqb (k / 16) 4) (record { is = lit≤ tt })
    (either (eqb (k / 16) 5) (record { is = lit≤ tt }) (record { is = tt }))))))))))
    ).is
  where
    either : (b : Bool) {x y : Option Outline} → Holds x → Holds y → Holds (pick b x y)
    either true p q = p
    either false p q = q

-- An instruction is judged, and brings the states on, by its sketch.

pub judges_sketch : (lines bits : ℕ) (c : States) (i : Instruction) → judge_of lines bits c i ≡ judge_sketch lines bits c (sketch_of i)
judges_sketch lines bits c (Reset l) = refl
judges_sketch lines bits c (Measurement l b) = refl
judges_sketch lines bits c (Gate k l) = refl
judges_sketch lines bits c (AngledGate k l a) = refl
judges_sketch lines bits c (TwoLineGate k l m) = refl
judges_sketch lines bits c (AngledTwoLineGate k l m a) = refl

pub advances_sketch : (c : States) (i : Instruction) → advance_of c i ≡ advance_sketch c (sketch_of i)
advances_sketch c (Reset l) = refl
advances_sketch c (Measurement l b) = refl
advances_sketch c (Gate k l) = refl
advances_sketch c (AngledGate k l a) = refl
advances_sketch c (TwoLineGate k l m) = refl
advances_sketch c (AngledTwoLineGate k l m a) = refl

-- What a step in sketch says of the step.

pub record Drawn (o : Outcome Next) (k : Sketch) (next : ℕ) : Type 0 where
  pub instruction : Instruction
  pub stands : o ≡ done (step instruction next)
  pub like : sketch_of instruction ≡ k

pub drawn : (o : Outcome Next) {k : Sketch} {next : ℕ} → in_sketch o ≡ done (sketched k next) → Drawn o k next
drawn (done (step i n)) {k} {next} e =
    let z : n ≡ next = cc in
    record { instruction = i; stands = ap (λ (m : ℕ). done (step i m)) z; like = cc }
drawn (done end) {k} {next} e = let z : ◌≡◌ {A = ℕ} 0 1 = cc in absurd (omega arith)
drawn (refused n p) e = absurd (not_refused e)

pub drawn_end : (o : Outcome Next) → in_sketch o ≡ done over → o ≡ done end
drawn_end (done (step i n)) e = let z : ◌≡◌ {A = ℕ} 0 1 = cc in absurd (omega arith)
drawn_end (done end) e = refl
drawn_end (refused n p) e = absurd (not_refused e)

pub drawn_refused : (o : Outcome Next) {n p : ℕ} → in_sketch o ≡ refused n p → o ≡ refused n p
drawn_refused (done (step i m)) {n} {p} e = absurd (not_refused (sym e))
drawn_refused (done end) {n} {p} e = absurd (not_refused (sym e))
drawn_refused (refused m q) {n} {p} e = cc

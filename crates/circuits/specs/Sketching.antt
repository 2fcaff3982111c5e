-- An instruction in sketch: without its kind's number and its angle, which no check asks for.
use Rattle.std.specs.Prelude.{ℕ, Option, None, Some, Result, Ok, Err}
use Rattle.basics.specs.Outcome.{Outcome, done, refused}
use Rattle.records.specs.declared.kinds.Form.{Form}
use Rattle.records.specs.declared.kinds.Form.TheVariants as form
use Rattle.records.specs.declared.instructions.Instruction.{Instruction}
use Rattle.records.specs.declared.instructions.Instruction.TheVariants.{Reset, Measurement, Gate, AngledGate, TwoLineGate, AngledTwoLineGate}
use Rattle.circuits.specs.Judging.{Verdict, in_use, finished, line_set, bit_set, judge_reset, judge_measurement, judge_gate, judge_two}
use Rattle.circuits.specs.Stepping.{Next, step, end}
use Rattle.circuits.specs.declared.states.States.{States}
use Rattle.circuits.specs.declared.sketching.Sketch.{Sketch}
use Rattle.circuits.specs.declared.sketching.Sketch.TheVariants as sketch
use Rattle.records.specs.Refusals.{refusal_of}
use Rattle.records.specs.declared.refusals.Refusal.{Refusal}

abbrev pub sketch_of : Instruction → Sketch
sketch_of (Reset l) = sketch.Reset l
sketch_of (Measurement l b) = sketch.Measurement l b
sketch_of (Gate k l) = sketch.One l
sketch_of (AngledGate k l a) = sketch.One l
sketch_of (TwoLineGate k l m) = sketch.Two l m
sketch_of (AngledTwoLineGate k l m a) = sketch.Two l m

-- a sketch and the place after its instruction, or the end of the input
pub data Sight : Type 0 where
  sketched : Sketch → ℕ → Sight
  over : Sight

-- what the code answers
abbrev pub glimpsed : Result (Option (Sketch × ℕ)) Refusal → Outcome Sight
glimpsed (Ok (Some (k, next))) = done (sketched k next)
glimpsed (Ok None) = done over
glimpsed (Err r) = refusal_of r

-- the next step in sketch
abbrev pub in_sketch : Outcome Next → Outcome Sight
in_sketch (done (step i next)) = done (sketched (sketch_of i) next)
in_sketch (done end) = done over
in_sketch (refused n p) = refused n p

-- how many operands a form has
abbrev pub operands_of : Form → ℕ
operands_of form.StaticWidth = 1
operands_of form.DynamicWidth = 2
operands_of form.Reset = 1
operands_of form.Measurement = 2
operands_of form.Gate = 1
operands_of form.AngledGate = 1
operands_of form.TwoLineGate = 2
operands_of form.AngledTwoLineGate = 2
operands_of form.Reuse = 2

-- the first fault of an instruction, and the states after it, by its sketch

abbrev pub judge_sketch : ℕ → ℕ → States → Sketch → Verdict
judge_sketch lines bits c (sketch.Reset l) = judge_reset lines c l
judge_sketch lines bits c (sketch.Measurement l b) = judge_measurement lines bits c l b
judge_sketch lines bits c (sketch.One l) = judge_gate lines c l
judge_sketch lines bits c (sketch.Two l m) = judge_two lines c l m

abbrev pub advance_sketch : States → Sketch → States
advance_sketch c (sketch.Reset l) = line_set c l in_use
advance_sketch c (sketch.Measurement l b) = bit_set (line_set c l finished) b
advance_sketch c (sketch.One l) = c
advance_sketch c (sketch.Two l m) = c

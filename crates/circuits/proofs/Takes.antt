-- One step taken: what the next step in sketch and its verdict say of the next step, judged; and how the reading goes on from what
-- `take_step` answered and left, which is all that a loop over it needs to know. Assumes nothing.
use Prim.Native.Nat.{ℕ, ◌+◌, ◌-◌, ◌≤◌, ◌<◌}
use mathlib.Core.Path.{◌≡◌, sym, ap, ◌∙◌}
use mathlib.Core.List.{List}
use native.Mathlib.Omega.{arith}
use Rattle.basics.specs.Outcome.{Outcome, done, refused}
use Rattle.std.specs.Prelude.{Option, None, Some, Result, Ok, Err}
use Rattle.records.specs.Refusals.{number_of, refusal_of}
use Rattle.records.specs.declared.refusals.Refusal.{Refusal}
use Rattle.records.specs.declared.instructions.Instruction.{Instruction}
use Rattle.circuits.specs.Judging.{verdict_of, place_of, judge_of}
use Rattle.circuits.specs.Stepping.{step, step_at}
use Rattle.circuits.specs.Sketching.{Sight, sketch_of, sketched, over, glimpsed, in_sketch, judge_sketch, advance_sketch}
use Rattle.circuits.specs.Reading.{checked_at, states_after, ending, before, read_from, counted}
use Rattle.circuits.specs.declared.sketching.Sketch.{Sketch}
use Rattle.circuits.specs.declared.judging.Fault.{Fault}
use Rattle.circuits.specs.declared.states.States.{States}
use Rattle.circuits.proofs.Turns.{checked_step, step_checked, passed_left, reads_on, reads_end, reads_refused, counted-before}
use Rattle.circuits.proofs.Sketches.{judges_sketch, advances_sketch, Drawn, drawn, drawn_end, drawn_refused}

module _ (s : List ℕ) (at left width : ℕ) (c : States) where
  -- what is answered, and the states that are left, are those of the next step, judged
  abbrev pub Told : Outcome Sight → States → Type 0
  Told o after = (o ≡ in_sketch (checked_at s at left width c)) × (after ≡ states_after c (checked_at s at left width c))

  -- by what was seen, and where it is a sketch by the verdict on it
  module _ {g : Result (Option (Sketch × ℕ)) Refusal} (seen : glimpsed g ≡ in_sketch (step_at s at left)) where
    pub told_end : g ≡ Ok None → Told (done over) c
    unfolding checked_at
    told_end e = let z = drawn_end (step_at s at left) (sym seen ∙ ap glimpsed e) in (rw z, rw z)

    pub told_refused : {r : Refusal} → g ≡ Err r → Told (refusal_of r) c
    unfolding checked_at
    told_refused e = let z = drawn_refused (step_at s at left) (sym seen ∙ ap glimpsed e) in (rw z, rw z)

    module _ {k : Sketch} {next : ℕ} (e : g ≡ Ok (Some (k, next))) (v : Result (Unit {0}) Fault) (judged : verdict_of v ≡ judge_sketch width width c k) where
      d : Drawn (step_at s at left) k next
      d = drawn (step_at s at left) (sym seen ∙ ap glimpsed e)

      like : judge_of width width c d.instruction ≡ verdict_of v
      like = judges_sketch width width c d.instruction ∙ ap (judge_sketch width width c) d.like ∙ sym judged

      pub told_fault : {f : Fault} → v ≡ Err f → Told (refused (number_of f.cause) (place_of at (number_of f.cause) f.operand)) c
      unfolding checked_at
      told_fault h = let z = like ∙ ap verdict_of h in (rw (d.stands, z), rw (d.stands, z))

      pub told_passed : {u : Unit {0}} → v ≡ Ok u → Told (done (sketched k next)) (advance_sketch c k)
      told_passed h =
          let z = step_checked s at left width c d.stands (like ∙ ap verdict_of h) in (
            ap (λ (j : Sketch). done (sketched j next)) (sym d.like) ∙ ap in_sketch (sym z),
            ap (advance_sketch c) (sym d.like) ∙ sym (advances_sketch c d.instruction) ∙ ap (states_after c) (sym z),
          )

  module _ (after : States) where
    -- a step that passed: its instruction stands there and has that sketch, and the reading goes on behind it in the states left
    pub record Taken (k : Sketch) (next : ℕ) : Type 0 where
      pub instruction : Instruction
      pub stands : step_at s at left ≡ done (step instruction next)
      pub like : sketch_of instruction ≡ k
      pub allowed : 0 < left
      pub goes_on : read_from left s width c at ≡ before instruction (read_from (left - 1) s width after next)

    -- and one instruction more is counted
    pub counts_on : (most : ℕ) {k : Sketch} {next : ℕ} → left ≤ most → Taken k next
        → counted width (most - left) (read_from left s width c at) ≡ counted width (most - (left - 1)) (read_from (left - 1) s width after next)
    counts_on most {k} {next} few t =
        let rest = read_from (left - 1) s width after next in
        let z : most - left + 1 ≡ most - (left - 1) = omega (arith, t.allowed) in
        ap (counted width (most - left)) t.goes_on
        ∙ counted-before width (most - left) t.instruction rest
        ∙ ap (λ (n : ℕ). counted width n rest) z

    -- the reading from here on, by what was answered
    abbrev pub Turn : Result (Option (Sketch × ℕ)) Refusal → Type 0
    Turn (Ok (Some (k, next))) = Taken k next
    Turn (Err r) = read_from left s width c at ≡ refusal_of r
    Turn (Ok None) = read_from left s width c at ≡ ending width after.lines

    pub turn : {a : Result (Option (Sketch × ℕ)) Refusal} (g : Result (Option (Sketch × ℕ)) Refusal) → a ≡ g → Told (glimpsed a) after → Turn g
    turn (Ok (Some (k, next))) e told =
        let d = drawn (checked_at s at left width c) (sym told.0 ∙ ap glimpsed e) in
        let on = told.1 ∙ ap (states_after c) d.stands in record {
          instruction = d.instruction;
          stands = (checked_step s at left width c d.stands).0;
          like = d.like;
          allowed = passed_left s width c at left d.stands;
          goes_on = reads_on s width c at left d.stands ∙ ap (λ (x : States). before d.instruction (read_from (left - 1) s width x next)) (sym on);
        }
    turn (Err r) e told =
        reads_refused s width c at left (drawn_refused (checked_at s at left width c) (sym told.0 ∙ ap glimpsed e))
    turn (Ok None) e told =
        let d = drawn_end (checked_at s at left width c) (sym told.0 ∙ ap glimpsed e) in
        reads_end s width c at left d ∙ ap (λ (x : States). ending width x.lines) (sym (told.1 ∙ ap (states_after c) d))

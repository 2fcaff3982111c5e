-- `table::starting::all_sets` meets its contract. The loop's invariant: the pass over the instructions that stand from here on
-- ends where the whole pass does. Assumes nothing.
use mathlib.Core.Path.{refl, sym, ap, subst, ◌∙◌}
use native.Mathlib.Omega.{arith}
use Rattle.circuits.specs.Sketching.{glimpsed}
use Rattle.circuits.specs.Reading.{read_circuit}
use Rattle.circuits.specs.Rewriting.{steps_of}
use Rattle.circuits.proofs.Turns.{some_left}
use Rattle.circuits.proofs.Sketches.{drawn, drawn_end, drawn_refused}
use Rattle.circuits.proofs.Going.{goes_on, goes_out}
use Rattle.circuits.proofs.Walks.{steps_next, steps_end, steps_faultless}
use Rattle.table.specs.Starting.{rows_sketched}
use Rattle.table.proofs.StartRows.{Holdable, holdable_none, holdable_after, sketched_rows, pass_on, pass_over}
use Rattle.table.proofs.starting.all_sets.Goals as goal

pub loop-sketch-init : goal.loop-sketch-init
loop-sketch-init c = (steps_of (read_circuit c.args.circuit.now), c.requires, holdable_none, refl)

pub overflow_sub-left : goal.overflow_sub-left
overflow_sub-left c = some_left _ _ _ (drawn _ (goes_on glimpsed _ c.sketch_at.ensures (sym c.unwrap_or.ensures ∙ c.in-Some.is))).stands

pub loop-sketch-smaller : goal.loop-sketch-smaller
loop-sketch-smaller c = omega (arith, some_left _ _ _ (drawn _ (goes_on glimpsed _ c.sketch_at.ensures (sym c.unwrap_or.ensures ∙ c.in-Some.is))).stands)

pub loop-sketch-preserved : goal.loop-sketch-preserved
loop-sketch-preserved c = let i = c.loop-sketch.invariant in
    let d = drawn _ (goes_on glimpsed _ c.sketch_at.ensures (sym c.unwrap_or.ensures ∙ c.in-Some.is)) in
    let o = steps_next _ _ _ i.1 d.stands in
    let on = c.join_sets.ensures ∙ ap (λ k. rows_sketched k c.loop-sketch.rows) (sym d.like) ∙ sketched_rows _ i.2.many i.2.fits d.instruction in
    (o.rest, o.steps, subst Holdable (sym on) (holdable_after d.instruction c.loop-sketch.rows), pass_on d.instruction _ o.first on ∙ i.3)

pub returns : goal.returns
returns c = let i = c.loop-sketch.invariant in
    let out = goes_out glimpsed _ c.sketch_at.ensures (λ q e. steps_faultless _ _ _ i.1 (drawn_refused _ (sym e))) (sym c.unwrap_or.ensures ∙ c.in_default.is) in
    sym (pass_over _ (steps_end _ _ _ i.1 (drawn_end _ out))) ∙ i.3

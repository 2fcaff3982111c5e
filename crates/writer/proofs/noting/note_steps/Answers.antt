-- `writer::noting::note_steps` meets its contract. The loop's invariant: what is read from here on, behind the instructions read so far, is what is
-- read from the start, and of those so far all is kept. Assumes nothing.
use mathlib.Core.Path.{refl, ap, ◌∙◌}
use Rattle.std.specs.Prelude.{Ok}
use Rattle.std.proofs.lemmas.Result.{err_from_is_err_and}
use native.Mathlib.Omega.{arith}
use Rattle.circuits.proofs.Takes.{turn}
use Rattle.writer.proofs.Kept.{noting_start, noting_told, kept_refused, kept_all, noting_below, noting_near, noting_on}
use Rattle.writer.proofs.noting.note_steps.Goals as goal

pub loop-sketch-init : goal.loop-sketch-init
loop-sketch-init c = let start = c.fresh-fresh.ensures in (rw start, rw start, noting_start _ _ (rw start) c.requires.rows_value)

pub returns-in_err-sketch : goal.returns-in_err-sketch
returns-in_err-sketch c = let p = err_from_is_err_and c.from_residual.result c.from_residual.ensures.1 in
    let told = turn _ _ _ _ _ _ _ c.in_err-sketch.was (c.take_step.ensures.result_value, c.take_step.ensures.uses_after) in
    let g = c.loop-sketch.invariant.2 in
    let kept = kept_refused _ _ g c.requires.circuit_value told refl in
    record { result_value = rw (p.1, p.2) (noting_told _ _ g c.requires.circuit_value told); kept = kept.0; rows_after = kept.1 }

pub note-requires : goal.note-requires
note-requires c = let taken = turn _ _ _ _ _ _ _ (c.in_ok-sketch.was ∙ ap Ok c.in-Some.is) (c.take_step.ensures.result_value, c.take_step.ensures.uses_after) in
    let g = c.loop-sketch.invariant.2 in
    (noting_below _ _ g taken, noting_near _ _ g taken)

pub loop-sketch-smaller : goal.loop-sketch-smaller
loop-sketch-smaller c = omega (arith, noting_below _ _ c.loop-sketch.invariant.2 (turn _ _ _ _ _ _ _ (c.in_ok-sketch.was ∙ ap Ok c.in-Some.is) (c.take_step.ensures.result_value, c.take_step.ensures.uses_after)))

pub loop-sketch-preserved : goal.loop-sketch-preserved
loop-sketch-preserved c = let i = c.loop-sketch.invariant in
    let taken = turn _ _ _ _ _ _ _ (c.in_ok-sketch.was ∙ ap Ok c.in-Some.is) (c.take_step.ensures.result_value, c.take_step.ensures.uses_after) in (
      c.take_step.auto.progress ∙ i.0,
      c.take_step.auto.uses ∙ i.1,
      noting_on _ _ i.2 taken c.note.ensures.all_after c.note.ensures.places_after c.join_sets.ensures,
    )

pub returns : goal.returns
returns c = let told = turn _ _ _ _ _ _ _ (c.in_ok-sketch.was ∙ ap Ok c.in_default.is) (c.take_step.ensures.result_value, c.take_step.ensures.uses_after) in
    let g = c.loop-sketch.invariant.2 in
    let kept = kept_all _ _ g c.requires.circuit_value _ told in
    record { result_value = c.close.ensures ∙ noting_told _ _ g c.requires.circuit_value told; kept = kept.0; rows_after = kept.1 }

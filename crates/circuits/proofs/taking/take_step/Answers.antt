-- `circuits::taking::take_step` meets its contract: the next step in sketch, and the verdict on it. Assumes nothing.
use mathlib.Core.Path.{ap, ◌∙◌}
use Rattle.std.specs.Prelude.{Ok}
use Rattle.std.proofs.lemmas.Result.{err_from_is_err_and}
use Rattle.circuits.proofs.Takes.{told_end, told_refused, told_fault, told_passed}
use Rattle.circuits.proofs.taking.take_step.Goals as goal

pub returns-in_err-sketch : goal.returns-in_err-sketch
returns-in_err-sketch c = let p = err_from_is_err_and c.from_residual.result c.from_residual.ensures.1 in
    let h = told_refused _ _ _ _ _ c.sketch_at.ensures c.in_err-sketch.was in
    record { result_value = rw (p.1, p.2) h.0; uses_after = h.1 }

pub returns-in_default : goal.returns-in_default
returns-in_default c = let h = told_end _ _ _ _ _ c.sketch_at.ensures (c.in_ok-sketch.was ∙ ap Ok c.in_default.is) in
    record { result_value = h.0; uses_after = h.1 }

pub returns-in-Err : goal.returns-in-Err
returns-in-Err c =
    let h = told_fault _ _ _ _ _ c.sketch_at.ensures (c.in_ok-sketch.was ∙ ap Ok c.in-Some.is) _ c.judge.ensures c.in-Err.is in
    record { result_value = rw (c.at.ensures, c.place_of-place.ensures) h.0; uses_after = h.1 }

pub returns : goal.returns
returns c = let h = told_passed _ _ _ _ _ c.sketch_at.ensures (c.in_ok-sketch.was ∙ ap Ok c.in-Some.is) _ c.judge.ensures c.in_default-judge.is in
    record { result_value = h.0; uses_after = rw c.advance.ensures h.1 }

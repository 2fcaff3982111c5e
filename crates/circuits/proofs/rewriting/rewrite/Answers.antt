-- `circuits::rewriting::rewrite` meets its contract: the reader's refusal, 31, or the header and then the steps. Assumes nothing.
use native.Mathlib.Omega.{arith}
use Rattle.std.proofs.lemmas.Result.{err_from_is_err_and}
use Rattle.writing.proofs.Puts.{settled_refused, settled_done}
use Rattle.circuits.proofs.Rewrites.{accepted, turned_away, not_read, steps_stand, no_room, has_room, steps_fit, wrote_circuit}
use Rattle.circuits.proofs.rewriting.rewrite.Goals as goal

pub returns-in_err-valid : goal.returns-in_err-valid
returns-in_err-valid c = let p = err_from_is_err_and c.from_residual.result c.from_residual.ensures.1 in
    rw (p.1, p.2) (settled_refused (not_read _ _ (turned_away _ c.in_err-valid.ensures)))

pub returns-then-out-circuit : goal.returns-then-out-circuit
returns-then-out-circuit c = rw c.at.ensures (settled_refused (no_room _ (accepted _ c.in_ok-valid.ensures) _ (omega arith)))

pub write_steps-requires : goal.write_steps-requires
write_steps-requires c = let a = accepted _ c.in_ok-valid.ensures in
    record { steps = steps_stand _ a; circuit_in_bounds = steps_fit _ a (omega arith) c.write_record-from.ensures }

pub returns : goal.returns
returns c = let a = accepted _ c.in_ok-valid.ensures in
    settled_done (has_room _ a _ (omega arith)) (wrote_circuit _ a (omega arith) c.write_record-from.ensures c.write_steps.ensures)

-- `circuits::reading::read` meets its contract: the header, and then the instructions. Assumes nothing.
use mathlib.Core.Path.{sym, ◌∙◌}
use Rattle.std.proofs.lemmas.Result.{err_from_is_err_and}
use Rattle.circuits.specs.Reading.{read_circuit}
use Rattle.circuits.proofs.Turns.{reads_after}
use Rattle.circuits.proofs.reading.read.Goals as goal

pub returns-in_err-width : goal.returns-in_err-width
unfolding read_circuit
returns-in_err-width c = let p = err_from_is_err_and c.from_residual.result c.from_residual.ensures.1 in
    rw (p.1, p.2, sym c.in_err-width.ensures)

pub returns : goal.returns
returns c = c.read_steps.ensures ∙ reads_after _ _ (sym c.in_ok-width.ensures)

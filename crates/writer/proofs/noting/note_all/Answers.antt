-- `writer::noting::note_all` meets its contract: the header's refusal, or what the instructions after it give. Assumes nothing.
use mathlib.Core.Path.{sym}
use Rattle.std.proofs.lemmas.Result.{err_from_is_err_and}
use Rattle.writer.proofs.Kept.{header_refused}
use Rattle.writer.proofs.noting.note_all.Goals as goal

pub returns-in_err-width : goal.returns-in_err-width
returns-in_err-width c = let p = err_from_is_err_and c.from_residual.result c.from_residual.ensures.1 in
    let h = header_refused (sym c.in_err-width.ensures) in
    record { result_value = rw (p.1, p.2) h.0; kept = h.1.0; rows_after = h.1.1 }

-- `thaksipho::compiling::thaksipho_compile` meets its contract: what was told, as a word that it fits. Assumes nothing.
use mathlib.Core.Path.{sym, ap, ◌∙◌}
use Rattle.records.specs.Refusals.{outcome_of}
use Rattle.thaksipho.specs.Words.{word}
use Rattle.thaksipho.proofs.Fitting.{told_fits, worded, kept}
use Rattle.thaksipho.proofs.CompileWords.{bytes_told, compiled_settled, compile_fits}
use Rattle.thaksipho.proofs.compiling.thaksipho_compile.Goals as goal

pub returns-in-Err : goal.returns-in-Err
returns-in-Err c = let settled = compiled_settled c.compile.ensures in
    let e = sym (ap (λ r. bytes_told (outcome_of r)) c.in-Err.is) ∙ settled.tells in
    worded settled
    (c.word_of.ensures ∙ kept _ _ (told_fits e (compile_fits _ _ _)).1 ∙ sym (ap (λ r. word (bytes_told (outcome_of r))) c.in-Err.is))

-- `thaksipho::thaksipho_rewrite` meets its contract: what was told, as a word that it fits. Assumes nothing.
use mathlib.Core.Path.{sym, ap, ◌∙◌}
use Rattle.records.specs.Refusals.{outcome_of}
use Rattle.thaksipho.specs.Words.{word}
use Rattle.thaksipho.proofs.Fitting.{told_fits, worded, rewrite_fits, kept}
use Rattle.thaksipho.proofs.thaksipho_rewrite.Goals as goal

pub returns-in-Err : goal.returns-in-Err
returns-in-Err c = let e = sym (ap outcome_of c.in-Err.is) ∙ c.rewrite.ensures.tells in
    worded c.rewrite.ensures
    (c.word_of.ensures ∙ kept _ _ (told_fits e (rewrite_fits _ _)).1 ∙ sym (ap (λ r. word (outcome_of r)) c.in-Err.is))

-- `thaksipho::tables::thaksipho_offer` meets its contract: the offer's refusal, or the new table handed back. Assumes nothing.
use mathlib.Core.Path.{sym, ap, ◌∙◌}
use Rattle.table.specs.Calls.{offered}
use Rattle.table.specs.declared.tables.Table.{Table}
use Rattle.thaksipho.proofs.Fitting.{refusal_worded}
use Rattle.thaksipho.proofs.TableWords.{refused_written, offered_sound, sound_place}
use Rattle.thaksipho.proofs.tables.thaksipho_offer.Goals as goal

pub returns-in-Err : goal.returns-in-Err
returns-in-Err c = let a = c.args in
    let e =
    sym (c.in-Err.ensures.value ∙ ap (λ (t : Table). offered t a.lender a.taker) c.table_of.ensures) in
    refusal_worded c.word_of.ensures (refused_written _ e) (sound_place e (offered_sound _ a.lender a.taker))

-- `thaksipho::tables::thaksipho_start` meets its contract: the circuit's refusal, or its table handed back. Assumes nothing.
use mathlib.Core.Path.{sym}
use Rattle.thaksipho.proofs.Fitting.{refusal_worded}
use Rattle.thaksipho.proofs.TableWords.{refused_written, started_sound, sound_place}
use Rattle.thaksipho.proofs.tables.thaksipho_start.Goals as goal

pub returns-in-Err : goal.returns-in-Err
returns-in-Err c = let e = sym c.in-Err.ensures.value in
    refusal_worded c.word_of.ensures (refused_written _ e) (sound_place e (started_sound _))

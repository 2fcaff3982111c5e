-- `thaksipho::choosing::thaksipho_greedy` meets its contract: 27, or the list handed back. Assumes nothing.
use mathlib.Core.Path.{sym, ap, ◌∙◌}
use Rattle.choosers.specs.Results.{greedy_of}
use Rattle.thaksipho.specs.Lists.{list_value, list_written}
use Rattle.thaksipho.proofs.ListWords.{listed_refused, greedy_place}
use Rattle.thaksipho.proofs.choosing.thaksipho_greedy.Goals as goal

pub returns-in-Err : goal.returns-in-Err
returns-in-Err c = let e = sym (c.in-Err.ensures.value ∙ ap greedy_of c.table_of.ensures) in
    listed_refused c.word_of.ensures (greedy_place _ e) (ap (list_value _) e) (ap (list_written _) e)

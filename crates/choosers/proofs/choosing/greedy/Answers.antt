-- `choosers::choosing::greedy` meets its contract: it is refused as the count is. Assumes nothing.
use mathlib.Core.Path.{◌≡◌, sym, ap, ◌∙◌}
use Rattle.std.specs.Prelude.{Ok}
use Rattle.std.proofs.lemmas.Result.{err_from_is_err_and}
use Rattle.basics.specs.Outcome.{done}
use Rattle.records.specs.Refusals.{outcome_of}
use Rattle.records.proofs.Unique.{unwraps}
use Rattle.choosers.specs.Greedy.{ended}
use Rattle.choosers.specs.Results.{handed_back, greedy_of}
use Rattle.choosers.proofs.Settling.{greedy_made, counted_right, count_refused}
use Rattle.choosers.proofs.choosing.greedy.Goals as goal

pub returns-in_err-count : goal.returns-in_err-count
returns-in_err-count c = let t = c.args.table in
    let r = c.from_residual.result in
    let p = err_from_is_err_and r c.from_residual.ensures.1 in
    let told : outcome_of r ≡ greedy_of t = rw (p.1, p.2) (sym (count_refused t _ _ (sym c.in_err-count.ensures))) in
    record { value = told; ended = unwraps r (handed_back (ended t)) told }

pub all_rounds-requires : goal.all_rounds-requires
all_rounds-requires c = counted_right c.args.table _ (sym c.in_ok-count.ensures)

pub returns : goal.returns
returns c = let t = c.args.table in
    let told = ap done c.all_rounds.ensures ∙ sym (greedy_made t (counted_right t _ (sym c.in_ok-count.ensures))) in
    record { value = told; ended = unwraps (Ok c.all_rounds.result) (handed_back (ended t)) told }

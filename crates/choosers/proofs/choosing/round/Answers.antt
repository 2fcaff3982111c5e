-- `choosers::choosing::round` meets its contract: the offer of the best pair, a yes, is taken. Assumes nothing.
use mathlib.Core.Path.{sym, ap, ◌∙◌}
use mathlib.Core.Option.{map}
use Rattle.records.proofs.Unique.{done_ok}
use Rattle.choosers.specs.Trying.{Tried, best_pair}
use Rattle.choosers.specs.Results.{best_said}
use Rattle.choosers.proofs.YesPairs.{yes_offered}
use Rattle.choosers.proofs.GreedyRounds.{best_is}
use Rattle.choosers.proofs.choosing.round.Goals as goal

pub unwrap-requires : goal.unwrap-requires
unfolding best_pair
unwrap-requires c = let t = c.args.rounds.table in
    let best = ap (map (λ (b : Tried). b.pair)) (sym c.try_pairs.ensures ∙ ap best_said c.in-Some.is) in
    done_ok c.offer.result (c.offer.ensures.value ∙ yes_offered t c.requires.table_value _ _ (best_is t _ best).is_yes)

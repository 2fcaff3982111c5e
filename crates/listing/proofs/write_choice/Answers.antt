-- `listing::write_choice` meets its contract: the first line, then those of the pairs. Assumes nothing.
use mathlib.Core.Path.{sym, ap, ◌∙◌}
use Rattle.basics.specs.Outcome.{beside}
use Rattle.records.specs.Refusals.{outcome_of}
use Rattle.records.proofs.Unique.{done_ok}
use Rattle.choosers.specs.Greedy.{ended}
use Rattle.choosers.specs.Results.{handed_back}
use Rattle.choosers.proofs.Settling.{greedy_made}
use Rattle.listing.proofs.Choices.{list_sized, further_room, listing_written}
use Rattle.listing.proofs.write_choice.Goals as goal

pub unwrap-rounds-requires : goal.unwrap-rounds-requires
unwrap-rounds-requires c = done_ok c.greedy.result (c.greedy.ensures.value ∙ greedy_made c.args.table c.requires.table_value)

pub write_pairs-requires : goal.write_pairs-requires
write_pairs-requires c = let t = c.args.table in
    let chosen = ap (beside (handed_back (ended t))) (sym (ap outcome_of c.unwrap-rounds.ensures) ∙ c.greedy.ensures.value) in
    record {
      sized = list_sized t c.requires.table_value _ chosen;
      list_in_bounds = further_room t c.requires.table_value _ chosen c.requires.longest_listing_in_bounds c.put_summary-to.ensures;
    }

pub returns : goal.returns
returns c = let t = c.args.table in
    let chosen = ap (beside (handed_back (ended t))) (sym (ap outcome_of c.unwrap-rounds.ensures) ∙ c.greedy.ensures.value) in
    listing_written t c.requires.table_value _ chosen c.requires.longest_listing_in_bounds c.put_summary-to.ensures c.write_pairs.ensures

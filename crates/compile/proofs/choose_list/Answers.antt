-- `compile::choose_list` meets its contract: there is room for any list, so the records are the front of the buffer. Assumes
-- nothing.
use mathlib.Core.Path.{sym, ap, ◌∙◌}
use native.Mathlib.Omega.{arith}
use Rattle.records.specs.Refusals.{outcome_of}
use Rattle.records.proofs.Unique.{done_ok}
use Rattle.writing.proofs.Puts.{placed_within}
use Rattle.writing.proofs.Rows.{placed_written, written_front}
use Rattle.pairs.specs.Listing.{deciding_list_bytes}
use Rattle.choosers.proofs.Settling.{greedy_made}
use Rattle.compile.proofs.Chosen.{started_right, list_chosen, chosen_short}
use Rattle.compile.proofs.choose_list.Goals as goal

pub unwrap-rounds-requires : goal.unwrap-rounds-requires
unwrap-rounds-requires c = let right = started_right _ _ c.in-Ok.ensures.value in
    done_ok c.greedy.result (c.greedy.ensures.value ∙ greedy_made c.in-Ok.table right)

pub returns : goal.returns
returns c = let made = sym (ap outcome_of c.unwrap-rounds.ensures) ∙ c.greedy.ensures.value in
    let put = rw (list_chosen _ _ c.in-Ok.ensures.value _ made) at c.put_list.ensures in
    (placed_within put (omega arith), written_front (placed_written put deciding_list_bytes (chosen_short _) (omega arith)))

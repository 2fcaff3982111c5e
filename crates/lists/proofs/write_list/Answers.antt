-- `lists::write_list` meets its contract. The loop's invariant: the records of the pairs from here on are still to be
-- written. Assumes nothing.
use mathlib.Core.Path.{◌≡◌, ap, ◌∙◌}
use mathlib.Core.List.{List, map}
use Prim.Native.Nat.{ℕ, min}
use native.Mathlib.Omega.{arith}
use lib.ListN.{length, take}
use Rattle.std.proofs.lemmas.List.{take_min}
use Rattle.writing.proofs.Remaining.{remaining_start, remaining_placed, remaining_end}
use Rattle.choosers.specs.declared.answers.Pair.{Pair}
use Rattle.choosers.specs.Results.{numbers_of, first_pairs}
use Rattle.pairs.specs.Listing.{pairs_bytes}
use Rattle.choosers.proofs.HandedLists.{size, pair_next, pairs_over}
use Rattle.lists.proofs.Records.{records_length, records_next, records_none}
use Rattle.lists.proofs.write_list.Goals as goal

pub loop-pair-init : goal.loop-pair-init
loop-pair-init c = let pairs = c.args.list.pairs in
    let count = c.min-count.result in
    remaining_start (omega (arith, records_length (first_pairs count pairs), size pairs count (omega arith)))

pub loop-pair-preserved : goal.loop-pair-preserved
loop-pair-preserved c = let turn = c.loop-pair in
    let next = records_next (pair_next (take c.min-count.result c.args.list.pairs) turn.pair-index _ (omega arith)) in
    remaining_placed _ c.write_record-to.ensures (rw next at turn.invariant)

pub returns : goal.returns
returns c = let pairs = c.args.list.pairs in
    let count = c.min-count.result in
    let few : count ≡ min c.args.list.length (length pairs) = omega arith in
    let taken = ap (λ (n : ℕ). take n pairs) few ∙ take_min c.args.list.length pairs in
    let all = ap (λ (entries : List Pair). pairs_bytes (map numbers_of entries)) taken in
    let wrote = remaining_end (records_none (pairs_over (take count pairs) c.loop-pair.pair-index (omega arith))) c.loop-pair.invariant in
    record {
      wrote = rw all at wrote;
      short = omega (arith, records_length (first_pairs count pairs), size pairs count (omega arith), ap length all);
    }

-- No listing is longer than that of the most pairs: the wires, the pairs and the trials are few. Assumes nothing.
use Prim.Native.Nat.{ℕ, ◌*◌, ◌-◌, ◌≤◌}
use mathlib.Core.Path.{◌≡◌, refl}
use mathlib.Core.Bool.{false}
use mathlib.Core.List.{List, [], ◌∷◌}
use native.Mathlib.Nat.{mul-le-mul}
use native.Mathlib.Omega.{arith}
use lib.ListN.{length, length-append}
use Rattle.basics.specs.Outcome.{Outcome, done, refused}
use Rattle.orders.specs.Runs.{Pair}
use Rattle.writing.specs.Texts.{text}
use Rattle.texts.specs.Listings.{summary_line, pair_line, longest_pair}
use Rattle.texts.proofs.Lengths.{refusal_length, counts_length, pair_length}
use Rattle.circuits.specs.Reading.{Static, read_circuit}
use Rattle.circuits.proofs.Refusals.{refused_circuit}
use Rattle.table.specs.Limits.{most_wires}
use Rattle.table.specs.Calls.{wrong_width}
use Rattle.table.specs.Starting.{table_at_start, start_table}
use Rattle.table.specs.declared.tables.Table.{Table}
use Rattle.table.proofs.DemandThree.{start_width}
use Rattle.choosers.specs.Greedy.{greedy_from}
use Rattle.choosers.proofs.YesPairs.{fits}
use Rattle.choosers.proofs.GreedyRounds.{pairs_any, trials_any}
use Rattle.choosers.proofs.HandedLists.{Below, pairs_below_lem}
use Rattle.listing.specs.Printing.{pair_lines, chosen_lines, lines_of, printed, longest_listing}

lines_length : (width : ℕ) → width ≤ most_wires → (ps : List Pair) → Below width ps → length (pair_lines ps) ≤ length ps * longest_pair
lines_length width narrow [] below = omega arith
lines_length width narrow (p ∷ ps) (lender, taker, rest) =
    omega (
      arith,
      length-append (pair_line p.0 p.1) (pair_lines ps),
      pair_length p.0 p.1 (omega arith) (omega arith),
      lines_length width narrow ps rest,
    )

-- of a table whose width is right
pub chosen_length : (t : Table) → wrong_width t ≡ false → length (chosen_lines t) ≤ longest_listing
chosen_length t right =
    let narrow = fits t right in
    let few = pairs_any t right in
    let less : t.width - 1 ≤ most_wires = omega arith in
    let tried = trials_any t right in
    let most = mul-le-mul narrow (mul-le-mul narrow less) in
    let pairs = (greedy_from t).pairs in
    let first =
    counts_length t.width (t.width - length pairs) (length pairs) (text " trials ") (greedy_from t).trials
    (omega arith) (omega arith) (omega arith) (omega arith) (omega arith) in
    let lines = lines_length t.width narrow pairs (pairs_below_lem t right) in
    omega (arith, length-append (summary_line t.width (length pairs) (greedy_from t).trials) (pair_lines pairs))

-- THEOREM: what is printed of any byte string fits the longest listing.
pub printed-length : (s : List ℕ) → length (printed s) ≤ longest_listing
unfolding printed
printed-length s = go (read_circuit s) refl
  where
    go : (o : Outcome Static) → read_circuit s ≡ o → length (lines_of (table_at_start o)) ≤ longest_listing
    go (done c) e = chosen_length (start_table c) (start_width s c e [])
    go (refused number place) e =
        let r = refused_circuit s e in
        omega (arith, refusal_length number place (omega (arith, r.0.1)) (omega (arith, r.1)))

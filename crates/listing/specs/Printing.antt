-- What the listing program prints of any byte string: the pairs that greedy chooses from the circuit's table, or the refusal.
use Rattle.std.specs.Prelude.{ℕ, ◌+◌, ◌*◌, List, [], ◌∷◌, ◌++◌, length}
use Rattle.basics.specs.Outcome.{Outcome, done, refused}
use Rattle.orders.specs.Runs.{Pair}
use Rattle.texts.specs.Lines.{refusal_line}
use Rattle.texts.specs.Listings.{summary_line, pair_line, longest_counts, longest_pair}
use Rattle.table.specs.Starting.{started}
use Rattle.table.specs.declared.tables.Table.{Table}
use Rattle.choosers.specs.Greedy.{greedy_from}
use Rattle.choosers.specs.Results.{most_pairs}

-- one line a pair
abbrev pub pair_lines : List Pair → List ℕ
pair_lines [] = []
pair_lines (p ∷ ps) = pair_line p.0 p.1 ++ pair_lines ps

-- line one: input width, output width, pairs, trials; then the pairs in the order chosen
abbrev pub listing_of : ℕ → List Pair → ℕ → List ℕ
listing_of wires pairs trials = summary_line wires (length pairs) trials ++ pair_lines pairs

-- the listing of what greedy chooses from a table
abbrev pub chosen_lines : Table → List ℕ
chosen_lines t = listing_of t.width (greedy_from t).pairs (greedy_from t).trials

-- a refusal prints only its line
abbrev pub lines_of : Outcome Table → List ℕ
lines_of (done t) = chosen_lines t
lines_of (refused number place) = refusal_line number place

-- what is printed of a byte string
unfoldable pub printed : List ℕ → List ℕ
printed s = lines_of (started s)

-- no listing is longer than that of the most pairs
abbrev pub longest_listing : ℕ
longest_listing = longest_counts + most_pairs * longest_pair

-- What a chooser settles, and what its code keeps.
use Rattle.std.specs.Prelude.{ℕ, ◌+◌, ◌-◌, ◌^◌, ◌≤◌, not, ◌&&◌, List, ◌++◌, map, eqb, length, take, set, replicate, get_or}
use Rattle.std.specs.Prelude as code
use Rattle.std.specs.Prelude.{None, Some}
use Rattle.std.proofs.Math.Option.{Option, none, some}
use Rattle.basics.specs.Choice.{pick}
use Rattle.basics.specs.Outcome.{Outcome, done, refused}
use Rattle.bits.specs.Bits.{bit, pack, total, tally, each}
use Rattle.orders.specs.Runs as runs
use Rattle.records.specs.Records.{wire}
use Rattle.table.specs.Limits.{most_wires}
use Rattle.table.specs.Marks.{counts}
use Rattle.table.specs.Rule.{row_after, accepted}
use Rattle.table.specs.Calls.{wrong_width}
use Rattle.table.specs.declared.tables.Table.{Table}
use Rattle.choosers.specs.Trying as trying
use Rattle.choosers.specs.Greedy.{Choosing, greedy_from}
use Rattle.choosers.specs.declared.answers.Pair.{Pair}
use Rattle.choosers.specs.declared.answers.PairList.{PairList}
use Rattle.choosers.specs.declared.answers.Rounds.{Rounds}
use Rattle.choosers.specs.declared.choosing.Tried.{Tried}

-- the most pairs of a list: each has a lender of its own
abbrev pub most_pairs : ℕ
most_pairs = most_wires

abbrev pub pair_of : runs.Pair → Pair
pair_of p = record { lender = wire p.0; taker = wire p.1 }

-- the list by value: the pairs, and 0 to 0 in the entries past them
abbrev pub list_of : List runs.Pair → PairList
list_of ps = record { pairs = map pair_of ps ++ replicate (most_pairs - length ps) (pair_of (0, 0)); length = length ps }

-- the numbers of a pair's wires
abbrev pub numbers_of : Pair → runs.Pair
numbers_of p = (p.lender.0, p.taker.0)

-- the pairs of the first n entries
abbrev pub first_pairs : ℕ → List Pair → List runs.Pair
first_pairs n entries = map numbers_of (take n entries)

-- the pairs of a list by value: its entries up to its length
abbrev pub pairs_of : PairList → List runs.Pair
pairs_of l = first_pairs l.length l.pairs

-- a list has room for its entries
pub record Sized (l : PairList) : Type 0 where
  pub few : l.length ≤ most_pairs
  pub held : l.length ≤ length l.pairs

-- the values that are handed back
abbrev pub handed_back : Choosing → Rounds
handed_back c = record { list = list_of c.pairs; table = c.table; trials = c.trials }

-- what the greedy chooser settles
unfoldable pub greedy_of : Table → Outcome Rounds
greedy_of t = pick (wrong_width t) (refused 27 0) (done (handed_back (greedy_from t)))

-- ---- one round of the code

-- a count of trials that the code holds is below this
abbrev pub trials_limit : ℕ
trials_limit = 2 ^ 32

abbrev pub tried_of : Tried → trying.Tried
tried_of b = record { pair = (b.pair.lender.0, b.pair.taker.0); score = b.score }

-- the best pair so far, or none
abbrev pub best_said : code.Option Tried → Option trying.Tried
best_said None = none
best_said (Some b) = some (tried_of b)

-- the marks that count in the rows of the other lenders
abbrev pub other_rows : Table → ℕ → List ℕ
other_rows t lender = each most_wires (λ u. pack most_wires (λ v. not (eqb u lender) && counts t u v))

-- how many marks these rows keep, below the width, once a lender with the marks `given` lends to the taker
abbrev pub marks_left : List ℕ → ℕ → ℕ → ℕ → ℕ
marks_left rows width given taker = total width (λ u. tally most_wires (row_after (λ v. bit v given) (λ v. bit v (get_or rows u 0)) taker))

-- one pair more in the list
abbrev pub stored : PairList → Pair → PairList
stored l p = record { pairs = set l.pairs l.length p; length = l.length + 1 }

-- the rounds with one more, of so many yes marks, in which this pair was accepted
abbrev pub round_after : Rounds → ℕ → Option runs.Pair → Rounds
round_after r marks none = r
round_after r marks (some p) = record { list = stored r.list (pair_of p); table = accepted r.table p.0 p.1; trials = r.trials + marks }

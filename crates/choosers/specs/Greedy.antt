-- The greedy choice: rounds until no yes is left, and the sum of their trials.
use Rattle.std.specs.Prelude.{ℕ, zero, suc, ◌+◌, List, [], ◌∷◌}
use Rattle.std.proofs.Math.Option.{none, some}
use Rattle.orders.specs.Runs.{Pair}
use Rattle.table.specs.Marks.{marks_of}
use Rattle.table.specs.Rule.{accepted}
use Rattle.table.specs.declared.tables.Table.{Table}
use Rattle.choosers.specs.Trying.{best_pair}

-- the pair list in the order chosen, the table as the accepted offers leave it, and the number of trials
pub record Choosing : Type 0 where
  pub pairs : List Pair
  pub table : Table
  pub trials : ℕ

-- no round: the table given, untouched
abbrev pub ended : Table → Choosing
ended t = record { pairs = []; table = t; trials = 0 }

-- the pair of a round, with the yes marks at its start, before what the later rounds leave
abbrev pub after : Pair → ℕ → Choosing → Choosing
after p marks later = record { pairs = p ∷ later.pairs; table = later.table; trials = marks + later.trials }

-- at most k rounds from a table: the best pair is accepted, until there is none
unfoldable pub greedy_rounds : ℕ → Table → Choosing
greedy_rounds zero t = ended t
greedy_rounds (suc k) t = elim (best_pair t) [ none ↦ ended t | some p ↦ after p (marks_of t) (greedy_rounds k (accepted t p.0 p.1)) ]

-- until no yes is left: each round leaves at least one yes less
abbrev pub greedy_from : Table → Choosing
greedy_from t = greedy_rounds (marks_of t) t

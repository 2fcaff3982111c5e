-- Greedy as one of the rules of choice of crate `orders`, and tables grown from a circuit.
use Rattle.std.specs.Prelude.{ℕ, ◌≡◌, false, List}
use Rattle.bits.specs.Bits.{total, tally}
use Rattle.orders.specs.Runs.{Circuit, Pair}
use Rattle.orders.specs.Table as orders
use Rattle.orders.specs.Rounds.{Chooser}
use Rattle.table.specs.Limits.{most_wires}
use Rattle.table.specs.Growing.{view}
use Rattle.table.specs.Calls.{wrong_width}
use Rattle.table.specs.declared.tables.Table.{Table}
use Rattle.choosers.specs.Trying.{best_below}

-- a table and the pairs accepted so far, the latest first
abbrev pub state_of : Table → List Pair → orders.State
state_of t ps = record { table = view t; pairs = ps }

-- the best pair by the marks alone: a pair's score is the count of yes marks left after accepting it
unfoldable pub greedy_rule : ℕ → Chooser
greedy_rule width T = best_below T.mark (λ l k. total most_wires (λ u. tally most_wires ((orders.accept (l, k) T).mark u))) width

-- a table grown from a circuit on as many wires, once these pairs are accepted
pub record GrownFrom (C : Circuit) (t : Table) (ps : List Pair) : Type 0 where
  pub wires : t.width ≡ C.width
  pub right : wrong_width t ≡ false
  pub grown : orders.Grown C (state_of t ps)

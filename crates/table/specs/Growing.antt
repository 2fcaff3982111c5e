-- A table that takes offers: the marks, the used wires and the pairs accepted so far, as crate `orders` speaks of them.
use Rattle.std.specs.Prelude.{List, [], ◌∷◌}
use Rattle.basics.specs.Outcome.{Outcome, done, refused}
use Rattle.orders.specs.Runs.{Pair}
use Rattle.orders.specs.Table as orders
use Rattle.circuits.specs.Reading.{Static}
use Rattle.table.specs.Marks.{counts, lends, takes}
use Rattle.table.specs.Calls.{offered}
use Rattle.table.specs.Starting.{start_table}
use Rattle.table.specs.declared.tables.Table.{Table}

-- a table's marks that count, its lenders and its takers
abbrev pub view : Table → orders.Table
view t = record { mark = counts t; lent = lends t; taken = takes t }

-- a table, and the pairs accepted so far, the latest first
pub record Growing : Type 0 where
  pub table : Table
  pub pairs : List Pair

abbrev pub taking : Pair → Growing → Outcome Table → Growing
taking p g (done t) = record { table = t; pairs = p ∷ g.pairs }
taking p g (refused number place) = g

-- an offer: taken, with the table handed back, or refused
abbrev pub offer_to : Pair → Growing → Growing
offer_to p g = taking p g (offered g.table p.0 p.1)

-- one offer after the other, of any numbers
unfoldable pub offers_to : List Pair → Growing → Growing
offers_to [] g = g
offers_to (p ∷ ps) g = offers_to ps (offer_to p g)

-- a circuit's table that has taken no offer yet
abbrev pub grown_from : Static → Growing
grown_from c = record { table = start_table c; pairs = [] }

-- the same as crate `orders` has it
abbrev pub state_of : Growing → orders.State
state_of g = record { table = view g.table; pairs = g.pairs }

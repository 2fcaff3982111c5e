-- A table handed back as its bytes.
use Rattle.std.specs.Prelude.{ℕ, ◌<◌, List}
use Rattle.basics.specs.Outcome.{Outcome, done, refused}
use Rattle.writing.specs.Writing.{fitted}
use Rattle.table.specs.TableBytes.{table_bytes}
use Rattle.table.specs.declared.tables.Table.{Table}
use Rattle.thaksipho.specs.Words.{places_end}

-- the bytes of the table, where there is room for them; the call's own refusals come before 31
abbrev pub table_written : ℕ → Outcome Table → Outcome (List ℕ)
table_written room (done t) = fitted room (table_bytes t)
table_written room (refused number place) = refused number place

-- a refusal's place is below 2 ^ 32
abbrev pub Small : {A : Type 0} → Outcome A → Type 0
Small (done a) = Unit {0}
Small (refused number place) = place < places_end

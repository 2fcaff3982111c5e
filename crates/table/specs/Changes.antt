-- How an accepted offer reaches each row: what is the same for every row, and what one row becomes by it.
use Rattle.std.specs.Prelude.{ℕ, Bool, not, ◌&&◌, eqb}
use Rattle.bits.specs.Bits.{bit, pack}
use Rattle.records.specs.Records.{wire}
use Rattle.table.specs.Limits.{most_wires}
use Rattle.table.specs.Marks.{free, counts_among, counts}
use Rattle.table.specs.Rule.{row_after}
use Rattle.table.specs.declared.tables.Table.{Table}
use Rattle.table.specs.declared.rows.Change.{Change}

-- the other free lenders, the free takers, the lender's marks that count, and the taker
unfoldable pub change_of : Table → ℕ → ℕ → Change
change_of t lender taker = record {
  lenders = pack most_wires (λ u. not (eqb u lender) && free t.width t.lending u);
  takers = pack most_wires (free t.width t.taking);
  given = pack most_wires (counts t lender);
  taker = wire taker;
}

-- a mark of the row of u after the change: of the marks that count among the other lenders, those that the rule leaves
abbrev pub changed : Change → ℕ → ℕ → ℕ → Bool
changed c row u v =
    row_after (λ w. bit w c.given) (counts_among (λ w. bit w c.lenders) (λ w. bit w c.takers) row u) c.taker.0 v

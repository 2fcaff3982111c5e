-- A table read as marks: which of its bits count, which wires lend and which take.
use Rattle.std.specs.Prelude.{ℕ, ◌<◌, ◌≡◌, Bool, true, not, ◌&&◌, List, eqb, ltb, get_or, replicate}
use Rattle.basics.specs.Choice.{pick}
use Rattle.bits.specs.Bits.{bit, pack, total, tally, each}
use Rattle.table.specs.Limits.{most_wires}
use Rattle.table.specs.declared.tables.Table.{Table}

-- below the width and marked as used
abbrev pub used : ℕ → ℕ → ℕ → Bool
used width row wire = ltb wire width && bit wire row

-- below the width and not marked as used
abbrev pub free : ℕ → ℕ → ℕ → Bool
free width row wire = ltb wire width && not (bit wire row)

-- a set mark of a lender's row counts: the lender is among the free lenders, the taker among the free takers, and they are two wires
abbrev pub counts_among : (ℕ → Bool) → (ℕ → Bool) → ℕ → ℕ → ℕ → Bool
counts_among lenders takers row lender taker = lenders lender && (not (eqb taker lender) && (bit taker row && takers taker))

-- the mark (lender, taker) counts as yes
unfoldable pub counts : Table → ℕ → ℕ → Bool
counts t lender taker =
    counts_among (free t.width t.lending) (free t.width t.taking) (get_or t.rows lender 0) lender taker

-- the wire lends
abbrev pub lends : Table → ℕ → Bool
lends t wire = used t.width t.lending wire

-- the wire takes
abbrev pub takes : Table → ℕ → Bool
takes t wire = used t.width t.taking wire

-- how many marks count
unfoldable pub marks_of : Table → ℕ
marks_of t = total most_wires (λ lender. tally most_wires (counts t lender))

-- the marks that count, a row for each lender
abbrev pub mark_rows : Table → List ℕ
mark_rows t = each most_wires (λ lender. pack most_wires (counts t lender))

-- how many rows there are of wires below the width
abbrev pub rows_below : ℕ → ℕ
rows_below width = pick (ltb width most_wires) width most_wires

-- no wires and no marks
unfoldable pub empty_table : Table
empty_table = record { width = 0; rows = replicate most_wires 0; lending = 0; taking = 0 }

-- every set mark counts, and no used mark is at or above the width
pub record Clean (t : Table) : Type 0 where
  pub marks : (u v : ℕ) → bit v (get_or t.rows u 0) ≡ true → counts t u v ≡ true
  pub lenders : (u : ℕ) → bit u t.lending ≡ true → u < t.width
  pub takers : (v : ℕ) → bit v t.taking ≡ true → v < t.width

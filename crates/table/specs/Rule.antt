-- Document 01's rule of the update, on marks, and the table that an accepted offer leaves.
use Rattle.std.specs.Prelude.{ℕ, ◌<◌, ◌≡◌, Bool, not, ◌&&◌, ◌||◌, eqb, get_or}
use Rattle.bits.specs.Bits.{bit, pack, each}
use Rattle.table.specs.Limits.{most_wires}
use Rattle.table.specs.Marks.{counts, lends, takes, marks_of, Clean}
use Rattle.table.specs.declared.tables.Table.{Table}

-- one row after the offer: no at the taker; and no at each v where the lender's row, `given`, has no, if this row has no at the taker
abbrev pub row_after : (ℕ → Bool) → (ℕ → Bool) → ℕ → ℕ → Bool
row_after given row taker v = not (eqb v taker) && (row v && (given v || row taker))

-- the mark (u, v) after the offer: the lender's own row becomes no
abbrev pub mark_after : (ℕ → ℕ → Bool) → ℕ → ℕ → ℕ → ℕ → Bool
mark_after marks lender taker u v = not (eqb u lender) && row_after (marks lender) (marks u) taker v

-- the used wires after the offer: one more
abbrev pub used_after : (ℕ → Bool) → ℕ → ℕ → Bool
used_after marks wire u = eqb u wire || marks u

-- the table once the lender lends to the taker, in rows of `most` marks: a mark that doesn't count is no in it, and used marks at or above the width are gone
unfoldable pub accepted_in : ℕ → Table → ℕ → ℕ → Table
accepted_in most t lender taker = record {
  width = t.width;
  rows = each most (λ u. pack most (mark_after (counts t) lender taker u));
  lending = pack most (used_after (lends t) lender);
  taking = pack most (used_after (takes t) taker);
}

-- the same in the rows of a table
abbrev pub accepted : Table → ℕ → ℕ → Table
accepted = accepted_in most_wires

-- a mark that is set, whether or not it counts
abbrev pub is_set : Table → ℕ → ℕ → Bool
is_set t u v = bit v (get_or t.rows u 0)

-- the table once the lender lends to the taker, by the marks that are set: where all of these count it is the same
unfoldable pub accepted_clean : Table → ℕ → ℕ → Table
accepted_clean t lender taker = record {
  width = t.width;
  rows = each most_wires (λ u. pack most_wires (mark_after (is_set t) lender taker u));
  lending = pack most_wires (used_after (lends t) lender);
  taking = pack most_wires (used_after (takes t) taker);
}

-- `after` is `before` once the lender lends to the taker: its marks are what the rule leaves, fewer count, and it is clean
pub record Updated (before : Table) (lender taker : ℕ) (after : Table) : Type 0 where
  pub width : after.width ≡ before.width
  pub marks : (u v : ℕ) → counts after u v ≡ mark_after (counts before) lender taker u v
  pub lenders : (u : ℕ) → lends after u ≡ used_after (lends before) lender u
  pub takers : (v : ℕ) → takes after v ≡ used_after (takes before) taker v
  pub clean : Clean after
  pub fewer : marks_of after < marks_of before

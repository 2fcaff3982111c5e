-- The marks of a table by the bits of its rows. Assumes nothing.
use mathlib.Core.Path.{◌≡◌, refl, ap, ◌∙◌}
use mathlib.Core.Bool.{Bool, true, false, not, ◌&&◌, ◌||◌}
use Prim.Native.Nat.{ℕ, ◌^◌, ◌≤◌, ◌<◌, zero-le}
use lib.Dec.{eqb, lit<}
use lib.ListN.{length, get_or, get_or-eq_default}
use Rattle.bits.specs.Bits.{bit, pack}
use Rattle.bits.proofs.Packing.{pack_ext, nothing_packed, bit_past, bit-pack}
use Rattle.bits.proofs.Operations.{Packs}
use Rattle.table.specs.Limits.{most_wires}
use Rattle.table.specs.Marks.{free, counts_among, counts}
use Rattle.table.specs.Rule.{row_after, mark_after}
use Rattle.table.specs.Changes.{change_of, changed}
use Rattle.table.specs.declared.tables.Table.{Table}
use Rattle.table.specs.declared.rows.Change.{Change}
use Rattle.table.proofs.RowBits.{among_is, unmarked, marked, left_is}

module _ (t : Table) (lender : ℕ) where
  -- past the last row no mark counts
  pub no_row : length t.rows ≤ lender → 0 ≡ pack most_wires (counts t lender)
  unfolding counts
  no_row h = nothing_packed most_wires none
    where
      none : (v : ℕ) → counts t lender v ≡ false
      none v = unmarked (free t.width t.lending) (free t.width t.taking) (get_or t.rows lender 0) lender v (ap (bit v) (get_or-eq_default t.rows 0 {n = lender} h) ∙ bit_past 0 v (lit< tt) zero-le)

  module _ (fits : get_or t.rows lender 0 < 2 ^ most_wires) where
    -- the marks of a row that count, by the sets of free wires
    pub row_counts : {lenders takers : ℕ} → Packs most_wires (free t.width t.lending) lenders → Packs most_wires (free t.width t.taking) takers → lender < most_wires
        → pack most_wires (counts_among (λ i. bit i lenders) (λ i. bit i takers) (get_or t.rows lender 0) lender) ≡ pack most_wires (counts t lender)
    unfolding counts
    row_counts p q inside = pack_ext most_wires (λ v l. among_is p q (get_or t.rows lender 0) lender fits inside v)

    -- the packed marks have each mark as their bit
    pub yes_is : (m : ℕ) → m ≡ pack most_wires (counts t lender) → (v : ℕ) → bit v m ≡ counts t lender v
    unfolding counts
    yes_is m e v = marked most_wires (free t.width t.lending) (free t.width t.taking) (get_or t.rows lender 0) lender fits m e v

-- ---- the rule, row by row

-- what a change leaves of a row, by the marks of that row that count
pub change_left : (c : Change) (row wire m : ℕ) → row < 2 ^ most_wires
    → m ≡ pack most_wires (counts_among (λ i. bit i c.lenders) (λ i. bit i c.takers) row wire)
    → pack most_wires (row_after (λ v. bit v c.given) (λ v. bit v m) c.taker.0) ≡ pack most_wires (changed c row wire)
change_left c row wire m fits e = left_is most_wires c.given c.taker.0 _ m (marked most_wires (λ i. bit i c.lenders) (λ i. bit i c.takers) row wire fits m e)

-- `a`, "u is not the lender": the rule of the update with it before the row's marks, or before the whole
pub spread : (a b c d e : Bool) → (b && ((a && c) && (d || (a && e)))) ≡ (a && (b && (c && (d || e))))
spread true b c d e = refl
spread false true c d e = refl
spread false false c d e = refl

assoc : (a b c : Bool) → ((a && b) && c) ≡ (a && (b && c))
assoc true b c = refl
assoc false b c = refl

module _ (t : Table) (lender taker u : ℕ) (fits : get_or t.rows u 0 < 2 ^ most_wires) (inside : u < most_wires) where
  -- among the other lenders, the marks of the row of u are those that counted, and none if u is the lender
  others : (v : ℕ)
      → counts_among (λ w. bit w (change_of t lender taker).lenders) (λ w. bit w (change_of t lender taker).takers) (get_or t.rows u 0) u v
      ≡ (not (eqb u lender) && counts t u v)
  unfolding change_of counts
  others v =
      among_is {f = λ w. not (eqb w lender) && free t.width t.lending w} {g = free t.width t.taking} (record { is = refl }) (record { is = refl }) (get_or t.rows u 0) u fits inside v
      ∙ assoc (not (eqb u lender)) (free t.width t.lending u) _

  given_is : (v : ℕ) → v < most_wires → bit v (change_of t lender taker).given ≡ counts t lender v
  unfolding change_of
  given_is v l = bit-pack most_wires (counts t lender) v l

  one : (v : ℕ) → v < most_wires → changed (change_of t lender taker) (get_or t.rows u 0) u v ≡ mark_after (counts t) lender taker u v
  unfolding change_of counts
  one v l =
      rw (others v, others taker)
      (ap (λ (b : Bool). not (eqb v taker) && ((not (eqb u lender) && counts t u v) && (b || (not (eqb u lender) && counts t u taker)))) (given_is v l)
      ∙ spread (not (eqb u lender)) (not (eqb v taker)) (counts t u v) (counts t lender v) (counts t u taker))

  pub row_changed : pack most_wires (changed (change_of t lender taker) (get_or t.rows u 0) u) ≡ pack most_wires (mark_after (counts t) lender taker u)
  row_changed = pack_ext most_wires one

-- An offer is taken exactly when `may` says yes, for every table, and what is taken is updated by the rule. Assumes nothing.
use mathlib.Core.Path.{◌≡◌, refl, sym, ap, ap₂, ◌∙◌}
use mathlib.Core.Bool.{Bool, true, false, not, ◌&&◌, ◌||◌, true≢false}
use Prim.Native.Nat.{ℕ, ◌≤◌, ◌<◌}
use native.Mathlib.Omega.{arith}
use borrow.Author.Tests.{ltb-true, ltb-false, lt-leb}
use lib.Dec.{eqb, ltb}
use lib.ListN.{get_or}
use Rattle.basics.specs.Outcome.{done, refused, handing}
use Rattle.basics.proofs.Tests.{both}
use Rattle.basics.proofs.Outcomes.{not_refused, handing_value, handing-done}
use Rattle.bits.specs.Bits.{bit}
use Rattle.table.specs.Limits.{most_wires}
use Rattle.table.specs.Marks.{counts}
use Rattle.table.specs.Rule.{accepted, Updated}
use Rattle.table.specs.Calls.{wrong_width, outside_width, may_lend, judged, offered}
use Rattle.table.specs.declared.tables.Table.{Table}
use Rattle.table.proofs.Judgements.{wrong_table, not_below, already_lends, already_takes, closes_loop, is_taken}
use Rattle.table.proofs.Updates.{accepted_updated}

-- what a mark that counts says of its wires
record Unused (t : Table) (lender taker : ℕ) : Type 0 where
  lender_below : lender < t.width
  taker_below : taker < t.width
  lends_not : bit lender t.lending ≡ false
  takes_not : bit taker t.taking ≡ false

unset : (b : Bool) → not b ≡ true → b ≡ false
unset false h = refl
unset true h = sym h

module _ (t : Table) (lender taker : ℕ) where
  unused : counts t lender taker ≡ true → Unused t lender taker
  unfolding counts
  unused h =
      let parts = both (ltb lender t.width && not (bit lender t.lending)) _ h in
      let lends = both (ltb lender t.width) _ parts.0 in
      let takes = both (ltb taker t.width) (not (bit taker t.taking)) (both (bit taker (get_or t.rows lender 0)) _ (both (not (eqb taker lender)) _ parts.1).1).1 in
      record {
        lender_below = ltb-true lender t.width lends.0;
        taker_below = ltb-true taker t.width takes.0;
        lends_not = unset (bit lender t.lending) lends.1;
        takes_not = unset (bit taker t.taking) takes.1;
      }

  -- where the width is right, a mark that counts is all that an offer needs
  counts_taken : wrong_width t ≡ false → counts t lender taker ≡ true → judged t lender taker ≡ done tt
  counts_taken w h =
      let u = unused h in
      is_taken t lender taker w (ap₂ ◌||◌ (lt-leb t.width lender u.lender_below) (lt-leb t.width taker u.taker_below)) u.lends_not u.takes_not h

width_fits : (t : Table) → wrong_width t ≡ false → t.width ≤ most_wires
width_fits t w = go (eqb t.width 0) w
  where
    go : (b : Bool) → (b || ltb most_wires t.width) ≡ false → t.width ≤ most_wires
    go true h = absurd (true≢false h)
    go false h = ltb-false most_wires t.width h

module _ (t : Table) (lender taker : ℕ) where
  -- and an offer that is taken has such a mark
  module _ (taken : judged t lender taker ≡ done tt) where
    right_width : wrong_width t ≡ false
    right_width = go (wrong_width t) refl
      where
        go : (b : Bool) → wrong_width t ≡ b → wrong_width t ≡ false
        go false e = e
        go true e = absurd (not_refused (sym (wrong_table t lender taker e) ∙ taken))

    taken_counts : counts t lender taker ≡ true
    taken_counts = go (counts t lender taker) refl
      where
        go : (b : Bool) → counts t lender taker ≡ b → counts t lender taker ≡ true
        go true e = e
        go false e = absurd (no_mark (outside_width t lender taker) refl (bit lender t.lending) refl (bit taker t.taking) refl)
          where
            no_mark : (a : Bool) → outside_width t lender taker ≡ a → (b : Bool) → bit lender t.lending ≡ b → (c : Bool) → bit taker t.taking ≡ c → ⊥
            no_mark true ea b eb c ec = not_refused (sym (not_below t lender taker right_width ea) ∙ taken)
            no_mark false ea true eb c ec = not_refused (sym (already_lends t lender taker right_width ea eb) ∙ taken)
            no_mark false ea false eb true ec = not_refused (sym (already_takes t lender taker right_width ea eb ec) ∙ taken)
            no_mark false ea false eb false ec = not_refused (sym (closes_loop t lender taker right_width ea eb ec e) ∙ taken)

    pub taken_inside : lender < most_wires
    taken_inside = omega (arith, (unused t lender taker taken_counts).lender_below, width_fits t right_width)

  -- what `may` says, by the width
  may_refused : wrong_width t ≡ true → may_lend t lender taker ≡ refused 27 0
  unfolding may_lend
  may_refused w = rw w

  may_says : wrong_width t ≡ false → may_lend t lender taker ≡ done (counts t lender taker)
  unfolding may_lend
  may_says w = rw w

  -- a yes is taken, and the table after it is the accepted one
  pub yes_taken : may_lend t lender taker ≡ done true → offered t lender taker ≡ done (accepted t lender taker)
  yes_taken says = go (wrong_width t) refl
    where
      go : (b : Bool) → wrong_width t ≡ b → offered t lender taker ≡ done (accepted t lender taker)
      go true e = absurd (not_refused (sym (may_refused e) ∙ says))
      go false e =
          let same : done (counts t lender taker) ≡ done true = sym (may_says e) ∙ says in
          let mark : counts t lender taker ≡ true = cc in
          ap (handing (accepted t lender taker)) (counts_taken t lender taker e mark)

  -- an offer that is taken was a yes
  pub taken_yes : (after : Table) → offered t lender taker ≡ done after → may_lend t lender taker ≡ done true
  taken_yes after e = may_says (right_width (handing-done (accepted t lender taker) after (judged t lender taker) e)) ∙ ap done (taken_counts (handing-done (accepted t lender taker) after (judged t lender taker) e))

  -- and its table is updated by the rule
  pub taken_updated : (after : Table) → offered t lender taker ≡ done after → Updated t lender taker after
  taken_updated after e =
      let taken = handing-done (accepted t lender taker) after (judged t lender taker) e in
      let mark = taken_counts taken in
      let u = unused t lender taker mark in
      rw (handing_value (accepted t lender taker) after (judged t lender taker) e) (accepted_updated t lender taker (width_fits t (right_width taken)) u.lender_below u.taker_below mark)

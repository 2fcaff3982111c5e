-- Demand 3: from any accepted circuit, whatever is offered in whatever sequence, the table says yes exactly where the pair can be added; each
-- new table comes from the last table and the offer alone. Assumes nothing.
use Prim.Native.Nat.{ℕ}
use mathlib.Core.Path.{◌≡◌, refl, sym, ap, ◌∙◌}
use mathlib.Core.Logic.{◌↔◌}
use mathlib.Core.Bool.{true}
use mathlib.Core.List.{List, ◌∷◌}
use Rattle.basics.specs.Outcome.{Outcome, done, refused}
use Rattle.orders.specs.Runs.{Pair, Allowed}
use Rattle.circuits.specs.Reading.{Static, read_circuit}
use Rattle.precedence.specs.Precedence.{circuit_of}
use Rattle.table.specs.Rule.{accepted}
use Rattle.table.specs.Calls.{may_lend, offered}
use Rattle.table.specs.Starting.{started}
use Rattle.table.specs.Growing.{Growing, offer_to, offers_to, grown_from}
use Rattle.table.specs.declared.tables.Table.{Table}
use Rattle.table.proofs.Offers.{yes_taken, taken_yes}
use Rattle.table.proofs.DemandThree.{may_exactly}

module _ (s : List ℕ) (c : Static) (e : read_circuit s ≡ done c) where
  -- the shipped start gives the table from which all begins
  pub demand_3_start : started s ≡ done (grown_from c).table
  demand_3_start = rw e

  -- DEMAND 3: after any offers of any numbers, `may` says yes exactly where this pair with all accepted so far is between wires, shares no lender
  -- and no taker, and some order of all instructions exists.
  pub demand_3 : (os : List Pair) (l t : ℕ)
      → (may_lend (offers_to os (grown_from c)).table l t ≡ done true) ↔ Allowed (circuit_of c) ((l, t) ∷ (offers_to os (grown_from c)).pairs)
  demand_3 = may_exactly s c e

-- on every table, hand-made too, an offer is taken exactly when `may` says yes, and then by the rule of the update
pub demand_3_taken : (t : Table) (lender taker : ℕ) → (may_lend t lender taker ≡ done true) ↔ (offered t lender taker ≡ done (accepted t lender taker))
demand_3_taken t lender taker = (yes_taken t lender taker, λ e. taken_yes t lender taker (accepted t lender taker) e)

-- each new table comes from the last table and the offer alone: tables that are equal stay so, whatever circuits and pairs they grew from
pub demand_3_alone : (p : Pair) (g h : Growing) → g.table ≡ h.table → (offer_to p g).table ≡ (offer_to p h).table
demand_3_alone p g h e = go (offered g.table p.0 p.1) refl
  where
    other : {o : Outcome Table} → offered g.table p.0 p.1 ≡ o → offered h.table p.0 p.1 ≡ o
    other z = ap (λ (t : Table). offered t p.0 p.1) (sym e) ∙ z

    go : (o : Outcome Table) → offered g.table p.0 p.1 ≡ o → (offer_to p g).table ≡ (offer_to p h).table
    go (done t) z = rw (z, other z)
    go (refused n q) z = rw (z, other z) e

-- The greedy choice on a table grown from a circuit: it is never refused, no pair can be added to its list, the trials are at most
-- n(n - 1)(n - 1), and its list compiles. Assumes nothing.
use Prim.Native.Nat.{ℕ, ◌+◌, ◌-◌, ◌*◌, ◌≤◌}
use mathlib.Core.Path.{◌≡◌, refl, ◌∙◌}
use mathlib.Core.List.{List, [], reverse_aux}
use lib.ListN.{length}
use Rattle.basics.specs.Outcome.{done}
use Rattle.orders.specs.Runs.{Pair}
use Rattle.orders.specs.Rounds.{Maximal}
use Rattle.circuits.specs.Reading.{Static, read_circuit}
use Rattle.precedence.specs.Precedence.{circuit_of}
use Rattle.precedence.proofs.Precedence.{read_wired, circuit_lawful}
use Rattle.table.specs.Growing.{offers_to, grown_from}
use Rattle.table.specs.Starting.{start_table}
use Rattle.table.proofs.DemandThree.{demand_three, start_width, offers_right, offers_width}
use Rattle.choosers.specs.Greedy.{greedy_from}
use Rattle.choosers.specs.Results.{handed_back, greedy_of}
use Rattle.choosers.specs.GrownTables.{GrownFrom}
use Rattle.choosers.proofs.Settling.{greedy_made}
use Rattle.choosers.proofs.Endings.{greedy_ended, trials_grown, greedy_maximal}
use Rattle.pairs.specs.Listing.{pairs_bytes}
use Rattle.writer.specs.Compiling.{dynamic_of, compiled}
use Rattle.writer.proofs.Exactly.{allowed_written}

module _ (s : List ℕ) (c : Static) (e : read_circuit s ≡ done c) where
  start_wires : (start_table c).width ≡ c.width
  unfolding start_table
  start_wires = refl

  -- the table after any offers is one that is grown from the circuit
  grown : (os : List Pair) → GrownFrom (circuit_of c) (offers_to os (grown_from c)).table (offers_to os (grown_from c)).pairs
  grown os = record {
    wires = offers_width os (grown_from c) ∙ start_wires;
    right = offers_right os (grown_from c) (start_width s c e []);
    grown = demand_three s c e os;
  }

  module _ (os : List Pair) where
    -- after any offers greedy makes its choice,
    pub greedy_chooses : greedy_of (offers_to os (grown_from c)).table ≡ done (handed_back (greedy_from (offers_to os (grown_from c)).table))
    greedy_chooses = greedy_made (offers_to os (grown_from c)).table (grown os).right

    -- no pair can be added to its list with those accepted before,
    pub greedy_is_maximal : Maximal (circuit_of c) (reverse_aux (greedy_from (offers_to os (grown_from c)).table).pairs (offers_to os (grown_from c)).pairs)
    greedy_is_maximal = (greedy_ended (circuit_of c) (circuit_lawful c (read_wired s e)) (offers_to os (grown_from c)).table (offers_to os (grown_from c)).pairs (grown os)).maximal

    -- and its trials are at most n(n - 1)(n - 1)
    pub trials_bound : (greedy_from (offers_to os (grown_from c)).table).trials ≤ c.width * (c.width - 1) * (c.width - 1)
    trials_bound = trials_grown (circuit_of c) (circuit_lawful c (read_wired s e)) (offers_to os (grown_from c)).table (offers_to os (grown_from c)).pairs (grown os)

  -- from the start no pair can be added to its list
  pub greedy_from_start : Maximal (circuit_of c) (greedy_from (start_table c)).pairs
  unfolding offers_to
  greedy_from_start = greedy_maximal (circuit_of c) (circuit_lawful c (read_wired s e)) (start_table c) (grown [])

  -- and the list compiles
  pub greedy_compiles : (room : ℕ) → length s + 1 ≤ room
      → compiled s (pairs_bytes (greedy_from (start_table c)).pairs) room ≡ done (dynamic_of c (greedy_from (start_table c)).pairs)
  greedy_compiles room enough =
      allowed_written s (pairs_bytes (greedy_from (start_table c)).pairs) c e room enough
      (record { pairs = (greedy_from (start_table c)).pairs; bytes = refl; allowed = greedy_from_start.allowed })

-- The order of writing: at each step, among those that are ready, the one earliest in the input. And what it decides: a table to start from.
-- Definitions alone.
use Rattle.std.specs.Prelude.{ℕ, zero, suc, Bool, true, false, not, ◌&&◌, ◌||◌, List, [], ◌∷◌, ◌++◌, length, eqb, ltb}
use Rattle.orders.specs.Indices.{every, stands, from}
use Rattle.orders.specs.Runs.{Circuit, Pair}
use Rattle.orders.specs.Table.{Table}

-- whether each that must come before j is written
unfoldable pub earlier_written : Circuit → List ℕ → ℕ → Bool
earlier_written C done j = every (λ i. not (C.prec i j) || stands i done) (from 0 j)

-- whether, if j is a taker's reset, its lender's measurement is written
unfoldable pub lender_written : Circuit → List Pair → List ℕ → ℕ → Bool
lender_written C ps done j = every (λ (p : Pair). not (eqb j (C.reset_of p.1)) || stands (C.meas_of p.0) done) ps

-- j is ready after `done`: not yet written, while its earlier ones are, and, for a taker's reset, its lender's measurement
unfoldable pub ready : Circuit → List Pair → List ℕ → ℕ → Bool
ready C ps done j = not (stands j done) && (earlier_written C done j && lender_written C ps done j)

-- the least number from i on that passes, of k tried; i + k where none does
unfoldable pub least : (ℕ → Bool) → ℕ → ℕ → ℕ
least p zero i = i
least p (suc k) i = elim (p i) [ true ↦ i | false ↦ least p k (suc i) ]

-- what comes next after `done`: of those that are ready the one earliest in the input, and the circuit's size where none is
unfoldable pub next : Circuit → List Pair → List ℕ → ℕ
next C ps done = least (ready C ps done) C.size 0

-- `done`, and after it what comes next, at most `fuel` times
unfoldable pub write_on : Circuit → List Pair → ℕ → List ℕ → List ℕ
write_on C ps zero done = done
write_on C ps (suc fuel) done = elim (ltb (next C ps done) C.size) [ true ↦ write_on C ps fuel (done ++ next C ps done ∷ []) | false ↦ done ]

-- the order of writing; it stops early where nothing is ready
unfoldable pub schedule : Circuit → List Pair → List ℕ
schedule C ps = write_on C ps C.size []

-- whether the schedule has every instruction
unfoldable pub complete : Circuit → List Pair → Bool
complete C ps = eqb (length (schedule C ps)) C.size

-- a table to start from, computed: yes between wires where this pair alone leaves the schedule complete
unfoldable pub start_table : Circuit → Table
start_table C = record { mark = λ l t. C.wire l && (C.wire t && complete C ((l, t) ∷ [])); lent = λ x. false; taken = λ x. false }

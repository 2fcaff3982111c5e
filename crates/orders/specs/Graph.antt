-- The graph of a circuit and its pairs: an arrow from each instruction to those that it must come before, and one from the lender's
-- measurement to the taker's reset for each pair. What leads to what, and cycles. Definitions alone.
use Rattle.std.specs.Prelude.{ℕ, ◌≡◌, Bool, true, ◌&&◌, ◌||◌, List, eqb}
use Rattle.orders.specs.Indices.{any}
use Rattle.orders.specs.Runs.{Circuit, Pair}

-- whether the pair's arrow goes from i to j: from the lender's measurement to the taker's reset
unfoldable pub lends : Circuit → ℕ → ℕ → Pair → Bool
lends C i j p = eqb i (C.meas_of p.0) && eqb j (C.reset_of p.1)

-- whether an arrow goes from i to j
unfoldable pub arrow : Circuit → List Pair → ℕ → ℕ → Bool
arrow C ps i j = C.prec i j || any (lends C i j) ps

-- i leads to j: a path of arrows, of any length, none too
pub data Leads (e : ℕ → ℕ → Bool) : ℕ → ℕ → Type 0 where
  here : {i j : ℕ} → i ≡ j → Leads e i j
  step : {i j k : ℕ} → e i j ≡ true → Leads e j k → Leads e i k

abbrev pub Reach : Circuit → List Pair → ℕ → ℕ → Type 0
Reach C ps = Leads (arrow C ps)

-- the way from l to t is clear: t's reset does not lead to l's measurement
abbrev pub Clear : Circuit → List Pair → ℕ → ℕ → Type 0
Clear C ps l t = ¬ Reach C ps (C.reset_of t) (C.meas_of l)

-- an arrow, and a path back
abbrev pub Cycle : Circuit → List Pair → Type 0
Cycle C ps = (i : ℕ) × (j : ℕ) × (arrow C ps i j ≡ true) × Reach C ps j i

abbrev pub Acyclic : Circuit → List Pair → Type 0
Acyclic C ps = ¬ Cycle C ps

-- Choosers: rounds over any rule of choice, which sees the table and never the circuit. Definitions alone.
use Rattle.std.specs.Prelude.{ℕ, zero, suc, ◌+◌, ◌-◌, ◌≤◌, ◌≡◌, true, false, List, [], ◌∷◌, length}
use Rattle.std.proofs.Math.Option.{Option, none, some}
use Rattle.basics.specs.Choice.{pick}
use Rattle.orders.specs.Indices.{from}
use Rattle.orders.specs.Runs.{Circuit, Pair, Allowed}
use Rattle.orders.specs.Table.{Table, State, Grown, Within, offer}

-- a rule of choice: from a table, a pair or none
abbrev pub Chooser : Type 0
Chooser = Table → Option Pair

-- on tables of width w it picks only yes pairs, and none only where no yes is left
pub record Chooses (w : ℕ) (choose : Chooser) : Type 0 where
  pub only_yes : (T : Table) → Within w T → (l t : ℕ) → choose T ≡ some (l, t) → T.mark l t ≡ true
  pub none_left : (T : Table) → Within w T → choose T ≡ none → (l t : ℕ) → T.mark l t ≡ false

-- at most k rounds: the pair chosen is offered, until none is
unfoldable pub rounds : Chooser → ℕ → State → State
rounds choose zero s = s
rounds choose (suc k) s = elim (choose s.table) [ none ↦ s | some p ↦ rounds choose k (offer p s) ]

-- no yes is left
abbrev pub NoneLeft : Table → Type 0
NoneLeft T = (l t : ℕ) → T.mark l t ≡ false

-- the pairs are allowed, and no pair can be added to them
pub record Maximal (C : Circuit) (ps : List Pair) : Type 0 where
  pub allowed : Allowed C ps
  pub no_more : (l t : ℕ) → ¬ Allowed C ((l, t) ∷ ps)

-- Where the rounds on a table grown from a circuit end: it is still one, no yes is left, no pair can be added, and there are at most width - 1.
pub record Ended (C : Circuit) (s : State) : Type 0 where
  pub grown : Grown C s
  pub none_left : NoneLeft s.table
  pub maximal : Maximal C s.pairs
  pub few : length s.pairs ≤ C.width - 1

-- the sum of f over a list
unfoldable pub total : (ℕ → ℕ) → List ℕ → ℕ
total f [] = 0
total f (x ∷ xs) = f x + total f xs

-- the yes marks of a row, and of the table, below w
unfoldable pub row_count : ℕ → Table → ℕ → ℕ
row_count w T l = total (λ t. pick (T.mark l t) 1 0) (from 0 w)

unfoldable pub yes_count : ℕ → Table → ℕ
yes_count w T = total (row_count w T) (from 0 w)

-- Chains: which wires the pairs join, the first wire of each chain, and the qubit of each wire. The pairs are given as the lender of
-- each taker. Definitions alone.
use Rattle.std.specs.Prelude.{ℕ, zero, suc, ◌+◌, ◌≤◌, ◌<◌, ◌≡◌, false, List, Option, IfSome}
use Rattle.basics.specs.Choice.{pick}
use Rattle.orders.specs.Indices.{In}
use Rattle.orders.specs.Runs.{Pair}
use Rattle.records.specs.declared.numbers.Qubit.{Qubit}
use Rattle.pairs.specs.Lending.{lender_of, takes}

module _ (lenders : List ℕ) (width : ℕ) where
  -- from a wire to its lender, at most `steps` times, until one takes from nobody
  unfoldable pub first_from : ℕ → ℕ → ℕ
  first_from zero x = x
  first_from (suc steps) x = pick (takes lenders width x) (first_from steps (lender_of lenders x)) x

  -- the first wire of a wire's chain, the one that takes from nobody
  abbrev pub first_of : ℕ → ℕ
  first_of x = first_from width x

  -- 1 where a chain begins at a wire: it takes from nobody
  abbrev pub begins : ℕ → ℕ
  begins x = pick (takes lenders width x) 0 1

  -- how many first wires are lower than k
  unfoldable pub firsts_below : ℕ → ℕ
  firsts_below zero = 0
  firsts_below (suc k) = firsts_below k + begins k

  -- chains are numbered from 0 by rising number of their first wire; that is the qubit of every wire in the chain
  unfoldable pub qubit_of : ℕ → ℕ
  qubit_of x = firsts_below (first_of x)

  -- the way from a wire leads down: after as many steps as its number it is at the first wire
  abbrev pub Falls : ℕ → Type 0
  Falls x = (steps : ℕ) → x ≤ steps → first_from steps x ≡ first_of x

  -- what is told of a wire is nothing, or its qubit where its way leads down
  abbrev pub Tells : ℕ → Option Qubit → Type 0
  Tells x told = IfSome told (λ q. (q.0 ≡ qubit_of x) × Falls x)

  -- how many qubits there are: one for each chain
  abbrev pub qubits : ℕ
  qubits = firsts_below width

-- each chain has a first wire: the way along the lenders ends at one that takes from nobody
abbrev pub Begun : List ℕ → ℕ → Type 0
Begun lenders width = (x : ℕ) → x < width → takes lenders width (first_of lenders width x) ≡ false

-- the pairs join x and y: they are the same, or a pair joins x to one that is joined to y
pub data Joined (ps : List Pair) : ℕ → ℕ → Type 0 where
  same : {x : ℕ} → Joined ps x x
  lends : {x y z : ℕ} → In (x, y) ps → Joined ps y z → Joined ps x z
  takes_from : {x y z : ℕ} → In (y, x) ps → Joined ps y z → Joined ps x z

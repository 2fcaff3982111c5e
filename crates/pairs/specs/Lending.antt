-- The pairs as the lender of each taker; a number that is no wire's stands for nobody.
use Rattle.std.specs.Prelude.{ℕ, zero, suc, Bool, List, [], ◌∷◌, get_or, set, replicate, ltb}
use Rattle.basics.specs.Choice.{pick}
use Rattle.orders.specs.Runs.{Pair}
use Rattle.circuits.specs.Limits.{most_wires}

-- no wire's number
abbrev pub nobody : ℕ
nobody = 255

-- the lender of a wire, or a number that is no wire's
abbrev pub lender_of : List ℕ → ℕ → ℕ
lender_of lenders t = get_or lenders t nobody

-- no pairs
abbrev pub nobody_lends : List ℕ
nobody_lends = replicate most_wires nobody

-- one pair more
abbrev pub lent : List ℕ → ℕ → ℕ → List ℕ
lent lenders lender taker = set lenders taker lender

-- the lenders that pairs say
unfoldable pub lenders_in : List Pair → List ℕ
lenders_in [] = nobody_lends
lenders_in (p ∷ ps) = lent (lenders_in ps) p.0 p.1

module _ (lenders : List ℕ) (width : ℕ) where
  -- whether a wire takes from another: its lender is a wire
  abbrev pub takes : ℕ → Bool
  takes t = ltb (lender_of lenders t) width

  -- the pairs whose takers are the wires below k, and the pairs that the lenders say
  unfoldable pub pairs_below : ℕ → List Pair
  pairs_below zero = []
  pairs_below (suc k) = pick (takes k) ((lender_of lenders k, k) ∷ pairs_below k) (pairs_below k)

  abbrev pub pairs_of : List Pair
  pairs_of = pairs_below width

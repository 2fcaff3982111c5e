-- Circuits by their rule of precedence alone, pairs, and what it means that pairs can run (Theorem 1's third condition, as the document
-- prefers it: an order exists). Any rule that goes upward serves: each wire's order, or the same with commuting gates. Definitions alone.
use Rattle.std.specs.Prelude.{ℕ, ◌<◌, ◌≡◌, ◌↔◌, Bool, true, List, [], ◌∷◌}
use Rattle.orders.specs.Indices.{In, Before, Once, Order}

-- A circuit: `size` instructions on lines below `width`; `prec i j` says that i must come before j; `wire x` that line x is a wire
-- that may lend and take; and each wire's reset and measurement.
pub record Circuit : Type 0 where
  pub size : ℕ
  pub width : ℕ
  pub prec : ℕ → ℕ → Bool
  pub wire : ℕ → Bool
  pub reset_of : ℕ → ℕ
  pub meas_of : ℕ → ℕ

-- What is asked of one: the precedence goes upward among the instructions, wires are below the width, and a wire's reset and
-- measurement are instructions, the reset before the measurement.
pub record Lawful (C : Circuit) : Type 0 where
  pub upward : (i j : ℕ) → C.prec i j ≡ true → i < j
  pub inside : (i j : ℕ) → C.prec i j ≡ true → j < C.size
  pub low : (x : ℕ) → C.wire x ≡ true → x < C.width
  pub reset_in : (x : ℕ) → C.wire x ≡ true → C.reset_of x < C.size
  pub meas_in : (x : ℕ) → C.wire x ≡ true → C.meas_of x < C.size
  pub spans : (x : ℕ) → C.wire x ≡ true → C.prec (C.reset_of x) (C.meas_of x) ≡ true

-- a reuse pair: the lender, then the taker
abbrev pub Pair : Type 0
Pair = ℕ × ℕ

-- σ is an order of all instructions that keeps the precedence and has each lender's measurement before its taker's reset
pub record Run (C : Circuit) (ps : List Pair) (σ : List ℕ) : Type 0 where
  pub order : Order C.size σ
  pub keeps : (i j : ℕ) → C.prec i j ≡ true → Before i j σ
  pub honours : (l t : ℕ) → In (l, t) ps → Before (C.meas_of l) (C.reset_of t) σ

-- the pairs can run: such an order exists
abbrev pub Runs : Circuit → List Pair → Type 0
Runs C ps = (σ : List ℕ) × Run C ps σ

-- the wires that lend, and those that take, pair by pair
abbrev pub lenders_of : List Pair → List ℕ
lenders_of [] = []
lenders_of (p ∷ ps) = p.0 ∷ lenders_of ps

abbrev pub takers_of : List Pair → List ℕ
takers_of [] = []
takers_of (p ∷ ps) = p.1 ∷ takers_of ps

-- the pairs are between wires
abbrev pub BetweenWires : Circuit → List Pair → Type 0
BetweenWires C ps = (l t : ℕ) → In (l, t) ps → (C.wire l ≡ true) × (C.wire t ≡ true)

-- Theorem 1: the pairs are between wires, share no lender and no taker, and can run
pub record Allowed (C : Circuit) (ps : List Pair) : Type 0 where
  pub between : BetweenWires C ps
  pub lend_once : Once (lenders_of ps)
  pub take_once : Once (takers_of ps)
  pub runs : Runs C ps

-- the same pairs, in any order
abbrev pub SamePairs : List Pair → List Pair → Type 0
SamePairs ps qs = (l t : ℕ) → In (l, t) ps ↔ In (l, t) qs

-- One round's choice: every yes pair is tried, and the highest score wins; ties go to the lowest lender, then the lowest taker.
-- The pairs are tried by rising lender, then rising taker, so on a tie the one tried before is kept.
use Rattle.std.specs.Prelude.{ℕ, zero, suc, ◌≤◌, ◌<◌, ◌≡◌, ◌⊎◌, Bool, true, ltb}
use Rattle.std.proofs.Math.Option.{Option, none, some, map}
use Rattle.basics.specs.Choice.{pick}
use Rattle.orders.specs.Runs.{Pair}
use Rattle.table.specs.Marks.{counts, marks_of}
use Rattle.table.specs.Rule.{accepted}
use Rattle.table.specs.declared.tables.Table.{Table}

-- a pair that was tried, and its score
pub record Tried : Type 0 where
  pub pair : Pair
  pub score : ℕ

-- one more trial: only a higher score takes the place of the best so far
abbrev pub better : Option Tried → Tried → Option Tried
better none new = some new
better (some best) new = some (pick (ltb best.score new.score) new best)

module _ (mark : ℕ → ℕ → Bool) (score : ℕ → ℕ → ℕ) where
  -- a pair is tried where its mark is yes
  abbrev pub try_pair : ℕ → ℕ → Option Tried → Option Tried
  try_pair lender taker best = pick (mark lender taker) (better best (record { pair = (lender, taker); score = score lender taker })) best

  -- the takers below a number, rising, for one lender
  unfoldable pub try_takers : ℕ → ℕ → Option Tried → Option Tried
  try_takers lender zero best = best
  try_takers lender (suc taker) best = try_pair lender taker (try_takers lender taker best)

  -- the lenders below a number, rising, each for the takers below the width
  unfoldable pub try_lenders : ℕ → ℕ → Option Tried
  try_lenders width zero = none
  try_lenders width (suc lender) = try_takers lender width (try_lenders width lender)

  -- the best of all pairs below the width
  abbrev pub best_below : ℕ → Option Pair
  best_below width = map (λ (b : Tried). b.pair) (try_lenders width width)

  -- What the best pair is: yes; no yes pair has a higher score; and of those with the same, none has a lower lender, or the same
  -- lender and a lower taker.
  pub record Best (p : Pair) : Type 0 where
    pub is_yes : mark p.0 p.1 ≡ true
    pub highest : (l t : ℕ) → mark l t ≡ true → score l t ≤ score p.0 p.1
    pub lowest : (l t : ℕ) → mark l t ≡ true → score l t ≡ score p.0 p.1 → (p.0 < l) ⊎ ((p.0 ≡ l) × (p.1 ≤ t))

-- a pair's score: the count of yes marks left after accepting it
abbrev pub score_in : Table → ℕ → ℕ → ℕ
score_in t lender taker = marks_of (accepted t lender taker)

-- the best pair of a table
unfoldable pub best_pair : Table → Option Pair
best_pair t = best_below (counts t) (score_in t) t.width

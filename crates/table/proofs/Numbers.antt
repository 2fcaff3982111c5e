-- The numbers and places of calls on a table that are refused. Assumes nothing.
use Prim.Native.Nat.{ℕ, ◌≤◌}
use mathlib.Core.Bool.{Bool, true, false}
use mathlib.Core.Path.{◌≡◌, refl}
use native.Mathlib.Omega.{arith}
use Rattle.basics.specs.Choice.{pick}
use Rattle.basics.specs.Outcome.{Outcome, done, refused, handing}
use Rattle.bits.specs.Bits.{bit}
use Rattle.table.specs.Marks.{counts}
use Rattle.table.specs.Calls.{wrong_width, outside_width, judged}
use Rattle.table.specs.declared.tables.Table.{Table}

-- the numbers of a refused pair: 20 to 23
abbrev pub PairNumber : ℕ → Type 0
PairNumber n = (20 ≤ n) × (n ≤ 23)

-- an outcome refuses a pair with such a number, at place 0
abbrev pub RefusesPair : {A : Type 0} → Outcome A → Type 0
RefusesPair (done a) = Unit {0}
RefusesPair (refused n p) = PairNumber n × (p ≡ 0)

chosen : {A : Type 0} (b : Bool) (x y : Outcome A) → RefusesPair x → RefusesPair y → RefusesPair (pick b x y)
chosen true x y p q = p
chosen false x y p q = q

handed : {A B : Type 0} (b : B) (o : Outcome A) → RefusesPair o → RefusesPair (handing b o)
handed b (done a) h = tt
handed b (refused n p) h = h

module _ (t : Table) (lender taker : ℕ) where
  judged_numbers : wrong_width t ≡ false → RefusesPair (judged t lender taker)
  unfolding judged
  judged_numbers right =
      rw right
      (chosen (outside_width t lender taker) _ _ ((omega arith, omega arith), refl)
      (chosen (bit lender t.lending) _ _ ((omega arith, omega arith), refl)
      (chosen (bit taker t.taking) _ _ ((omega arith, omega arith), refl) (chosen (counts t lender taker) _ _ tt ((omega arith, omega arith), refl)))))

  -- whatever an offer, or a score, hands back, its refusal on a table of a width that is taken is one of a pair
  pub pair_numbers : wrong_width t ≡ false → {A : Type 0} (a : A) → RefusesPair (handing a (judged t lender taker))
  pair_numbers right a = handed a (judged t lender taker) (judged_numbers right)

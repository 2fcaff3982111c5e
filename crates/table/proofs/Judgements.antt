-- What becomes of an offer, one law for each answer. Assumes nothing.
use mathlib.Core.Path.{◌≡◌}
use mathlib.Core.Bool.{true, false}
use Prim.Native.Nat.{ℕ}
use Rattle.basics.specs.Outcome.{done, refused}
use Rattle.bits.specs.Bits.{bit}
use Rattle.table.specs.Marks.{counts}
use Rattle.table.specs.Calls.{wrong_width, outside_width, judged}
use Rattle.table.specs.declared.tables.Table.{Table}

module _ (t : Table) (lender taker : ℕ) where
  pub wrong_table : wrong_width t ≡ true → judged t lender taker ≡ refused 27 0
  unfolding judged
  wrong_table e = rw e

  module _ (w : wrong_width t ≡ false) where
    pub not_below : outside_width t lender taker ≡ true → judged t lender taker ≡ refused 20 0
    unfolding judged
    not_below e = rw (w, e)

    module _ (b : outside_width t lender taker ≡ false) where
      pub already_lends : bit lender t.lending ≡ true → judged t lender taker ≡ refused 21 0
      unfolding judged
      already_lends e = rw (w, b, e)

      module _ (l : bit lender t.lending ≡ false) where
        pub already_takes : bit taker t.taking ≡ true → judged t lender taker ≡ refused 22 0
        unfolding judged
        already_takes e = rw (w, b, l, e)

        module _ (k : bit taker t.taking ≡ false) where
          pub closes_loop : counts t lender taker ≡ false → judged t lender taker ≡ refused 23 0
          unfolding judged
          closes_loop e = rw (w, b, l, k, e)

          pub is_taken : counts t lender taker ≡ true → judged t lender taker ≡ done tt
          unfolding judged
          is_taken e = rw (w, b, l, k, e)

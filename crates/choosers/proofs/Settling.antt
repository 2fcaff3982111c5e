-- What greedy settles, by the table's width. Assumes nothing.
use Prim.Native.Nat.{ℕ}
use mathlib.Core.Path.{◌≡◌, refl, sym, ap}
use mathlib.Core.Bool.{Bool, true, false}
use Rattle.basics.specs.Outcome.{done, refused, handing}
use Rattle.basics.proofs.Outcomes.{not_refused}
use Rattle.table.specs.Calls.{wrong_width, count_of}
use Rattle.table.specs.declared.tables.Table.{Table}
use Rattle.choosers.specs.Greedy.{ended, greedy_from}
use Rattle.choosers.specs.Results.{handed_back, greedy_of}

module _ (t : Table) where
  pub greedy_made : wrong_width t ≡ false → greedy_of t ≡ done (handed_back (greedy_from t))
  unfolding greedy_of
  greedy_made e = rw e

  -- marks are counted where the width is right, and the count is refused as greedy is
  pub counted_right : (n : ℕ) → count_of t ≡ done n → wrong_width t ≡ false
  unfolding count_of
  counted_right n e = go (wrong_width t) refl
    where
      go : (b : Bool) → wrong_width t ≡ b → wrong_width t ≡ false
      go false w = w
      go true w = absurd (not_refused (rw w at e))

  pub count_refused : (number place : ℕ) → count_of t ≡ refused number place → greedy_of t ≡ refused number place
  unfolding count_of greedy_of
  count_refused number place e = go (wrong_width t) refl
    where
      go : (b : Bool) → wrong_width t ≡ b → greedy_of t ≡ refused number place
      go true w = rw w (ap (handing (handed_back (ended t))) (rw w at e))
      go false w = absurd (not_refused (sym (rw w at e)))

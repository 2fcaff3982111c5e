-- What stands at a place, one law for each answer, and what an answer tells. Assumes nothing.
use Prim.Native.Nat.{ℕ, ◌+◌, ◌-◌, ◌≤◌, ◌<◌}
use mathlib.Core.Path.{◌≡◌, refl, subst}
use mathlib.Core.Bool.{Bool, true, false}
use mathlib.Core.List.{List}
use Rattle.std.specs.Prelude.{Option, None, Some}
use lib.ListN.{length, get_or}
use lib.Dec.{leb}
use borrow.Author.Tests.{leb-true, leb-false, le-leb, lt-leb}
use Rattle.basics.specs.Choice.{pick}
use Rattle.basics.specs.Outcome.{Outcome, done, refused}
use Rattle.records.specs.Kinds.{shape_of}
use Rattle.records.specs.declared.kinds.Outline.{Outline}
use Rattle.records.specs.Records.{Standing, stands, over, record_at, bodied, decode_at}

module _ (s : List ℕ) (at : ℕ) where
  pub at_end : length s ≤ at → record_at s at ≡ done over
  unfolding record_at
  at_end h = rw (le-leb (length s) at h)

  module _ (inside : at < length s) where
    pub at_unknown : shape_of (get_or s at 0) ≡ None → record_at s at ≡ refused 4 at
    unfolding record_at
    at_unknown e = rw (lt-leb (length s) at inside, e)

    module _ {h : Outline} (known : shape_of (get_or s at 0) ≡ Some h) where
      pub at_cut : length s - at ≤ h.body → record_at s at ≡ refused 2 at
      unfolding record_at
      at_cut l = rw (lt-leb (length s) at inside, known, le-leb (length s - at) h.body l)

      pub at_record : h.body < length s - at → record_at s at ≡ done (stands (decode_at h.form s at) (at + 1 + h.body))
      unfolding record_at
      at_record l = rw (lt-leb (length s) at inside, known, lt-leb (length s - at) h.body l)

  -- nothing is over before the end, and a refusal is of the place that was asked
  abbrev Stops : Outcome Standing → Type 0
  Stops (done (stands r next)) = Unit {0}
  Stops (done over) = length s ≤ at
  Stops (refused number place) = (place ≡ at) × (at < length s)

  stops : Stops (record_at s at)
  unfolding record_at
  stops = ended (leb (length s) at) refl
    where
      known : (o : Option Outline) → at < length s → Stops (bodied s at o)
      known None l = (refl, l)
      known (Some h) l = cut (leb (length s - at) h.body)
        where
          cut : (b : Bool) → Stops (pick b (refused 2 at) (done (stands (decode_at h.form s at) (at + 1 + h.body))))
          cut true = (refl, l)
          cut false = tt

      ended : (b : Bool) → leb (length s) at ≡ b → Stops (pick b (done over) (bodied s at (shape_of (get_or s at 0))))
      ended true e = leb-true (length s) at e
      ended false e = known (shape_of (get_or s at 0)) (leb-false (length s) at e)

  pub over_end : record_at s at ≡ done over → length s ≤ at
  over_end e = subst Stops e stops

  pub refused_here : {number place : ℕ} → record_at s at ≡ refused number place → (place ≡ at) × (at < length s)
  refused_here e = subst Stops e stops

-- A walk stays within the bytes. Assumes nothing.
use Prim.Native.Nat.{ℕ, ◌≤◌}
use mathlib.Core.Path.{◌≡◌, refl}
use mathlib.Core.List.{List}
use lib.ListN.{length}
use Rattle.basics.specs.Outcome.{Outcome, done, refused}
use Rattle.records.specs.Records.{Standing, stands, over, record_at}
use Rattle.records.proofs.RoundTrip.{round_trip}
use Rattle.walk.specs.Walks.{moved_to, place_after}

pub place_inside : (s : List ℕ) (at : ℕ) → at ≤ length s → place_after s at ≤ length s
place_inside s at h = go (record_at s at) refl
  where
    go : (o : Outcome Standing) → record_at s at ≡ o → moved_to at o ≤ length s
    go (done (stands r next)) e = (round_trip s at e).within
    go (done over) e = h
    go (refused number place) e = h

-- The records of pairs: how long they are, and the first of those that are left. Assumes nothing.
use Prim.Native.Nat.{◌*◌}
use mathlib.Core.Path.{◌≡◌, refl}
use mathlib.Core.List.{List, [], ◌∷◌, ◌++◌}
use native.Mathlib.Omega.{arith}
use lib.ListN.{length}
use Rattle.orders.specs.Runs.{Pair}
use Rattle.records.specs.Bytes.{record_bytes}
use Rattle.pairs.specs.Listing.{pair_record, pairs_bytes}

pub records_length : (ps : List Pair) → length (pairs_bytes ps) ≡ 3 * length ps
unfolding pairs_bytes
records_length [] = omega arith
records_length (p ∷ ps) = omega (arith, records_length ps)

pub records_next : {ps rest : List Pair} {p : Pair} → ps ≡ p ∷ rest → pairs_bytes ps ≡ record_bytes (pair_record p) ++ pairs_bytes rest
unfolding pairs_bytes
records_next e = rw e refl

pub records_none : {ps : List Pair} → ps ≡ [] → pairs_bytes ps ≡ []
unfolding pairs_bytes
records_none e = rw e refl

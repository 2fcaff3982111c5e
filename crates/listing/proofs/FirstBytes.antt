-- The first bytes of an input decide what is printed, so a program need read no more of it. Assumes nothing.
use Prim.Native.Nat.{ℕ, ◌≤◌}
use mathlib.Core.Path.{◌≡◌, ap}
use mathlib.Core.List.{List}
use lib.ListN.{take}
use Rattle.basics.specs.Outcome.{Outcome}
use Rattle.circuits.specs.Limits.{deciding_bytes}
use Rattle.circuits.specs.Reading.{Static}
use Rattle.circuits.proofs.FirstBytes.{first_bytes_of_circuit}
use Rattle.table.specs.Starting.{table_at_start}
use Rattle.listing.specs.Printing.{lines_of, printed}

-- THEOREM: so many first bytes, or more of them, are printed as the whole is.
pub first_bytes_decide : (s : List ℕ) (n : ℕ) → deciding_bytes ≤ n → printed (take n s) ≡ printed s
unfolding printed
first_bytes_decide s n h = ap (λ (o : Outcome Static). lines_of (table_at_start o)) (first_bytes_of_circuit s n h)

-- What holding a table's rows tells: how many they are, and that each fits. Only this file knows the machine's width of a row.
-- Assumes nothing.
use mathlib.Core.Path.{◌≡◌}
use mathlib.Core.List.{List}
use Prim.Native.Nat.{ℕ, ◌^◌, ◌<◌}
use lib.ListN.{length, get_or}
use mir.Syntax.{w32}
use mir.Val.{Val}
use denote.Shadow.{shadow}
use denote.Plain.{UInt}
use denote.Array.{in_array}
use Rattle.basics.proofs.Arrays.{array_length, array_fit}
use Rattle.table.specs.Limits.{most_wires}

module _ (rows : List ℕ) {values : List Val} (held : shadow (in_array ℕ (UInt w32).own_val most_wires rows values)) where
  pub rows_held : length rows ≡ most_wires
  rows_held = array_length w32 most_wires rows values held

  pub row_held : (u : ℕ) → get_or rows u 0 < 2 ^ most_wires
  row_held = array_fit w32 most_wires rows values held

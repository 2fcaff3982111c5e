-- `compile::compile_into` meets its contract: there is room for any output. Assumes nothing.
use Prim.Native.Nat.{◌≤◌}
use mathlib.Core.Path.{sym, subst}
use native.Mathlib.Omega.{arith}
use Rattle.circuits.specs.Limits.{most_wires, deciding_bytes}
use Rattle.writer.proofs.Compiles.{compiled_to}
use Rattle.compile.specs.Running.{wires_told, bytes_told}
use Rattle.compile.proofs.Answers.{few_wires, bytes_fit}
use Rattle.compile.proofs.Files.{room_enough}
use Rattle.compile.proofs.compile_into.Goals as goal

pub returns : goal.returns
returns c =
    let made = compiled_to (room_enough _ _ _ c.requires) c.compile.ensures in
    let few = subst (λ o. wires_told o ≤ most_wires) (sym made.tells) (few_wires _ _ _) in
    let fits = subst (λ o. bytes_told o ≤ deciding_bytes) (sym made.tells) (bytes_fit _ _ _) in
    record { compiled = made; few = few; fits = omega arith }

-- `table::rows::only` meets its contract: one bit, or no bit of a row. Assumes nothing.
use mathlib.Core.Path.{refl, sym, ◌∙◌}
use mathlib.Core.Bool.{false}
use native.Mathlib.Omega.{arith}
use borrow.Author.Tests.{ne_eqb}
use Rattle.table.specs.Limits.{most_wires}
use Rattle.bits.proofs.Packing.{nothing_packed, pack_ext}
use Rattle.bits.proofs.Operations.{shl_is}
use Rattle.table.proofs.rows.only.Goals as goal

pub returns-then-wire-lt-MOST : goal.returns-then-wire-lt-MOST
returns-then-wire-lt-MOST c = (shl_is most_wires c.args.wire.0 (omega arith)).is

pub returns-else-wire-lt-MOST : goal.returns-else-wire-lt-MOST
returns-else-wire-lt-MOST c = nothing_packed most_wires {f = λ v. false} (λ v. refl)
    ∙ pack_ext most_wires (λ v l. sym (ne_eqb v c.args.wire.0 (λ e. omega arith)))

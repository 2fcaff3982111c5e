-- `compile::line_of` meets its contract: there is room for any line, so what is put is the front of the buffer. Assumes nothing.
use Prim.Native.Nat.{◌+◌, ◌≤◌}
use mathlib.Core.Path.{sym, ap, subst, ◌∙◌}
use native.Mathlib.Omega.{arith}
use Rattle.writing.specs.Texts.{text}
use Rattle.writing.proofs.Puts.{placed_within}
use Rattle.writing.proofs.Rows.{placed_written, written_front}
use Rattle.texts.specs.Listings.{longest_counts}
use Rattle.texts.proofs.Lengths.{refusal_length, counts_length}
use Rattle.circuits.specs.Limits.{most_wires}
use Rattle.records.specs.Refusals.{number_of, outcome_of}
use Rattle.compile.specs.Running.{wires_told, answer_line}
use Rattle.compile.proofs.line_of.Goals as goal

pub returns-in-Ok : goal.returns-in-Ok
returns-in-Ok c =
    let put = c.put_compiled.ensures in
    let few = subst (λ a. wires_told (outcome_of a) ≤ most_wires) c.in-Ok.is c.requires.answer_bound in
    let counts = c.in-Ok.counts in
    let short =
    counts_length (counts.qubits + counts.pairs) counts.qubits counts.pairs (text " bytes ") counts.bytes
    (omega arith) (omega arith) (omega arith) (omega arith) (omega arith) in (
      placed_within put (omega arith),
      written_front (placed_written put longest_counts short (omega arith)) ∙ ap (λ a. answer_line (outcome_of a)) (sym c.in-Ok.is),
    )

pub returns-in-Err : goal.returns-in-Err
returns-in-Err c =
    let put = rw c.number.ensures at c.put_refusal.ensures in
    let r = c.in-Err.r in
    let short = refusal_length (number_of r.cause) r.place (omega (arith, c.number.ensures)) (omega arith) in (
      placed_within put (omega arith),
      written_front (placed_written put longest_counts (omega arith) (omega arith)) ∙ ap (λ a. answer_line (outcome_of a)) (sym c.in-Err.is),
    )

-- `writer::compiling::compile` meets its contract: the reader's refusal, the first refused pair's, or what is written in the room.
-- Assumes nothing.
use mathlib.Core.Path.{sym}
use Rattle.std.proofs.lemmas.Result.{err_from_is_err_and}
use Rattle.circuits.proofs.Rewrites.{accepted, turned_away}
use Rattle.writer.proofs.Compiles.{compiled_refused, compiled_to, circuit_refused, table_is, told_refused, told_length, told_accepted}
use Rattle.writer.proofs.Written.{few_wires, few_instructions, notes_low}
use Rattle.writer.proofs.compiling.compile.Goals as goal

pub returns-in_err-valid : goal.returns-in_err-valid
returns-in_err-valid c = let p = err_from_is_err_and c.from_residual.result c.from_residual.ensures.1 in
    rw (p.1, p.2) (compiled_refused (circuit_refused _ _ _ (turned_away _ c.in_err-valid.ensures.result_value)))

pub returns-in_err-paired : goal.returns-in_err-paired
returns-in_err-paired c = let p = err_from_is_err_and c.from_residual-in_err-paired.result c.from_residual-in_err-paired.ensures.1 in
    let a = accepted _ c.in_ok-valid.ensures.result_value in
    let start = table_is _ c.args.list.now a c.in_ok-valid.ensures.rows_after c.table_from.ensures in
    rw (p.1, p.2) (compiled_refused (told_refused _ _ a start c.in_err-paired.ensures.value _))

pub invariant_of-source-clause-narrow : goal.invariant_of-source-clause-narrow
invariant_of-source-clause-narrow c = few_wires _ _ (accepted _ c.in_ok-valid.ensures.result_value)

pub invariant_of-source-clause-few : goal.invariant_of-source-clause-few
invariant_of-source-clause-few c = few_instructions _ _ (accepted _ c.in_ok-valid.ensures.result_value)

pub invariant_of-source-clause-low : goal.invariant_of-source-clause-low
invariant_of-source-clause-low c = notes_low _ _ (accepted _ c.in_ok-valid.ensures.result_value) c.in_ok-valid.ensures.kept

pub write_in_room-requires-clause-circuit_len : goal.write_in_room-requires-clause-circuit_len
write_in_room-requires-clause-circuit_len c = let a = accepted _ c.in_ok-valid.ensures.result_value in
    let start = table_is _ c.args.list.now a c.in_ok-valid.ensures.rows_after c.table_from.ensures in
    told_length _ _ a start _ c.in_ok-paired.ensures.value

pub returns : goal.returns
returns c = let a = accepted _ c.in_ok-valid.ensures.result_value in
    let start = table_is _ c.args.list.now a c.in_ok-valid.ensures.rows_after c.table_from.ensures in
    compiled_to (told_accepted _ _ a start _ c.in_ok-paired.ensures.value _) c.write_in_room.ensures

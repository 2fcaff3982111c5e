-- `writer::dynamic::write_in_order` meets its contract: the heads and the candidates are those after what is written, and what is still to be written
-- is the rest of the order. Assumes nothing.
use native.Mathlib.Omega.{arith}
use Rattle.writer.proofs.Turns.{going_start, going_end, going_stuck, going_on, chosen_room}
use Rattle.writer.proofs.dynamic.write_in_order.Goals as goal

pub loop-turn-init : goal.loop-turn-init
loop-turn-init c = record { told = c.requires.told; going = going_start _ _ (omega arith) c.requires.circuit_in_bounds c.requires.linked c.requires.candidates_value }

pub returns-then-source-index : goal.returns-then-source-index
returns-then-source-index c = going_stuck _ _ c.loop-turn.invariant.going c.least-index.ensures (omega arith)

pub copy_renamed-to-requires-clause-from_in_bounds : goal.copy_renamed-to-requires-clause-from_in_bounds
copy_renamed-to-requires-clause-from_in_bounds c = chosen_room _ _ c.loop-turn.invariant.going c.least-index.ensures (omega arith) (omega arith)

pub loop-turn-preserved : goal.loop-turn-preserved
loop-turn-preserved c = let h = c.loop-turn.invariant in
    record {
      told = h.told;
      going = going_on _ _ h.going c.least-index.ensures (omega arith) c.move_on.new.self c.requires.linked c.move_on.ensures.indices_after
          c.by_chain-renaming.result.qubits (omega arith) c.by_chain-renaming.ensures c.move_on.ensures.candidates_after c.copy_renamed-to.ensures;
    }

pub returns : goal.returns
returns c = going_end _ _ c.loop-turn.invariant.going (omega arith)

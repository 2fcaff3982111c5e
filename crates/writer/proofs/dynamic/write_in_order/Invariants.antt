-- `writer::dynamic::write_in_order` meets its contract: the heads and the candidates are those after what is written, and what is still to be written
-- is the rest of the order. Assumes nothing.
use Prim.Native.Nat.{◌-◌}
use Rattle.writer.specs.Heads.{TrueSource}
use Rattle.writer.proofs.Turns.{Going}
use Rattle.writer.proofs.dynamic.write_in_order.Given as goal

abbrev pub invariant-loop-turn : goal.invariant-loop-turn
invariant-loop-turn l = record {
  told : TrueSource l.source;
  going : Going l.source told l.initial.out l.at l.heads l.out l.to (l.source.valid.instructions - l._turn);
}

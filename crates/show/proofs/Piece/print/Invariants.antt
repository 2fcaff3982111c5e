-- `Piece::print` tells a place of the piece. The loop's invariant: so far it is one. Assumes nothing.
use Prim.Native.Nat.{◌≤◌}
use Rattle.show.proofs.Piece.print.Given as goal

abbrev pub invariant-loop : goal.invariant-loop
invariant-loop g l = l.at ≤ l.self.count

-- `writer::chaining::first_of` meets its contract: what is left of the way from here ends where the whole way does. Assumes nothing.
use Prim.Native.Nat.{◌-◌}
use mathlib.Core.Path.{◌≡◌}
use Rattle.writer.specs.Chains.{first_from, first_of}
use Rattle.writer.proofs.chaining.first_of.Given as goal

abbrev pub invariant-loop-turn : goal.invariant-loop-turn
invariant-loop-turn l = first_from l.lenders.lenders l.width (l.width - l._turn) l.first.0 ≡ first_of l.lenders.lenders l.width l.initial.first.0

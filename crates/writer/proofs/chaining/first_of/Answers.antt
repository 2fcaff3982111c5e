-- `writer::chaining::first_of` meets its contract: what is left of the way from here ends where the whole way does. Assumes nothing.
use Prim.Native.Nat.{◌+◌, ◌-◌}
use mathlib.Core.Path.{◌≡◌, sym, ◌∙◌}
use native.Mathlib.Omega.{arith}
use Rattle.writer.proofs.Chains.{first_on}
use Rattle.writer.proofs.chaining.first_of.Goals as goal

pub loop-turn-preserved : goal.loop-turn-preserved
loop-turn-preserved c = let one : c.args.width - (c.loop-turn._turn + 1) ≡ c.args.width - c.loop-turn._turn - 1 = omega arith in
    rw one (first_on _ _ _ _ _ (omega arith) (sym c.takes.ensures ∙ c.if-not-takes.false) c.lender_of-first.ensures ∙ c.loop-turn.invariant)

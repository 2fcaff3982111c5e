-- `circuits::reading::close` meets its contract: its test is the definition's. Assumes nothing.
use mathlib.Core.Path.{sym}
use native.Mathlib.Nat.{add-zero}
use native.Mathlib.Omega.{arith}
use borrow.Author.Tests.{lt-ltb, le-ltb}
use Rattle.circuits.specs.Reading.{ending}
use Rattle.circuits.proofs.reading.close.Goals as goal

pub returns-in-Some : goal.returns-in-Some
unfolding ending
returns-in-Some c = rw (c.at.ensures, sym c.in-Some.ensures.lowest, lt-ltb _ _ c.in-Some.ensures.below)

pub returns-in-None : goal.returns-in-None
unfolding ending
returns-in-None c = rw (sym c.in-None.ensures.lowest, le-ltb c.args.width c.args.width (omega arith), add-zero)

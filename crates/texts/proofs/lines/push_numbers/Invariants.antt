-- `texts::lines::push_numbers` meets its contract. The loop's invariant: the numbers so far are written. Assumes nothing.
use Prim.Native.Nat.{◌*◌}
use mathlib.Core.Path.{◌≡◌}
use lib.ListN.{length, take}
use Rattle.writing.specs.Writing.{Written}
use Rattle.texts.specs.Lines.{spaced}
use Rattle.texts.specs.Room.{spaced_byte}
use Rattle.texts.proofs.lines.push_numbers.Given as goal

abbrev pub invariant-loop-number : goal.invariant-loop-number
invariant-loop-number l = (length l.line.bytes ≡ length l.initial.line.bytes)
    × Written l.initial.line.bytes l.initial.line.length (l.number-index * spaced_byte) (spaced (take l.number-index l.numbers)) l.line.bytes l.line.length
